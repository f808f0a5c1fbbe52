use Rattle.std.proofs.Common.{◌+◌, ◌++◌, ◌∷◌, [], false, length, get_or, drop, append-nil, append_assoc, refl, sym, ap, ◌∙◌, arith}
use Rattle.std.specs.FinSet as set
use Rattle.std.proofs.lemmas.List.{drop_more, drop_all, length-drop}
use Rattle.fed_suffix.specs.declared.rule.Mark.{Mark}
use Rattle.fed_suffix.specs.Label.{labels_in}
use Rattle.fed_suffix.specs.Packed.{texts_len, rules_in}
use Rattle.fed_suffix.specs.Rule.{Rule}
use Rattle.fed_suffix.specs.RuleOrder.{rule_cmp_total, rule_cmp-IsAntisymmetric}
use Rattle.fed_suffix.proofs.suffixes.Suffixes.copy.Goals as goal

abbrev no_mark : Mark
no_mark = record { len = 0; exception = false }

pub loop-mark-init : goal.loop-mark-init
loop-mark-init c = (
  ap texts_len c.as_slice-marks.ensures.value ∙ c.self.invariant.whole ∙ ap length (sym c.as_slice-rest.ensures.value),
  [],
  c.new-copy.ensures,
  refl,
)

pub split-requires : goal.split-requires
split-requires c =
    let marks = c.as_slice-marks.result.now in
    let at = c.loop-mark.mark-index in
    let next = drop_more marks at no_mark c.loop-mark-test.true in
    omega (arith, c.loop-mark.invariant.0, ap texts_len next)

pub loop-mark-preserved : goal.loop-mark-preserved
loop-mark-preserved c =
    let marks = c.as_slice-marks.result.now in
    let at = c.loop-mark.mark-index in
    let mark = get_or marks at no_mark in
    let rest = c.loop-mark.rest.now in
    let next = drop_more marks at no_mark c.loop-mark-test.true in
    let left = c.split.ensures in
    let done = c.loop-mark.invariant.1 in
    let rule : Rule = (labels_in c.split.result.0.now, mark.exception) in (
      omega (arith, c.loop-mark.invariant.0, ap texts_len next, ap length left.others, length-drop mark.len rest),
      done ++ rule ∷ [],
      c.in_ok-add.ensures.ok
          ∙ ap (λ s. set.insert s rule) c.loop-mark.invariant.2
          ∙ sym (set.from_list_push rule_cmp_total rule_cmp-IsAntisymmetric done rule),
      append_assoc done (rule ∷ []) _
          ∙ (λ i. done ++ (labels_in (left.labels i), mark.exception) ∷ rules_in (left.others i) (drop (at + 1) marks))
          ∙ ap (λ ms. done ++ rules_in rest ms) (sym next)
          ∙ c.loop-mark.invariant.3,
    )

pub returns : goal.returns
returns c =
    let marks = c.as_slice-marks.result.now in
    let end = drop_all c.loop-mark.mark-index marks c.loop-mark-test.false in
    let done = c.loop-mark.invariant.1 in
    c.loop-mark.invariant.2
    ∙ ap set.from_list (sym (append-nil done) ∙ ap (λ ms. done ++ rules_in c.loop-mark.rest.now ms) (sym end) ∙ c.loop-mark.invariant.3
    ∙ (λ i. rules_in (c.as_slice-rest.ensures.value i) (c.as_slice-marks.ensures.value i)))
    ∙ c.self.invariant.same ∙ c.self.view_is
