use Rattle.std.proofs.Common.{◌+◌, ◌++◌, ◌∷◌, [], false, length, get_or, drop, map, append-nil, append_assoc, refl, sym, ap, ◌∙◌, arith}
use Rattle.std.proofs.lemmas.List.{drop_more, drop_all, length-drop}
use Rattle.fed_suffix.specs.declared.rule.Mark.{Mark}
use Rattle.fed_suffix.specs.Label.{labels_in}
use Rattle.fed_suffix.specs.Packed.{texts_len, rules_in}
use Rattle.fed_suffix.specs.Rule.{Rule}
use Rattle.fed_suffix.specs.RulesText.{RuleLine, line_cmp, rule_line, in_order}
use Rattle.fed_suffix.proofs.rules.Texts.{ordered_more}
use Rattle.std.specs.BTreeSet.{insert_key}
use Rattle.fed_suffix.proofs.text.lines_of.Goals as goal

abbrev no_mark : Mark
no_mark = record { len = 0; exception = false }

pub loop-mark-init : goal.loop-mark-init
loop-mark-init c = (c.requires, [], c.new-lines.ensures.empty, refl)

pub split-requires : goal.split-requires
split-requires c =
    let marks = c.args.marks.now in
    let at = c.loop-mark.mark-index in
    let next = drop_more marks at no_mark c.loop-mark-test.true in
    omega (arith, c.loop-mark.invariant.0, ap texts_len next)

pub loop-mark-preserved : goal.loop-mark-preserved
loop-mark-preserved c =
    let marks = c.args.marks.now in
    let at = c.loop-mark.mark-index in
    let mark = get_or marks at no_mark in
    let rest = c.loop-mark.rest.now in
    let next = drop_more marks at no_mark c.loop-mark-test.true in
    let left = c.split.ensures in
    let done = c.loop-mark.invariant.1 in
    let rule : Rule = (labels_in c.split.result.0.now, mark.exception) in (
      omega (arith, c.loop-mark.invariant.0, ap texts_len next, ap length left.others, length-drop mark.len rest),
      done ++ rule ∷ [],
      c.in_ok-insert.ensures.keys
          ∙ (λ i. insert_key line_cmp (c.loop-mark.invariant.2 i) (let line : RuleLine = (c.in_ok-line.ensures i, mark.exception) in line))
          ∙ sym (ordered_more done rule),
      append_assoc done (rule ∷ []) _
          ∙ (λ i. done ++ (labels_in (left.labels i), mark.exception) ∷ rules_in (left.others i) (drop (at + 1) marks))
          ∙ ap (λ ms. done ++ rules_in rest ms) (sym next)
          ∙ c.loop-mark.invariant.3,
    )

pub returns : goal.returns
returns c =
    let marks = c.args.marks.now in
    let end = drop_all c.loop-mark.mark-index marks c.loop-mark-test.false in
    let done = c.loop-mark.invariant.1 in
    c.loop-mark.invariant.2
    ∙ ap (λ rules. in_order (map rule_line rules))
    (sym (append-nil done) ∙ ap (λ ms. done ++ rules_in c.loop-mark.rest.now ms) (sym end) ∙ c.loop-mark.invariant.3)
