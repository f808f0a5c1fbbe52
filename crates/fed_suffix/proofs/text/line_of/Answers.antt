use Rattle.std.proofs.Common.{◌≡◌, ◌++◌, [], ◌∷◌, sym, ap, ap₂, ◌∙◌, append_assoc}
use Rattle.std.specs.List.{join_with_byte}
use Rattle.std.specs.Option.{option_copied}
use Rattle.fed_suffix.specs.Label.{labels_of}
use Rattle.fed_suffix.proofs.rules.Texts.{dotted, named}
use Rattle.fed_suffix.proofs.text.line_of.Goals as goal

pub loop-rest-init : goal.loop-rest-init
loop-rest-init c =
    let last = c.last_label-last.result in
    let label = last.label.now in
    let before = option_copied last.before in
    let line = c.in_ok-line.line.items in
    ap (λ l. l ++ dotted before) c.in_ok-extend_from_slice.ensures.items
    ∙ append_assoc line label (dotted before)
    ∙ ap₂ (λ l r. l ++ r) c.in_ok-line.ensures (sym (ap (join_with_byte 46) c.last_label-last.ensures.labels ∙ named label before))

pub loop-rest-preserved : goal.loop-rest-preserved
loop-rest-preserved c =
    let last = c.last_label-last-in-Some.result in
    let label = last.label.now in
    let before = option_copied last.before in
    let line = c.loop-rest.line.items in
    let pushed = c.push.new.self.items in
    let all = join_with_byte 46 (labels_of c.in-Some.text.now) in
    ap (λ l. l ++ dotted before) c.in_ok-extend_from_slice-2.ensures.items
    ∙ append_assoc pushed label (dotted before)
    ∙ ap₂ (λ l r. l ++ r) c.in_ok-push.ensures.items
    (sym (ap (join_with_byte 46) c.last_label-last-in-Some.ensures.labels ∙ named label before))
    ∙ append_assoc line (46 ∷ []) all
    ∙ ap (λ rest. line ++ dotted (option_copied rest)) (sym c.in-Some.is)
    ∙ c.loop-rest.invariant
