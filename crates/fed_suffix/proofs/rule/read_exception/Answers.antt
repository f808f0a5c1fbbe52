use Rattle.std.proofs.Common.{cond, true, length, Some, None, nat_le, option_map, option_and_then, sym, ap, ◌∙◌}
use Rattle.fed_suffix.specs.Label.{labels_in}
use Rattle.fed_suffix.proofs.labels.Label.{more_than_one}
use Rattle.fed_suffix.proofs.rule.read_exception.Goals as goal

pub returns-else-is_none : goal.returns-else-is_none
returns-else-is_none c =
    let first = c.first_label.result in
    let labels = labels_in c.in-Some.labels in
    let enough = ap (λ text. nat_le 2 (length (labels_in text))) (sym c.as_slice.ensures)
    ∙ more_than_one c.as_slice.result.now first.label.now first.after c.first_label.ensures ∙ c.if-is_none.ensures in
    ap (λ b. cond b (Some (labels, true)) None) (sym enough)
    ∙ ap (λ o. option_and_then (λ labels. cond (nat_le 2 (length labels)) (Some (labels, true)) None) o)
    (ap (option_map labels_in) (sym c.in-Some.is) ∙ c.in_ok-labels.ensures)
