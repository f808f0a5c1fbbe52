use Rattle.std.proofs.Common.{sym, ap, ◌∙◌}
use Rattle.std.specs.FinSet as set
use Rattle.std.specs.Option.{option_copied}
use Rattle.fed_suffix.specs.Label.{labels_after}
use Rattle.fed_suffix.proofs.nodes.Walk.{contains-child, contains-no_child}
use Rattle.fed_suffix.proofs.walk.has_rule.Goals as goal

pub loop-rest-preserved : goal.loop-rest-preserved
loop-rest-preserved c =
    let node = c.loop-rest.node.now in
    let first = c.first_label-first.result in
    let split = ap (λ rest. labels_after (option_copied rest)) c.in-Some.is ∙ c.first_label-first.ensures in
    contains-child node c.in-Some-child.next.now first.label.now (labels_after (option_copied first.after)) c.args.exception
    (sym c.in-Some-child.ensures)
    ∙ ap (λ ls. set.contains node (ls, c.args.exception)) (sym split)
    ∙ c.loop-rest.invariant

pub returns-in_default-child : goal.returns-in_default-child
returns-in_default-child c =
    let node = c.loop-rest.node.now in
    let first = c.first_label-first.result in
    let split = ap (λ rest. labels_after (option_copied rest)) c.in-Some.is ∙ c.first_label-first.ensures in
    sym (contains-no_child node first.label.now (labels_after (option_copied first.after)) c.args.exception
    (sym c.in_default-child.ensures))
    ∙ ap (λ ls. set.contains node (ls, c.args.exception)) (sym split)
    ∙ c.loop-rest.invariant
