use Rattle.std.proofs.Common.{[], true, sym, ap, ◌∙◌}
use Rattle.std.specs.FinSet as set
use Rattle.fed_suffix.specs.declared.form.Ends.{Ends}
use Rattle.fed_suffix.specs.Form.{ends_of, labels_below, nodes_below}
use Rattle.fed_suffix.proofs.nodes.Form.{rules_by-parts}
use Rattle.fed_suffix.proofs.nodes.Node.{rules_of-exception, rules_of-plain}
use Rattle.fed_suffix.proofs.node.SuffixNode.set_end.Goals as goal

pub returns-then-exception : goal.returns-then-exception
returns-then-exception c =
    let form = c.self.inside.form in
    let ends = ends_of form in
    rules_by-parts c.set_ends.new.self ends.plain true (labels_below form) (nodes_below form)
    (ap (λ (e : Ends). e.plain) c.set_ends.ensures.ends ∙ ap (λ (e : Ends). e.plain) c.ends-ends.ensures)
    (ap (λ (e : Ends). e.exception) c.set_ends.ensures.ends) c.set_ends.ensures.labels c.set_ends.ensures.nodes
    ∙ rules_of-exception (λ label. label) ends.plain ends.exception (labels_below form) (nodes_below form)
    ∙ (λ i. set.insert (c.self.view_is i) ([], sym c.if-exception.true i))

pub returns-else-exception : goal.returns-else-exception
returns-else-exception c =
    let form = c.self.inside.form in
    let ends = ends_of form in
    rules_by-parts c.set_ends-else-exception.new.self true ends.exception (labels_below form) (nodes_below form)
    (ap (λ (e : Ends). e.plain) c.set_ends-else-exception.ensures.ends)
    (ap (λ (e : Ends). e.exception) c.set_ends-else-exception.ensures.ends ∙ ap (λ (e : Ends). e.exception) c.ends-ends.ensures)
    c.set_ends-else-exception.ensures.labels c.set_ends-else-exception.ensures.nodes
    ∙ rules_of-plain (λ label. label) ends.plain ends.exception (labels_below form) (nodes_below form)
    ∙ (λ i. set.insert (c.self.view_is i) ([], sym c.if-exception.false i))
