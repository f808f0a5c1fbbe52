use Rattle.std.proofs.Common.{ap, ◌∙◌, refl, sym, subst}
use Rattle.fed_suffix.specs.declared.form.Ends.{Ends}
use Rattle.fed_suffix.specs.Form.{ends_of, labels_below, nodes_below}
use Rattle.fed_suffix.specs.Node.{IsNode}
use Rattle.fed_suffix.specs.Opened.{Opened as Parts, closed}
use Rattle.fed_suffix.proofs.nodes.Form.{rules_by-parts}
use Rattle.fed_suffix.proofs.nodes.Opened.{IsNode-closed, closing}
use Rattle.fed_suffix.proofs.node.Opened.close.Goals as goal

pub invariant_of-result : goal.invariant_of-result
invariant_of-result c =
    let node = c.self.inside in
    let nodes = nodes_below c.put_at.new.self in
    subst (λ labels. IsNode labels nodes) (sym c.put_at.ensures.labels)
    (IsNode-closed (labels_below node.form) (nodes_below node.form) nodes node.place c.args.node c.self.invariant c.requires
    c.put_at.ensures.nodes)

pub returns : goal.returns
returns c =
    let node = c.self.inside in
    let ends = ends_of node.form in
    let labels = labels_below node.form in
    let nodes = nodes_below c.put_at.new.self in
    rules_by-parts c.put_at.new.self ends.plain ends.exception labels nodes (ap (λ (e : Ends). e.plain) c.put_at.ensures.ends)
    (ap (λ (e : Ends). e.exception) c.put_at.ensures.ends) c.put_at.ensures.labels refl
    ∙ closing (λ label. label) ends.plain ends.exception labels (nodes_below node.form) nodes node.place c.args.node c.self.invariant
    c.put_at.ensures.nodes
    ∙ ap (λ (o : Parts). closed o.0 c.args.node o.1) c.self.view_is
