use Rattle.std.proofs.Common.{refl, sym, ap, ◌∙◌, subst}
use Rattle.fed_suffix.specs.declared.form.Ends.{Ends}
use Rattle.fed_suffix.specs.Form.{ends_of, labels_below, nodes_below}
use Rattle.fed_suffix.specs.Node.{below, has_rules}
use Rattle.fed_suffix.specs.Opened.{Opened as Parts, label_at, IsOpened, IsOpening}
use Rattle.fed_suffix.proofs.nodes.Form.{rules_by-parts}
use Rattle.fed_suffix.proofs.nodes.Opened.{opening, IsOpened-taken, nothing_below}
use Rattle.fed_suffix.proofs.node.SuffixNode.open.Goals as goal

pub returns-in_default-clause-err_absent : goal.returns-in_default-clause-err_absent
returns-in_default-clause-err_absent c =
    let node = c.self.inside in
    let ends = ends_of node.form in
    ap (λ rules. has_rules (below rules c.args.label.now)) (sym c.self.view_is)
    ∙ nothing_below (λ label. label) ends.plain ends.exception (labels_below node.form) (nodes_below node.form) c.args.label.now
    (sym c.in_default.ensures.found)

pub invariant_of-opened : goal.invariant_of-opened
invariant_of-opened c =
    let node = c.self.inside in
    let nodes = nodes_below c.put_at-node.new.self in
    subst (λ labels. IsOpened labels nodes c.in-Some.place) (sym c.put_at-node.ensures.labels)
    (IsOpened-taken (labels_below node.form) (nodes_below node.form) nodes c.in-Some.place c.new.result c.self.invariant
    c.in-Some.ensures.within c.new.ensures c.put_at-node.ensures.nodes)

pub returns-clause-ok : goal.returns-clause-ok
returns-clause-ok c =
    let node = c.self.inside in
    let ends = ends_of node.form in
    let labels = labels_below node.form in
    let nodes = nodes_below c.put_at-node.new.self in
    let place = c.in-Some.place in
    let rules = rules_by-parts c.put_at-node.new.self ends.plain ends.exception labels nodes
    (ap (λ (e : Ends). e.plain) c.put_at-node.ensures.ends) (ap (λ (e : Ends). e.exception) c.put_at-node.ensures.ends)
    c.put_at-node.ensures.labels refl in
    subst (λ (o : Parts). IsOpening c.args.self c.args.label.now o c.put_at-node.result)
    (λ i. (label_at (λ label. label) (sym c.put_at-node.ensures.labels i) place, sym rules i))
    (opening (λ label. label) ends.plain ends.exception labels (nodes_below node.form) c.args.label.now c.self.invariant
    place nodes c.put_at-node.result c.new.result c.args.self c.self.view_is (sym c.in-Some.ensures.index) c.put_at-node.ensures.value
    c.new.ensures c.put_at-node.ensures.nodes)
