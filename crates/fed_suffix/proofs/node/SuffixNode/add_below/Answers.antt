use Rattle.std.proofs.Common.{refl, ◌∷◌, bytes_eq, ap, ◌∙◌}
use Rattle.std.specs.List.{list_any}
use Rattle.std.specs.Option.{option_copied}
use Rattle.std.specs.FinSet as finset
use Rattle.fed_suffix.specs.Label.{labels_after}
use Rattle.fed_suffix.specs.declared.form.Ends.{Ends}
use Rattle.fed_suffix.specs.Form.{ends_of, labels_below, nodes_below}
use Rattle.fed_suffix.specs.Node.{below, has_rules}
use Rattle.fed_suffix.proofs.nodes.Form.{rules_by-parts}
use Rattle.fed_suffix.proofs.nodes.Node.{has_rules-insert, IsNode-pushed, IsNode-kept, insert-pushed}
use Rattle.fed_suffix.proofs.nodes.Opened.{absent}
use Rattle.fed_suffix.proofs.node.SuffixNode.add_below.Goals as goal

pub add-requires : goal.add-requires
add-requires c =
    let node = c.self.inside in
    let ends = ends_of node.form in
    ap (λ text. list_any (λ key. bytes_eq text key) (labels_below node.form)) c.in_ok-label.ensures
    ∙ absent (λ label. label) ends.plain ends.exception (labels_below node.form) (nodes_below node.form) c.args.label.now c.self.invariant
    (ap (λ all. has_rules (below all c.args.label.now)) c.self.view_is ∙ c.requires)

pub invariant_of-self : goal.invariant_of-self
invariant_of-self c =
    let node = c.self.inside in
    IsNode-kept (labels_below node.form) _ (nodes_below node.form) _ c.in_err-add.ensures.err_labels c.in_err-add.ensures.err_nodes
    c.self.invariant

pub invariant_of-self-2 : goal.invariant_of-self-2
invariant_of-self-2 c =
    let node = c.self.inside in
    IsNode-pushed (labels_below node.form) _ (nodes_below node.form) _ c.in_ok-label.label c.in_ok-node.node
    c.in_ok-add.ensures.ok_labels c.in_ok-add.ensures.ok_nodes c.self.invariant
    (ap has_rules c.in_ok-node.ensures ∙ has_rules-insert finset.empty (labels_after (option_copied c.args.rest), c.args.exception))

pub returns-clause-ok : goal.returns-clause-ok
returns-clause-ok c =
    let form = c.self.inside.form in
    let ends = ends_of form in
    let rest = labels_after (option_copied c.args.rest) in
    rules_by-parts c.add.new.self ends.plain ends.exception _ _ (ap (λ (e : Ends). e.plain) c.add.ensures.ends)
    (ap (λ (e : Ends). e.exception) c.add.ensures.ends) refl refl
    ∙ insert-pushed (labels_below form) _ (nodes_below form) _ (λ label. label) ends.plain ends.exception c.in_ok-label.label
    c.in_ok-node.node c.args.label.now rest c.args.exception c.in_ok-add.ensures.ok_labels c.in_ok-add.ensures.ok_nodes c.self.invariant
    c.in_ok-label.ensures c.in_ok-node.ensures
    ∙ ap (λ rules. finset.insert rules (c.args.label.now ∷ rest, c.args.exception)) c.self.view_is
