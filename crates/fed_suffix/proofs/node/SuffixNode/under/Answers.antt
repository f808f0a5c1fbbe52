use Rattle.std.proofs.Common.{[], false, refl, ap, ◌∙◌}
use Rattle.fed_suffix.specs.declared.form.Ends.{Ends}
use Rattle.fed_suffix.proofs.nodes.Form.{rules_by-parts}
use Rattle.fed_suffix.proofs.nodes.Node.{IsNode-pushed, under-one}
use Rattle.fed_suffix.proofs.node.SuffixNode.under.Goals as goal

pub invariant_of-result : goal.invariant_of-result
invariant_of-result c =
    IsNode-pushed [] _ [] _ c.in-Ok.label c.args.self c.in_ok-add.ensures.ok_labels c.in_ok-add.ensures.ok_nodes
    (record { alike = refl; used = refl }) c.requires

pub returns : goal.returns
returns c =
    λ rest e one. rules_by-parts c.add.new.self false false _ _
    (ap (λ (e : Ends). e.plain) c.add.ensures.ends ∙ ap (λ (e : Ends). e.plain) c.none.ensures)
    (ap (λ (e : Ends). e.exception) c.add.ensures.ends ∙ ap (λ (e : Ends). e.exception) c.none.ensures) refl refl
    ∙ under-one (λ label. label) _ _ c.in-Ok.label c.args.self c.args.label.now rest e c.in_ok-add.ensures.ok_labels
    c.in_ok-add.ensures.ok_nodes c.in-Ok.ensures one
