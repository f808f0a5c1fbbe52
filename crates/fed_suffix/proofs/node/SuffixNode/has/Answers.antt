use Rattle.std.proofs.Common.{sym, ap, ◌∙◌}
use Rattle.fed_suffix.specs.declared.form.Ends.{Ends}
use Rattle.fed_suffix.specs.Form.{ends_of, labels_below, nodes_below}
use Rattle.fed_suffix.proofs.nodes.Node.{flag, ends_is}
use Rattle.fed_suffix.proofs.node.SuffixNode.has.Goals as goal

pub returns-then-exception : goal.returns-then-exception
returns-then-exception c =
    let form = c.self.inside.form in
    let ends = ends_of form in
    ap (λ (e : Ends). e.exception) c.ends-ends.ensures
    ∙ ap (flag ends.plain ends.exception) (sym c.if-exception.true)
    ∙ ends_is (λ label. label) ends.plain ends.exception (labels_below form) (nodes_below form) c.args.self.now c.args.exception
    c.self.view_is

pub returns : goal.returns
returns c =
    let form = c.self.inside.form in
    let ends = ends_of form in
    ap (λ (e : Ends). e.plain) c.ends-ends.ensures
    ∙ ap (flag ends.plain ends.exception) (sym c.if-exception.false)
    ∙ ends_is (λ label. label) ends.plain ends.exception (labels_below form) (nodes_below form) c.args.self.now c.args.exception
    c.self.view_is
