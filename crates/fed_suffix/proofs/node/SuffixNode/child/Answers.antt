use Rattle.std.proofs.Common.{length, get_or, sym, ap, ◌∙◌, arith}
use Rattle.std.specs.Option.{option_copied}
use Rattle.fed_suffix.specs.Form.{ends_of, labels_below, nodes_below}
use Rattle.fed_suffix.specs.Node as spec
use Rattle.fed_suffix.proofs.nodes.Node.{child-place, child-absent}
use Rattle.fed_suffix.proofs.node.SuffixNode.child.Goals as goal

pub bounds-nodes-place : goal.bounds-nodes-place
bounds-nodes-place c = omega (arith, c.self.invariant.alike, c.in_ok-place.ensures.within, ap length c.nodes.ensures)

pub returns-in_err-place : goal.returns-in_err-place
returns-in_err-place c =
    let node = c.self.inside in
    let ends = ends_of node.form in
    ap option_copied c.from_residual.ensures
    ∙ sym (child-absent (λ label. label) ends.plain ends.exception (labels_below node.form) (nodes_below node.form) c.args.label.now
    (sym c.in_err-place.ensures.found))
    ∙ ap (λ rules. spec.child rules c.args.label.now) c.self.view_is

pub returns : goal.returns
returns c =
    let node = c.self.inside in
    let ends = ends_of node.form in
    let place = c.in_ok-place.place in
    let below = c.index-nodes-place.result in
    sym (child-place (λ label. label) ends.plain ends.exception (labels_below node.form) (nodes_below node.form) c.args.label.now
    c.self.invariant c.place.ensures.unique place below (sym c.in_ok-place.ensures.index)
    (c.index-nodes-place.is ∙ ap (λ nodes. get_or nodes place below) c.nodes.ensures))
    ∙ ap (λ rules. spec.child rules c.args.label.now) c.self.view_is
