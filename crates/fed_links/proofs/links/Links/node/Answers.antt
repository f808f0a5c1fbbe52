use Rattle.std.proofs.Common.{ap}
use Rattle.fed_links.specs.declared.node.LinkNode.{LinkNode}
use Rattle.fed_links.proofs.calls.Calls.{node_is, node_within}
use Rattle.fed_links.proofs.links.Links.node.Goals as goal

pub index-requires : goal.index-requires
index-requires c = rw c.self.inside.slots.ok.0 (node_within c.self.invariant c.self.view_is c.args.node c.requires)

pub returns-clause-before : goal.returns-clause-before
returns-clause-before c =
    ap (λ (z : LinkNode). z.before) (node_is c.self.invariant c.self.view_is c.args.node c.index.result.now c.requires c.index.ensures)

pub returns-clause-after : goal.returns-clause-after
returns-clause-after c =
    ap (λ (z : LinkNode). z.after) (node_is c.self.invariant c.self.view_is c.args.node c.index.result.now c.requires c.index.ensures)

pub returns-clause-wait_before : goal.returns-clause-wait_before
returns-clause-wait_before c =
    ap (λ (z : LinkNode). z.wait_before) (node_is c.self.invariant c.self.view_is c.args.node c.index.result.now c.requires c.index.ensures)

pub returns-clause-wait_after : goal.returns-clause-wait_after
returns-clause-wait_after c =
    ap (λ (z : LinkNode). z.wait_after) (node_is c.self.invariant c.self.view_is c.args.node c.index.result.now c.requires c.index.ensures)
