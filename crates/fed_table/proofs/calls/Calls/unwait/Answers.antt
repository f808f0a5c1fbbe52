use Rattle.std.proofs.Common.{ap, sym, ◌∙◌}
use Rattle.fed_links.specs.Lists.{stands_in, all_without}
use Rattle.fed_table.specs.Kept.{CallLists}
use Rattle.fed_table.proofs.owned.Owned.{not_waiting, waits_by_node, waits_after}
use Rattle.fed_table.proofs.calls.Calls.unwait.Goals as goal

pub unreachable-requires : goal.unreachable-requires
unreachable-requires g c =
    not_waiting c.self.invariant c.are_lists.ensures c.args.call (sym c.node.ensures ∙ c.in_default.is)
    (ap (λ (l : CallLists g.row.C.Denot). stands_in c.args.call l.waits) c.self.view_is ∙ c.requires)

pub unwait-requires : goal.unwait-requires
unwait-requires g c =
    sym (waits_by_node c.self.invariant c.are_lists.ensures c.args.call c.in-Some.node (sym c.node.ensures ∙ c.in-Some.is))
    ∙ ap (λ (l : CallLists g.row.C.Denot). stands_in c.args.call l.waits) c.self.view_is ∙ c.requires

pub returns-clause-waits : goal.returns-clause-waits
returns-clause-waits g c =
    waits_after c.self.invariant c.are_lists.ensures c.args.call c.in-Some.node (sym c.node.ensures ∙ c.in-Some.is) _
    c.unwait.ensures.waits
    ∙ ap (λ (l : CallLists g.row.C.Denot). all_without c.args.call l.waits) c.self.view_is
