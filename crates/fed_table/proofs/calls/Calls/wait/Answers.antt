use Rattle.std.proofs.Common.{ap, sym, ◌∙◌}
use Rattle.fed_links.specs.Lists.{stands_in, with_last}
use Rattle.fed_table.specs.Table.{has_call}
use Rattle.fed_table.specs.Kept.{CallLists}
use Rattle.fed_table.proofs.owned.Owned.{not_there, waits_by_node, waits_last}
use Rattle.fed_table.proofs.calls.Calls.wait.Goals as goal

pub unreachable-requires : goal.unreachable-requires
unreachable-requires g c =
    not_there c.args.call c.self.inside.places.entries (sym c.node.ensures ∙ c.in_default.is)
    (ap (λ (l : CallLists g.row.C.Denot). has_call l.items c.args.call) c.self.view_is ∙ c.requires.call)

pub wait-requires-clause-idle : goal.wait-requires-clause-idle
wait-requires-clause-idle g c =
    sym (waits_by_node c.self.invariant c.are_lists.ensures c.args.call c.in-Some.node (sym c.node.ensures ∙ c.in-Some.is))
    ∙ ap (λ (l : CallLists g.row.C.Denot). stands_in c.args.call l.waits) c.self.view_is ∙ c.requires.idle

pub returns-clause-waits : goal.returns-clause-waits
returns-clause-waits g c =
    waits_last c.self.invariant c.are_lists.ensures c.args.call c.in-Some.node c.args.list
    (sym c.node.ensures ∙ c.in-Some.is) _ c.wait.ensures.waits
    ∙ ap (λ (l : CallLists g.row.C.Denot). with_last c.args.list c.args.call l.waits) c.self.view_is
