use Rattle.std.proofs.Common.{ap, sym, ◌∙◌, ℕ, Some}
use Rattle.std.proofs.lemmas.List.{get_or_read}
use Rattle.fed_links.specs.Lists.{after_among, stands_in}
use Rattle.fed_table.specs.Kept.{CallLists}
use Rattle.fed_table.proofs.owned.Owned.{next_wait, no_next_wait, next_waits_within, waits_by_node}
use Rattle.fed_table.proofs.calls.Calls.next_waiting.Goals as goal

pub returns-in_err-node : goal.returns-in_err-node
returns-in_err-node g c =
    c.from_residual.ensures ∙ no_next_wait c.self.invariant c.are_lists.ensures c.args.call (sym c.in_err-node.ensures)
    ∙ ap (λ (l : CallLists g.row.C.Denot). after_among l.waits c.args.call) c.self.view_is

pub next_waiting-requires : goal.next_waiting-requires
next_waiting-requires g c =
    sym (waits_by_node c.self.invariant c.are_lists.ensures c.args.call c.in_ok-node.node (sym c.in_ok-node.ensures))
    ∙ ap (λ (l : CallLists g.row.C.Denot). stands_in c.args.call l.waits) c.self.view_is ∙ c.requires

pub returns-in_err-next : goal.returns-in_err-next
returns-in_err-next g c =
    c.from_residual-in_err-next.ensures
    ∙ next_wait c.self.invariant c.are_lists.ensures c.args.call c.in_ok-node.node _ (sym c.in_ok-node.ensures) c.in_err-next.ensures
    ∙ ap (λ (l : CallLists g.row.C.Denot). after_among l.waits c.args.call) c.self.view_is

pub index-requires : goal.index-requires
index-requires g c =
    rw c.self.inside.owners.ok.0
    (next_waits_within c.self.invariant c.are_lists.ensures c.in_ok-node.node c.in_ok-next.next (sym c.in_ok-next.ensures))

pub returns : goal.returns
returns g c =
    ap (λ (m : ℕ). Some m) (get_or_read c.self.inside.owners.items c.in_ok-next.next c.index.result.now
    (next_waits_within c.self.invariant c.are_lists.ensures c.in_ok-node.node c.in_ok-next.next (sym c.in_ok-next.ensures))
    c.index.ensures 0)
    ∙ next_wait c.self.invariant c.are_lists.ensures c.args.call c.in_ok-node.node _ (sym c.in_ok-node.ensures) c.in_ok-next.ensures
    ∙ ap (λ (l : CallLists g.row.C.Denot). after_among l.waits c.args.call) c.self.view_is
