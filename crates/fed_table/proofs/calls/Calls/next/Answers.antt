use Rattle.std.proofs.Common.{ap, sym, ◌∙◌, ℕ, Some}
use Rattle.std.proofs.lemmas.List.{get_or_read}
use Rattle.fed_links.specs.Lists.{after_among}
use Rattle.fed_table.specs.Kept.{CallLists}
use Rattle.fed_table.proofs.owned.Owned.{next_page, no_next_page, next_within}
use Rattle.fed_table.proofs.calls.Calls.next.Goals as goal

pub returns-in_err-node : goal.returns-in_err-node
returns-in_err-node g c =
    c.from_residual.ensures ∙ no_next_page c.self.invariant c.args.call (sym c.in_err-node.ensures)
    ∙ ap (λ (l : CallLists g.row.C.Denot). after_among l.pages c.args.call) c.self.view_is

pub returns-in_err-next : goal.returns-in_err-next
returns-in_err-next g c =
    c.from_residual-in_err-next.ensures
    ∙ next_page c.self.invariant c.args.call c.in_ok-node.node _ (sym c.in_ok-node.ensures) c.in_err-next.ensures
    ∙ ap (λ (l : CallLists g.row.C.Denot). after_among l.pages c.args.call) c.self.view_is

pub index-requires : goal.index-requires
index-requires g c =
    rw c.self.inside.owners.ok.0 (next_within c.self.invariant c.in_ok-node.node c.in_ok-next.next (sym c.in_ok-next.ensures))

pub returns : goal.returns
returns g c =
    ap (λ (m : ℕ). Some m) (get_or_read c.self.inside.owners.items c.in_ok-next.next c.index.result.now
    (next_within c.self.invariant c.in_ok-node.node c.in_ok-next.next (sym c.in_ok-next.ensures)) c.index.ensures 0)
    ∙ next_page c.self.invariant c.args.call c.in_ok-node.node _ (sym c.in_ok-node.ensures) c.in_ok-next.ensures
    ∙ ap (λ (l : CallLists g.row.C.Denot). after_among l.pages c.args.call) c.self.view_is
