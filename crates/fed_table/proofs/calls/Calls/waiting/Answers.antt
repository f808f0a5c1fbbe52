use Rattle.std.proofs.Common.{◌≡◌, ap, sym, ◌∙◌, subst, ℕ, List}
use Rattle.std.specs.Prelude.{IfOk}
use Rattle.fed_links.specs.Lists.{list_at}
use Rattle.fed_table.specs.Kept.{CallLists, owner}
use Rattle.fed_table.proofs.mapped.Maps.{list_at-map}
use Rattle.fed_table.proofs.owned.Owned.{waiter}
use Rattle.fed_table.proofs.calls.Calls.waiting.Goals as goal

pub waiting_calls-requires-clause-within : goal.waiting_calls-requires-clause-within
waiting_calls-requires-clause-within g c = λ node e. c.self.invariant.within node (waiter c.are_lists.ensures node e)

pub returns : goal.returns
returns g c =
    subst (λ (xs : List ℕ). IfOk c.waiting_calls.result (λ calls. calls ≡ xs))
    (sym (list_at-map (owner c.self.inside.owners.items) c.self.inside.links.waits c.args.list)
    ∙ ap (λ (l : CallLists g.row.C.Denot). list_at l.waits c.args.list) c.self.view_is)
    c.waiting_calls.ensures
