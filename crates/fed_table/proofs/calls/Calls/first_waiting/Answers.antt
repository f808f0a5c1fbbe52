use Rattle.std.proofs.Common.{ap, sym, ◌∙◌, ℕ, Some}
use Rattle.std.proofs.lemmas.List.{get_or_read}
use Rattle.fed_links.specs.Lists.{list_at, first_of}
use Rattle.fed_table.specs.Kept.{CallLists}
use Rattle.fed_table.proofs.owned.Owned.{first_call, first_waits_within}
use Rattle.fed_table.proofs.calls.Calls.first_waiting.Goals as goal

pub index-requires : goal.index-requires
index-requires g c =
    rw c.self.inside.owners.ok.0
    (first_waits_within c.self.invariant c.are_lists.ensures c.args.list c.in-Some.node (sym c.first_waiting.ensures ∙ c.in-Some.is))

pub returns-in-Some : goal.returns-in-Some
returns-in-Some g c =
    ap (λ (m : ℕ). Some m) (get_or_read c.self.inside.owners.items c.in-Some.node c.index.result.now
    (first_waits_within c.self.invariant c.are_lists.ensures c.args.list c.in-Some.node
    (sym c.first_waiting.ensures ∙ c.in-Some.is)) c.index.ensures 0)
    ∙ first_call c.self.inside.owners.items c.self.inside.links.waits c.args.list _ (sym c.in-Some.is ∙ c.first_waiting.ensures)
    ∙ ap (λ (l : CallLists g.row.C.Denot). first_of (list_at l.waits c.args.list)) c.self.view_is
