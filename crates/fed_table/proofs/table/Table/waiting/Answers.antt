use Rattle.std.proofs.Common.{◌≡◌, ap, sym, ◌∙◌, subst, ℕ, List, []}
use Rattle.std.specs.Prelude.{IfOk, unwrap_or}
use Rattle.fed_origin.specs.Origin.{same_origin}
use Rattle.fed_table.specs.Table.{TableParts, waiting_for}
use Rattle.fed_table.proofs.listed.Listed.{at_place, no_place}
use Rattle.fed_table.proofs.table.Table.waiting.Goals as goal

pub returns-in-Some : goal.returns-in-Some
returns-in-Some g c = record {
  value = subst (λ (xs : List ℕ). IfOk c.waiting.result (λ calls. calls ≡ xs))
      (sym (at_place same_origin c.args.origin.now c.self.inside.origins.keys c.self.inside.calls.waits
      c.self.invariant.origin_lists c.in-Some.list (sym c.place_of.ensures.place ∙ c.in-Some.is))
      ∙ ap (λ (t : TableParts g.row.C.Denot). waiting_for t.waits c.args.origin.now) c.self.view_is)
      c.waiting.ensures;
}

pub returns-in-None : goal.returns-in-None
returns-in-None g c = record {
  value = c.new.ensures
      ∙ ap (λ o. unwrap_or o []) (sym (no_place same_origin c.args.origin.now c.self.inside.origins.keys c.self.inside.calls.waits
      c.self.invariant.origin_lists (sym c.place_of.ensures.place ∙ c.in-None.is)))
      ∙ ap (λ (t : TableParts g.row.C.Denot). waiting_for t.waits c.args.origin.now) c.self.view_is;
}
