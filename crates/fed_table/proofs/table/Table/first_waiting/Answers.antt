use Rattle.std.proofs.Common.{ap, sym, ◌∙◌, []}
use Rattle.std.specs.Prelude.{slice_get, unwrap_or}
use Rattle.fed_links.specs.Lists.{list_at}
use Rattle.fed_origin.specs.Origin.{same_origin}
use Rattle.fed_table.specs.Table.{TableParts, waiting_for}
use Rattle.fed_table.proofs.listed.Listed.{first_is, at_place, no_place}
use Rattle.fed_table.proofs.table.Table.first_waiting.Goals as goal

pub returns-in-Some : goal.returns-in-Some
returns-in-Some g c = record {
  value = c.first_waiting.ensures ∙ first_is (list_at c.self.inside.calls.waits c.in-Some.list)
      ∙ ap (λ xs. slice_get xs 0) (sym (at_place same_origin c.args.origin.now c.self.inside.origins.keys c.self.inside.calls.waits
      c.self.invariant.origin_lists c.in-Some.list (sym c.place_of.ensures.place ∙ c.in-Some.is)))
      ∙ ap (λ (t : TableParts g.row.C.Denot). slice_get (waiting_for t.waits c.args.origin.now) 0) c.self.view_is;
}

pub returns-in-None : goal.returns-in-None
returns-in-None g c = record {
  value = ap (λ o. slice_get (unwrap_or o []) 0) (sym (no_place same_origin c.args.origin.now c.self.inside.origins.keys
      c.self.inside.calls.waits c.self.invariant.origin_lists (sym c.place_of.ensures.place ∙ c.in-None.is)))
      ∙ ap (λ (t : TableParts g.row.C.Denot). slice_get (waiting_for t.waits c.args.origin.now) 0) c.self.view_is;
}
