use Rattle.std.proofs.Common.{ap, sym, ◌∙◌, nat_eq, []}
use Rattle.std.specs.Prelude.{slice_get, unwrap_or}
use Rattle.std.specs.List.{position}
use Rattle.std.specs.Map.{keys_of}
use Rattle.fed_table.specs.Table.{TableParts, page_calls}
use Rattle.fed_table.proofs.listed.Listed.{no_place, keyed_keys}
use Rattle.fed_table.proofs.table.Table.first.Goals as goal

pub first_at-requires : goal.first_at-requires
first_at-requires g c =
    ap (λ (t : TableParts g.row.C.Denot). position (nat_eq c.args.page) (keys_of t.pages)) (sym c.self.view_is)
    ∙ ap (position (nat_eq c.args.page)) (keyed_keys c.self.inside.pages c.self.inside.calls.pages)
    ∙ sym c.page_place.ensures.place ∙ c.in-Some.is

pub returns-in-None : goal.returns-in-None
returns-in-None g c = record {
  value = ap (λ o. slice_get (unwrap_or o []) 0) (sym (no_place nat_eq c.args.page c.self.inside.pages c.self.inside.calls.pages
      c.self.invariant.page_lists (sym c.page_place.ensures.place ∙ c.in-None.is)))
      ∙ ap (λ (t : TableParts g.row.C.Denot). slice_get (page_calls t.pages c.args.page) 0) c.self.view_is;
}
