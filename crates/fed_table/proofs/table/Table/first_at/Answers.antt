use Rattle.std.proofs.Common.{ap, sym, ◌∙◌, nat_eq}
use Rattle.std.specs.Prelude.{slice_get}
use Rattle.std.specs.List.{position}
use Rattle.std.specs.Map.{keys_of}
use Rattle.fed_links.specs.Lists.{list_at}
use Rattle.fed_table.specs.Table.{TableParts, page_calls}
use Rattle.fed_table.proofs.listed.Listed.{first_is, at_place, place_within, keyed_keys}
use Rattle.fed_table.proofs.table.Table.first_at.Goals as goal

pub first-requires : goal.first-requires
first-requires g c =
    place_within nat_eq c.args.page c.self.inside.pages c.self.inside.calls.pages c.self.invariant.page_lists c.args.list
    (ap (position (nat_eq c.args.page)) (sym (keyed_keys c.self.inside.pages c.self.inside.calls.pages))
    ∙ ap (λ (t : TableParts g.row.C.Denot). position (nat_eq c.args.page) (keys_of t.pages)) c.self.view_is ∙ c.requires)

pub returns-clause-value : goal.returns-clause-value
returns-clause-value g c =
    c.first.ensures ∙ first_is (list_at c.self.inside.calls.pages c.args.list)
    ∙ ap (λ xs. slice_get xs 0) (sym (at_place nat_eq c.args.page c.self.inside.pages c.self.inside.calls.pages
    c.self.invariant.page_lists c.args.list
    (ap (position (nat_eq c.args.page)) (sym (keyed_keys c.self.inside.pages c.self.inside.calls.pages))
    ∙ ap (λ (t : TableParts g.row.C.Denot). position (nat_eq c.args.page) (keys_of t.pages)) c.self.view_is ∙ c.requires)))
    ∙ ap (λ (t : TableParts g.row.C.Denot). slice_get (page_calls t.pages c.args.page) 0) c.self.view_is
