use Rattle.std.proofs.Common.{ap, sym, ◌∙◌, subst, arith, ◌<◌, nat_eq}
use Rattle.indexmap.proofs.MapLemmas.{OnOk-map}
use Rattle.fed_table.specs.Lists.{total, with_last}
use Rattle.fed_table.specs.Table.{TableParts}
use Rattle.fed_table.specs.Kept.{keyed}
use Rattle.fed_table.proofs.listed.Listed.{keyed_total, last_at}
use Rattle.fed_table.proofs.table.Table.add.Goals as goal

pub add-requires-clause-few : goal.add-requires-clause-few
add-requires-clause-few g c =
    let few = subst (λ (t : TableParts g.row.C.Denot). total t.pages < 4294967295) (sym c.self.view_is) c.requires.few in
    let same = keyed_total c.self.inside.pages c.self.inside.calls.pages c.self.invariant.page_lists in
    omega (arith, few, same)

pub returns-clause-pages : goal.returns-clause-pages
returns-clause-pages g c =
    OnOk-map c.add.result _ _
    (λ e. ap (keyed c.self.inside.pages) e
    ∙ last_at nat_eq c.args.page c.self.inside.pages c.self.inside.calls.pages c.self.invariant.page_lists c.args.call c.in-Some.list
    (sym c.page_place.ensures.place ∙ c.in-Some.is)
    ∙ ap (λ (t : TableParts g.row.C.Denot). with_last nat_eq c.args.page c.args.call t.pages) c.self.view_is)
    c.add.ensures.pages
