use Rattle.std.proofs.Common.{ap, sym, ◌∙◌, subst, arith, ◌<◌, length, nat_eq}
use Rattle.fed_table.specs.Lists.{with_key}
use Rattle.fed_table.specs.Table.{TableParts}
use Rattle.fed_table.proofs.listed.Listed.{keyed_length, key_stays, page_listed, page_comes}
use Rattle.fed_table.proofs.table.Table.add_page.Goals as goal

pub enter_page-requires-clause-few : goal.enter_page-requires-clause-few
enter_page-requires-clause-few g c =
    let few = subst (λ (t : TableParts g.row.C.Denot). length t.pages < 4294967295) (sym c.self.view_is) c.requires in
    let same = keyed_length c.self.inside.pages c.self.inside.calls.pages in
    omega (arith, few, same)

pub invariant_of-self : goal.invariant_of-self
invariant_of-self g c =
    page_listed c.enter_page.result c.self.inside.pages c.enter_page.new.pages c.self.inside.origins.keys c.self.inside.calls
    c.enter_page.new.calls c.args.page c.self.invariant
    (let few = subst (λ (t : TableParts g.row.C.Denot). length t.pages < 4294967295) (sym c.self.view_is) c.requires in
    let same = keyed_length c.self.inside.pages c.self.inside.calls.pages in
    omega (arith, few, same))
    c.enter_page.ensures.keys c.enter_page.ensures.pages c.enter_page.ensures.waits c.enter_page.ensures.err c.enter_page.ensures.err_keys

pub returns-in-Some-clause-pages : goal.returns-in-Some-clause-pages
returns-in-Some-clause-pages g c =
    ap (λ (t : TableParts g.row.C.Denot). t.pages) (sym c.self.view_is)
    ∙ key_stays nat_eq c.args.page c.self.inside.pages c.self.inside.calls.pages c.self.invariant.page_lists c.in-Some.field-0
    (sym c.page_place.ensures.place ∙ c.in-Some.is)
    ∙ ap (λ (t : TableParts g.row.C.Denot). with_key nat_eq c.args.page t.pages) c.self.view_is

pub returns-in-None-clause-pages : goal.returns-in-None-clause-pages
returns-in-None-clause-pages g c =
    page_comes c.enter_page.result c.self.inside.pages c.enter_page.new.pages c.self.inside.calls c.enter_page.new.calls
    c.args.page _
    c.self.invariant.page_lists (sym c.page_place.ensures.place ∙ c.in-None.is)
    (ap (λ (t : TableParts g.row.C.Denot). t.pages) c.self.view_is)
    c.enter_page.ensures.keys c.enter_page.ensures.pages
