use Rattle.std.proofs.Common.{ap, sym, ◌∙◌, subst, arith, ◌<◌, length}
use Rattle.fed_links.specs.Lists as links
use Rattle.fed_origin.specs.Origin.{same_origin}
use Rattle.fed_table.specs.Lists.{stands_in, with_last}
use Rattle.fed_table.specs.Table.{TableParts}
use Rattle.fed_table.specs.Kept.{keyed}
use Rattle.fed_table.proofs.mapped.Maps.{stands_empty}
use Rattle.fed_table.proofs.listed.Listed.{keyed_length, keyed_stands, last_at, last_new, origin_listed}
use Rattle.fed_table.proofs.table.Table.wait.Goals as goal

pub wait-requires-clause-idle : goal.wait-requires-clause-idle
wait-requires-clause-idle g c =
    sym (keyed_stands c.args.call c.self.inside.origins.keys c.self.inside.calls.waits c.self.invariant.origin_lists)
    ∙ ap (λ (t : TableParts g.row.C.Denot). stands_in c.args.call t.waits) c.self.view_is ∙ c.requires.idle

pub enter_origin-requires-clause-few : goal.enter_origin-requires-clause-few
enter_origin-requires-clause-few g c =
    (let few = subst (λ (t : TableParts g.row.C.Denot). length t.waits < 4294967295) (sym c.self.view_is) c.requires.few in
    let same = keyed_length c.self.inside.origins.keys c.self.inside.calls.waits in
    omega (arith, few, same))

pub wait-requires-in-None-clause-idle : goal.wait-requires-in-None-clause-idle
wait-requires-in-None-clause-idle g c =
    ap (links.stands_in c.args.call) c.in_ok-list-in-None.ensures.waits ∙ stands_empty c.args.call c.self.inside.calls.waits
    ∙ sym (keyed_stands c.args.call c.self.inside.origins.keys c.self.inside.calls.waits c.self.invariant.origin_lists)
    ∙ ap (λ (t : TableParts g.row.C.Denot). stands_in c.args.call t.waits) c.self.view_is ∙ c.requires.idle

pub invariant_of-self-in-None : goal.invariant_of-self-in-None
invariant_of-self-in-None g c =
    origin_listed c.self.inside.pages c.self.inside.origins.keys _ c.self.inside.calls c.wait-in-None.new.self _ c.args.origin.now
    c.in_ok-list-in-None.list c.args.call c.self.invariant
    (let few = subst (λ (t : TableParts g.row.C.Denot). length t.waits < 4294967295) (sym c.self.view_is) c.requires.few in
    let same = keyed_length c.self.inside.origins.keys c.self.inside.calls.waits in
    omega (arith, few, same))
    c.in_ok-list-in-None.ensures.keys (c.wait-in-None.ensures.pages ∙ c.enter_origin.ensures.pages) c.in_ok-list-in-None.ensures.waits
    c.wait-in-None.ensures.waits

pub returns-in-Some-clause-waits : goal.returns-in-Some-clause-waits
returns-in-Some-clause-waits g c =
    ap (keyed c.self.inside.origins.keys) c.wait.ensures.waits
    ∙ last_at same_origin c.args.origin.now c.self.inside.origins.keys c.self.inside.calls.waits c.self.invariant.origin_lists c.args.call
    c.in-Some.list (sym c.place_of.ensures.place ∙ c.in-Some.is)
    ∙ ap (λ (t : TableParts g.row.C.Denot). with_last same_origin c.args.origin.now c.args.call t.waits) c.self.view_is

pub returns-in_ok-list-in-None-clause-waits : goal.returns-in_ok-list-in-None-clause-waits
returns-in_ok-list-in-None-clause-waits g c =
    (λ i. keyed (c.in_ok-list-in-None.ensures.keys
    i) ((c.wait-in-None.ensures.waits ∙ ap (links.with_last c.in_ok-list-in-None.list c.args.call)
    c.in_ok-list-in-None.ensures.waits) i))
    ∙ last_new same_origin c.args.origin.now c.self.inside.origins.keys c.self.inside.calls.waits c.self.invariant.origin_lists c.args.call
    c.in_ok-list-in-None.list (sym c.place_of.ensures.place ∙ c.in-None.is) c.in_ok-list-in-None.ensures.list
    ∙ ap (λ (t : TableParts g.row.C.Denot). with_last same_origin c.args.origin.now c.args.call t.waits) c.self.view_is
