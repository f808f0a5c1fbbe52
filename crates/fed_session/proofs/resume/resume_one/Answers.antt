use Rattle.std.proofs.Common.{◌≡◌, ◌∙◌, ap, subst, true, refl}
use Rattle.std.specs.Prelude.{is_some, option_map}
use Rattle.fed_consent.specs.declared.table.input.Input.TheVariants.{Resume}
use Rattle.fed_trace.specs.Call.{page_of}
use Rattle.fed_session.specs.Session.{item_known}
use Rattle.fed_session.specs.StepParts.{cookies_of, call_records, known_of, kept_next, world_in, outcome_at, awaited_in}
use Rattle.fed_session.specs.Tabs.{GoesOn}
use Rattle.fed_session.proofs.events.Input.{brought_records, brought_takes, waits_lent}
use Rattle.fed_session.proofs.resume.resume_one.Goals as goal

pub give_back-requires-clause-waits : goal.give_back-requires-clause-waits
give_back-requires-clause-waits g c =
    waits_lent c.args.call c.lend.new.self c.in-Some.kept (known_of c.into_state-state.result) c.in-Some-page.page c.waits-waited.result
    c.into_state-state.ensures c.in-Some-page.ensures c.waits-waited.ensures c.in-Some.ensures.waits

pub returns-clause-outs : goal.returns-clause-outs
returns-clause-outs g c =
    let known = known_of c.into_state-state.result in
    let found : known ≡ item_known c.args.tabs.now.table.items c.args.call = c.into_state-state.ensures ∙ c.in-Some.ensures.known in
    c.in_ok-outs.ensures ∙ ap (call_records c.args.line (cookies_of c.args.sight.now) c.args.call c.in-Some-page.page)
    c.in_ok-kept.ensures.effects
    ∙ ap (λ w. call_records c.args.line (cookies_of c.args.sight.now) c.args.call c.in-Some-page.page
    (outcome_at w true known Resume).effects) c.lent.ensures
    ∙ ap (λ k. call_records c.args.line (cookies_of c.args.sight.now) c.args.call c.in-Some-page.page
    (outcome_at (world_in c.args.sight.now) true k Resume).effects) found
    ∙ brought_records c.args.line (world_in c.args.sight.now) (cookies_of c.args.sight.now) c.args.call c.in-Some-page.page
    Resume true (item_known c.args.tabs.now.table.items c.args.call) refl (c.in-Some-page.ensures ∙ ap (option_map page_of) found)

pub returns-clause-tabs : goal.returns-clause-tabs
returns-clause-tabs g c =
    let known = known_of c.into_state-state.result in
    let found : known ≡ item_known c.args.tabs.now.table.items c.args.call = c.into_state-state.ensures ∙ c.in-Some.ensures.known in
    let next : c.in_ok-kept.kept ≡ kept_next (world_in c.args.sight.now) (item_known c.args.tabs.now.table.items c.args.call) Resume =
    c.in_ok-kept.ensures.kept ∙ ap (λ w. kept_next w known Resume) c.lent.ensures
    ∙ ap (λ k. kept_next (world_in c.args.sight.now) k Resume) found in
    brought_takes c.args.call c.in-Some-page.page c.waits-waited.result (item_known c.args.tabs.now.table.items c.args.call) _
    c.args.tabs.now c.lend.new.self c.give_back.new.self (c.in-Some-page.ensures ∙ ap (option_map page_of) found)
    (c.waits-waited.ensures ∙ ap (λ k. is_some (awaited_in k)) found) c.lend.ensures.tabs
    (subst (λ kept. GoesOn c.in-Some-page.page c.args.call c.waits-waited.result kept c.lend.new.self c.give_back.new.self) next
    c.in_ok-give_back.ensures.ok)
