use Rattle.std.proofs.Common.{◌≡◌, ◌∙◌, ap, sym, subst, true, nat_eq}
use Rattle.std.specs.Prelude.{is_some, option_map}
use Rattle.std.specs.List.{list_any}
use Rattle.fed_status.specs.Shared.{world_of}
use Rattle.fed_trace.specs.Call.{page_of}
use Rattle.fed_session.specs.Session.{item_known}
use Rattle.fed_session.specs.StepParts.{cookies_of, call_records, known_of, kept_next, world_in, sight_after, outcome_at, CanApplyAll}
use Rattle.fed_session.specs.StepParts.{awaited_in}
use Rattle.fed_session.specs.Tabs.{GoesOn, Takes}
use Rattle.fed_trace.specs.Records.{records_of}
use Rattle.fed_trace.specs.Row.{input_effects}
use Rattle.fed_session.proofs.events.Input.{brought_records, brought_takes, brought_applies, waits_lent}
use Rattle.fed_session.proofs.input.take_input.Goals as goal

pub apply-requires : goal.apply-requires
apply-requires g c =
    subst CanApplyAll (sym c.in_ok-kept.ensures.effects)
    (brought_applies (world_of c.lent.result) (known_of c.into_state-state.result) c.args.input.now)

pub give_back-requires-clause-waits : goal.give_back-requires-clause-waits
give_back-requires-clause-waits g c =
    waits_lent c.args.call c.lend.new.self c.in-Some.kept (known_of c.into_state-state.result) c.in-Some-page.page c.waits-waited.result
    c.into_state-state.ensures c.in-Some-page.ensures c.waits-waited.ensures c.in-Some.ensures.waits

pub returns-clause-outs : goal.returns-clause-outs
returns-clause-outs g c =
    let same : c.learn.new.sight ≡ c.args.sight.now = c.in_ok-learn.ensures in
    let known = known_of c.into_state-state.result in
    let found : known ≡ item_known c.args.tabs.now.table.items c.args.call = c.into_state-state.ensures ∙ c.in-Some.ensures.known in
    subst (λ s. c.in_ok-outs.outs ≡ records_of c.args.line (input_effects (world_in s) (cookies_of s)
    (list_any (nat_eq c.args.call) c.args.tabs.now.taken) c.args.call (item_known c.args.tabs.now.table.items c.args.call)
    c.args.input.now)) same (
    c.in_ok-outs.ensures.outs ∙ ap (call_records c.args.line (cookies_of c.learn.new.sight) c.args.call c.in-Some-page.page)
    c.in_ok-kept.ensures.effects
    ∙ ap (λ w. call_records c.args.line (cookies_of c.learn.new.sight) c.args.call c.in-Some-page.page
    (outcome_at w true known c.args.input.now).effects) c.lent.ensures
    ∙ ap (λ k. call_records c.args.line (cookies_of c.learn.new.sight) c.args.call c.in-Some-page.page
    (outcome_at (world_in c.learn.new.sight) true k c.args.input.now).effects) found
    ∙ brought_records c.args.line (world_in c.learn.new.sight) (cookies_of c.learn.new.sight) c.args.call c.in-Some-page.page
    c.args.input.now (list_any (nat_eq c.args.call) c.args.tabs.now.taken) (item_known c.args.tabs.now.table.items c.args.call)
    c.in-Some.ensures.begun (c.in-Some-page.ensures ∙ ap (option_map page_of) found))

pub returns-clause-sight : goal.returns-clause-sight
returns-clause-sight g c =
    let same : c.learn.new.sight ≡ c.args.sight.now = c.in_ok-learn.ensures in
    let known = known_of c.into_state-state.result in
    let found : known ≡ item_known c.args.tabs.now.table.items c.args.call = c.into_state-state.ensures ∙ c.in-Some.ensures.known in
    subst (λ s. c.apply.new.sight ≡ sight_after (outcome_at (world_in s) (list_any (nat_eq c.args.call) c.args.tabs.now.taken)
    (item_known c.args.tabs.now.table.items c.args.call) c.args.input.now).effects s) same (
    c.in_ok-outs.ensures.sight ∙ ap (λ effects. sight_after effects c.learn.new.sight) c.in_ok-kept.ensures.effects
    ∙ ap (λ w. sight_after (outcome_at w true known c.args.input.now).effects c.learn.new.sight) c.lent.ensures
    ∙ ap (λ k. sight_after (outcome_at (world_in c.learn.new.sight) true k c.args.input.now).effects c.learn.new.sight) found
    ∙ ap (λ b. sight_after (outcome_at (world_in c.learn.new.sight) b (item_known c.args.tabs.now.table.items c.args.call)
    c.args.input.now).effects c.learn.new.sight) (sym c.in-Some.ensures.begun))

pub returns-clause-tabs : goal.returns-clause-tabs
returns-clause-tabs g c =
    let same : c.learn.new.sight ≡ c.args.sight.now = c.in_ok-learn.ensures in
    let known = known_of c.into_state-state.result in
    let found : known ≡ item_known c.args.tabs.now.table.items c.args.call = c.into_state-state.ensures ∙ c.in-Some.ensures.known in
    let next : c.in_ok-kept.kept ≡ kept_next (world_in c.learn.new.sight) (item_known c.args.tabs.now.table.items c.args.call)
    c.args.input.now = c.in_ok-kept.ensures.kept ∙ ap (λ w. kept_next w known c.args.input.now) c.lent.ensures
    ∙ ap (λ k. kept_next (world_in c.learn.new.sight) k c.args.input.now) found in
    subst (λ s. Takes c.args.call (item_known c.args.tabs.now.table.items c.args.call) (kept_next (world_in s)
    (item_known c.args.tabs.now.table.items c.args.call) c.args.input.now) c.args.tabs.now c.give_back.new.self) same (
    brought_takes c.args.call c.in-Some-page.page c.waits-waited.result (item_known c.args.tabs.now.table.items c.args.call) _
    c.args.tabs.now c.lend.new.self c.give_back.new.self (c.in-Some-page.ensures ∙ ap (option_map page_of) found)
    (c.waits-waited.ensures ∙ ap (λ k. is_some (awaited_in k)) found) c.lend.ensures.tabs
    (subst (λ kept. GoesOn c.in-Some-page.page c.args.call c.waits-waited.result kept c.lend.new.self c.give_back.new.self) next
    c.in_ok-give_back.ensures.ok))
