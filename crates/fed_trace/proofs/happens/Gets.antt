-- What is known of a get after an event.
use Rattle.std.proofs.Common.{◌≡◌, ℕ, true, nat_eq, [], Option, Some, None, refl, sym, ap, ◌∙◌}
use Rattle.std.specs.Prelude.{option_map, option_and_then, unwrap_or}
use Rattle.std.specs.List.{filter_map}
use Rattle.fed_origin.specs.declared.stage.Stage.TheVariants.{Window, Ended}
use Rattle.fed_consent.specs.Outcomes.{Outcome}
use Rattle.fed_call.specs.Facts.{Facts}
use Rattle.fed_call.specs.Facts as get
use Rattle.fed_call.specs.WindowRows.{resumed}
use Rattle.fed_disconnect.specs.Facts.{DisconnectFacts}
use Rattle.fed_disconnect.specs.Facts as disconnect
use Rattle.fed_script.specs.declared.event.Event.{Event}
use Rattle.fed_trace.specs.Call.{Known, OfGet, OfDisconnect, kind_of, page_of, get_facts, input_row}
use Rattle.fed_trace.specs.Effect.{last_of, stage_change, begins}
use Rattle.fed_trace.specs.Keyed.{last_said}
use Rattle.fed_trace.specs.Known.{world_at, known_in, known_at, facts_at}
use Rattle.fed_trace.specs.OfCall.{asked}
use Rattle.fed_trace.specs.Row.{effects_of, with_event, cookies_with, input_effects}
use Rattle.fed_trace.specs.Trace.{Trace}
use Rattle.fed_trace.proofs.known.Known.{said_of, known_same, known_moved, over}
use Rattle.fed_trace.proofs.happens.Disconnects.{Turn, Gives, GivesNone, disconnect_turn}
use Rattle.fed_trace.proofs.happens.Ends.{Takes, Resumes}
use Rattle.fed_trace.proofs.happens.Resumed.{known_resumed}
use Rattle.fed_trace.proofs.happens.Over.{over_quiet, still_over}
use Rattle.fed_trace.proofs.happens.Says.{outcome_begins, outcome_asks, asks_token}
use Rattle.fed_trace.proofs.happens.Taken.{Knows, Meets, does_it, known_taken, facts_of_get}

-- an event that says nothing of the call
pub facts_same : (T : Trace) (line : ℕ) (event : Event) (q : ℕ) → last_said nat_eq stage_change q (effects_of T event) ≡ None
    → last_of (begins q) (effects_of T event) ≡ None
    → ((k : Known) → said_of T event q k ≡ k) → facts_at (with_event T line event) q ≡ facts_at T q
facts_same T line event q m b same = ap (option_and_then get_facts) (known_same T line event q m b same)

-- the call ends with its page
pub facts_ended : (T : Trace) (line : ℕ) (event : Event) (q : ℕ)
    → last_said nat_eq stage_change q (effects_of T event) ≡ Some (Some Ended)
    → last_of (begins q) (effects_of T event) ≡ None
    → facts_at (with_event T line event) q ≡ None
facts_ended T line event q m b =
    ap (option_and_then get_facts) (known_moved T line event q (Some (Some Ended)) None m b
    ∙ over (option_map (said_of T event q) (known_in T.header T.rows q)))

-- the call asks for its accounts again
pub facts_resumed : (T : Trace) (line : ℕ) (event : Event) (call : ℕ) → (r : Resumes T event call)
    → facts_at (with_event T line event) call ≡ get.at_stage (unwrap_or (resumed r.facts Window).stage Window) r.facts
facts_resumed T line event call r =
    ap (option_and_then get_facts) (known_resumed T line event call r)
    ∙ facts_of_get (get.at_stage (unwrap_or (resumed r.facts Window).stage Window) r.facts)

-- ---- a call that takes an input, by what is known of it

pub data Taking (T : Trace) (event : Event) (call : ℕ) : Type 0 where
  ByGet : (f : Facts) → Meets T event call f → Taking T event call
  ByDisconnect : (f : DisconnectFacts) → Knows T event call (OfDisconnect f) → Taking T event call
  ByNone : Takes T event call → known_at T call ≡ None → Taking T event call

pub taking : (T : Trace) (event : Event) (call : ℕ) → Takes T event call → Taking T event call
taking T event call t = go (known_at T call) refl
  where
    go : (known : Option Known) → known_at T call ≡ known → Taking T event call
    go None is = ByNone t is
    go (Some (OfGet f)) is = ByGet f (record { takes = t; found = ap (option_and_then get_facts) is })
    go (Some (OfDisconnect f)) is = ByDisconnect f (record { takes = t; found = is })

-- an input begins no call
pub takes_begins : (T : Trace) (event : Event) (call q : ℕ) → Takes T event call → last_of (begins q) (effects_of T event) ≡ None
takes_begins T event call q t = ap (last_of (begins q)) t.effects ∙ go (known_at T call)
  where
    go : (known : Option Known) → last_of (begins q) (input_effects (world_at T) (cookies_with T) true call known t.input) ≡ None
    go None = refl
    go (Some k) = outcome_begins (world_at T) (cookies_with T) (kind_of k) call (page_of k) q (input_row (world_at T) k t.input)

-- ---- a call that is no get, or is over

none_asked : (o : Outcome) → Turn o → filter_map asks_token o.effects ≡ []
none_asked o (Gives finish other asked_none gave logins) = asked_none
none_asked o (GivesNone asked_none gave_none logins) = asked_none

-- it asks for no token
pub others_ask : (T : Trace) (event : Event) (call : ℕ) → Takes T event call → facts_at T call ≡ None
    → filter_map (asked call) (effects_of T event) ≡ []
others_ask T event call t none = go (taking T event call t)
  where
    turned : (f : DisconnectFacts) → (m : Knows T event call (OfDisconnect f))
        → Turn (input_row (world_at T) (OfDisconnect f) m.takes.input) → filter_map (asked call) (effects_of T event) ≡ []
    turned f m turn =
        ap (filter_map (asked call)) (does_it T event call (OfDisconnect f) m)
        ∙ outcome_asks (world_at T) (cookies_with T) (kind_of (OfDisconnect f)) call f.page
        (input_row (world_at T) (OfDisconnect f) m.takes.input)
        ∙ none_asked (input_row (world_at T) (OfDisconnect f) m.takes.input) turn

    go : Taking T event call → filter_map (asked call) (effects_of T event) ≡ []
    go (ByGet f m) = let no : Some f ≡ None = sym m.found ∙ none in absurd (cc)
    go (ByDisconnect f m) = turned f m (disconnect_turn (world_at T) f m.takes.input)
    go (ByNone taken is) = (over_quiet T event call taken is).asks

pub no_get : (facts : Option DisconnectFacts) → option_and_then get_facts (option_map OfDisconnect facts) ≡ None
no_get None = refl
no_get (Some facts) = refl

-- it is none then
pub others_after : (T : Trace) (line : ℕ) (event : Event) (call : ℕ) → Takes T event call → facts_at T call ≡ None
    → facts_at (with_event T line event) call ≡ None
others_after T line event call t none = go (taking T event call t)
  where
    go : Taking T event call → facts_at (with_event T line event) call ≡ None
    go (ByGet f m) = let no : Some f ≡ None = sym m.found ∙ none in absurd (cc)
    go (ByDisconnect f m) =
        ap (option_and_then get_facts) (known_taken T line event call (OfDisconnect f) m)
        ∙ no_get (disconnect.facts_after (world_at T) f m.takes.input (input_row (world_at T) (OfDisconnect f) m.takes.input))
    go (ByNone taken is) = ap (option_and_then get_facts) (still_over T line event call taken is)
