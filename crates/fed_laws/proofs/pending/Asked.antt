-- What stands of a call holds after every row: it asked for no token, or for one.
use Rattle.std.proofs.Common.{◌≡◌, ℕ, true, false, nat_eq, ◌≤◌, ◌⊎◌, inl, inr, List, [], ◌∷◌, ◌++◌, length}
use Rattle.std.proofs.Common.{Option, Some, None, map, refl}
use Rattle.std.proofs.Common.{sym, ap, subst, ◌∙◌, arith}
use Rattle.std.specs.Prelude.{unwrap_or}
use Rattle.std.specs.List.{filter_map, list_any}
use Rattle.fed_origin.specs.declared.stage.Stage.{Stage}
use Rattle.fed_origin.specs.declared.stage.Stage.TheVariants.{Choosing, Prompting, Asserting, Ended}
use Rattle.fed_consent.specs.declared.table.input.Input.{Input}
use Rattle.fed_call.specs.Facts.{Facts, at_stage, with_input, facts_after}
use Rattle.fed_consent.specs.Outcomes.{Outcome}
use Rattle.fed_script.specs.declared.event.Event.{Event}
use Rattle.fed_script.specs.declared.event.Header.{Header}
use Rattle.fed_consent.specs.declared.table.ask.Ask.TheVariants as asks
use Rattle.fed_consent.specs.Outcomes as outcomes
use Rattle.fed_laws.specs.Cause.{Asked}
use Rattle.fed_trace.specs.OfCall.{Has, asked, assertions}
use Rattle.fed_trace.specs.Begun.{GetCall}
use Rattle.fed_trace.specs.Call.{OfGet}
use Rattle.fed_trace.specs.Effect.{Sent, last_of, call_change, begins}
use Rattle.fed_trace.specs.Keyed.{last_said}
use Rattle.fed_trace.specs.Known.{world_at, facts_at}
use Rattle.fed_laws.specs.Laws.{AsksOnce, OfRuns}
use Rattle.fed_trace.specs.Row.{effects_of, row_of, with_event, cookies_with, IsNew, IsRun}
use Rattle.fed_trace.specs.Trace.{Row, Trace}
use Rattle.fed_trace.proofs.known.Facts.{get_page, same_call, same_origin_of, same_options}
use Rattle.fed_trace.proofs.happens.Ends.{Happens, Left, Ends, Started, Took, Resumed, Takes}
use Rattle.fed_trace.proofs.happens.Happens.{happens}
use Rattle.fed_trace.proofs.happens.Says.{outcome_begins, outcome_pending, asks_token, finish_of}
use Rattle.fed_laws.proofs.turns.Turn.{told, request_of, picks_asked, AsksToken, Turn, Asks, Gives, Goes as GoesOn, Reason, Chose, WentOn}
use Rattle.fed_laws.proofs.turns.Turn.{Suffices, turn_at}
use Rattle.fed_laws.proofs.pending.Stood.{AskedFor, Stood, Invariant, asked_on, left_page, stood_on, asks_same, unbegun_before}
use Rattle.fed_laws.proofs.pending.Stood.{invariant_by}
use Rattle.fed_laws.proofs.pending.Stood.{when_same, not_some, when_ended}
use Rattle.fed_laws.proofs.pending.Begun.{when_started}
use Rattle.fed_laws.proofs.pending.Resumed.{when_resumed}
use Rattle.fed_trace.proofs.happens.Taken.{Meets, outcome_of, does_at, facts_taken}
use Rattle.fed_laws.proofs.pending.Taken.{input_keeps_pages, asks_at, gives_at, after_by, still_pending, IgnoresOrEnds, ends_asserting}
use Rattle.fed_trace.proofs.happens.Gets.{others_ask, others_after}

-- what stands of a call that goes on after an input
stood_after : (T : Trace) (line : ℕ) (event : Event) (call : ℕ) (f f' : Facts) → (m : Meets T event call f) → Stood T call f
    → facts_after (world_at T) f m.takes.input (outcome_of T f m.takes.input) ≡ Some f'
    → filter_map finish_of (outcome_of T f m.takes.input).effects ≡ []
    → (f'.stage ≡ unwrap_or (outcome_of T f m.takes.input).stage f.stage
    → (assertions call (with_event T line event).rows ≡ []) ⊎ (f'.stage ≡ Asserting))
    → (f'.stage ≡ unwrap_or (outcome_of T f m.takes.input).stage f.stage
    → f'.picked ≡ (told (world_at T) f m.takes.input (outcome_of T f m.takes.input)).picked → f'.stage ≡ Asserting
    → AskedFor (with_event T line event).rows call f'.picked)
    → Stood (with_event T line event) call f'
stood_after T line event call f f' m s is gives asks asked_for =
    let input = m.takes.input in
    let o = outcome_of T f input in
    let ignored = list_any outcomes.is_ignored o.effects in
    let w = with_input (world_at T) ignored input f in
    let after = after_by (unwrap_or o.stage f.stage) w f' is in
    let at : f'.stage ≡ unwrap_or o.stage f.stage = ap (λ g. g.stage) after.is in
    let effects = does_at T event call f m in
    stood_on T line event call f f' s (input_keeps_pages event call input f.page m.takes.is_event)
    (ap (last_said nat_eq call_change call) effects ∙ outcome_pending (world_at T) (cookies_with T) GetCall call f.page call o
    ∙ still_pending GetCall call (OfGet w) f.stage o.stage after.going)
    (ap (last_of (begins call)) effects ∙ outcome_begins (world_at T) (cookies_with T) GetCall call f.page call o)
    (gives_at T event call f m ∙ ap (map (λ finish. (f.page, finish))) gives)
    (ap (λ g. g.call) after.is ∙ same_call (world_at T) ignored input f)
    (ap (λ g. g.page) after.is ∙ get_page (world_at T) ignored input f)
    (ap (λ g. g.origin) after.is ∙ same_origin_of (world_at T) ignored input f)
    (ap (λ g. g.options) after.is ∙ same_options (world_at T) ignored input f)
    (asks at) (asked_for at (ap (λ g. g.picked) after.is))

-- a call that asks for a token did not ask before
pub asks_first : (T : Trace) (call : ℕ) (f : Facts) (input : Input) (o : Outcome) → Stood T call f → AsksToken (world_at T) f input o
    → assertions call T.rows ≡ []
asks_first T call f input o s a = go s.asks a.reason
  where
    not_yet : (stage : Stage) → f.stage ≡ stage → f.stage ≡ Asserting → (stage ≡ Asserting → ⊥)
        → assertions call T.rows ≡ []
    not_yet stage now at other = absurd (other (sym now ∙ at))

    go : (assertions call T.rows ≡ []) ⊎ (f.stage ≡ Asserting) → Reason (world_at T) f input a.offered → assertions call T.rows ≡ []
    go (inl none) why = none
    go (inr at) (Chose place id choosing is found connected) = not_yet Choosing choosing at (λ h. cc)
    go (inr at) (WentOn prompting is ready picks) = not_yet Prompting prompting at (λ h. cc)
    go (inr at) (Suffices place kind raw progress open_still is settles_it named) = absurd (open_still at)

when_asks : (T : Trace) (line : ℕ) (event : Event) (call : ℕ) (f : Facts) → (m : Meets T event call f) → Invariant T call
    → AsksToken (world_at T) f m.takes.input (outcome_of T f m.takes.input) → Invariant (with_event T line event) call
when_asks T line event call f m h a =
    let s = h.stood f m.found in
    let o = outcome_of T f m.takes.input in
    let place = a.offered.place in
    let ask = request_of f a.offered a.manner a.disclosure in
    let cookies = cookies_with T (asks.Assertion ask) in
    let first = asks_first T call f m.takes.input o s a in
    let all : assertions call (with_event T line event).rows ≡ (place, ask) ∷ [] =
    ap (λ xs. xs ++ filter_map (asked call) (effects_of T event)) first ∙ asks_at T event call f m ∙ a.is.asks_it in
    let sends : Has (effects_of T event) (Sent GetCall call place (asks.Assertion ask) cookies) =
    subst (λ es. Has es (Sent GetCall call place (asks.Assertion ask) cookies)) (sym (does_at T event call f m))
    (a.is.sends (world_at T) (cookies_with T) call f.page) in
    let asked_now : Asked (with_event T line event).rows call place =
    record { since = []; asking = row_of T line event; before = T.rows; rows_are = refl; ask = ask; cookies = cookies; sends = sends } in
    record {
      few = subst (λ xs. length xs ≤ 1) (sym all) (omega arith);
      unbegun = λ new. let no : true ≡ false = sym m.takes.begun ∙ unbegun_before T line event call new in absurd (cc);
      stood = λ f' is.
          stood_after T line event call f f' m s (sym (facts_taken T line event call f m) ∙ is) a.is.gives
          (λ at. inr (at ∙ ap (λ st. unwrap_or st f.stage) a.is.stage))
          (λ at picked asserting. record {
            offered = a.offered;
            picks = picked ∙ picks_asked (world_at T) f m.takes.input o a;
            asked = asked_now;
            account = refl;
          });
    }

when_gives : (T : Trace) (line : ℕ) (event : Event) (call : ℕ) (f : Facts) → (m : Meets T event call f) → Invariant T call
    → (outcome_of T f m.takes.input).stage ≡ Some Ended → filter_map asks_token (outcome_of T f m.takes.input).effects ≡ []
    → Invariant (with_event T line event) call
when_gives T line event call f m h ended asks =
    invariant_by T line event call h (asks_at T event call f m ∙ asks)
    (λ f' is. not_some (facts_at (with_event T line event) call) f'
    (facts_taken T line event call f m
    ∙ ap (λ st. at_stage (unwrap_or st f.stage) (with_input (world_at T)
    (list_any outcomes.is_ignored (outcome_of T f m.takes.input).effects) m.takes.input f)) ended) is)

when_goes_on : (T : Trace) (line : ℕ) (event : Event) (call : ℕ) (f : Facts) → (m : Meets T event call f) → Invariant T call
    → filter_map asks_token (outcome_of T f m.takes.input).effects ≡ [] → filter_map finish_of (outcome_of T f m.takes.input).effects ≡ []
    → (unwrap_or (outcome_of T f m.takes.input).stage f.stage ≡ Asserting → f.stage ≡ Asserting) → Invariant (with_event T line event) call
when_goes_on T line event call f m h asks gives back =
    invariant_by T line event call h none
    (λ f' is. let now = sym (facts_taken T line event call f m) ∙ is in
    stood_after T line event call f f' m s now gives (λ at. stays f' now at s.asks)
    (λ at picked asserting. let was = back (sym at ∙ asserting) in
    keeps_account f' now picked was (ends_asserting (world_at T) f m.takes.input was)))
  where
    o : Outcome
    o = outcome_of T f m.takes.input

    s : Stood T call f
    s = h.stood f m.found

    none : filter_map (asked call) (effects_of T event) ≡ []
    none = asks_at T event call f m ∙ asks

    over : {A : Type 0} (f' : Facts) → facts_after (world_at T) f m.takes.input o ≡ Some f' → o.stage ≡ Some Ended → A
    over f' now ended =
        not_some (facts_after (world_at T) f m.takes.input o) f'
        (ap (λ st. at_stage (unwrap_or st f.stage) (told (world_at T) f m.takes.input o)) ended) now

    keeps_account : (f' : Facts) → facts_after (world_at T) f m.takes.input o ≡ Some f'
        → f'.picked ≡ (told (world_at T) f m.takes.input o).picked → f.stage ≡ Asserting
        → IgnoresOrEnds o → AskedFor (with_event T line event).rows call f'.picked
    keeps_account f' now picked was (inl ignores) =
        subst (AskedFor (with_event T line event).rows call)
        (sym (picked ∙ ap (λ x. (told (world_at T) f m.takes.input x).picked) ignores.1))
        (asked_on T.rows (row_of T line event) call f.picked (s.asked_for was))
    keeps_account f' now picked was (inr ended) = over f' now ended

    by : (f' : Facts) → facts_after (world_at T) f m.takes.input o ≡ Some f' → f'.stage ≡ unwrap_or o.stage f.stage
        → f.stage ≡ Asserting
        → IgnoresOrEnds o → f'.stage ≡ Asserting
    by f' now at was (inl ignores) = at ∙ ap (λ x. unwrap_or x.stage f.stage) ignores.1 ∙ was
    by f' now at was (inr ended) = over f' now ended

    stays : (f' : Facts) → facts_after (world_at T) f m.takes.input o ≡ Some f' → f'.stage ≡ unwrap_or o.stage f.stage
        → (assertions call T.rows ≡ []) ⊎ (f.stage ≡ Asserting)
        → (assertions call (with_event T line event).rows ≡ []) ⊎ (f'.stage ≡ Asserting)
    stays f' now at (inl first) = inl (asks_same T line event call none ∙ first)
    stays f' now at (inr was) = inr (by f' now at was (ends_asserting (world_at T) f m.takes.input was))

-- the call is no get, or is over
when_over : (T : Trace) (line : ℕ) (event : Event) (call : ℕ) → Invariant T call → Takes T event call → facts_at T call ≡ None
    → Invariant (with_event T line event) call
when_over T line event call h t none =
    invariant_by T line event call h (others_ask T event call t none)
    (λ f is. not_some (facts_at (with_event T line event) call) f (others_after T line event call t none) is)

when_took : (T : Trace) (line : ℕ) (event : Event) (call : ℕ) → Invariant T call → (t : Takes T event call) → (o : Option Facts)
    → facts_at T call ≡ o
    → Invariant (with_event T line event) call
when_took T line event call h t None found = when_over T line event call h t found
when_took T line event call h t (Some f) found = go (turn_at (world_at T) f t.input)
  where
    m : Meets T event call f
    m = record { takes = t; found = found }

    go : Turn (world_at T) f t.input (outcome_of T f t.input) → Invariant (with_event T line event) call
    go (Asks a) = when_asks T line event call f m h a
    go (Gives finish ended asks gives token) = when_gives T line event call f m h ended asks
    go (GoesOn asks gives leaves back) = when_goes_on T line event call f m h asks gives back

-- ---- every row

kept_by_row : (T : Trace) (line : ℕ) (event : Event) (call : ℕ) → IsNew T.rows event → Invariant T call
    → Invariant (with_event T line event) call
kept_by_row T line event call new h = go (happens T event call)
  where
    go : Happens T event call → Invariant (with_event T line event) call
    go (Left l) = when_same T line event call h l.quiet l.same (λ f s. left_page T event call f l s)
    go (Ends e) = when_ended T line event call h e
    go (Started s) = when_started T line event call new h s
    go (Took t) = when_took T line event call h t (facts_at T call) refl
    go (Resumed r) = when_resumed T line event call h r

-- a row whose effects are those of its event is that of the event
pub row_is : (T : Trace) (row : Row) → row.effects ≡ effects_of T row.event → row ≡ row_of T row.line row.event
row_is T row h = ap (λ es. let r : Row = record { line = row.line; event = row.event; effects = es } in r) h

pub invariant : (header : Header) (rows : List Row) (call : ℕ) → IsRun header rows
    → Invariant (record { header = header; rows = rows }) call
invariant header [] call run = record { few = omega arith; unbegun = λ new. refl; stood = λ f is. absurd (cc) }
invariant header (row ∷ rows) call run =
    let T : Trace = record { header = header; rows = rows } in
    subst (λ r. Invariant (record { header = header; rows = r ∷ rows }) call) (sym (row_is T row run.0))
    (kept_by_row T row.line row.event call run.1 (invariant header rows call run.2))

pub asks_once_lem : OfRuns AsksOnce
asks_once_lem T run call = (invariant T.header T.rows call run).few
