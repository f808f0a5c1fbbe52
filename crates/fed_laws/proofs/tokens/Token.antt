-- A token reaches the page whose call was answered.
use Rattle.std.proofs.Common.{◌≡◌, ℕ, true, false, Bool, List, [], ◌∷◌, ◌++◌, Option, Some, None, map}
use Rattle.std.proofs.Common.{refl, sym, ap}
use Rattle.std.proofs.Common.{subst, ◌∙◌, cond}
use Rattle.std.proofs.lemmas.List.Elements.{filter_map-append}
use Rattle.std.specs.List.{filter_map, cons_option}
use Rattle.fed_origin.specs.declared.stage.ReplyKind.TheVariants as kinds
use Rattle.fed_origin.specs.Origin.{origin_text}
use Rattle.fed_token.specs.Read.{AssertionOf}
use Rattle.fed_consent.specs.declared.table.finish.Finish.{Finish}
use Rattle.fed_consent.specs.declared.table.finish.Finish.TheVariants.{Token, Failed}
use Rattle.fed_call.specs.Facts.{Facts}
use Rattle.fed_script.specs.declared.event.Event.{Event}
use Rattle.fed_script.specs.declared.event.Event.TheVariants as events
use Rattle.fed_script.specs.declared.event.Header.{Header}
use Rattle.fed_trace.specs.OfCall.{Has, given}
use Rattle.fed_laws.specs.Cause.{Asked, Delivers}
use Rattle.fed_trace.specs.Effect.{Effect, Result}
use Rattle.fed_trace.specs.Known.{world_at, facts_at}
use Rattle.fed_laws.specs.Laws.{OfRuns, ReachesItsPage, at}
use Rattle.fed_trace.specs.Row.{effects_of, cookies_with, outcome_effects, IsNew, IsRun}
use Rattle.fed_trace.specs.Trace.{Row, Trace, page_at}
use Rattle.fed_laws.proofs.pending.Asked.{invariant}
use Rattle.fed_trace.proofs.happens.First.{FirstTurn, FailsFirst, ReadsFirst, GathersFirst, first_turn, is_first}
use Rattle.fed_trace.proofs.happens.Disconnects.{Turn as DisconnectTurn, Gives as GivesOther, GivesNone, is_token, disconnect_turn}
use Rattle.fed_trace.proofs.happens.Gets.{Taking, ByGet, ByDisconnect, ByNone, taking}
use Rattle.fed_trace.proofs.happens.Over.{over_quiet}
use Rattle.fed_disconnect.specs.Facts.{DisconnectFacts}
use Rattle.fed_trace.specs.Begun.{kind_asked}
use Rattle.fed_trace.specs.Call.{OfDisconnect, kind_of, first_row, input_row}
use Rattle.fed_laws.proofs.pending.Stood.{Stood, Invariant}
use Rattle.fed_trace.proofs.happens.Taken.{Meets, Knows, does_it, outcome_of}
use Rattle.fed_laws.proofs.pending.Taken.{gives_at}
use Rattle.fed_trace.proofs.happens.Ends.{Happens, Left, Ends, Started, Took, Resumed, Starts, Takes, event_for}
use Rattle.fed_trace.proofs.happens.Happens.{happens}
use Rattle.fed_trace.proofs.happens.Says.{own, outcome_gives, finish_of}
use Rattle.fed_laws.proofs.turns.Turn.{Turn, Asks, Gives, Goes, IfToken, InReply, turn_at}

-- ---- a row of what happened, and what happened before it

pub record RowOf (header : Header) (row : Row) (before : List Row) : Type 0 where
  pub effects : row.effects ≡ effects_of (record { header = header; rows = before }) row.event
  pub new : IsNew before row.event
  pub run : IsRun header before

row_at : (header : Header) (after before : List Row) (row : Row) → IsRun header (after ++ row ∷ before) → RowOf header row before
row_at header [] before row run = record { effects = run.0; new = run.1; run = run.2 }
row_at header (later ∷ after) before row run = row_at header after before row run.2

pub row_of_trace : (T : Trace) (after before : List Row) (row : Row) → IsRun T.header T.rows → T.rows ≡ after ++ row ∷ before
    → RowOf T.header row before
row_of_trace T after before row run is = row_at T.header after before row (subst (IsRun T.header) is run)

-- ---- an effect among effects

none_among : {A B : Type 0} (x : A) (xs ys : List A) → xs ++ x ∷ ys ≡ [] → B
none_among x [] ys h = absurd (cc)
none_among x (y ∷ xs) ys h = let no : y ∷ (xs ++ x ∷ ys) ≡ [] = h in absurd (cc)

only_among : {A : Type 0} (x y : A) (xs ys : List A) → xs ++ x ∷ ys ≡ y ∷ [] → x ≡ y
only_among x y [] ys h = cc
only_among x y (z ∷ xs) ys h = let rest : xs ++ x ∷ ys ≡ [] = cc in none_among x xs ys rest

said_among : {A : Type 0} (said : Effect → Option A) (effects : List Effect) (e : Effect) (x : A) → (has : Has effects e) → said e ≡ Some x
    → filter_map said effects ≡ filter_map said has.before ++ x ∷ filter_map said has.after
said_among said effects e x has is =
    ap (filter_map said) has.all ∙ filter_map-append said has.before (e ∷ has.after)
    ∙ ap (λ o. filter_map said has.before ++ cons_option o (filter_map said has.after)) is

pub says_none : {A B : Type 0} (said : Effect → Option A) (effects : List Effect) (e : Effect) (x : A) → Has effects e
    → said e ≡ Some x
    → filter_map said effects ≡ [] → B
says_none said effects e x has is none =
    none_among x (filter_map said has.before) (filter_map said has.after) (sym (said_among said effects e x has is) ∙ none)

pub says_one : {A : Type 0} (said : Effect → Option A) (effects : List Effect) (e : Effect) (x y : A) → Has effects e
    → said e ≡ Some x
    → filter_map said effects ≡ y ∷ [] → x ≡ y
says_one said effects e x y has is one =
    only_among x y (filter_map said has.before) (filter_map said has.after) (sym (said_among said effects e x has is) ∙ one)

-- ---- the token

-- the event of a call that is answered
delivers : (T : Trace) (event : Event) (call page provider : ℕ) (token : List ℕ) (f : Facts) → (m : Meets T event call f)
    → Stood T call f
    → page ≡ f.page
    → InReply f m.takes.input (outcome_of T f m.takes.input) provider token → Delivers T event call page provider token
delivers T event call page provider token f m s is r =
    let came : Some event
    ≡ Some (events.Reply call r.offered.place kinds.Assertion r.raw) = m.takes.is_event ∙ ap (event_for call) r.is_reply in
    let reply : event ≡ events.Reply call r.offered.place kinds.Assertion r.raw = cc in
    let for_it = s.asked_for r.asserting in
    let both : Some for_it.offered ≡ Some r.offered = sym for_it.picks ∙ r.picks in
    let offered_is : for_it.offered ≡ r.offered = cc in
    record {
      begun = s.begun;
      undisturbed = s.undisturbed;
      is_page = is ∙ s.of_page;
      stands = ap (page_at T) is ∙ s.page ∙ ap Some s.of_origin;
      asked = subst (Asked T.rows call) (ap (λ x. x.place) offered_is ∙ sym r.is_from) for_it.asked;
      raw = r.raw;
      is_reply = reply ∙ ap (λ place. events.Reply call place kinds.Assertion r.raw) (sym r.is_from);
      reads = ap (λ o. AssertionOf r.raw (origin_text o)) (sym s.of_origin) ∙ r.reads;
    }

delivered : (T : Trace) (event : Event) (call page provider : ℕ) (auto : Bool) (token : List ℕ) → IsNew T.rows event → Invariant T call
    → Has (effects_of T event) (Result call page (Token auto provider token)) → Delivers T event call page provider token
delivered T event call page provider auto token new h has = go (happens T event call)
  where
    finish : Finish
    finish = Token auto provider token

    is : given call (Result call page finish) ≡ Some (page, finish)
    is = ap (λ b. cond b (Some (page, finish)) None) (own call)

    never : filter_map (given call) (effects_of T event) ≡ [] → Delivers T event call page provider token
    never none = says_none (given call) (effects_of T event) (Result call page finish) (page, finish) has is none

    same : (p : ℕ) (other : Finish) → filter_map (given call) (effects_of T event) ≡ (p, other) ∷ []
        → ◌≡◌ {A = ℕ × Finish} (page, finish) (p, other)
    same p other gives = says_one (given call) (effects_of T event) (Result call page finish) (page, finish) (p, other) has is gives

    turned : (f : Facts) → (m : Meets T event call f) → Turn (world_at T) f m.takes.input (outcome_of T f m.takes.input)
        → Delivers T event call page provider token
    turned f m (Asks a) =
        never (gives_at T event call f m ∙ ap (map (λ x. (f.page, x))) a.is.gives)
    turned f m (Goes asks gives leaves back) = never (gives_at T event call f m ∙ ap (map (λ x. (f.page, x))) gives)
    turned f m (Gives other ended asks gives token_in) =
        let both = same f.page other (gives_at T event call f m ∙ ap (map (λ x. (f.page, x))) gives) in
        let page_is : page ≡ f.page = ap (λ x. x.0) both in
        let finish_is : finish ≡ other = ap (λ x. x.1) both in
        delivers T event call page provider token f m (h.stood f m.found) page_is
        (subst (IfToken f m.takes.input (outcome_of T f m.takes.input)) (sym finish_is) token_in)

    gave : (f : DisconnectFacts) → (m : Knows T event call (OfDisconnect f))
        → filter_map (given call) (effects_of T event)
        ≡ map (λ x. (f.page, x)) (filter_map finish_of (input_row (world_at T) (OfDisconnect f) m.takes.input).effects)
    gave f m =
        ap (filter_map (given call)) (does_it T event call (OfDisconnect f) m)
        ∙ outcome_gives (world_at T) (cookies_with T) (kind_of (OfDisconnect f)) call f.page
        (input_row (world_at T) (OfDisconnect f) m.takes.input)

    turned_other : (f : DisconnectFacts) → (m : Knows T event call (OfDisconnect f))
        → DisconnectTurn (input_row (world_at T) (OfDisconnect f) m.takes.input) → Delivers T event call page provider token
    turned_other f m (GivesNone asks none logins) = never (gave f m ∙ ap (map (λ x. (f.page, x))) none)
    turned_other f m (GivesOther other no_token asks gives logins) =
        let both = same f.page other (gave f m ∙ ap (map (λ x. (f.page, x))) gives) in
        let no : true ≡ false = ap is_token (ap (λ x. x.1) both) ∙ no_token in
        absurd (cc)

    others : (t : Takes T event call) → Taking T event call → facts_at T call ≡ None → Delivers T event call page provider token
    others t (ByGet f m) none = let no : Some f ≡ None = sym m.found ∙ none in absurd (cc)
    others t (ByDisconnect f m) none = turned_other f m (disconnect_turn (world_at T) f m.takes.input)
    others t (ByNone u is) none = never (over_quiet T event call u is).gives

    taken : (t : Takes T event call) → (o : Option Facts) → facts_at T call ≡ o → Delivers T event call page provider token
    taken t None found =
        others t (taking T event call t) found
    taken t (Some f) found = turned f (record { takes = t; found = found }) (turn_at (world_at T) f t.input)

    begins_with : (s : Starts T event call) → FirstTurn (first_row (world_at T) s.busy s.begun.origin s.begun.options)
        → Delivers T event call page provider token
    begins_with s turn = under turn
      where
        gives : filter_map (given call) (effects_of T event)
            ≡ map (λ x. (s.begun.page, x)) (filter_map finish_of (first_row (world_at T) s.busy s.begun.origin s.begun.options).effects)
        gives =
            ap (filter_map (given call)) s.effects
            ∙ ap (λ c. filter_map (given c) (outcome_effects (world_at T) (cookies_with T) (kind_asked s.begun.options) s.begun.call
            s.begun.page (first_row (world_at T) s.busy s.begun.origin s.begun.options))) (sym s.is_call)
            ∙ outcome_gives (world_at T) (cookies_with T) (kind_asked s.begun.options) s.begun.call s.begun.page
            (first_row (world_at T) s.busy s.begun.origin s.begun.options)

        under : FirstTurn (first_row (world_at T) s.busy s.begun.origin s.begun.options) → Delivers T event call page provider token
        under (GathersFirst gathering asks none) = never (gives ∙ ap (map (λ x. (s.begun.page, x))) none)
        under (ReadsFirst reading asks none) = never (gives ∙ ap (map (λ x. (s.begun.page, x))) none)
        under (FailsFirst failure ended asks fails) =
            let both = same s.begun.page (Failed failure) (gives ∙ ap (map (λ x. (s.begun.page, x))) fails) in
            let no : finish ≡ Failed failure = ap (λ x. x.1) both in
            absurd (cc)

    go : Happens T event call → Delivers T event call page provider token
    go (Left l) = never l.quiet.gives
    go (Ends e) = never e.gives
    go (Started s) =
        begins_with s (first_turn (world_at T) s.busy s.begun.origin s.begun.options
        (is_first T event s.begun.page s.begun.call s.begun.options new s.is_event).some)
    go (Took t) = taken t (facts_at T call) refl
    go (Resumed r) = never r.gives

pub token_lem : OfRuns ReachesItsPage
token_lem T run after before row call page provider auto token is has =
    let r = row_of_trace T after before row run is in
    delivered (at T before) row.event call page provider auto token r.new (invariant T.header before call r.run)
    (subst (λ es. Has es (Result call page (Token auto provider token))) r.effects has)
