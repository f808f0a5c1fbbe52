-- A token that a reply holds reaches the page that awaits it.
use Rattle.fed_call.specs.AssertingRows.{asserting_reply, assertion_reply, by_token, clears, keeps, picked_at, token_refused}
use Rattle.fed_call.specs.Accounts.{Offered}
use Rattle.fed_call.specs.DialogRows.{chose, went_on, cancelled}
use Rattle.fed_call.specs.WindowRows.{asked_to_sign_in, resumed, window_shut}
use Rattle.fed_consent.specs.Outcomes as outcomes
use Rattle.fed_call.specs.Facts.{Facts, at_stage, with_input}
use Rattle.fed_consent.specs.Outcomes.{Outcome, finishes}
use Rattle.fed_call.specs.Row.{input_row, stage_reply}
use Rattle.fed_consent.specs.Consent.{AssertionFields}
use Rattle.fed_consent.specs.declared.table.ask.Ask.{Ask}
use Rattle.fed_consent.specs.declared.table.ask.Ask.TheVariants as asks
use Rattle.fed_consent.specs.declared.table.finish.Finish.TheVariants.{Token}
use Rattle.fed_consent.specs.declared.table.finish.Finish.{Finish}
use Rattle.fed_consent.specs.declared.table.input.Input.TheVariants as inputs
use Rattle.fed_consent.specs.declared.table.input.Input.{Input}
use Rattle.fed_origin.specs.Origin.{origin_text}
use Rattle.fed_origin.specs.WebUrl.{origin_of}
use Rattle.fed_status.specs.Kept.{triple_of}
use Rattle.fed_origin.specs.declared.origin.Origin.{Origin}
use Rattle.fed_origin.specs.declared.stage.ReplyKind.TheVariants as kinds
use Rattle.fed_origin.specs.declared.stage.ReplyKind.{ReplyKind}
use Rattle.fed_origin.specs.declared.stage.Stage.TheVariants.{Window, Asserting, Ended}
use Rattle.fed_script.specs.declared.event.Event.TheVariants.{Reply}
use Rattle.fed_script.specs.declared.event.Event.{Event}
use Rattle.fed_script.specs.declared.event.Header.{Header}
use Rattle.fed_laws.proofs.pending.Asked.{invariant, row_is}
use Rattle.fed_laws.proofs.pending.Begun.{first_asks_none}
use Rattle.fed_trace.proofs.happens.First.{first_turn, is_first}
use Rattle.fed_trace.proofs.happens.Ends.{Happens, Left, Ends, Started, Took, Resumed, EndsWithPage, Starts, Takes}
use Rattle.fed_trace.proofs.known.Facts.{get_page, same_origin_of}
use Rattle.fed_trace.proofs.happens.Happens.{happens}
use Rattle.fed_trace.proofs.keyed.Keyed.{IsAbsent, AreDistinct, distinct_standing, lookup-standing}
use Rattle.fed_trace.proofs.happens.Says.{own, outcome_asks, finish_of}
use Rattle.fed_trace.proofs.happens.Gets.{facts_same, others_ask}
use Rattle.fed_trace.proofs.calls.Pending.{is_among}
use Rattle.fed_laws.proofs.pending.Stood.{Invariant, Stood, get_at}
use Rattle.fed_trace.proofs.happens.Taken.{Meets, is_get, facts_taken, outcome_of}
use Rattle.fed_laws.proofs.pending.Resumed.{stage_resumed}
use Rattle.fed_laws.proofs.pending.Taken.{IgnoresOrEnds, asks_at, ends_asserting, gives_at}
use Rattle.fed_laws.proofs.tokens.Token.{row_of_trace, says_none, says_one}
use Rattle.fed_laws.proofs.turns.Turn.{Turn, Asks, Gives, Goes, gives_token, picks_asked, request_of, told, turn_at}
use Rattle.fed_trace.specs.Begun.{Begun, CallKind, GetCall, kind_asked}
use Rattle.fed_trace.specs.Call.{OfGet, first_row}
use Rattle.fed_trace.specs.OfCall.{Has, asked, call_at, disturbs, given, is_result, replaces}
use Rattle.fed_trace.specs.Effect.{Effect, PendingCall, Flag, Kept, Move, Result, Sent, call_change}
use Rattle.fed_trace.specs.Known.{world_at, is_begun, known_at, facts_at}
use Rattle.fed_laws.specs.Laws.{IsAnswered, OfRuns, at}
use Rattle.fed_trace.specs.Row.{effects_of, row_of, with_event, cookies_with, outcome_effects, input_effects, IsNew, IsRun}
use Rattle.fed_trace.specs.Trace.{Row, Trace, by_kind, calls_of, pending}
use Rattle.fed_status.specs.Shared.{World}
use Rattle.fed_token.specs.Read.{AssertionOf}
use Rattle.fed_token.specs.declared.step.TokenStep.{TokenStep}
use Rattle.std.proofs.Common.{◌≡◌, ℕ, Bool, true, false, nat_eq, ◌==◌, ◌||◌, ◌⊎◌, inl, inr, List, [], ◌∷◌}
use Rattle.std.proofs.Common.{◌++◌, Option, Some, None}
use Rattle.std.proofs.Common.{Result as Answer, Ok, Err, map, refl, sym, ap, subst, ◌∙◌, arith, cond}
use Rattle.std.proofs.lemmas.Bool.Decides.{nat_tests}
use Rattle.std.specs.List.{filter_map, cons_option, list_any}
use Rattle.std.specs.Map.{lookup}
use Rattle.std.specs.Prelude.{filter, unwrap_or, is_some}

-- ---- a call that ends with its page is of that page

absent_unlisted : (call page : ℕ) (es : List (ℕ × PendingCall)) → IsAbsent call es → is_among call (calls_of page es) ≡ false
absent_unlisted call page [] h = refl
absent_unlisted call page (e ∷ es) h =
    let here : nat_eq call e.0 ≡ false = grind (arith, nat_tests, h) in
    let tail : IsAbsent call es = grind (arith, nat_tests, h) in
    go here (absent_unlisted call page es tail) (e.1.page == page)
  where
    go : nat_eq call e.0 ≡ false → is_among call (calls_of page es) ≡ false → (b : Bool)
        → is_among call (map by_kind (cond b (e ∷ filter (λ c. c.1.page == page) es) (filter (λ c. c.1.page == page) es))) ≡ false
    go here rest true = ap (λ b. b || is_among call (calls_of page es)) here ∙ rest
    go here rest false = rest

pub listed_page : (call page : ℕ) (at : PendingCall) (es : List (ℕ × PendingCall)) → AreDistinct es
    → lookup (nat_eq call) es ≡ Some at
    → is_among call (calls_of page es) ≡ true → at.page ≡ page
listed_page call page at [] distinct found listed = absurd (cc)
listed_page call page at (e ∷ es) distinct found listed =
    go (nat_eq call e.0) refl (e.1.page == page) refl (listed_page call page at es distinct.1) found listed
  where
    go : (own_key : Bool) → nat_eq call e.0 ≡ own_key → (b : Bool) → (e.1.page == page) ≡ b
        → (lookup (nat_eq call) es ≡ Some at → is_among call (calls_of page es) ≡ true → at.page ≡ page)
        → cond own_key (Some e.1) (lookup (nat_eq call) es) ≡ Some at
        → is_among call (map by_kind (cond b (e ∷ filter (λ c. c.1.page == page) es) (filter (λ c. c.1.page == page) es))) ≡ true
        → at.page ≡ page
    go true key true is rest found listed =
        let at_is : e.1 ≡ at = cc in
        let page_is : e.1.page ≡ page = grind (arith, nat_tests, is) in
        ap (λ (v : PendingCall). v.page) (sym at_is) ∙ page_is
    go true key false is rest found listed =
        let same : e.0 ≡ call = grind (arith, nat_tests, key) in
        let no : false ≡ true = sym (absent_unlisted call page es (subst (λ k. IsAbsent k es) same distinct.0)) ∙ listed in
        absurd (cc)
    go false key true is rest found listed =
        rest found (sym (ap (λ t. t || is_among call (calls_of page es)) key) ∙ listed)
    go false key false is rest found listed = rest found listed

-- ---- a call that awaits its token

-- the call asked this provider for a token, and is of this page and this origin
record Awaits (T : Trace) (call page provider : ℕ) (origin : Origin) : Type 0 where
  facts : Facts
  found : facts_at T call ≡ Some facts
  at : facts.stage ≡ Asserting
  of_page : facts.page ≡ page
  of_origin : facts.origin ≡ origin
  offered : Offered
  picks : facts.picked ≡ Some offered
  is_provider : offered.place ≡ provider

-- at an input it stays, or gives its page a result
abbrev StaysOrGives : Outcome → Type 0
StaysOrGives o = (o.stage ≡ None) ⊎ ((finish : Finish) × (filter_map finish_of o.effects ≡ finish ∷ []))

token_gives : (f : Facts) (offered : Offered) (read : Answer (List ℕ) TokenStep) → StaysOrGives (by_token f offered read)
token_gives f offered (Ok token) =
    let finish = Token f.auto offered.place token in
    let g = gives_token f.origin offered f.auto finish in
    inr (finish, g.gives)
token_gives f offered (Err step) = inr (token_refused step, refl)

assertion_gives : (f : Facts) (offered : Option Offered) (raw : List ℕ) → StaysOrGives (assertion_reply f offered raw)
assertion_gives f None raw = inl refl
assertion_gives f (Some offered) raw = token_gives f offered (AssertionOf raw (origin_text f.origin))

asserting_gives : (f : Facts) (place : ℕ) (kind : ReplyKind) (raw : List ℕ) → StaysOrGives (asserting_reply f place kind raw)
asserting_gives f place kinds.Assertion raw = assertion_gives f (picked_at place f.picked) raw
asserting_gives f place kinds.WellKnown raw = inl refl
asserting_gives f place kinds.Config raw = inl refl
asserting_gives f place kinds.Accounts raw = inl refl
asserting_gives f place kinds.Metadata raw = inl refl
asserting_gives f place kinds.Disconnect raw = inl refl

stays_or_gives : (world : World) (f : Facts) (input : Input) → f.stage ≡ Asserting → StaysOrGives (input_row world f input)
stays_or_gives world f (inputs.Reply place kind raw) at =
    subst (λ st. StaysOrGives (stage_reply world f st place kind raw)) (sym at)
    (asserting_gives f place kind raw)
stays_or_gives world f (inputs.Choose place id) at = subst (λ st. StaysOrGives (chose world f st place id)) (sym at) (inl refl)
stays_or_gives world f inputs.GoOn at = subst (λ st. StaysOrGives (went_on f st)) (sym at) (inl refl)
stays_or_gives world f inputs.Cancel at = subst (λ st. StaysOrGives (cancelled st)) (sym at) (inl refl)
stays_or_gives world f inputs.Abort at = inr (_, refl)
stays_or_gives world f inputs.SignIn at = subst (λ st. StaysOrGives (asked_to_sign_in f st)) (sym at) (inl refl)
stays_or_gives world f inputs.Shut at = subst (λ st. StaysOrGives (window_shut st)) (sym at) (inl refl)
stays_or_gives world f inputs.Resume at = subst (λ st. StaysOrGives (resumed f st)) (sym at) (inl refl)

-- a row that gives the call a result disturbs it
pub result_disturbs : (call : ℕ) (effects : List Effect) (x : ℕ × Finish) (xs : List (ℕ × Finish))
    → filter_map (given call) effects ≡ x ∷ xs → list_any (is_result call) effects ≡ true
result_disturbs call [] x xs h = absurd (cc)
result_disturbs call (e ∷ effects) x xs h = go (given call e) refl (result_disturbs call effects x xs)
  where
    go : (o : Option (ℕ × Finish)) → given call e ≡ o
        → (filter_map (given call) effects ≡ x ∷ xs → list_any (is_result call) effects ≡ true)
        → list_any (is_result call) (e ∷ effects) ≡ true
    go (Some y) is rest = ap (λ o. is_some o || list_any (is_result call) effects) is
    go None is rest =
        ap (λ o. is_some o || list_any (is_result call) effects) is
        ∙ rest (sym (ap (λ o. cons_option o (filter_map (given call) effects)) is) ∙ h)

pub not_both : {A : Type 0} (a b : Bool) → a || b ≡ false → (a ≡ true) ⊎ (b ≡ true) → A
not_both true b h e = absurd (cc)
not_both false true h e = absurd (cc)
not_both false false h (inl e) = absurd (cc)
not_both false false h (inr e) = absurd (cc)

-- the facts of a call that moves to Asserting, or stays there
awaits_by : (T : Trace) (line : ℕ) (event : Event) (call page provider : ℕ) (origin : Origin) (f : Facts) → (m : Meets T event call f)
    → unwrap_or (outcome_of T f m.takes.input).stage f.stage ≡ Asserting → f.page ≡ page → f.origin ≡ origin
    → (offered : Offered) → (told (world_at T) f m.takes.input (outcome_of T f m.takes.input)).picked ≡ Some offered
    → offered.place ≡ provider
    → Awaits (with_event T line event) call page provider origin
awaits_by T line event call page provider origin f m to of_page of_origin offered picks is_provider =
    let input = m.takes.input in
    let ignored = list_any outcomes.is_ignored (outcome_of T f input).effects in
    let w = with_input (world_at T) ignored input f in
    record {
      facts = record w { stage = Asserting };
      found = facts_taken T line event call f m ∙ ap (λ st. at_stage st w) to;
      at = refl;
      of_page = get_page (world_at T) ignored input f ∙ of_page;
      of_origin = same_origin_of (world_at T) ignored input f ∙ of_origin;
      offered = offered;
      picks = picks;
      is_provider = is_provider;
    }

pub or_left : (a b : Bool) → a || b ≡ false → a ≡ false
or_left true b h = absurd (cc)
or_left false b h = refl

pub or_right : (a b : Bool) → a || b ≡ false → b ≡ false
or_right true b h = absurd (cc)
or_right false b h = h

-- it awaits its token after a row that does not disturb it
awaits_on : (T : Trace) (line : ℕ) (event : Event) (call page provider : ℕ) (origin : Origin) → IsNew T.rows event → Invariant T call
    → (a : Awaits T call page provider origin)
    → disturbs call page (row_of T line event) ≡ false → Awaits (with_event T line event) call page provider origin
awaits_on T line event call page provider origin new h a calm = go (happens T event call)
  where
    s : Stood T call a.facts
    s = h.stood a.facts a.found

    replaced : (e : EndsWithPage T event call) → replaces page event ≡ true
    replaced e =
        let at_page : a.facts.page ≡ e.page =
        listed_page call e.page (get_at a.facts.page) (pending T) (distinct_standing call_change T.rows)
        (lookup-standing call_change call T.rows ∙ s.pending) e.there in
        ap (λ p. replaces p event) (sym a.of_page ∙ at_page) ∙ e.replaced

    keeps_pick : (m : Meets T event call a.facts) → IgnoresOrEnds (outcome_of T a.facts m.takes.input)
        → (outcome_of T a.facts m.takes.input).stage ≡ None
        → (told (world_at T) a.facts m.takes.input (outcome_of T a.facts m.takes.input)).picked ≡ a.facts.picked
    keeps_pick m (inl ignores) stays = ap (λ x. (told (world_at T) a.facts m.takes.input x).picked) ignores.1
    keeps_pick m (inr ended) stays = let no : None ≡ Some Ended = sym stays ∙ ended in absurd (cc)

    taken : (m : Meets T event call a.facts) → StaysOrGives (outcome_of T a.facts m.takes.input)
        → Awaits (with_event T line event) call page provider origin
    taken m (inl stays) =
        awaits_by T line event call page provider origin a.facts m (ap (λ st. unwrap_or st a.facts.stage) stays
        ∙ a.at) a.of_page a.of_origin
        a.offered (keeps_pick m (ends_asserting (world_at T) a.facts m.takes.input a.at) stays ∙ a.picks) a.is_provider
    taken m (inr gives) =
        let result =
        result_disturbs call (effects_of T event) (a.facts.page, gives.0) [] (gives_at T event call a.facts m
        ∙ ap (map {B = ℕ × Finish} (λ x. (a.facts.page, x))) gives.1) in
        not_both (replaces page event) (list_any (is_result call) (effects_of T event)) calm (inr result)

    go : Happens T event call → Awaits (with_event T line event) call page provider origin
    go (Left l) =
        record {
          facts = a.facts;
          found = facts_same T line event call l.quiet.stage l.quiet.begins_none l.same ∙ a.found;
          at = a.at;
          of_page = a.of_page;
          of_origin = a.of_origin;
          offered = a.offered;
          picks = a.picks;
          is_provider = a.is_provider;
        }
    go (Ends e) = not_both (replaces page event) (list_any (is_result call) (effects_of T event)) calm (inl (replaced e))
    go (Started b) =
        let fresh : is_begun T call ≡ false =
        subst (λ c. is_begun T c ≡ false) b.is_call (is_first T event b.begun.page b.begun.call b.begun.options new b.is_event).fresh in
        let no : true ≡ false = sym s.is_taken ∙ fresh in
        absurd (cc)
    go (Took t) =
        let m : Meets T event call a.facts = record { takes = t; found = a.found } in
        taken m (stays_or_gives (world_at T) a.facts t.input a.at)
    go (Resumed r) = let no : Window ≡ Asserting = sym (stage_resumed T event call a.facts r a.found) ∙ a.at in absurd (cc)

-- it awaits its token after the row that asks for it
awaits_first : (T : Trace) (line : ℕ) (event : Event) (kind : CallKind) (call provider : ℕ) (ask : AssertionFields) (cookies : List ℕ)
    (b : Begun) → IsNew T.rows event → Invariant T call
    → call_at T.rows call ≡ Some b → Has (effects_of T event) (Sent kind call provider (asks.Assertion ask) cookies)
    → Awaits (with_event T line event) call b.page provider b.origin
awaits_first T line event kind call provider ask cookies b new h began has = go (happens T event call)
  where
    sent : Effect
    sent = Sent kind call provider (asks.Assertion ask) cookies

    is : asked call sent ≡ Some (provider, ask)
    is = ap (λ t. cond t (Some (provider, ask)) None) (own call)

    never : filter_map (asked call) (effects_of T event) ≡ [] → Awaits (with_event T line event) call b.page provider b.origin
    never none = says_none (asked call) (effects_of T event) sent (provider, ask) has is none

    turned : (f : Facts) → (m : Meets T event call f) → Turn (world_at T) f m.takes.input (outcome_of T f m.takes.input)
        → Awaits (with_event T line event) call b.page provider b.origin
    turned f m (Gives finish ended none gives token) = never (asks_at T event call f m ∙ none)
    turned f m (Goes none gives leaves back) = never (asks_at T event call f m ∙ none)
    turned f m (Asks a) =
        let s = h.stood f m.found in
        let same : Some s.begun ≡ Some b = sym s.began ∙ began in
        let begun_is : s.begun ≡ b = cc in
        let made = request_of f a.offered a.manner a.disclosure in
        let both : ◌≡◌ {A = ℕ × AssertionFields} (provider, ask) (a.offered.place, made) =
        says_one (asked call) (effects_of T event) sent (provider, ask) (a.offered.place, made) has is
        (asks_at T event call f m ∙ a.is.asks_it) in
        awaits_by T line event call b.page provider b.origin f m (ap (λ st. unwrap_or st f.stage) a.is.stage)
        (s.of_page ∙ ap (λ x. x.page) begun_is) (s.of_origin ∙ ap (λ x. x.origin) begun_is) a.offered
        (picks_asked (world_at T) f m.takes.input (outcome_of T f m.takes.input) a) (sym (ap (λ x. x.0) both))

    taken : (t : Takes T event call) → (o : Option Facts) → facts_at T call ≡ o
        → Awaits (with_event T line event) call b.page provider b.origin
    taken t None found = never (others_ask T event call t found)
    taken t (Some f) found = turned f (record { takes = t; found = found }) (turn_at (world_at T) f t.input)

    begins_with : (s : Starts T event call) → Awaits (with_event T line event) call b.page provider b.origin
    begins_with s =
        let o = first_row (world_at T) s.busy s.begun.origin s.begun.options in
        never (ap (filter_map (asked call)) s.effects
        ∙ ap (λ c. filter_map (asked c) (outcome_effects (world_at T) (cookies_with T) (kind_asked s.begun.options) s.begun.call
        s.begun.page o)) (sym s.is_call)
        ∙ outcome_asks (world_at T) (cookies_with T) (kind_asked s.begun.options) s.begun.call s.begun.page o
        ∙ first_asks_none o (first_turn (world_at T) s.busy s.begun.origin s.begun.options
        (is_first T event s.begun.page s.begun.call s.begun.options new s.is_event).some))

    go : Happens T event call → Awaits (with_event T line event) call b.page provider b.origin
    go (Left l) = never l.quiet.asks
    go (Ends e) = never e.asks
    go (Started s) = begins_with s
    go (Took t) = taken t (facts_at T call) refl
    go (Resumed r) = never r.asks

-- it awaits its token after the rows since
awaits_since : (header : Header) (since before : List Row) (asking : Row) (kind : CallKind) (call provider : ℕ) (ask : AssertionFields)
    (cookies : List ℕ) (b : Begun)
    → IsRun header (since ++ asking ∷ before) → call_at before call ≡ Some b
    → Has asking.effects (Sent kind call provider (asks.Assertion ask) cookies)
    → list_any (disturbs call b.page) since ≡ false
    → Awaits (record { header = header; rows = since ++ asking ∷ before }) call b.page provider b.origin
awaits_since header [] before asking kind call provider ask cookies b run began has calm =
    let T : Trace = record { header = header; rows = before } in
    let same = row_is T asking run.0 in
    subst (λ r. Awaits (record { header = header; rows = r ∷ before }) call b.page provider b.origin) (sym same)
    (awaits_first T asking.line asking.event kind call provider ask cookies b run.1 (invariant header before call run.2) began
    (subst (λ es. Has es (Sent kind call provider (asks.Assertion ask) cookies)) run.0 has))
awaits_since header (row ∷ since) before asking kind call provider ask cookies b run began has calm =
    let T : Trace = record { header = header; rows = since ++ asking ∷ before } in
    let same = row_is T row run.0 in
    let here : disturbs call b.page row ≡ false = or_left (disturbs call b.page row) (list_any (disturbs call b.page) since) calm in
    let earlier = awaits_since header since before asking kind call provider ask cookies b run.2 began has
    (or_right (disturbs call b.page row) (list_any (disturbs call b.page) since) calm) in
    subst (λ r. Awaits (record { header = header; rows = r ∷ (since ++ asking ∷ before) }) call b.page provider b.origin) (sym same)
    (awaits_on T row.line row.event call b.page provider b.origin run.1 (invariant header (since ++ asking ∷ before) call run.2) earlier
    (subst (λ r. disturbs call b.page r ≡ false) same here))

-- ---- the reply

-- what a call does that awaits the token of this reply
answer_row : (world : World) (f : Facts) (raw token : List ℕ) (offered : Offered) → f.stage ≡ Asserting → f.picked ≡ Some offered
    → AssertionOf raw (origin_text f.origin) ≡ Ok token
    → input_row world f (inputs.Reply offered.place kinds.Assertion raw) ≡ by_token f offered (Ok token)
answer_row world f raw token offered at picks reads =
    ap (λ st. stage_reply world f st offered.place kinds.Assertion raw) at
    ∙ ap (λ o. assertion_reply f (picked_at offered.place o) raw) picks
    ∙ ap (λ b. assertion_reply f (cond b (Some offered) None) raw) (own offered.place)
    ∙ ap (by_token f offered) reads

-- the result is among the effects, after the permission and the flag
pub gives_result : (world : World) (cookies : Ask → List ℕ) (call page : ℕ) (origin : Origin) (offered : Offered)
    (auto : Bool) (finish : Finish)
    → Has (outcome_effects world cookies GetCall call page (keeps origin offered (clears auto origin (finishes finish))))
    (Result call page finish)
gives_result world cookies call page origin offered true finish =
    record {
      before = Kept (triple_of origin (origin_of offered.options.config) offered.candidate.account.id) true ∷ [];
      after = Move GetCall call Ended ∷ [];
      all = refl;
    }
gives_result world cookies call page origin offered false finish =
    record {
      before = Kept (triple_of origin (origin_of offered.options.config) offered.candidate.account.id) true ∷ Flag origin false ∷ [];
      after = Move GetCall call Ended ∷ [];
      all = refl;
    }

answered : (T : Trace) (event : Event) (call provider page : ℕ) (origin : Origin) (raw token : List ℕ) → Invariant T call
    → Awaits T call page provider origin
    → event ≡ Reply call provider kinds.Assertion raw → AssertionOf raw (origin_text origin) ≡ Ok token
    → (auto : Bool) × Has (effects_of T event) (Result call page (Token auto provider token))
answered T event call provider page origin raw token h a is reads =
    let f = a.facts in
    let s = h.stood f a.found in
    let x = a.offered in
    let comes : event ≡ Reply call x.place kinds.Assertion raw = is ∙ ap (λ p. Reply call p kinds.Assertion raw) (sym a.is_provider) in
    let known : known_at T call ≡ Some (OfGet f) = is_get (known_at T call) f a.found in
    let does : effects_of T event ≡ outcome_effects (world_at T) (cookies_with T) GetCall call f.page (by_token f x (Ok token)) =
    ap (effects_of T) comes
    ∙ ap (λ t. input_effects (world_at T) (cookies_with T) t call (known_at T call) (inputs.Reply x.place kinds.Assertion raw)) s.is_taken
    ∙ ap (λ o. input_effects (world_at T) (cookies_with T) true call o (inputs.Reply x.place kinds.Assertion raw)) known
    ∙ ap (outcome_effects (world_at T) (cookies_with T) GetCall call f.page)
    (answer_row (world_at T) f raw token x a.at a.picks (ap (λ o. AssertionOf raw (origin_text o)) a.of_origin ∙ reads)) in
    let result : Has (effects_of T event) (Result call f.page (Token f.auto x.place token)) =
    subst (λ es. Has es (Result call f.page (Token f.auto x.place token))) (sym does)
    (gives_result (world_at T) (cookies_with T) call f.page f.origin x f.auto (Token f.auto x.place token)) in (
      f.auto,
      subst (λ p. Has (effects_of T event) (Result call page (Token f.auto p token))) a.is_provider
          (subst (λ p. Has (effects_of T event) (Result call p (Token f.auto x.place token))) a.of_page result),
    )

pub answered_lem : OfRuns IsAnswered
answered_lem T run after since before row asking kind call provider ask cookies b raw token is has began calm is_reply reads =
    let r = row_of_trace T after (since ++ asking ∷ before) row run is in
    let awaits = awaits_since T.header since before asking kind call provider ask cookies b r.run began has calm in
    let gives =
    answered (at T (since ++ asking ∷ before)) row.event call provider b.page b.origin raw token (invariant T.header
    (since ++ asking ∷ before) call r.run)
    awaits is_reply reads in
    (gives.0, subst (λ es. Has es (Result call b.page (Token gives.0 provider token))) (sym r.effects) gives.1)
