-- Each own token is given to the page that asked for it.
use Rattle.std.proofs.Common.{◌≡◌, ℕ, ◌≤◌, Bool, true, false, nat_eq, ◌||◌, cond, List, [], ◌∷◌, ◌++◌, length, map, Option, Some}
use Rattle.std.proofs.Common.{None, refl, sym, ap, ap₂, subst, ◌∙◌, arith}
use Rattle.std.proofs.lemmas.List.{reverse-append}
use Rattle.std.proofs.lemmas.List.Elements.{filter_map-append}
use Rattle.std.proofs.lemmas.List.Folds.{list_any-append}
use Rattle.std.specs.Prelude.{is_some, option_map, reverse, unwrap_or}
use Rattle.std.specs.Option.{option_or}
use Rattle.std.specs.List.{cons_option, filter_map, list_any}
use Rattle.fed_origin.specs.declared.stage.ReplyKind.TheVariants as kinds
use Rattle.fed_origin.specs.Origin.{origin_text}
use Rattle.fed_token.specs.Read.{AssertionOf}
use Rattle.fed_consent.specs.declared.table.ask.Ask.TheVariants as asks
use Rattle.fed_consent.specs.declared.table.finish.Finish.{Finish}
use Rattle.fed_consent.specs.declared.table.finish.Finish.TheVariants.{Token, Disconnected, Failed, ProviderError}
use Rattle.fed_consent.specs.Consent.{AssertionFields}
use Rattle.fed_call.specs.Facts.{Facts}
use Rattle.fed_disconnect.specs.Facts.{DisconnectFacts}
use Rattle.fed_script.specs.declared.event.Event.{Event}
use Rattle.fed_script.specs.declared.event.Event.TheVariants.{Reply}
use Rattle.fed_request.specs.Request.{request_bytes}
use Rattle.fed_trace.specs.declared.out.Out.{Out}
use Rattle.fed_trace.specs.declared.out.Out.TheVariants as outs
use Rattle.fed_trace.specs.Begun.{Begun, GetCall, kind_asked}
use Rattle.fed_trace.specs.Call.{OfDisconnect, first_row, input_row, kind_of}
use Rattle.fed_trace.specs.Effect.{Effect, Sent, Dropped, Time, Page, Closed, Cookie, Login, Begin, Move, Shown, Window, Kept, Flag, Result}
use Rattle.fed_trace.specs.Effect.{Ignored, begins, last_of}
use Rattle.fed_trace.specs.Known.{facts_at, world_at}
use Rattle.fed_trace.specs.OfCall.{Has, call_at, disturbs, given, is_result, replaces}
use Rattle.fed_trace.specs.Records.{record_of, records, records_in, records_of}
use Rattle.fed_trace.specs.Row.{IsNew, cookies_with, effects_of, outcome_effects}
use Rattle.fed_trace.specs.Trace.{Row, Trace, page_at}
use Rattle.fed_trace.proofs.happens.Disconnects.{Turn as DisconnectTurn, Gives as GivesOther, GivesNone, is_token, disconnect_turn}
use Rattle.fed_trace.proofs.happens.Ends.{Happens, Left, Ends, Started, Took, Resumed, Starts, Takes}
use Rattle.fed_trace.proofs.happens.First.{FirstTurn, FailsFirst, ReadsFirst, GathersFirst, first_turn, is_first}
use Rattle.fed_trace.proofs.happens.Gets.{Taking, ByGet, ByDisconnect, ByNone, taking}
use Rattle.fed_trace.proofs.happens.Happens.{happens}
use Rattle.fed_trace.proofs.happens.Over.{over_quiet}
use Rattle.fed_trace.proofs.happens.Says.{finish_of, outcome_gives, own}
use Rattle.fed_trace.proofs.happens.Taken.{Knows, Meets, does_it, outcome_of}
use Rattle.fed_laws.specs.Cause.{Asked, Undisturbed}
use Rattle.fed_laws.specs.Laws.{OfRuns, at}
use Rattle.fed_laws.proofs.pending.Asked.{invariant}
use Rattle.fed_laws.proofs.pending.Begun.{or_true}
use Rattle.fed_laws.proofs.pending.Taken.{gives_at}
use Rattle.fed_laws.proofs.tokens.Token.{row_of_trace, says_none, says_one, token_lem}
use Rattle.fed_laws.proofs.turns.Turn.{Turn, Asks, Gives, Goes, turn_at}
use Rattle.fed_audit.specs.Record.{is_result_of, place_asked}
use Rattle.fed_audit.specs.Token.{is_replaced, rows_since}
use Rattle.fed_audit.proofs.follows.Begins.{begins_is}
use Rattle.fed_own.specs.Own.{said_of}
use Rattle.fed_own.specs.Tokens.{OwnTokensAreGiven}
use Rattle.fed_own.proofs.passes.Consent.{any_map, none_reverse, nothing_before, place_in, said_among}
use Rattle.fed_own.proofs.passes.Unanswered.{results, unanswered}

-- ---- the row

-- a row that gives a token is that of a get, and gives nothing else of the call
pub record TokenRow (T : Trace) (event : Event) (call page provider : ℕ) (auto : Bool) (token : List ℕ) : Type 0 where
  pub facts : Facts
  pub found : facts_at T call ≡ Some facts
  pub is_page : page ≡ facts.page
  pub only : filter_map (given call) (effects_of T event) ≡ (page, Token auto provider token) ∷ []

module _ (T : Trace) (event : Event) (call page provider : ℕ) (auto : Bool) (token : List ℕ) (new : IsNew T.rows event)
    (has : Has (effects_of T event) (Result call page (Token auto provider token)))
  where
    abbrev finish : Finish
    finish = Token auto provider token

    abbrev Found : Type 0
    Found = TokenRow T event call page provider auto token

    is : given call (Result call page finish) ≡ Some (page, finish)
    is = ap (λ b. cond b (Some (page, finish)) None) (own call)

    never : filter_map (given call) (effects_of T event) ≡ [] → Found
    never none = says_none (given call) (effects_of T event) (Result call page finish) (page, finish) has is none

    same : (p : ℕ) (other : Finish) → filter_map (given call) (effects_of T event) ≡ (p, other) ∷ []
        → ◌≡◌ {A = ℕ × Finish} (page, finish) (p, other)
    same p other gives = says_one (given call) (effects_of T event) (Result call page finish) (page, finish) (p, other) has is gives

    turned : (f : Facts) → (m : Meets T event call f) → Turn (world_at T) f m.takes.input (outcome_of T f m.takes.input) → Found
    turned f m (Asks a) = never (gives_at T event call f m ∙ ap (map (λ x. (f.page, x))) a.is.gives)
    turned f m (Goes asks gives leaves back) = never (gives_at T event call f m ∙ ap (map (λ x. (f.page, x))) gives)
    turned f m (Gives other ended asks gives token_in) =
        let one = gives_at T event call f m ∙ ap (map (λ x. (f.page, x))) gives in
        let both = same f.page other one in
        record {
          facts = f;
          found = m.found;
          is_page = ap (λ x. x.0) both;
          only = one ∙ ap (λ (x : ℕ × Finish). x ∷ []) (sym both);
        }

    gave : (f : DisconnectFacts) → (m : Knows T event call (OfDisconnect f))
        → filter_map (given call) (effects_of T event)
        ≡ map (λ x. (f.page, x)) (filter_map finish_of (input_row (world_at T) (OfDisconnect f) m.takes.input).effects)
    gave f m =
        ap (filter_map (given call)) (does_it T event call (OfDisconnect f) m)
        ∙ outcome_gives (world_at T) (cookies_with T) (kind_of (OfDisconnect f)) call f.page
        (input_row (world_at T) (OfDisconnect f) m.takes.input)

    turned_other : (f : DisconnectFacts) → (m : Knows T event call (OfDisconnect f))
        → DisconnectTurn (input_row (world_at T) (OfDisconnect f) m.takes.input) → Found
    turned_other f m (GivesNone asks none logins) = never (gave f m ∙ ap (map (λ x. (f.page, x))) none)
    turned_other f m (GivesOther other no_token asks gives logins) =
        let both = same f.page other (gave f m ∙ ap (map (λ x. (f.page, x))) gives) in
        let no : true ≡ false = ap is_token (ap (λ x. x.1) both) ∙ no_token in
        absurd (cc)

    others : (t : Takes T event call) → Taking T event call → facts_at T call ≡ None → Found
    others t (ByGet f m) none = let no : Some f ≡ None = sym m.found ∙ none in absurd (cc)
    others t (ByDisconnect f m) none = turned_other f m (disconnect_turn (world_at T) f m.takes.input)
    others t (ByNone u over) none = never (over_quiet T event call u over).gives

    taken : (t : Takes T event call) → (o : Option Facts) → facts_at T call ≡ o → Found
    taken t None found = others t (taking T event call t) found
    taken t (Some f) found = turned f (record { takes = t; found = found }) (turn_at (world_at T) f t.input)

    begins_with : (s : Starts T event call) → FirstTurn (first_row (world_at T) s.busy s.begun.origin s.begun.options) → Found
    begins_with s turn = under turn
      where
        gives : filter_map (given call) (effects_of T event)
            ≡ map (λ x. (s.begun.page, x)) (filter_map finish_of (first_row (world_at T) s.busy s.begun.origin s.begun.options).effects)
        gives =
            ap (filter_map (given call)) s.effects
            ∙ ap (λ c. filter_map (given c) (outcome_effects (world_at T) (cookies_with T) (kind_asked s.begun.options) s.begun.call
            s.begun.page (first_row (world_at T) s.busy s.begun.origin s.begun.options))) (sym s.is_call)
            ∙ outcome_gives (world_at T) (cookies_with T) (kind_asked s.begun.options) s.begun.call s.begun.page
            (first_row (world_at T) s.busy s.begun.origin s.begun.options)

        under : FirstTurn (first_row (world_at T) s.busy s.begun.origin s.begun.options) → Found
        under (GathersFirst gathering asks none) = never (gives ∙ ap (map (λ x. (s.begun.page, x))) none)
        under (ReadsFirst reading asks none) = never (gives ∙ ap (map (λ x. (s.begun.page, x))) none)
        under (FailsFirst failure ended asks fails) =
            let both = same s.begun.page (Failed failure) (gives ∙ ap (map (λ x. (s.begun.page, x))) fails) in
            let no : finish ≡ Failed failure = ap (λ x. x.1) both in
            absurd (cc)

    pub token_row : Found
    token_row = go (happens T event call)
      where
        go : Happens T event call → Found
        go (Left l) = never l.quiet.gives
        go (Ends e) = never e.gives
        go (Started s) =
            begins_with s (first_turn (world_at T) s.busy s.begun.origin s.begun.options
            (is_first T event s.begun.page s.begun.call s.begun.options new s.is_event).some)
        go (Took t) = taken t (facts_at T call) refl
        go (Resumed r) = never r.gives

-- ---- the records before it are no results of the call

result_is : (b : Bool) (page : ℕ) (gets : Finish) → is_some {T = ℕ × Finish} (cond b (Some (page, gets)) None) ≡ b
result_is true page gets = refl
result_is false page gets = refl

abbrev result_in : ℕ → Out → Bool
result_in call out = is_result_of call (said_of out)

results_said : (call line : ℕ) (effects : List Effect)
    → list_any (result_in call) (records_of line effects) ≡ list_any (is_result call) effects
results_said call line [] = refl
results_said call line (Result c page (Token auto provider token) ∷ effects) =
    ap₂ (λ a b. a || b) (sym (result_is (nat_eq call c) page (Token auto provider token))) (results_said call line effects)
results_said call line (Result c page Disconnected ∷ effects) =
    ap₂ (λ a b. a || b) (sym (result_is (nat_eq call c) page Disconnected)) (results_said call line effects)
results_said call line (Result c page (Failed failure) ∷ effects) =
    ap₂ (λ a b. a || b) (sym (result_is (nat_eq call c) page (Failed failure))) (results_said call line effects)
results_said call line (Result c page (ProviderError code url) ∷ effects) =
    ap₂ (λ a b. a || b) (sym (result_is (nat_eq call c) page (ProviderError code url))) (results_said call line effects)
results_said call line (Sent kind c provider (asks.Assertion ask) cookies ∷ effects) = results_said call line effects
results_said call line (Sent kind c provider (asks.WellKnown to) cookies ∷ effects) = results_said call line effects
results_said call line (Sent kind c provider (asks.Config to) cookies ∷ effects) = results_said call line effects
results_said call line (Sent kind c provider (asks.Accounts to) cookies ∷ effects) = results_said call line effects
results_said call line (Sent kind c provider (asks.Metadata to client origin) cookies ∷ effects) = results_said call line effects
results_said call line (Sent kind c provider (asks.Disconnect to client hint origin) cookies ∷ effects) = results_said call line effects
results_said call line (Dropped c place failure ∷ effects) = results_said call line effects
results_said call line (Shown c dialog ∷ effects) = results_said call line effects
results_said call line (Window c provider url ∷ effects) = results_said call line effects
results_said call line (Ignored why ∷ effects) = results_said call line effects
results_said call line (Time time ∷ effects) = results_said call line effects
results_said call line (Page page origin ∷ effects) = results_said call line effects
results_said call line (Closed page ∷ effects) = results_said call line effects
results_said call line (Cookie cookie ∷ effects) = results_said call line effects
results_said call line (Login origin status ∷ effects) = results_said call line effects
results_said call line (Begin begun ∷ effects) = results_said call line effects
results_said call line (Move kind c stage ∷ effects) = results_said call line effects
results_said call line (Kept triple stays ∷ effects) = results_said call line effects
results_said call line (Flag origin stays ∷ effects) = results_said call line effects

-- no result among effects that give none
no_result : (call : ℕ) (effects : List Effect) → filter_map (given call) effects ≡ [] → list_any (is_result call) effects ≡ false
no_result call [] h = refl
no_result call (e ∷ effects) h = go (given call e) h (no_result call effects)
  where
    go : (o : Option (ℕ × Finish)) → cons_option o (filter_map (given call) effects) ≡ []
        → (filter_map (given call) effects ≡ [] → list_any (is_result call) effects ≡ false)
        → is_some o || list_any (is_result call) effects ≡ false
    go None h rest = rest h
    go (Some x) h rest = absurd (cc)

left_none : {A : Type 0} (xs ys : List A) → xs ++ ys ≡ [] → (xs ≡ []) × (ys ≡ [])
left_none [] ys h = (refl, h)
left_none (x ∷ xs) ys h = absurd (cc)

no_results : (call : ℕ) (rows : List Row) → results call rows ≡ [] → list_any (result_in call) (records_in rows) ≡ false
no_results call [] h = refl
no_results call (row ∷ rows) h =
    let parts = left_none (results call rows) (filter_map (given call) row.effects) h in
    list_any-append (result_in call) (records_in rows) (records row)
    ∙ ap₂ (λ a b. a || b) (no_results call rows parts.0)
    (results_said call row.line row.effects ∙ no_result call row.effects parts.1)

-- ---- a record before it asks for the token

any_reverse : {X : Type 0} (p : X → Bool) (xs : List X) → list_any p xs ≡ true → list_any p (reverse xs) ≡ true
any_reverse p [] h = absurd (cc)
any_reverse p (x ∷ xs) h =
    ap (list_any p) (reverse-append (x ∷ []) xs)
    ∙ (list_any-append p (reverse xs) (x ∷ []) ∙ go (p x) h (any_reverse p xs))
  where
    go : (b : Bool) → b || list_any p xs ≡ true → (list_any p xs ≡ true → list_any p (reverse xs) ≡ true)
        → list_any p (reverse xs) || (b || false) ≡ true
    go true h rest = or_true (list_any p (reverse xs))
    go false h rest = ap (λ c. c || false) (rest h)

or_first : (a b : Bool) → a ≡ true → a || b ≡ true
or_first true b h = refl
or_first false b h = absurd (cc)

or_last : (a b : Bool) → b ≡ true → a || b ≡ true
or_last true b h = refl
or_last false b h = h

-- whether a record asks this provider for a token of the call
abbrev asks_place : ℕ → ℕ → Out → Bool
asks_place call provider out = unwrap_or (option_map (nat_eq provider) (place_in call out)) false

own_place : (call provider : ℕ) → unwrap_or (option_map (nat_eq provider) (cond (nat_eq call call) (Some provider) None)) false ≡ true
own_place call provider =
    ap (λ b. unwrap_or (option_map (nat_eq provider) (cond b (Some provider) None)) false) (own call) ∙ own provider

asked_by_row : (line call provider : ℕ) (effects : List Effect) (ask : AssertionFields) (cookies : List ℕ)
    → (has : Has effects (Sent GetCall call provider (asks.Assertion ask) cookies))
    → list_any (asks_place call provider) (records_of line effects) ≡ true
asked_by_row line call provider effects ask cookies has =
    ap (λ es. list_any (asks_place call provider) (records_of line es)) has.all
    ∙ (ap (list_any (asks_place call provider)) (filter_map-append (record_of line) has.before (sent ∷ has.after))
    ∙ (list_any-append (asks_place call provider) (records_of line has.before) (request ∷ records_of line has.after)
    ∙ or_last (list_any (asks_place call provider) (records_of line has.before))
    (asks_place call provider request || list_any (asks_place call provider) (records_of line has.after))
    (or_first (asks_place call provider request) (list_any (asks_place call provider) (records_of line has.after))
    (own_place call provider))))
  where
    sent : Effect
    sent = Sent GetCall call provider (asks.Assertion ask) cookies

    request : Out
    request = outs.Request line call provider kinds.Assertion (request_bytes (asks.Assertion ask) cookies)

asked_in : (call provider : ℕ) (since : List Row) (asking : Row) (before : List Row)
    → list_any (asks_place call provider) (records asking) ≡ true
    → list_any (asks_place call provider) (records_in (since ++ asking ∷ before)) ≡ true
asked_in call provider [] asking before h =
    list_any-append (asks_place call provider) (records_in before) (records asking)
    ∙ or_last (list_any (asks_place call provider) (records_in before)) (list_any (asks_place call provider) (records asking)) h
asked_in call provider (row ∷ since) asking before h =
    list_any-append (asks_place call provider) (records_in (since ++ asking ∷ before)) (records row)
    ∙ or_first (list_any (asks_place call provider) (records_in (since ++ asking ∷ before)))
    (list_any (asks_place call provider) (records row))
    (asked_in call provider since asking before h)

was_asked : (rows : List Row) (call provider : ℕ) → Asked rows call provider → list_any (asks_place call provider) (records_in rows) ≡ true
was_asked rows call provider a =
    ap (λ rs. list_any (asks_place call provider) (records_in rs)) a.rows_are
    ∙ asked_in call provider a.since a.asking a.before
    (asked_by_row a.asking.line call provider a.asking.effects a.ask a.cookies a.sends)

-- ---- the page stands since the call began

last_some : (call : ℕ) (effects : List Effect) (e : Effect) (b : Begun) → Has effects e → begins call e ≡ Some b
    → is_some (last_of (begins call) effects) ≡ true
last_some call effects e b has is = ap (λ es. is_some (last_of (begins call) es)) has.all ∙ go has.before
  where
    here : (o : Option Begun) → is_some (option_or o (begins call e)) ≡ true
    here None = ap is_some is
    here (Some x) = refl

    more : (o said : Option Begun) → is_some o ≡ true → is_some (option_or o said) ≡ true
    more None said h = absurd (cc)
    more (Some x) said h = refl

    go : (before : List Effect) → is_some (last_of (begins call) (before ++ e ∷ has.after)) ≡ true
    go [] = here (last_of (begins call) has.after)
    go (x ∷ before) = more (last_of (begins call) (before ++ e ∷ has.after)) (begins call x) (go before)

kept_since : (call page : ℕ) (since : List Row) (beginning : Row) (before : List Row)
    → is_some (last_of (begins call) beginning.effects) ≡ true
    → list_any (disturbs call page) since ≡ false → is_replaced call page (since ++ beginning ∷ before) ≡ false
kept_since call page [] beginning before begun h =
    ap (λ b. list_any (λ row. replaces page row.event) (cond b [] (beginning ∷ rows_since call before))) begun
kept_since call page (row ∷ since) beginning before begun h =
    go (is_some (last_of (begins call) row.effects)) (replaces page row.event) (list_any (is_result call) row.effects) refl h
    (kept_since call page since beginning before begun)
  where
    go : (b r s : Bool) → replaces page row.event ≡ r → (r || s) || list_any (disturbs call page) since ≡ false
        → (list_any (disturbs call page) since ≡ false → is_replaced call page (since ++ beginning ∷ before) ≡ false)
        → list_any (λ row. replaces page row.event) (cond b [] (row ∷ rows_since call (since ++ beginning ∷ before))) ≡ false
    go true r s is h rest = refl
    go false true s is h rest = absurd (cc)
    go false false true is h rest = absurd (cc)
    go false false false is h rest =
        ap (λ x. x || list_any (λ row. replaces page row.event) (rows_since call (since ++ beginning ∷ before))) is ∙ rest h

kept_now : (call page : ℕ) (row : Row) (rows : List Row) → replaces page row.event ≡ false → is_replaced call page rows ≡ false
    → is_replaced call page (row ∷ rows) ≡ false
kept_now call page row rows now h = go (is_some (last_of (begins call) row.effects))
  where
    go : (b : Bool) → list_any (λ row. replaces page row.event) (cond b [] (row ∷ rows_since call rows)) ≡ false
    go true = refl
    go false = ap₂ (λ x y. x || y) now h

undisturbed_stands : (rows : List Row) (call : ℕ) (b : Begun) → Undisturbed rows call b → is_replaced call b.page rows ≡ false
undisturbed_stands rows call b u =
    ap (is_replaced call b.page) u.rows_are
    ∙ kept_since call b.page u.since u.beginning u.before
    (last_some call u.beginning.effects (Begin b) b u.begins_it
    (subst (λ c. begins c (Begin b) ≡ Some b) u.is_it (ap (λ t. cond t (Some b) None) (own b.call)))) u.stands

-- a reply begins no call
begun_still : (T : Trace) (row : Row) (call provider : ℕ) (raw : List ℕ) → row.effects ≡ effects_of T row.event
    → row.event ≡ Reply call provider kinds.Assertion raw → call_at (row ∷ T.rows) call ≡ call_at T.rows call
begun_still T row call provider raw effects is =
    ap (λ o. option_or o (call_at T.rows call))
    (ap (last_of (begins call)) (effects ∙ ap (effects_of T) is) ∙ begins_is T (Reply call provider kinds.Assertion raw) call)

-- ---- together

pub given_lem : OfRuns OwnTokensAreGiven
given_lem T run after before row call page provider auto token is has =
    let r = row_of_trace T after before row run is in
    let T' = at T before in
    let d = token_lem T run after before row call page provider auto token is has in
    let t = token_row T' row.event call page provider auto token r.new
    (subst (λ es. Has es (Result call page (Token auto provider token))) r.effects has) in
    let s = (invariant T.header before call r.run).stood t.facts t.found in
    let standing : Some d.begun.origin ≡ Some t.facts.origin = sym d.stands ∙ (ap (page_at T') t.is_page ∙ s.page) in
    let origin : d.begun.origin ≡ s.begun.origin = let same : d.begun.origin ≡ t.facts.origin = cc in same ∙ s.of_origin in
    let only : filter_map (given call) row.effects ≡ (page, Token auto provider token) ∷ [] =
    ap (filter_map (given call)) r.effects ∙ t.only in
    let gives_it : given call (Result call page (Token auto provider token)) ≡ Some (page, Token auto provider token) =
    ap (λ b. cond b (Some (page, Token auto provider token)) None) (own call) in
    let among =
    said_among (given call) row.effects (Result call page (Token auto provider token)) (page, Token auto provider token) has gives_it in
    let few : length (results call before ++ filter_map (given call) row.effects) ≤ 1 =
    subst (λ xs. length (xs ++ filter_map (given call) row.effects) ≤ 1)
    (sym ((unanswered T.header before call r.run).going t.facts t.found))
    (subst (λ xs. length xs ≤ 1) (sym only) (omega arith)) in
    let b = nothing_before (results call before) (filter_map (given call) has.before) (page, Token auto provider token)
    (filter_map (given call) has.after) (subst (λ xs. length (results call before ++ xs) ≤ 1) among few) in
    let outs = records_in before ++ records_of row.line has.before in
    let reply = ap (replaces s.begun.page) d.is_reply in
    record {
      begun = s.begun;
      began = begun_still T' row call provider d.raw r.effects d.is_reply ∙ s.began;
      raw = d.raw;
      is_reply = d.is_reply;
      reads = ap (λ o. AssertionOf d.raw (origin_text o)) (sym origin) ∙ d.reads;
      asked =
          any_reverse (λ r. unwrap_or (option_map (nat_eq provider) (place_asked call r)) false) (map said_of outs)
          (any_map (λ r. unwrap_or (option_map (nat_eq provider) (place_asked call r)) false) said_of outs
          ∙ (list_any-append (asks_place call provider) (records_in before) (records_of row.line has.before)
          ∙ or_first (list_any (asks_place call provider) (records_in before))
          (list_any (asks_place call provider) (records_of row.line has.before)) (was_asked before call provider d.asked)));
      first =
          none_reverse (is_result_of call) (map said_of outs)
          (any_map (is_result_of call) said_of outs
          ∙ (list_any-append (result_in call) (records_in before) (records_of row.line has.before)
          ∙ ap₂ (λ x y. x || y) (no_results call before b.first)
          (results_said call row.line has.before ∙ no_result call has.before b.second)));
      stands = kept_now call s.begun.page row before reply (undisturbed_stands before call s.begun s.undisturbed);
    }
