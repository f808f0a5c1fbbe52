-- The user agreed to each own request for a token, and no record before it asks for one of the call.
use Rattle.std.proofs.Common.{◌≡◌, ℕ, ◌≤◌, Bool, true, false, nat_eq, ◌||◌, cond, List, [], ◌∷◌, ◌++◌, length, map, Option}
use Rattle.std.proofs.Common.{Some, None, refl, sym, ap, ap₂, subst, ◌∙◌, arith}
use Rattle.std.proofs.lemmas.List.{length-append, map-append, reverse-append}
use Rattle.std.proofs.lemmas.List.Elements.{filter_map-append}
use Rattle.std.proofs.lemmas.List.Folds.{list_any-append}
use Rattle.std.specs.Prelude.{is_some, reverse}
use Rattle.std.specs.List.{cons_option, filter_map, list_any}
use Rattle.fed_consent.specs.declared.table.ask.Ask.TheVariants as asks
use Rattle.fed_consent.specs.declared.table.finish.Finish.TheVariants.{Token, Disconnected, Failed, ProviderError}
use Rattle.fed_consent.specs.Consent.{AssertionFields}
use Rattle.fed_script.specs.declared.event.Header.{Header}
use Rattle.fed_trace.specs.declared.out.Out.{Out}
use Rattle.fed_trace.specs.Effect.{Effect, Sent, Dropped, Time, Page, Closed, Cookie, Login, Begin, Move, Shown, Window, Kept, Flag, Result}
use Rattle.fed_trace.specs.Effect.{Ignored}
use Rattle.fed_trace.specs.OfCall.{Has, asked, assertions}
use Rattle.fed_trace.specs.Records.{records, records_in, records_of}
use Rattle.fed_trace.specs.Row.{IsRun}
use Rattle.fed_trace.specs.Trace.{Row, Trace}
use Rattle.fed_trace.proofs.happens.Says.{own}
use Rattle.fed_laws.specs.Laws.{OfRuns}
use Rattle.fed_laws.proofs.causes.Agreed.{cause_lem}
use Rattle.fed_laws.proofs.pending.Asked.{asks_once_lem}
use Rattle.fed_audit.specs.Record.{place_asked}
use Rattle.fed_own.specs.Consent.{OwnRequestsHaveConsent}
use Rattle.fed_own.specs.Own.{said_of}
use Rattle.fed_own.proofs.passes.Form.{names_one}

-- ---- lists

pub none_reverse : {X : Type 0} (p : X → Bool) (xs : List X) → list_any p xs ≡ false → list_any p (reverse xs) ≡ false
none_reverse p [] h = refl
none_reverse p (x ∷ xs) h =
    ap (list_any p) (reverse-append (x ∷ []) xs)
    ∙ (list_any-append p (reverse xs) (x ∷ []) ∙ go (p x) h (none_reverse p xs))
  where
    go : (b : Bool) → b || list_any p xs ≡ false → (list_any p xs ≡ false → list_any p (reverse xs) ≡ false)
        → list_any p (reverse xs) || (b || false) ≡ false
    go true h rest = absurd (cc)
    go false h rest = ap (λ c. c || false) (rest h)

-- nothing is found where a test finds none
pub none_found : {X Y : Type 0} (f : X → Option Y) (xs : List X) → filter_map f xs ≡ [] → list_any (λ x. is_some (f x)) xs ≡ false
none_found f [] h = refl
none_found {X} {Y} f (x ∷ xs) h = go (f x) h (none_found f xs)
  where
    go : (o : Option Y) → cons_option o (filter_map f xs) ≡ [] → (filter_map f xs ≡ [] → list_any (λ x. is_some (f x)) xs ≡ false)
        → is_some o || list_any (λ x. is_some (f x)) xs ≡ false
    go None h rest = rest h
    go (Some y) h rest = absurd (cc)

pub any_map : {X Y : Type 0} (p : Y → Bool) (g : X → Y) (xs : List X) → list_any p (map g xs) ≡ list_any (λ x. p (g x)) xs
any_map p g [] = refl
any_map p g (x ∷ xs) = ap (λ b. p (g x) || b) (any_map p g xs)

-- ---- what records ask

-- whom a record asks for a token of the call
abbrev pub place_in : ℕ → Out → Option ℕ
place_in call out = place_asked call (said_of out)

asks_it : (call c provider : ℕ) (ask : AssertionFields) (b : Bool) (ps : List ℕ) (qs : List (ℕ × AssertionFields))
    → ps ≡ map (λ (x : ℕ × AssertionFields). x.0) qs
    → cons_option (cond b (Some provider) None) ps
    ≡ map (λ (x : ℕ × AssertionFields). x.0) (cons_option (cond b (Some (provider, ask)) None) qs)
asks_it call c provider ask true ps qs rest = ap (λ l. provider ∷ l) rest
asks_it call c provider ask false ps qs rest = rest

places : (call line : ℕ) (effects : List Effect)
    → filter_map (place_in call) (records_of line effects) ≡ map (λ (x : ℕ × AssertionFields). x.0) (filter_map (asked call) effects)
places call line [] = refl
places call line (Sent kind c provider (asks.Assertion ask) cookies ∷ effects) =
    asks_it call c provider ask (nat_eq call c) (filter_map (place_in call) (records_of line effects)) (filter_map (asked call) effects)
    (places call line effects)
places call line (Sent kind c provider (asks.WellKnown to) cookies ∷ effects) = places call line effects
places call line (Sent kind c provider (asks.Config to) cookies ∷ effects) = places call line effects
places call line (Sent kind c provider (asks.Accounts to) cookies ∷ effects) = places call line effects
places call line (Sent kind c provider (asks.Metadata to client origin) cookies ∷ effects) = places call line effects
places call line (Sent kind c provider (asks.Disconnect to client hint origin) cookies ∷ effects) = places call line effects
places call line (Result c page (Token auto provider token) ∷ effects) = places call line effects
places call line (Result c page Disconnected ∷ effects) = places call line effects
places call line (Result c page (Failed failure) ∷ effects) = places call line effects
places call line (Result c page (ProviderError code url) ∷ effects) = places call line effects
places call line (Dropped c place failure ∷ effects) = places call line effects
places call line (Shown c dialog ∷ effects) = places call line effects
places call line (Window c provider url ∷ effects) = places call line effects
places call line (Ignored why ∷ effects) = places call line effects
places call line (Time time ∷ effects) = places call line effects
places call line (Page page origin ∷ effects) = places call line effects
places call line (Closed page ∷ effects) = places call line effects
places call line (Cookie cookie ∷ effects) = places call line effects
places call line (Login origin status ∷ effects) = places call line effects
places call line (Begin begun ∷ effects) = places call line effects
places call line (Move kind c stage ∷ effects) = places call line effects
places call line (Kept triple stays ∷ effects) = places call line effects
places call line (Flag origin stays ∷ effects) = places call line effects

places_in : (call : ℕ) (rows : List Row)
    → filter_map (place_in call) (records_in rows) ≡ map (λ (x : ℕ × AssertionFields). x.0) (assertions call rows)
places_in call [] = refl
places_in call (row ∷ rows) =
    filter_map-append (place_in call) (records_in rows) (records row)
    ∙ (ap₂ (λ xs ys. xs ++ ys) (places_in call rows) (places call row.line row.effects)
    ∙ sym (map-append (λ (x : ℕ × AssertionFields). x.0) (assertions call rows) (filter_map (asked call) row.effects)))

-- ---- nothing before

none_of : {A : Type 0} (xs : List A) → length xs ≤ 0 → xs ≡ []
none_of [] h = refl
none_of (x ∷ xs) h = absurd (omega (arith, h))

-- of what has one at most, nothing stands before it
pub record Before {A : Type 0} (xs ys : List A) : Type 0 where
  pub first : xs ≡ []
  pub second : ys ≡ []

pub nothing_before : {A : Type 0} (xs ys : List A) (z : A) (zs : List A) → length (xs ++ (ys ++ z ∷ zs)) ≤ 1 → Before xs ys
nothing_before xs ys z zs h =
    let whole = length-append xs (ys ++ z ∷ zs) in
    let part = length-append ys (z ∷ zs) in
    record { first = none_of xs (omega (arith, h, whole, part)); second = none_of ys (omega (arith, h, whole, part)) }

pub said_among : {A : Type 0} (said : Effect → Option A) (effects : List Effect) (e : Effect) (x : A) → (has : Has effects e)
    → said e ≡ Some x
    → filter_map said effects ≡ filter_map said has.before ++ x ∷ filter_map said has.after
said_among said effects e x has is =
    ap (filter_map said) has.all ∙ filter_map-append said has.before (e ∷ has.after)
    ∙ ap (λ o. filter_map said has.before ++ cons_option o (filter_map said has.after)) is

first_of_call : (call provider line : ℕ) (row : Row) (before : List Row) (e : Effect) (ask : AssertionFields) → (has : Has row.effects e)
    → asked call e ≡ Some (provider, ask) → length (assertions call (row ∷ before)) ≤ 1
    → filter_map (place_in call) (records_in before ++ records_of line has.before) ≡ []
first_of_call call provider line row before e ask has is few =
    let b = nothing_before (assertions call before) (filter_map (asked call) has.before) (provider, ask)
    (filter_map (asked call) has.after)
    (subst (λ xs. length (assertions call before ++ xs) ≤ 1) (said_among (asked call) row.effects e (provider, ask) has is) few) in
    filter_map-append (place_in call) (records_in before) (records_of line has.before)
    ∙ ap₂ (λ xs ys. xs ++ ys)
    (places_in call before ∙ ap (map (λ (x : ℕ × AssertionFields). x.0)) b.first)
    (places call line has.before ∙ ap (map (λ (x : ℕ × AssertionFields). x.0)) b.second)

part_of : (header : Header) (after rows : List Row) → IsRun header (after ++ rows) → IsRun header rows
part_of header [] rows run = run
part_of header (row ∷ after) rows run = part_of header after rows run.2

pub run_to : (T : Trace) (after : List Row) (rows : List Row) → IsRun T.header T.rows → T.rows ≡ after ++ rows → IsRun T.header rows
run_to T after rows run is = part_of T.header after rows (subst (IsRun T.header) is run)

pub consent_lem : OfRuns OwnRequestsHaveConsent
consent_lem T run after before row kind call provider ask cookies is has texts =
    let part : Trace = record { header = T.header; rows = row ∷ before } in
    let asks_call : asked call (Sent kind call provider (asks.Assertion ask) cookies) ≡ Some (provider, ask) =
    ap (λ b. cond b (Some (provider, ask)) None) (own call) in
    let few = asks_once_lem part (run_to T after (row ∷ before) run is) call in
    let outs = records_in before ++ records_of row.line has.before in
    record {
      account = ask.account;
      one = names_one ask texts;
      cause = (cause_lem T run after before row kind call provider ask cookies is has).0;
      first =
          none_reverse (λ r. is_some (place_asked call r)) (map said_of outs)
          (any_map (λ r. is_some (place_asked call r)) said_of outs
          ∙ none_found (place_in call) outs
          (first_of_call call provider row.line row before (Sent kind call provider (asks.Assertion ask) cookies) ask has asks_call few));
    }
