-- What is kept tells whether the user agreed to a request for a token.
use Rattle.std.proofs.Common.{◌≡◌, ℕ, Bool, true, false, ◌||◌, ◌&&◌, List, [], ◌∷◌, ◌++◌, Option, Some, None, refl, sym, ap, ap₂, subst}
use Rattle.std.proofs.Common.{◌∙◌, arith}
use Rattle.std.proofs.lemmas.Bool.Decides.{nat_tests}
use Rattle.std.proofs.lemmas.Slice.Eq.{bytes_eq-Decides}
use Rattle.std.specs.Prelude.{codes, is_some, not}
use Rattle.std.specs.Option.{option_or}
use Rattle.std.specs.List.{list_any}
use Rattle.fed_call.specs.Account.{account_awaited}
use Rattle.fed_script.specs.declared.event.Header.{Header}
use Rattle.fed_trace.specs.Known.{facts_at}
use Rattle.fed_trace.specs.Records.{records}
use Rattle.fed_trace.specs.Row.{IsRun, row_of}
use Rattle.fed_trace.specs.Trace.{Row}
use Rattle.fed_laws.specs.Cause.{AssertionCause}
use Rattle.fed_laws.specs.Laws.{OfRuns}
use Rattle.fed_audit.specs.Laws.{IsTold}
use Rattle.fed_laws.proofs.pending.Asked.{row_is}
use Rattle.fed_audit.specs.declared.record.Record.{Record}
use Rattle.fed_audit.specs.Asked.{first_asked}
use Rattle.fed_audit.specs.Consent.{HasConsent, was_asked, values_of}
use Rattle.fed_audit.specs.Follow.{last_place}
use Rattle.fed_audit.specs.Found.{IsTest, is_pair, same_text}
use Rattle.fed_audit.specs.Front.{only_value}
use Rattle.fed_audit.specs.Record.{place_asked}
use Rattle.fed_audit.specs.Scene.{Scene, trace_before, trace_through}
use Rattle.fed_audit.proofs.consents.Tied.{cause_tells, told_is_caused}

-- what a row tells, where the trace through it is a run
pub record Told (s : Scene) (call provider : ℕ) (account : List ℕ) : Type 0 where
  pub asks : first_asked (records s.row) ≡ Some (call, provider)
  pub awaits : account_awaited (facts_at (trace_through s) call) ≡ Some account

-- the row is that of its event
same_row : (s : Scene) → IsRun s.header (s.row ∷ s.before) → row_of (trace_before s) s.row.line s.row.event ≡ s.row
same_row s run = sym (row_is (trace_before s) s.row run.0)

pub caused : (s : Scene) (call provider : ℕ) (account : List ℕ) → IsRun s.header (s.row ∷ s.before) → Told s call provider account
    → AssertionCause (trace_before s) s.row.event call provider account
caused s call provider account run told =
    told_is_caused (trace_before s) s.row.line s.row.event call provider account
    (subst (λ r. IsRun s.header (r ∷ s.before)) (sym (same_row s run)) run)
    (record {
      asks = ap (λ r. first_asked (records r)) (same_row s run) ∙ told.asks;
      awaits = ap (λ (r : Row). account_awaited (facts_at (record { header = s.header; rows = r ∷ s.before }) call)) (same_row s run)
          ∙ told.awaits;
    })

pub tells : (s : Scene) (call provider : ℕ) (account : List ℕ) → IsRun s.header (s.row ∷ s.before)
    → AssertionCause (trace_before s) s.row.event call provider account → Told s call provider account
tells s call provider account run cause =
    let told = cause_tells (trace_before s) s.row.line s.row.event call provider account
    (subst (λ r. IsRun s.header (r ∷ s.before)) (sym (same_row s run)) run) cause in
    record {
      asks = sym (ap (λ r. first_asked (records r)) (same_row s run)) ∙ told.asks;
      awaits = sym (ap (λ (r : Row). account_awaited (facts_at (record { header = s.header; rows = r ∷ s.before }) call)) (same_row s run))
          ∙ told.awaits;
    }

-- ---- earlier records

or_later : (o : Option ℕ) (b : Bool) (later : Option ℕ) → b ≡ is_some later → is_some o || b ≡ is_some (option_or o later)
or_later (Some p) b later is = refl
or_later None b later is = is

asked_once : (call : ℕ) (earlier : List Record)
    → list_any (λ r. is_some (place_asked call r)) earlier ≡ is_some (last_place call earlier)
asked_once call [] = refl
asked_once call (r ∷ earlier) =
    or_later (place_asked call r) (list_any (λ r. is_some (place_asked call r)) earlier) (last_place call earlier) (asked_once call earlier)

pub is_first : (s : Scene) (call : ℕ) (found : Option ℕ) → found ≡ last_place call s.earlier → was_asked call s ≡ is_some found
is_first s call found is = asked_once call s.earlier ∙ sym (ap is_some is)

-- ---- the form

pub one_of : (values : List (List ℕ)) (account : List ℕ) → only_value values ≡ Some account → values ≡ account ∷ []
one_of [] account is = absurd (cc)
one_of (v ∷ []) account is = let same : v ≡ account = cc in ap (λ x. x ∷ []) same
one_of (v ∷ w ∷ vs) account is = absurd (cc)

-- ---- together

pub record Consents (s : Scene) (call provider : ℕ) (body : List ℕ) : Type 0 where
  pub account : List ℕ
  pub told : Told s call provider account
  pub one : only_value (values_of (codes "account_id") body) ≡ Some account
  pub first : was_asked call s ≡ false

pub consents : (s : Scene) (call provider : ℕ) (body : List ℕ) → IsRun s.header (s.row ∷ s.before) → HasConsent s call provider body
    → Consents s call provider body
consents s call provider body run has =
    record {
      account = has.account;
      told = tells s call provider has.account run has.cause;
      one = ap only_value has.one;
      first = has.first;
    }

pub has_consent : (s : Scene) (call provider : ℕ) (body : List ℕ) → IsRun s.header (s.row ∷ s.before) → Consents s call provider body
    → HasConsent s call provider body
has_consent s call provider body run c =
    record {
      account = c.account;
      one = one_of (values_of (codes "account_id") body) c.account c.one;
      cause = caused s call provider c.account run c.told;
      first = c.first;
    }

-- ---- by what is kept

pair_is : (call provider : ℕ) (asks : Option (ℕ × ℕ)) → is_pair call provider asks ≡ true → asks ≡ Some (call, provider)
pair_is call provider None h = absurd (cc)
pair_is call provider (Some (c, p)) h =
    let call_is : c ≡ call = grind (arith, nat_tests, h) in
    let provider_is : p ≡ provider = grind (arith, nat_tests, h) in
    ap₂ (λ x y. let pair : ℕ × ℕ = (x, y) in Some pair) call_is provider_is

own_pair : (call provider : ℕ) → is_pair call provider (Some (call, provider)) ≡ true
own_pair call provider = grind (arith, nat_tests)

-- two texts that are the same
record Same (found awaited : Option (List ℕ)) : Type 0 where
  text : List ℕ
  first : found ≡ Some text
  second : awaited ≡ Some text

same_is : (found awaited : Option (List ℕ)) → same_text found awaited ≡ true → Same found awaited
same_is None awaited h = absurd (cc)
same_is (Some text) None h = absurd (cc)
same_is (Some text) (Some other) h =
    record { text = text; first = refl; second = ap Some (sym ((bytes_eq-Decides text other).0 h)) }

own_text : (text : List ℕ) → same_text (Some text) (Some text) ≡ true
own_text text = (bytes_eq-Decides text text).1 refl

and_left : (a b : Bool) → a && b ≡ true → a ≡ true
and_left true b h = refl
and_left false b h = h

and_right : (a b : Bool) → a && b ≡ true → b ≡ true
and_right true b h = h
and_right false b h = absurd (cc)

not_true : (b : Bool) → not b ≡ true → b ≡ false
not_true true h = sym h
not_true false h = refl

-- whether the user agreed, by whom the row asks, whom an earlier record asked, the account in the form, and the one that is awaited
abbrev pub agrees : ℕ → ℕ → Option (ℕ × ℕ) → Option ℕ → Option (List ℕ) → Option (List ℕ) → Bool
agrees call provider asks place found awaited = is_pair call provider asks && (not (is_some place) && same_text found awaited)

pub agreed : (s : Scene) (call provider : ℕ) (body : List ℕ) (asks : Option (ℕ × ℕ)) (place : Option ℕ)
    (found awaited : Option (List ℕ)) (b : Bool)
    → IsRun s.header (s.row ∷ s.before) → asks ≡ first_asked (records s.row) → place ≡ last_place call s.earlier
    → found ≡ only_value (values_of (codes "account_id") body) → awaited ≡ account_awaited (facts_at (trace_through s) call)
    → b ≡ agrees call provider asks place found awaited → IsTest b (HasConsent s call provider body)
agreed s call provider body asks place found awaited true run asks_is place_is found_is awaited_is h =
    let all = sym h in
    let asked = and_left (is_pair call provider asks) (not (is_some place) && same_text found awaited) all in
    let rest = and_right (is_pair call provider asks) (not (is_some place) && same_text found awaited) all in
    let same = same_is found awaited (and_right (not (is_some place)) (same_text found awaited) rest) in
    has_consent s call provider body run
    (record {
      account = same.text;
      told = record { asks = sym asks_is ∙ pair_is call provider asks asked; awaits = sym awaited_is ∙ same.second };
      one = sym found_is ∙ same.first;
      first = is_first s call place place_is ∙ not_true (is_some place) (and_left (not (is_some place)) (same_text found awaited) rest);
    })
agreed s call provider body asks place found awaited false run asks_is place_is found_is awaited_is h = λ has.
    let c = consents s call provider body run has in
    let asked : is_pair call provider asks ≡ true =
    ap (is_pair call provider) (asks_is ∙ c.told.asks) ∙ own_pair call provider in
    let first : not (is_some place) ≡ true = ap not (sym (is_first s call place place_is) ∙ c.first) in
    let same : same_text found awaited ≡ true =
    ap₂ same_text (found_is ∙ c.one) (awaited_is ∙ c.told.awaits) ∙ own_text c.account in
    let no : false ≡ true = h ∙ ap₂ (λ x y. x && y) asked (ap₂ (λ x y. x && y) first same) in
    absurd (cc)

-- ---- of every run

part_of : (header : Header) (after rows : List Row) → IsRun header (after ++ rows) → IsRun header rows
part_of header [] rows run = run
part_of header (row ∷ after) rows run = part_of header after rows run.2

pub told_lem : OfRuns IsTold
told_lem T run after before row call provider account is =
    let s : Scene = record { header = T.header; row = row; before = before; earlier = [] } in
    let run' = part_of T.header after (row ∷ before) (subst (IsRun T.header) is run) in (
      λ cause. let told = tells s call provider account run' cause in record { asks = told.asks; awaits = told.awaits },
      λ told. caused s call provider account run' (record { asks = told.asks; awaits = told.awaits }),
    )
