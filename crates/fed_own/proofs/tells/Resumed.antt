-- Calls that ask for their accounts again, each once.
use Rattle.std.proofs.Common.{◌≡◌, ℕ, Bool, true, false, nat_eq, ◌||◌, cond, List, [], ◌∷◌, ◌++◌, Option, Some, None, refl, sym, ap, ap₂}
use Rattle.std.proofs.Common.{subst, ◌∙◌, arith}
use Rattle.std.proofs.lemmas.Bool.Decides.{nat_tests}
use Rattle.std.proofs.lemmas.List.Elements.{filter_map-append}
use Rattle.std.proofs.lemmas.List.Folds.{list_any-append}
use Rattle.std.proofs.lemmas.Map.Made.{is_some-lookup}
use Rattle.std.specs.Prelude.{filter, is_some, ⊤}
use Rattle.std.specs.List.{filter_map, flat_map, list_any}
use Rattle.std.specs.Map.{keys_of}
use Rattle.fed_origin.specs.declared.origin.Origin.{Origin}
use Rattle.fed_origin.specs.Origin.{is_trustworthy}
use Rattle.fed_status.specs.Shared.{World}
use Rattle.fed_consent.specs.declared.table.ask.Ask.{Ask}
use Rattle.fed_trace.specs.Call.{Known}
use Rattle.fed_trace.specs.Effect.{Effect, window_change}
use Rattle.fed_trace.specs.Row.{idpclose_effects, resume_effects, standing_resumes, waiting_effects}
use Rattle.fed_trace.specs.Trace.{Trace, standing}
use Rattle.fed_trace.specs.Windows.{is_origin, open_windows, provider_of, windows_of}
use Rattle.fed_trace.proofs.calls.Resumed.{Resuming, Rests, Refuses, AsksAgain, resuming}
use Rattle.fed_trace.proofs.calls.Windows.{in_filter}
use Rattle.fed_trace.proofs.keyed.Keyed.{AreDistinct, distinct_standing}
use Rattle.fed_audit.specs.declared.aspect.Key.{Key}
use Rattle.fed_audit.specs.Told.{same_key}
use Rattle.fed_own.specs.Once.{AreApart}
use Rattle.fed_own.proofs.tells.Tells.{key_sent}

-- ---- no call waits twice

abbrev NoneTwice : List ℕ → Type 0
NoneTwice [] = ⊤
NoneTwice (call ∷ calls) = (list_any (nat_eq call) calls ≡ false) × NoneTwice calls

keys_once : {V : Type 0} (es : List (ℕ × V)) → AreDistinct es → NoneTwice (keys_of es)
keys_once [] h = tt
keys_once (e ∷ es) h = (sym (is_some-lookup (nat_eq e.0) es) ∙ ap is_some h.0, keys_once es h.1)

filter_none : (q : ℕ) (p : ℕ → Bool) (xs : List ℕ) → list_any (nat_eq q) xs ≡ false → list_any (nat_eq q) (filter p xs) ≡ false
filter_none q p xs none = go (list_any (nat_eq q) (filter p xs)) refl
  where
    go : (b : Bool) → list_any (nat_eq q) (filter p xs) ≡ b → b ≡ false
    go false is = refl
    go true is = let there = (in_filter q p xs is).0 in let no : true ≡ false = sym there ∙ none in absurd (cc)

filter_once : (p : ℕ → Bool) (xs : List ℕ) → NoneTwice xs → NoneTwice (filter p xs)
filter_once p [] h = tt
filter_once p (x ∷ xs) h = go (p x) (filter_none x p xs h.0) (filter_once p xs h.1)
  where
    go : (b : Bool) → list_any (nat_eq x) (filter p xs) ≡ false → NoneTwice (filter p xs)
        → NoneTwice (cond b (x ∷ filter p xs) (filter p xs))
    go true none rest = (none, rest)
    go false none rest = rest

waits_once : (T : Trace) (origin : Origin) → NoneTwice (windows_of T origin)
waits_once T origin =
    filter_once (λ call. is_origin origin (provider_of T.rows call)) (open_windows T)
    (keys_once (standing nat_eq window_change T.rows) (distinct_standing window_change T.rows))

-- ---- what each of them tells

-- nothing, or one request of the call
data TellsIts (call : ℕ) (keys : List Key) : Type 0 where
  TellsNone : keys ≡ [] → TellsIts call keys
  TellsOne : (key : Key) → key.call ≡ call → keys ≡ key ∷ [] → TellsIts call keys

its_keys : (call : ℕ) (effects : List Effect) → Resuming call effects → TellsIts call (filter_map key_sent effects)
its_keys call effects (Rests is) = TellsNone (ap (filter_map key_sent) is)
its_keys call effects (Refuses why is) = TellsNone (ap (filter_map key_sent) is)
its_keys call effects (AsksAgain kind provider to cookies is) = TellsOne _ refl (ap (filter_map key_sent) is)

not_it : (key : Key) (call : ℕ) (keys : List Key) → nat_eq key.call call ≡ false → TellsIts call keys
    → list_any (same_key key) keys ≡ false
not_it key call keys ne (TellsNone is) = ap (list_any (same_key key)) is
not_it key call keys ne (TellsOne k of_call is) =
    ap (list_any (same_key key)) is ∙ (let other : same_key key k ≡ false = grind (arith, nat_tests, ne, of_call) in
    ap (λ b. b || false) other)

its_apart : (call : ℕ) (keys rest : List Key) → TellsIts call keys
    → ((key : Key) → key.call ≡ call → list_any (same_key key) rest ≡ false) → AreApart rest → AreApart (keys ++ rest)
its_apart call keys rest (TellsNone is) none apart = subst (λ ks. AreApart (ks ++ rest)) (sym is) apart
its_apart call keys rest (TellsOne key of_call is) none apart =
    subst (λ ks. AreApart (ks ++ rest)) (sym is) (none key of_call, apart)

module _ (world : World) (cookies : Ask → List ℕ) (known : ℕ → Option Known) where
  abbrev told_of : List ℕ → List Key
  told_of calls = filter_map key_sent (flat_map (resume_effects world cookies known) calls)

  its : (call : ℕ) → TellsIts call (filter_map key_sent (resume_effects world cookies known call))
  its call = its_keys call (resume_effects world cookies known call) (resuming world cookies call (known call))

  told_more : (call : ℕ) (calls : List ℕ)
      → told_of (call ∷ calls) ≡ filter_map key_sent (resume_effects world cookies known call) ++ told_of calls
  told_more call calls =
      filter_map-append key_sent (resume_effects world cookies known call) (flat_map (resume_effects world cookies known) calls)

  not_among : (key : Key) (calls : List ℕ) → list_any (nat_eq key.call) calls ≡ false → list_any (same_key key) (told_of calls) ≡ false
  not_among key [] h = refl
  not_among key (call ∷ calls) h =
      let here : nat_eq key.call call ≡ false = grind (arith, nat_tests, h) in
      let more : list_any (nat_eq key.call) calls ≡ false = grind (arith, nat_tests, h) in
      ap (list_any (same_key key)) (told_more call calls)
      ∙ (list_any-append (same_key key) (filter_map key_sent (resume_effects world cookies known call)) (told_of calls)
      ∙ ap₂ (λ x y. x || y) (not_it key call _ here (its call)) (not_among key calls more))

  resumes_apart : (calls : List ℕ) → NoneTwice calls → AreApart (told_of calls)
  resumes_apart [] h = tt
  resumes_apart (call ∷ calls) h =
      subst AreApart (sym (told_more call calls))
      (its_apart call (filter_map key_sent (resume_effects world cookies known call)) (told_of calls) (its call)
      (λ key of_call. not_among key calls (ap (λ c. list_any (nat_eq c) calls) of_call ∙ h.0))
      (resumes_apart calls h.1))

  waiting_apart : (calls : List ℕ) → NoneTwice calls → AreApart (filter_map key_sent (waiting_effects world cookies known calls))
  waiting_apart [] h = tt
  waiting_apart (call ∷ calls) h = resumes_apart (call ∷ calls) h

  standing_apart : (calls : List ℕ) (trusted : Bool) → NoneTwice calls
      → AreApart (filter_map key_sent (standing_resumes world cookies known calls trusted))
  standing_apart calls true h = waiting_apart calls h
  standing_apart calls false h = tt

  pub resumed_apart : (T : Trace) (o : Option Origin)
      → AreApart (filter_map key_sent (idpclose_effects world cookies known (windows_of T) o))
  resumed_apart T None = tt
  resumed_apart T (Some origin) = standing_apart (windows_of T origin) (is_trustworthy origin) (waits_once T origin)
