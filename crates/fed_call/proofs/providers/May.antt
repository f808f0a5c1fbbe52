-- Of each provider of a call it is said how far it has come.
use Rattle.std.proofs.Common.{◌≡◌, ℕ, zero, suc, ◌<◌, ◌≤◌, Bool, true, false, ◌&&◌, not, List, [], ◌∷◌, length, Some, refl, ap, arith}
use Rattle.std.specs.Prelude.{◌==◌, is_some, map, slice_get, slice_set, Result, Ok, Err}
use Rattle.url.specs.Parts.{Parts}
use Rattle.std.proofs.lemmas.Bool.{eqb-true}
use Rattle.std.proofs.lemmas.Option.{same_Some, slice_get_within}
use Rattle.fed_origin.specs.declared.options.Mode.{Mode}
use Rattle.fed_origin.specs.declared.options.ProviderOptions.{ProviderOptions}
use Rattle.fed_origin.specs.declared.scheme.Scheme.{Scheme}
use Rattle.fed_origin.specs.declared.scheme.Scheme.TheVariants.{Http, Https}
use Rattle.fed_origin.specs.WebUrl.{origin_of, scheme_of}
use Rattle.fed_provider.specs.declared.step.ProviderStep.{ProviderStep}
use Rattle.fed_provider.specs.WellKnown.{WellKnownUrlOf}
use Rattle.fed_status.specs.Login.{status_of}
use Rattle.fed_status.specs.Shared.{World}
use Rattle.fed_call.specs.declared.progress.Progress.{Progress}
use Rattle.fed_call.specs.declared.progress.Progress.TheVariants as progress_is
use Rattle.fed_call.specs.Fits.{is_https, may_all, may_come}
use Rattle.fed_call.specs.Progress.{first_progress, is_awaited, is_gated, opened, opening_by}
use Rattle.fed_call.proofs.providers.Left.{some_there}

and_both : (a b : Bool) → (a && b) ≡ true → (a ≡ true) × (b ≡ true)
and_both true b e = (refl, e)
and_both false b e = absurd (cc)

both_and : (a b : Bool) → a ≡ true → b ≡ true → (a && b) ≡ true
both_and a b p q = rw (p, q) refl

pub same_length : (providers : List ProviderOptions) (all : List Progress) → may_all providers all ≡ true → length all ≡ length providers
same_length [] [] may = refl
same_length [] (g ∷ all) may = absurd (cc)
same_length (p ∷ providers) [] may = absurd (cc)
same_length (p ∷ providers) (g ∷ all) may =
    ap (λ n. suc n) (same_length providers all (and_both (may_come p g) (may_all providers all) may).1)

pub inside : (providers : List ProviderOptions) (all : List Progress) (n : ℕ) → may_all providers all ≡ true
    → is_some (slice_get providers n) ≡ true → n < length all
inside providers all n may there =
    let at = some_there providers n there in
    let within = slice_get_within providers n at.0 at.1 in
    omega (arith, same_length providers all may)

pub has_some : (providers : List ProviderOptions) (n : ℕ) → is_some (slice_get providers n) ≡ true → 1 ≤ length providers
has_some [] n e = absurd (cc)
has_some (p ∷ providers) n e = omega arith

pub may_at : (providers : List ProviderOptions) (all : List Progress) (n : ℕ) (p : ProviderOptions) (g : Progress)
    → may_all providers all ≡ true → slice_get providers n ≡ Some p → slice_get all n ≡ Some g → may_come p g ≡ true
may_at [] [] n p g may here there = absurd (cc)
may_at [] (x ∷ all) n p g may here there = absurd (cc)
may_at (q ∷ providers) [] n p g may here there = absurd (cc)
may_at (q ∷ providers) (x ∷ all) zero p g may here there =
    let same_p : q ≡ p = same_Some q p here in
    let same_g : x ≡ g = same_Some x g there in
    rw (← same_p, ← same_g) (and_both (may_come q x) (may_all providers all) may).0
may_at (q ∷ providers) (x ∷ all) (suc n) p g may here there =
    may_at providers all n p g (and_both (may_come q x) (may_all providers all) may).1 here there

-- the provider at a place has come so far
pub may_set : (providers : List ProviderOptions) (all : List Progress) (n : ℕ) (p : ProviderOptions) (g : Progress)
    → may_all providers all ≡ true → slice_get providers n ≡ Some p → may_come p g ≡ true → may_all providers (slice_set all n g) ≡ true
may_set [] [] n p g may here may_g = absurd (cc)
may_set [] (x ∷ all) n p g may here may_g = absurd (cc)
may_set (q ∷ providers) [] n p g may here may_g = absurd (cc)
may_set (q ∷ providers) (x ∷ all) zero p g may here may_g =
    let same_p : q ≡ p = same_Some q p here in
    both_and (may_come q g) (may_all providers all) (rw same_p may_g) (and_both (may_come q x) (may_all providers all) may).1
may_set (q ∷ providers) (x ∷ all) (suc n) p g may here may_g =
    both_and (may_come q x) (may_all providers (slice_set all n g)) (and_both (may_come q x) (may_all providers all) may).0
    (may_set providers all n p g (and_both (may_come q x) (may_all providers all) may).1 here may_g)

pub may_settled : (p : ProviderOptions) (g : Progress) → is_awaited g ≡ false → may_come p g ≡ true
may_settled p (progress_is.Reading replies) e = absurd (cc)
may_settled p (progress_is.Listing config) e = absurd (cc)
may_settled p (progress_is.Listed config accounts) e = refl
may_settled p (progress_is.Dropped failure) e = refl

-- a provider that is settled then
pub may_settle : (providers : List ProviderOptions) (all : List Progress) (n : ℕ) (g : Progress) → may_all providers all ≡ true
    → is_some (slice_get providers n) ≡ true → is_awaited g ≡ false → may_all providers (slice_set all n g) ≡ true
may_settle providers all n g may there settled =
    let at = some_there providers n there in
    may_set providers all n at.0 g may at.1 (may_settled at.0 g settled)

pub fits_gathering : (one may : Bool) → one ≡ false → may ≡ true → (not one && may) ≡ true
fits_gathering one may p q = rw (p, q) refl

pub is_https_so : (scheme : Scheme) → is_https scheme ≡ true → scheme ≡ Https
is_https_so Http e = absurd (cc)
is_https_so Https e = refl

pub not_true : (b : Bool) → not b ≡ true → b ≡ false
not_true true e = absurd (cc)
not_true false e = refl

-- ---- as a call begins

may_open : (provider : ProviderOptions) (scheme : Scheme) (wellknown : Result Parts ProviderStep) (gated : Bool)
    → scheme_of provider.config ≡ scheme → may_come provider (opened (opening_by scheme wellknown gated)) ≡ true
may_open provider Http wellknown gated e = refl
may_open provider Https (Err step) gated e = refl
may_open provider Https (Ok url) true e = refl
may_open provider Https (Ok url) false e = rw e refl

pub may_first : (world : World) (mode : Mode) (providers : List ProviderOptions)
    → may_all providers (map (first_progress world mode) providers) ≡ true
may_first world mode [] = refl
may_first world mode (provider ∷ providers) =
    both_and (may_come provider (first_progress world mode provider)) (may_all providers (map (first_progress world mode) providers))
    (may_open provider (scheme_of provider.config) (WellKnownUrlOf world.rules provider.config)
    (is_gated mode (status_of world.login (origin_of provider.config))) refl)
    (may_first world mode providers)

pub not_one : {A : Type 0} (xs : List A) → 2 ≤ length xs → (length xs == 1) ≡ false
not_one xs two = go (length xs == 1) refl
  where
    go : (t : Bool) → (length xs == 1) ≡ t → t ≡ false
    go true e = let one = eqb-true (length xs) 1 e in absurd (omega arith)
    go false e = refl
