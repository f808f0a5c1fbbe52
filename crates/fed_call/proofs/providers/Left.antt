-- Providers from a place on.
use Rattle.std.proofs.Common.{◌≡◌, ℕ, zero, suc, ◌+◌, ◌<◌, true, List, [], ◌∷◌, ◌++◌, drop, length, map, option_to_list, Some}
use Rattle.std.proofs.Common.{refl, ap, arith, add-one, append_assoc, length-drop}
use Rattle.std.specs.Prelude.{is_some, slice_get}
use Rattle.std.proofs.lemmas.List.{map-append}
use Rattle.fed_origin.specs.declared.options.ProviderOptions.{ProviderOptions}
use Rattle.fed_origin.specs.declared.origin.Origin.{Origin}
use Rattle.fed_origin.specs.declared.status.Triple.{Triple}
use Rattle.fed_accounts.specs.declared.offer.Offer.{Offer}
use Rattle.fed_call.specs.declared.progress.Progress.{Progress}
use Rattle.fed_call.specs.Accounts.{Shortlist}
use Rattle.fed_call.specs.Facts.{shortlist, shortlists}

drop_at : {A : Type 0} (xs : List A) (n : ℕ) (x : A) → slice_get xs n ≡ Some x → drop n xs ≡ x ∷ drop (suc n) xs
drop_at [] n x e = absurd (cc)
drop_at (y ∷ ys) zero x e = let same : y ≡ x = cc in ap (λ z. z ∷ ys) same
drop_at (y ∷ ys) (suc n) x e = drop_at ys n x e

pub is_there : {A : Type 0} (xs : List A) (n : ℕ) → n < length xs → is_some (slice_get xs n) ≡ true
is_there [] n inside = absurd (omega arith)
is_there (x ∷ xs) zero inside = refl
is_there (x ∷ xs) (suc n) inside = is_there xs n (omega arith)

pub some_there : {A : Type 0} (xs : List A) (n : ℕ) → is_some (slice_get xs n) ≡ true → (x : A) × (slice_get xs n ≡ Some x)
some_there [] n e = absurd (cc)
some_there (x ∷ xs) zero e = (x, refl)
some_there (x ∷ xs) (suc n) e = some_there xs n e

pub none_left : (kept : List Triple) (page : Origin) (n : ℕ) (providers : List ProviderOptions) → shortlists kept page n providers [] ≡ []
none_left kept page n [] = refl
none_left kept page n (p ∷ providers) = refl

-- one more provider is looked at
pub one_more : (kept : List Triple) (page : Origin) (n : ℕ) (providers : List ProviderOptions) (provider : ProviderOptions)
    (progress : Progress) (rest : List Progress) (old now all : List Offer)
    → slice_get providers n ≡ Some provider
    → now ≡ old ++ map (λ (list : Shortlist). list.offer) (option_to_list (shortlist kept page n provider progress))
    → old ++ map (λ (list : Shortlist). list.offer) (shortlists kept page n (drop n providers) (progress ∷ rest)) ≡ all
    → now ++ map (λ (list : Shortlist). list.offer) (shortlists kept page (n + 1) (drop (n + 1) providers) rest) ≡ all
one_more kept page n providers provider progress rest old now all at is before =
    let here = option_to_list (shortlist kept page n provider progress) in
    let more = shortlists kept page (suc n) (drop (suc n) providers) rest in
    let offers : List Shortlist → List Offer = map (λ list. list.offer) in
    let before_at : old ++ offers (here ++ more) ≡ all = rw (drop_at providers n provider at) at before in
    rw (add-one n, is, append_assoc old (offers here) (offers more), ← map-append (λ (list : Shortlist). list.offer) here more) before_at

pub one_fewer : {A B : Type 0} (xs : List A) (ys : List B) (y : B) (n : ℕ) → length (y ∷ ys) ≡ length (drop n xs)
    → length ys ≡ length (drop (n + 1) xs)
one_fewer xs ys y n e = omega (arith, length-drop n xs, length-drop (n + 1) xs)

pub inside : {A B : Type 0} (xs : List A) (ys : List B) (y : B) (n : ℕ) → length (y ∷ ys) ≡ length (drop n xs) → n < length xs
inside xs ys y n e = omega (arith, length-drop n xs)
