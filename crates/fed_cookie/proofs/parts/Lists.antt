-- Lemmas on lists that the readers share.
use Rattle.std.proofs.Common.{◌≡◌, ℕ, ◌+◌, ◌<◌, ◌≤◌, Bool, cond, List, [], ◌∷◌, length, take, drop, get_or, Some, None, position, sym, ap}
use Rattle.std.proofs.Common.{◌∙◌, subst, arith}
use Rattle.std.specs.Prelude.{nat_lt}
use Rattle.fed_cookie.specs.Bytes.{number_of}
use Rattle.std.specs.List.{slice_split, position_or_len}
use Rattle.std.proofs.lemmas.List.Splits.{slice_split_first, slice_split_none}
use Rattle.std.proofs.lemmas.List.Sums.{fails_before_first}
use Rattle.std.proofs.lemmas.Bool.Decides.{nat_tests}
use Rattle.std.proofs.Common.{length-drop, ◌-◌}
use Rattle.std.proofs.lemmas.List.{take_all}

at_place : (p : ℕ → Bool) (xs : List ℕ) (i : ℕ)
    → cond (nat_lt (position_or_len p xs) (length xs)) (Some (position_or_len p xs)) None ≡ Some i
    → (position_or_len p xs ≡ i) × (i < length xs)
at_place p xs i e = grind (arith, nat_tests)

-- the pieces, where the first ends at i
pub split_at : (p : ℕ → Bool) (xs : List ℕ) (i : ℕ) → position p xs ≡ Some i
    → slice_split p xs ≡ take i xs ∷ slice_split p (drop (i + 1) xs)
split_at p xs i e =
    let h = at_place p xs i e in
    let within : position_or_len p xs < length xs = omega (arith, h.0, h.1) in
    let P : ℕ → Type 0 = λ n. slice_split p xs ≡ take n xs ∷ slice_split p (drop (n + 1) xs) in
    subst P h.0 (slice_split_first p xs 0 within)

-- the place lies within the list
pub place_within : (p : ℕ → Bool) (xs : List ℕ) (i : ℕ) → position p xs ≡ Some i → i < length xs
place_within p xs i e = (at_place p xs i e).1

no_place : (p : ℕ → Bool) (xs : List ℕ) → cond (nat_lt (position_or_len p xs) (length xs)) (Some (position_or_len p xs)) None ≡ None
    → length xs ≤ position_or_len p xs
no_place p xs e = grind (arith, nat_tests)

-- the one piece, where there is no place to cut
pub split_nowhere : (p : ℕ → Bool) (xs : List ℕ) → position p xs ≡ None → slice_split p xs ≡ xs ∷ []
split_nowhere p xs e =
    let h = no_place p xs e in
    slice_split_none p xs (λ k d below. fails_before_first p xs k d (omega (arith, h)))

-- at most four digits write a small number
pub four_digits : (xs : List ℕ) → ((k : ℕ) → k < length xs → get_or xs k 0 < 256) → length xs ≤ 4 → number_of xs < 1000000
four_digits [] h short = omega arith
four_digits (a ∷ []) h short = let p : a < 256 = h 0 (omega arith) in omega arith
four_digits (a ∷ b ∷ []) h short = let p : a < 256 = h 0 (omega arith) in let q : b < 256 = h 1 (omega arith) in omega arith
four_digits (a ∷ b ∷ d ∷ []) h short =
    let p : a < 256 = h 0 (omega arith) in let q : b < 256 = h 1 (omega arith) in let r : d < 256 = h 2 (omega arith) in omega arith
four_digits (a ∷ b ∷ d ∷ e ∷ []) h short =
    let p : a < 256 = h 0 (omega arith) in let q : b < 256 = h 1 (omega arith) in let r : d < 256 = h 2 (omega arith) in let s : e < 256 =
    h 3 (omega arith) in omega arith
four_digits (a ∷ b ∷ d ∷ e ∷ f ∷ more) h short = absurd (omega arith)

-- the same, in the words of `&xs[i + 1..]`
pub split_at_range : (p : ℕ → Bool) (xs : List ℕ) (i : ℕ) → position p xs ≡ Some i
    → slice_split p xs ≡ take i xs ∷ slice_split p (take (length xs - (i + 1)) (drop (i + 1) xs))
split_at_range p xs i e =
    let h = place_within p xs i e in
    let same : take (length xs - (i + 1)) (drop (i + 1) xs) ≡ drop (i + 1) xs =
    take_all (length xs - (i + 1)) (drop (i + 1) xs) (omega (arith, length-drop (i + 1) xs)) in
    split_at p xs i e ∙ ap (λ rest. take i xs ∷ slice_split p rest) (sym same)
