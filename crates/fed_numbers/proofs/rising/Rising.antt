-- Numbers that rise: where a search by halves ends, and one more that is above all.
use Rattle.std.proofs.Common.{◌≡◌, ℕ, nat_eq, List, [], ◌∷◌, ◌++◌, ◌+◌, ◌-◌, ◌<◌, ◌≤◌, length, get_or}
use Rattle.std.proofs.Common.{None, Result, Ok, Err, sym, ap, arith}
use Rattle.std.specs.List.{position}
use Rattle.std.specs.List.Sorted.{IsSearchInRange, IsBinarySearchResult, IsNonDecreasingBy}
use Rattle.std.specs.Ordering.{nat_cmp, ordering_index}
use Rattle.std.specs.Result.{result_ok}
use Rattle.std.proofs.Math.Logic.{⊎_elim}
use Rattle.std.proofs.lemmas.Bool.{cases_lt}
use Rattle.std.proofs.lemmas.Bool.Decides.{nat_tests}
use Rattle.std.proofs.lemmas.Cmp.{ranked}
use Rattle.std.proofs.lemmas.List.{get_or_append_left, get_or_push, length-append}
use Rattle.std.proofs.lemmas.List.Sorted.{IsNonDecreasingBy-from_default}
use Rattle.fed_numbers.specs.Numbers.{AreRising}
use Rattle.fed_numbers.proofs.rising.Places.{place_is, no_place}

-- each is below this number
abbrev pub AreBelow : ℕ → List ℕ → Type 0
AreBelow number xs = (place : ℕ) → place < length xs → get_or xs place 0 < number

pub none_above : (number : ℕ) (xs : List ℕ) → AreBelow number xs → position (nat_eq number) xs ≡ None
none_above number xs below = no_place (nat_eq number) xs 0 (λ k lt. grind (arith, nat_tests, below k lt))

module _ (xs : List ℕ) (rising : AreRising xs) where
  pub below_from_last : (number : ℕ) → get_or xs (length xs - 1) 0 < number → AreBelow number xs
  below_from_last number last place lt = ⊎_elim
      (λ before. let less = rising place (length xs - 1) before (omega arith) in omega arith)
      (λ at. let same : place ≡ length xs - 1 = omega arith in rw same last)
      (cases_lt place (length xs - 1))

  pub rising_push : (number : ℕ) → AreBelow number xs → AreRising (xs ++ number ∷ [])
  rising_push number below i j lt within =
      let long : length (xs ++ number ∷ []) ≡ length xs + 1 = length-append xs (number ∷ []) in
      let first = get_or_append_left xs (number ∷ []) 0 i (omega (arith, lt, within, long)) in
      ⊎_elim
      (λ inside. rw (first, get_or_append_left xs (number ∷ []) 0 j inside) (rising i j lt inside))
      (λ past. let same : length xs ≡ j = omega (arith, within, long) in
      rw (first, get_or_push xs number 0 j same) (below i (omega (arith, lt, same))))
      (cases_lt j (length xs))

  -- the comparisons with a number rise along the list, as a search by halves asks
  comparisons_rise : (number : ℕ) → IsNonDecreasingBy (λ x. ordering_index (nat_cmp x number)) xs
  comparisons_rise number = IsNonDecreasingBy-from_default (λ x. ordering_index (nat_cmp x number)) xs 0 (λ i j le within.
      let rise : get_or xs i 0 ≤ get_or xs j 0 = grind (arith, rising i j, λ (same : i ≡ j). ap (λ n. get_or xs n 0) same) in
      grind (arith, nat_tests))

  -- it ends at the place of the number, or there is none
  pub searched : (number : ℕ) (r : Result ℕ ℕ) → IsSearchInRange r (length xs)
      → IsBinarySearchResult (λ x. nat_cmp x number) xs r → result_ok r ≡ position (nat_eq number) xs
  searched number (Ok at) within equal =
      let is : get_or xs at 0 ≡ number = ranked _ number _ (sym (equal 0)) in
      sym (place_is (nat_eq number) xs at 0 within
      (λ k lt. let less = rising k at lt within in grind (arith, nat_tests))
      (grind (arith, nat_tests)))
  searched number (Err at) within parted =
      sym (no_place (nat_eq number) xs 0
      (λ k lt. ⊎_elim
      (λ before. let less = ranked _ number _ (sym ((parted (comparisons_rise number)).0 k 0 (omega arith) before)) in grind (arith, nat_tests))
      (λ after. let more = ranked _ number _ (sym ((parted (comparisons_rise number)).1 k 0 after lt)) in grind (arith, nat_tests))
      (cases_lt k at)))

pub rising_front : (xs ys : List ℕ) → AreRising (xs ++ ys) → AreRising xs
rising_front xs ys rising i j lt within =
    let long = length-append xs ys in
    rw (← get_or_append_left xs ys 0 i (omega (arith, lt, within)), ← get_or_append_left xs ys 0 j within)
    (rising i j lt (omega (arith, within, long)))
