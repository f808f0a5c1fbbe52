-- The first line of bytes, and the lines after it.
use Rattle.std.proofs.Common.{◌≡◌, ◌∙◌, ℕ, suc, ◌+◌, ◌<◌, ◌≤◌, Bool, true, false, cond, ◌||◌, not, eqb, ltb}
use Rattle.std.proofs.Common.{List, [], ◌∷◌, ◌++◌, length, take, drop, Some, None, refl, ap, arith}
use Rattle.std.proofs.Math.ListN.{drop_of_length-le}
use Rattle.std.proofs.Math.Seq.{take-length}
use Rattle.std.proofs.lemmas.List.Sums.{prefix_len-le-length}
use borrow.Author.Tests.{ltb-false}
use Rattle.std.specs.List.{list_any, onto_first, before_first, after_first, position, position_or_len}
use Rattle.fed_script.specs.Script.{lines_of}

abbrev pub is_lf : ℕ → Bool
is_lf b = eqb b 10

-- none passes before the first that does
pub none_before : {X : Type 0} (p : X → Bool) (xs : List X) → list_any p (before_first p xs) ≡ false
none_before p [] = refl
none_before {X} p (x ∷ xs) = by (p x) refl (none_before p xs)
  where
    by : (passes : Bool) → p x ≡ passes → list_any p (before_first p xs) ≡ false
        → list_any p (take (cond (not passes) (1 + position_or_len p xs) 0) (x ∷ xs)) ≡ false
    by true is none = refl
    by false is none =
        let here : 1 + position_or_len p xs ≡ suc (position_or_len p xs) = omega arith in
        rw here (ap (λ b. b || list_any p (before_first p xs)) is ∙ none)

-- the first line after one byte more in front of it
grown : (b n : ℕ) (xs : List ℕ)
    → (b ∷ take n xs) ∷ lines_of (drop (n + 1) xs) ≡ take (1 + n) (b ∷ xs) ∷ lines_of (drop (1 + n + 1) (b ∷ xs))
grown b n xs =
    let here : 1 + n ≡ suc n = omega arith in
    let next : suc n + 1 ≡ suc (n + 1) = omega arith in
    rw (here, next) refl

-- the lines of bytes are the first line, and the lines of what follows it
pub lines_of-first : (b : ℕ) (bytes : List ℕ)
    → lines_of (b ∷ bytes) ≡ before_first (λ x. eqb x 10) (b ∷ bytes) ∷ lines_of (after_first (λ x. eqb x 10) (b ∷ bytes))
lines_of-first b [] = at_end (eqb b 10)
  where
    at_end : (ends : Bool)
        → cond ends ([] ∷ []) ((b ∷ []) ∷ [])
        ≡ take (cond (not ends) (1 + 0) 0) (b ∷ []) ∷ lines_of (drop (cond (not ends) (1 + 0) 0 + 1) (b ∷ []))
    at_end true = refl
    at_end false = refl
lines_of-first b (c ∷ bytes) = step (eqb b 10) (position_or_len (λ x. eqb x 10) (c ∷ bytes)) (lines_of-first c bytes)
  where
    step : (ends : Bool) (n : ℕ) → lines_of (c ∷ bytes) ≡ take n (c ∷ bytes) ∷ lines_of (drop (n + 1) (c ∷ bytes))
        → cond ends ([] ∷ lines_of (c ∷ bytes)) (onto_first b (lines_of (c ∷ bytes)))
        ≡ take (cond (not ends) (1 + n) 0) (b ∷ c ∷ bytes) ∷ lines_of (drop (cond (not ends) (1 + n) 0 + 1) (b ∷ c ∷ bytes))
    step true n later = refl
    step false n later = ap (onto_first b) later ∙ grown b n (c ∷ bytes)

-- bytes up to an LF are a line, and what follows them are the further lines
pub lines_of-line : (front more : List ℕ) → list_any (λ b. eqb b 10) front ≡ false → lines_of (front ++ 10 ∷ more) ≡ front ∷ lines_of more
lines_of-line [] more none = refl
lines_of-line (b ∷ front) more none = step (eqb b 10) none (lines_of-line front more)
  where
    step : (ends : Bool) → (ends || list_any (λ x. eqb x 10) front) ≡ false
        → (list_any (λ x. eqb x 10) front ≡ false → lines_of (front ++ 10 ∷ more) ≡ front ∷ lines_of more)
        → cond ends ([] ∷ lines_of (front ++ 10 ∷ more)) (onto_first b (lines_of (front ++ 10 ∷ more))) ≡ (b ∷ front) ∷ lines_of more
    step true any later = cc
    step false any later = ap (onto_first b) (later any)

-- bytes without an LF are one line, unless there are none
pub lines_of-last : (b : ℕ) (bytes : List ℕ) → list_any (λ x. eqb x 10) (b ∷ bytes) ≡ false → lines_of (b ∷ bytes) ≡ (b ∷ bytes) ∷ []
lines_of-last b [] none = at_end (eqb b 10) none
  where
    at_end : (ends : Bool) → (ends || false) ≡ false → cond ends ([] ∷ []) ((b ∷ []) ∷ []) ≡ (b ∷ []) ∷ []
    at_end true any = cc
    at_end false any = refl
lines_of-last b (c ∷ bytes) none = step (eqb b 10) none (lines_of-last c bytes)
  where
    step : (ends : Bool) → (ends || list_any (λ x. eqb x 10) (c ∷ bytes)) ≡ false
        → (list_any (λ x. eqb x 10) (c ∷ bytes) ≡ false → lines_of (c ∷ bytes) ≡ (c ∷ bytes) ∷ [])
        → cond ends ([] ∷ lines_of (c ∷ bytes)) (onto_first b (lines_of (c ∷ bytes))) ≡ (b ∷ c ∷ bytes) ∷ []
    step true any later = cc
    step false any later = ap (onto_first b) (later any)

-- the place that `position` gives is the first
pub place_is : (n end : ℕ) (found : Bool) → Some end ≡ cond found (Some n) None → end ≡ n
place_is n end true at = cc
place_is n end false at = cc

-- where it gives none, the first place is the end
pub place_is-end : (n len : ℕ) (found : Bool) → ltb n len ≡ found → n ≤ len → None ≡ cond found (Some n) None → n ≡ len
place_is-end n len true test within at = cc
place_is-end n len false test within at = let past : len ≤ n = ltb-false n len test in omega arith

-- the first line of bytes with an LF, by the places of the code
pub lines_of-cut : (bytes : List ℕ) (end : ℕ) → end < length bytes → Some end ≡ position (λ x. eqb x 10) bytes
    → lines_of bytes ≡ take end bytes ∷ lines_of (drop (end + 1) bytes)
lines_of-cut [] end within at = absurd (omega arith)
lines_of-cut (b ∷ bytes) end within at = rw (place_is _ end _ at) (lines_of-first b bytes)

-- the only line of bytes without an LF
pub lines_of-whole : (bytes : List ℕ) → 0 < length bytes → None ≡ position (λ x. eqb x 10) bytes → lines_of bytes ≡ bytes ∷ []
lines_of-whole [] some at = absurd (omega arith)
lines_of-whole (b ∷ bytes) some at =
    whole _ (place_is-end _ _ _ refl (prefix_len-le-length (λ x. not (eqb x 10)) (b ∷ bytes)) at) (lines_of-first b bytes)
  where
    whole : (n : ℕ) → n ≡ length (b ∷ bytes) → lines_of (b ∷ bytes) ≡ take n (b ∷ bytes) ∷ lines_of (drop (n + 1) (b ∷ bytes))
        → lines_of (b ∷ bytes) ≡ (b ∷ bytes) ∷ []
    whole n is lines =
        let past : length (b ∷ bytes) ≤ n + 1 = omega arith in
        let none : drop (n + 1) (b ∷ bytes) ≡ [] = drop_of_length-le (b ∷ bytes) past in
        let all : take n (b ∷ bytes) ≡ b ∷ bytes = rw is (take-length (b ∷ bytes)) in
        rw (none, all) at lines
