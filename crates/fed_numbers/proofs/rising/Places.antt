-- The first place that passes a test, in one list and in two.
use Rattle.std.proofs.Common.{◌≡◌, ℕ, zero, suc, Bool, true, false, ◌||◌, List, [], ◌∷◌, ◌++◌, ◌+◌, ◌-◌, ◌<◌, ◌≤◌, length, get_or}
use Rattle.std.proofs.Common.{Option, Some, None, is_some, refl, sym, ap, ◌∙◌, arith}
use Rattle.std.proofs.Math.Logic.{⊎_elim}
use Rattle.std.specs.List.{position, position_or_len, list_any}
use Rattle.std.proofs.lemmas.Bool.{cases_lt}
use Rattle.std.proofs.lemmas.Grind.{common_steps}
use Rattle.std.proofs.lemmas.List.{get_or_append_left, get_or-append_right, length-append}
use Rattle.std.proofs.lemmas.List.Quantifiers.{position-Some}
use Rattle.std.proofs.lemmas.List.Sums.{position_or_len_is, fails_before_first}

module _ {X : Type 0} (p : X → Bool) where
  pub place_is : (xs : List X) (i : ℕ) (d : X) → i < length xs → ((k : ℕ) → k < i → p (get_or xs k d) ≡ false)
      → p (get_or xs i d) ≡ true → position p xs ≡ Some i
  place_is xs i d lt fails passes =
      let first : position_or_len p xs ≡ i = position_or_len_is p xs i d (omega arith) fails (λ _. passes) in
      grind (arith, common_steps)

  pub no_place : (xs : List X) (d : X) → ((k : ℕ) → k < length xs → p (get_or xs k d) ≡ false) → position p xs ≡ None
  no_place xs d fails =
      let first : position_or_len p xs ≡ length xs = position_or_len_is p xs (length xs) d (omega arith) fails (λ h. absurd (omega arith)) in
      grind (arith, common_steps)

  pub none_passes : (xs : List X) (k : ℕ) (d : X) → position p xs ≡ None → k < length xs → p (get_or xs k d) ≡ false
  none_passes xs k d none lt =
      let past : length xs ≤ position_or_len p xs = grind (arith, common_steps) in
      fails_before_first p xs k d (omega arith)

  -- a place in the first of two lists
  pub place_left : (xs ys : List X) (i : ℕ) (d : X) → position p xs ≡ Some i → position p (xs ++ ys) ≡ Some i
  place_left xs ys i d e =
      let at = position-Some p xs i d e in
      let long = length-append xs ys in
      place_is (xs ++ ys) i d (omega (arith, at.0, long))
      (λ k lt. ap p (get_or_append_left xs ys d k (omega (arith, at.0, lt))) ∙ at.2 k lt)
      (ap p (get_or_append_left xs ys d i at.0) ∙ at.1)

  -- a place in the second, where none is in the first
  pub place_right : (xs ys : List X) (i : ℕ) (d : X) → position p xs ≡ None → position p ys ≡ Some i
      → position p (xs ++ ys) ≡ Some (length xs + i)
  place_right xs ys i d none e =
      let at = position-Some p ys i d e in
      let long = length-append xs ys in
      place_is (xs ++ ys) (length xs + i) d (omega (arith, at.0, long))
      (λ k lt. ⊎_elim
      (λ below. ap p (get_or_append_left xs ys d k below) ∙ none_passes xs k d none below)
      (λ past. ap p (get_or-append_right xs ys (length xs) k d refl past) ∙ at.2 (k - length xs) (omega (arith, lt, past)))
      (cases_lt k (length xs)))
      (ap p (get_or-append_right xs ys (length xs) (length xs + i) d refl (omega arith))
      ∙ ap (λ n. p (get_or ys n d)) (omega arith) ∙ at.1)

  -- none in either
  pub none_in_both : (xs ys : List X) (d : X) → position p xs ≡ None → position p ys ≡ None → position p (xs ++ ys) ≡ None
  none_in_both xs ys d none other =
      let long = length-append xs ys in
      no_place (xs ++ ys) d
      (λ k lt. ⊎_elim
      (λ below. ap p (get_or_append_left xs ys d k below) ∙ none_passes xs k d none below)
      (λ past. ap p (get_or-append_right xs ys (length xs) k d refl past)
      ∙ none_passes ys (k - length xs) d other (omega (arith, lt, past, long)))
      (cases_lt k (length xs)))

  -- a place is found just where an element passes
  pub is_found : (xs : List X) → is_some (position p xs) ≡ list_any p xs
  is_found [] = refl
  is_found (x ∷ xs) = by (p x) refl (position p xs) refl (is_found xs)
    where
      only : p x ≡ false → (k : ℕ) → k < 1 → p (get_or (x ∷ []) k x) ≡ false
      only e zero h = e
      only e (suc k) h = absurd (omega arith)

      by : (b : Bool) → p x ≡ b → (o : Option ℕ) → position p xs ≡ o → is_some (position p xs) ≡ list_any p xs
          → is_some (position p (x ∷ xs)) ≡ list_any p (x ∷ xs)
      by true e o f rest =
          ap is_some (place_is (x ∷ xs) 0 x (omega arith) (λ k h. absurd (omega arith)) e) ∙ sym (ap (λ b. b || list_any p xs) e)
      by false e None f rest =
          ap is_some (none_in_both (x ∷ []) xs x (no_place (x ∷ []) x (only e)) f)
          ∙ (sym (ap is_some f) ∙ rest) ∙ sym (ap (λ b. b || list_any p xs) e)
      by false e (Some i) f rest =
          ap is_some (place_right (x ∷ []) xs i x (no_place (x ∷ []) x (only e)) f)
          ∙ (sym (ap is_some f) ∙ rest) ∙ sym (ap (λ b. b || list_any p xs) e)
