-- A list whose elements are written one after another.
use Rattle.std.proofs.Common.{◌≡◌, ℕ, zero, suc, ◌+◌, ◌<◌, List, [], ◌∷◌, ◌++◌, length, map, take, drop, get_or}
use Rattle.std.proofs.Common.{refl, ap, arith, add-one}
use Rattle.std.specs.Prelude.{slice_set}

module _ {X : Type 0} (f : X → X) where
  -- what is not written yet is as it was
  unwritten : (k : ℕ) (xs : List X) (d : X) → k < length xs → get_or (map f (take k xs) ++ drop k xs) k d ≡ get_or xs k d
  unwritten k [] d inside = absurd (omega arith)
  unwritten zero (x ∷ xs) d inside = refl
  unwritten (suc k) (x ∷ xs) d inside = unwritten k xs d (omega arith)

  one_more : (k : ℕ) (xs : List X) (d : X) → k < length xs
      → slice_set (map f (take k xs) ++ drop k xs) k (f (get_or xs k d)) ≡ map f (take (suc k) xs) ++ drop (suc k) xs
  one_more k [] d inside = absurd (omega arith)
  one_more zero (x ∷ xs) d inside = refl
  one_more (suc k) (x ∷ xs) d inside = ap (λ l. f x ∷ l) (one_more k xs d (omega arith))

  pub next_written : (k : ℕ) (xs ys : List X) (d : X) → k < length xs → ys ≡ map f (take k xs) ++ drop k xs
      → slice_set ys k (f (get_or ys k d)) ≡ map f (take (k + 1) xs) ++ drop (k + 1) xs
  next_written k xs ys d inside e =
      rw (e, unwritten k xs d inside, add-one) (one_more k xs d inside)
