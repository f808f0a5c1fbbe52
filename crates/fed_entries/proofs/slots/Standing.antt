-- Where there are no holes, an entry stands at the place of its slot.
use Rattle.std.proofs.Common.{◌≡◌, ◌≤◌, ℕ, zero, suc, List, [], ◌∷◌, length, slice_get, Option, Some, None}
use Rattle.std.proofs.Common.{arith, refl}
use Rattle.std.specs.Prelude.{option_and_then, option_map}
use Rattle.std.specs.Map.{values_of}
use Rattle.fed_entries.specs.Entries.{entries_in}

module _ {K V : Type 0} where
  at_most : (slots : List (Option (K × V))) → length (entries_in slots) ≤ length slots
  at_most [] = omega arith
  at_most (None ∷ slots) = let rest = at_most slots in omega (arith, rest)
  at_most (Some entry ∷ slots) = let rest = at_most slots in omega (arith, rest)

  pub full : (slots : List (Option (K × V))) (k : ℕ) → length (entries_in slots) ≡ length slots
      → option_map (λ entry. entry.1) (option_and_then (λ slot. slot) (slice_get slots k)) ≡ slice_get (values_of (entries_in slots)) k
  full [] k e = refl
  full (None ∷ slots) k e = let most = at_most slots in absurd (omega (arith, e, most))
  full (Some entry ∷ slots) zero e = refl
  full (Some entry ∷ slots) (suc k) e = full slots k (omega (arith, e))
