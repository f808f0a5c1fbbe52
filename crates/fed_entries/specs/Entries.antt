-- Entries in order of entering, and the holes that those which went have left.
use Rattle.std.specs.Prelude.{◌≡◌, ◌≤◌, ◌+◌, ◌^◌, ℕ, suc, Bool, false, cond, List, [], ◌∷◌, length, Option, None, Some, option_map}
use Rattle.std.specs.Prelude.{slice_get, slice_set, if◌then◌else◌}
use Rattle.std.specs.List.{IsDistinct, filter_map}
use Rattle.std.specs.Map.{keys_of, lookup}
use Rattle.std.specs.Option.{option_map_or}

module _ {K V : Type 0} where
  -- the entries that stand in slots
  abbrev pub entries_in : List (Option (K × V)) → List (K × V)
  entries_in slots = filter_map (λ slot. slot) slots

  -- an entry stands in the slot, and its key passes the test
  abbrev pub holds : (K → Bool) → Option (K × V) → Bool
  holds test slot = option_map_or (λ entry. test entry.0) slot false

  -- the place of the first slot with such an entry
  abbrev pub place_in : (K → Bool) → List (Option (K × V)) → Option ℕ
  place_in test [] = None
  place_in test (slot ∷ slots) = if holds test slot then Some 0 else option_map (λ place. suc place) (place_in test slots)

  -- what stands at a place, if there is one, becomes this
  abbrev pub with_slot : (Option (K × V) → Option (K × V)) → ℕ → List (Option (K × V)) → List (Option (K × V))
  with_slot change place slots = option_map_or (λ slot. slice_set slots place (change slot)) (slice_get slots place) slots

  -- a hole is left there
  abbrev pub with_hole : ℕ → List (Option (K × V)) → List (Option (K × V))
  with_hole place slots = with_slot (λ slot. None) place slots

  -- the entry there has another value
  abbrev pub with_value : V → ℕ → List (Option (K × V)) → List (Option (K × V))
  with_value value place slots = with_slot (option_map (λ entry. (entry.0, value))) place slots

  -- what is true of each such list: an entry is found by its key exactly where it stands, and none stands twice
  pub record AreEntries (same : K → K → Bool) (places : List (K × ℕ)) (slots : List (Option (K × V))) : Type 0 where
    pub found : (key : K) → lookup (same key) places ≡ place_in (same key) slots
    pub count : length places ≡ length (entries_in slots)
    pub fits : length slots ≤ 2 ^ 32
    pub distinct : IsDistinct same (keys_of (entries_in slots))

module _ {K : Type 0} (same : K → K → Bool) where
  -- a place is that of this key, and the places of the others stay
  abbrev pub PlacesOne : K → ℕ → List (K × ℕ) → List (K × ℕ) → Type 0
  PlacesOne key place old new =
      (other : K) → lookup (same other) new ≡ cond (same key other) (Some place) (lookup (same other) old)

  -- where the key has no place, there is one place more
  abbrev pub CountsOne : K → List (K × ℕ) → List (K × ℕ) → Type 0
  CountsOne key old new = lookup (same key) old ≡ None → length new ≡ length old + 1
