-- What a write to a slot does to the entries and their places.
use Rattle.std.proofs.Common.{◌≡◌, ℕ, zero, suc, Bool, true, false, cond, List, [], ◌∷◌, length}
use Rattle.std.proofs.Common.{Option, Some, None, refl, sym, ap, ◌∙◌}
use Rattle.std.specs.Prelude.{option_map, slice_get, slice_set}
use Rattle.std.specs.Cmp.{IsEquivalence}
use Rattle.std.specs.List.{IsDistinct}
use Rattle.std.specs.Map.{keys_of, remove_entry, set_value}
use Rattle.std.specs.Option.{option_map_or}
use Rattle.fed_entries.specs.Entries.{entries_in, holds, place_in, with_slot, with_hole, with_value}
use Rattle.fed_entries.proofs.slots.Places.{some_one, next_is, next_cond, none_apart}

module _ {K V : Type 0} where
  later_slot : (change : Option (K × V) → Option (K × V)) (place : ℕ) (slot : Option (K × V)) (slots : List (Option (K × V)))
      → with_slot change (suc place) (slot ∷ slots) ≡ slot ∷ with_slot change place slots
  later_slot change place slot slots = into (slice_get slots place)
    where
      into : (o : Option (Option (K × V)))
          → option_map_or (λ s. slot ∷ slice_set slots place (change s)) o (slot ∷ slots)
          ≡ slot ∷ option_map_or (λ s. slice_set slots place (change s)) o slots
      into None = refl
      into (Some s) = refl

  pub length_written : (change : Option (K × V) → Option (K × V)) (place : ℕ) (slots : List (Option (K × V)))
      → length (with_slot change place slots) ≡ length slots
  length_written change place [] = refl
  length_written change zero (slot ∷ slots) = refl
  length_written change (suc place) (slot ∷ slots) =
      ap length (later_slot change place slot slots) ∙ ap (λ n. suc n) (length_written change place slots)

  holds_written : (test : K → Bool) (value : V) (slot : Option (K × V))
      → holds test (option_map (λ entry. (entry.0, value)) slot) ≡ holds test slot
  holds_written test value None = refl
  holds_written test value (Some entry) = refl

  -- a write of a value moves nothing
  pub place_written : (test : K → Bool) (value : V) (place : ℕ) (slots : List (Option (K × V)))
      → place_in test (with_value value place slots) ≡ place_in test slots
  place_written test value place [] = refl
  place_written test value zero (slot ∷ slots) =
      ap (λ b. cond b (Some 0) (option_map (λ p. suc p) (place_in test slots))) (holds_written test value slot)
  place_written test value (suc place) (slot ∷ slots) =
      ap (place_in test) (later_slot (option_map (λ entry. (entry.0, value))) place slot slots)
      ∙ ap (λ o. cond (holds test slot) (Some 0) (option_map (λ p. suc p) o)) (place_written test value place slots)

module _ {K V : Type 0} (test : K → Bool) where
  -- where an entry leaves a hole, the others stand
  pub hole : (place : ℕ) (slots : List (Option (K × V))) → place_in test slots ≡ Some place
      → entries_in (with_hole place slots) ≡ remove_entry test (entries_in slots)
  hole place [] e = cc
  hole place (None ∷ slots) e =
      let next = next_is (place_in test slots) place e in
      ap (λ p. entries_in (with_hole p (None ∷ slots))) next.2
      ∙ ap entries_in (later_slot (λ slot. None) next.0 None slots)
      ∙ hole next.0 slots next.1
  hole place (Some entry ∷ slots) e = pick (test entry.0) e (λ before f. hole before slots f)
    where
      pick : (b : Bool) → cond b (Some 0) (option_map (λ p. suc p) (place_in test slots)) ≡ Some place
          → ((before : ℕ) → place_in test slots ≡ Some before
          → entries_in (with_hole before slots) ≡ remove_entry test (entries_in slots))
          → entries_in (with_hole place (Some entry ∷ slots))
          ≡ cond b (entries_in slots) (entry ∷ remove_entry test (entries_in slots))
      pick true f later = ap (λ p. entries_in (with_hole p (Some entry ∷ slots))) (sym (some_one 0 place f))
      pick false f later =
          let next = next_is (place_in test slots) place f in
          ap (λ p. entries_in (with_hole p (Some entry ∷ slots))) next.2
          ∙ ap entries_in (later_slot (λ slot. None) next.0 (Some entry) slots)
          ∙ ap (λ es. entry ∷ es) (later next.0 next.1)

  pub value_written : (value : V) (place : ℕ) (slots : List (Option (K × V))) → place_in test slots ≡ Some place
      → entries_in (with_value value place slots) ≡ set_value test (entries_in slots) value
  value_written value place [] e = cc
  value_written value place (None ∷ slots) e =
      let next = next_is (place_in test slots) place e in
      ap (λ p. entries_in (with_value value p (None ∷ slots))) next.2
      ∙ ap entries_in (later_slot (option_map (λ entry. (entry.0, value))) next.0 None slots)
      ∙ value_written value next.0 slots next.1
  value_written value place (Some entry ∷ slots) e = pick (test entry.0) e (λ before f. value_written value before slots f)
    where
      pick : (b : Bool) → cond b (Some 0) (option_map (λ p. suc p) (place_in test slots)) ≡ Some place
          → ((before : ℕ) → place_in test slots ≡ Some before
          → entries_in (with_value value before slots) ≡ set_value test (entries_in slots) value)
          → entries_in (with_value value place (Some entry ∷ slots))
          ≡ cond b ((entry.0, value) ∷ entries_in slots) (entry ∷ set_value test (entries_in slots) value)
      pick true f later = ap (λ p. entries_in (with_value value p (Some entry ∷ slots))) (sym (some_one 0 place f))
      pick false f later =
          let next = next_is (place_in test slots) place f in
          ap (λ p. entries_in (with_value value p (Some entry ∷ slots))) next.2
          ∙ ap entries_in (later_slot (option_map (λ entry. (entry.0, value))) next.0 (Some entry) slots)
          ∙ ap (λ es. entry ∷ es) (later next.0 next.1)

module _ {K V : Type 0} (same : K → K → Bool) (laws : IsEquivalence same) where
  -- a key whose entry goes has no place, and the others keep theirs
  pub place_hole : (key other : K) (place : ℕ) (slots : List (Option (K × V))) → place_in (same key) slots ≡ Some place
      → IsDistinct same (keys_of (entries_in slots))
      → place_in (same other) (with_hole place slots) ≡ cond (same key other) None (place_in (same other) slots)
  unfolding IsDistinct
  place_hole key other place [] e d = cc
  place_hole key other place (None ∷ slots) e d =
      let next = next_is (place_in (same key) slots) place e in
      ap (λ p. place_in (same other) (with_hole p (None ∷ slots))) next.2
      ∙ ap (place_in (same other)) (later_slot (λ slot. None) next.0 None slots)
      ∙ ap (option_map (λ p. suc p)) (place_hole key other next.0 slots next.1 d)
      ∙ next_cond (same key other) None (place_in (same other) slots)
  place_hole key other place (Some entry ∷ slots) e d =
      pick (same key entry.0) (same other entry.0) (same key other) refl refl refl e
      (λ before f. place_hole key other before slots f d.1)
    where
      left : Option ℕ
      left = place_in (same other) slots

      pick : (a b c : Bool) → same key entry.0 ≡ a → same other entry.0 ≡ b → same key other ≡ c
          → cond a (Some 0) (option_map (λ p. suc p) (place_in (same key) slots)) ≡ Some place
          → ((before : ℕ) → place_in (same key) slots ≡ Some before
          → place_in (same other) (with_hole before slots) ≡ cond (same key other) None left)
          → place_in (same other) (with_hole place (Some entry ∷ slots))
          ≡ cond c None (cond b (Some 0) (option_map (λ p. suc p) left))
      pick true b true t u v f later =
          ap (λ p. place_in (same other) (with_hole p (Some entry ∷ slots))) (sym (some_one 0 place f))
          ∙ ap (option_map (λ p. suc p)) (none_apart same laws entry.0 other slots
          (laws.symm entry.0 other ∙ laws.congr other key entry.0 (laws.symm other key ∙ v) ∙ t) d.0)
      pick true true false t u v f later =
          let wrong : true ≡ false = sym u ∙ laws.symm other entry.0 ∙ sym (laws.congr key entry.0 other t) ∙ v in
          cc
      pick true false false t u v f later =
          ap (λ p. place_in (same other) (with_hole p (Some entry ∷ slots))) (sym (some_one 0 place f))
      pick false true true t u v f later =
          let wrong : true ≡ false = sym u ∙ laws.congr other key entry.0 (laws.symm other key ∙ v) ∙ t in
          cc
      pick false b c t u v f later =
          let next = next_is (place_in (same key) slots) place f in
          ap (λ p. place_in (same other) (with_hole p (Some entry ∷ slots))) next.2
          ∙ ap (place_in (same other)) (later_slot (λ slot. None) next.0 (Some entry) slots)
          ∙ ap (λ h. cond h (Some 0) (option_map (λ p. suc p) (place_in (same other) (with_hole next.0 slots)))) u
          ∙ ap (λ o. cond b (Some 0) (option_map (λ p. suc p) o)) (later next.0 next.1 ∙ ap (λ h. cond h None left) v)
          ∙ last b c v u
        where
          last : (b c : Bool) → same key other ≡ c → same other entry.0 ≡ b
              → cond b (Some 0) (option_map (λ p. suc p) (cond c None left)) ≡ cond c None (cond b (Some 0) (option_map (λ p. suc p) left))
          last true true v u =
              let wrong : true ≡ false = sym u ∙ laws.congr other key entry.0 (laws.symm other key ∙ v) ∙ t in
              cc
          last true false v u = refl
          last false true v u = refl
          last false false v u = refl
