-- The place of a key, and what stands there.
use Rattle.std.proofs.Common.{◌≡◌, ℕ, suc, Bool, true, false, cond, List, [], ◌∷◌, ◌++◌, length, is_some}
use Rattle.std.proofs.Common.{Option, Some, None, refl, sym, ap, ◌∙◌}
use Rattle.std.specs.Prelude.{option_map, option_and_then, slice_get}
use Rattle.std.specs.Cmp.{IsEquivalence}
use Rattle.std.specs.List.{AllByRecursion}
use Rattle.std.specs.Map.{keys_of, lookup}
use Rattle.fed_entries.specs.Entries.{entries_in, place_in}

pub none_of : {A : Type 0} (o : Option A) → is_some o ≡ false → o ≡ None
none_of None e = refl
none_of (Some x) e = cc

pub some_one : {A : Type 0} (x y : A) → Some x ≡ Some y → x ≡ y
some_one x y e = cc

-- ---- places that are one more

pub next_is : (found : Option ℕ) (place : ℕ) → option_map (λ p. suc p) found ≡ Some place
    → (before : ℕ) × (found ≡ Some before) × (place ≡ suc before)
next_is None place e = cc
next_is (Some before) place e = (before, refl, cc)

pub next_none : (found : Option ℕ) → option_map (λ p. suc p) found ≡ None → found ≡ None
next_none None e = refl
next_none (Some before) e = cc

next_some : (found : Option ℕ) → is_some (option_map (λ p. suc p) found) ≡ is_some found
next_some None = refl
next_some (Some before) = refl

pub next_cond : (b : Bool) (here found : Option ℕ)
    → option_map (λ p. suc p) (cond b here found) ≡ cond b (option_map (λ p. suc p) here) (option_map (λ p. suc p) found)
next_cond true here found = refl
next_cond false here found = refl

module _ {K V : Type 0} where
  -- what stands in a slot that is found
  abbrev pub shown : Option (Option (K × V)) → Option V
  shown found = option_map (λ entry. entry.1) (option_and_then (λ slot. slot) found)

module _ {K V : Type 0} (test : K → Bool) where
  -- the entry of a key stands at its place
  pub found_at : (place : ℕ) (slots : List (Option (K × V))) → place_in test slots ≡ Some place
      → shown (slice_get slots place) ≡ lookup test (entries_in slots)
  found_at place [] e = cc
  found_at place (None ∷ slots) e =
      let next = next_is (place_in test slots) place e in
      ap (λ p. shown (slice_get (None ∷ slots) p)) next.2 ∙ found_at next.0 slots next.1
  found_at place (Some entry ∷ slots) e = pick (test entry.0) e (λ before f. found_at before slots f)
    where
      pick : (b : Bool) → cond b (Some 0) (option_map (λ p. suc p) (place_in test slots)) ≡ Some place
          → ((before : ℕ) → place_in test slots ≡ Some before → shown (slice_get slots before) ≡ lookup test (entries_in slots))
          → shown (slice_get (Some entry ∷ slots) place) ≡ cond b (Some entry.1) (lookup test (entries_in slots))
      pick true f later = ap (λ p. shown (slice_get (Some entry ∷ slots) p)) (sym (some_one 0 place f))
      pick false f later =
          let next = next_is (place_in test slots) place f in
          ap (λ p. shown (slice_get (Some entry ∷ slots) p)) next.2 ∙ later next.0 next.1

  pub found_agree : (slots : List (Option (K × V))) → is_some (place_in test slots) ≡ is_some (lookup test (entries_in slots))
  found_agree [] = refl
  found_agree (None ∷ slots) = next_some (place_in test slots) ∙ found_agree slots
  found_agree (Some entry ∷ slots) = by (test entry.0) (found_agree slots)
    where
      by : (b : Bool) → is_some (place_in test slots) ≡ is_some (lookup test (entries_in slots))
          → is_some (cond b (Some 0) (option_map (λ p. suc p) (place_in test slots)))
          ≡ is_some (cond b (Some entry.1) (lookup test (entries_in slots)))
      by true h = refl
      by false h = next_some (place_in test slots) ∙ h

  -- where a key has no place, it has no value
  pub none_agrees : (slots : List (Option (K × V))) → place_in test slots ≡ None → lookup test (entries_in slots) ≡ None
  none_agrees slots e = none_of _ (sym (found_agree slots) ∙ ap is_some e)

  pub no_place : (slots : List (Option (K × V))) → is_some (lookup test (entries_in slots)) ≡ false → place_in test slots ≡ None
  no_place slots e = none_of _ (found_agree slots ∙ e)

module _ {K V : Type 0} (same : K → K → Bool) (laws : IsEquivalence same) where
  -- a key that is the same as one that is none of these has no place
  pub none_apart : (key other : K) (slots : List (Option (K × V))) → same key other ≡ true
      → AllByRecursion (λ k. same key k ≡ false) (keys_of (entries_in slots)) → place_in (same other) slots ≡ None
  none_apart key other [] one all = refl
  none_apart key other (None ∷ slots) one all = ap (option_map (λ p. suc p)) (none_apart key other slots one all)
  none_apart key other (Some entry ∷ slots) one all =
      ap (λ b. cond b (Some 0) (option_map (λ p. suc p) (place_in (same other) slots)))
      (sym (laws.congr key other entry.0 one) ∙ all.0)
      ∙ ap (option_map (λ p. suc p)) (none_apart key other slots one all.1)

  -- an entry that is put last has the last place
  pub place_last : (key : K) (value : V) (other : K) (slots : List (Option (K × V))) → place_in (same key) slots ≡ None
      → place_in (same other) (slots ++ Some (key, value) ∷ [])
      ≡ cond (same key other) (Some (length slots)) (place_in (same other) slots)
  place_last key value other [] absent = ap (λ b. cond b (Some 0) None) (laws.symm other key)
  place_last key value other (None ∷ slots) absent =
      ap (option_map (λ p. suc p)) (place_last key value other slots (next_none (place_in (same key) slots) absent))
      ∙ next_cond (same key other) (Some (length slots)) (place_in (same other) slots)
  place_last key value other (Some entry ∷ slots) absent =
      pick (same key entry.0) (same other entry.0) (same key other) refl refl refl absent
      (λ f. place_last key value other slots f)
    where
      put : Option ℕ
      put = place_in (same other) (slots ++ Some (key, value) ∷ [])

      left : Option ℕ
      left = place_in (same other) slots

      pick : (a b c : Bool) → same key entry.0 ≡ a → same other entry.0 ≡ b → same key other ≡ c
          → cond a (Some 0) (option_map (λ p. suc p) (place_in (same key) slots)) ≡ None
          → (place_in (same key) slots ≡ None → put ≡ cond (same key other) (Some (length slots)) left)
          → cond b (Some 0) (option_map (λ p. suc p) put)
          ≡ cond c (Some (suc (length slots))) (cond b (Some 0) (option_map (λ p. suc p) left))
      pick true b c t u v f later = cc
      pick false true true t u v f later =
          let wrong : true ≡ false = sym u ∙ laws.congr other key entry.0 (laws.symm other key ∙ v) ∙ t in
          cc
      pick false true false t u v f later = refl
      pick false false c t u v f later =
          ap (option_map (λ p. suc p)) (later (next_none (place_in (same key) slots) f) ∙ ap (λ b. cond b (Some (length slots)) left) v)
          ∙ next_cond c (Some (length slots)) left
