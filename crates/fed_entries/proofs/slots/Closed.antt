-- The places of entries from which the holes were taken out.
use Rattle.std.proofs.Common.{◌≡◌, ◌+◌, ◌≤◌, ℕ, zero, suc, Bool, true, false, cond, List, [], ◌∷◌, ◌++◌, filter, length, take}
use Rattle.std.proofs.Common.{is_some, Option, Some, None, add-one, arith, refl, sym, ap, subst, ◌∙◌}
use Rattle.std.specs.Prelude.{option_map, slice_get}
use Rattle.std.specs.Cmp.{IsEquivalence}
use Rattle.std.specs.List.{AllByRecursion, IsDistinct}
use Rattle.std.specs.Map.{keys_of, lookup}
use Rattle.std.specs.Option.{option_or}
use Rattle.fed_entries.specs.Entries.{entries_in, holds, place_in}
use Rattle.fed_entries.proofs.slots.Places.{place_last}

module _ {K V : Type 0} where
  -- without the holes the same entries stand
  pub closed : (slots : List (Option (K × V))) → entries_in (filter is_some slots) ≡ entries_in slots
  closed [] = refl
  closed (None ∷ slots) = closed slots
  closed (Some entry ∷ slots) = ap (λ es. entry ∷ es) (closed slots)

  pub shorter : (slots : List (Option (K × V))) → length (filter is_some slots) ≤ length slots
  shorter [] = omega arith
  shorter (None ∷ slots) = let rest = shorter slots in omega (arith, rest)
  shorter (Some entry ∷ slots) = let rest = shorter slots in omega (arith, rest)

  -- ---- the slots before a place

  taken : (i : ℕ) (slot : Option (K × V)) (slots : List (Option (K × V))) → slice_get slots i ≡ Some slot
      → (take (suc i) slots ≡ take i slots ++ slot ∷ []) × (length (take i slots) ≡ i)
  taken i slot [] e = cc
  taken zero slot (first ∷ slots) e = let is : first ≡ slot = cc in (ap (λ s. s ∷ []) is, refl)
  taken (suc i) slot (first ∷ slots) e =
      let rest = taken i slot slots e in
      (ap (λ l. first ∷ l) rest.0, ap (λ n. suc n) rest.1)

  hole_last : (test : K → Bool) (slots : List (Option (K × V))) → place_in test (slots ++ None ∷ []) ≡ place_in test slots
  hole_last test [] = refl
  hole_last test (slot ∷ slots) = ap (λ o. cond (holds test slot) (Some 0) (option_map (λ p. suc p) o)) (hole_last test slots)

  -- a hole is no place of an entry
  pub past_hole : (test : K → Bool) (i : ℕ) (slots : List (Option (K × V))) → slice_get slots i ≡ Some None
      → place_in test (take (i + 1) slots) ≡ place_in test (take i slots)
  past_hole test i slots e =
      ap (λ n. place_in test (take n slots)) (add-one i) ∙ ap (place_in test) (taken i None slots e).0 ∙ hole_last test (take i slots)

  -- an entry stands where it is
  pub some_place : (test : K → Bool) (i : ℕ) (entry : K × V) (slots : List (Option (K × V))) → slice_get slots i ≡ Some (Some entry)
      → test entry.0 ≡ true → is_some (place_in test slots) ≡ true
  some_place test i entry [] e t = cc
  some_place test zero entry (first ∷ slots) e t =
      let is : first ≡ Some entry = cc in
      ap (λ s. is_some (cond (holds test s) (Some 0) (option_map (λ p. suc p) (place_in test slots)))) is
      ∙ ap (λ b. is_some (cond b (Some 0) (option_map (λ p. suc p) (place_in test slots)))) t
  some_place test (suc i) entry (first ∷ slots) e t =
      by (holds test first) (place_in test slots) (some_place test i entry slots e t)
    where
      by : (b : Bool) (o : Option ℕ) → is_some o ≡ true → is_some (cond b (Some 0) (option_map (λ p. suc p) o)) ≡ true
      by true o h = refl
      by false None h = h
      by false (Some p) h = refl

module _ {K V : Type 0} (same : K → K → Bool) where
  -- ---- places that are written anew, one after the other

  -- those before are written, and the others are as they were
  abbrev pub AreWritten : ℕ → List (Option (K × V)) → List (K × ℕ) → List (K × ℕ) → Type 0
  AreWritten i slots old new =
      (key : K) → lookup (same key) new ≡ option_or (place_in (same key) (take i slots)) (lookup (same key) old)

  pub none_written : (slots : List (Option (K × V))) (old : List (K × ℕ)) → AreWritten 0 slots old old
  none_written [] old key = refl
  none_written (slot ∷ slots) old key = refl

  pub hole_passed : (i : ℕ) (slots : List (Option (K × V))) (old new : List (K × ℕ)) → slice_get slots i ≡ Some None
      → AreWritten i slots old new → AreWritten (i + 1) slots old new
  hole_passed i slots old new e h key =
      h key ∙ ap (λ o. option_or o (lookup (same key) old)) (sym (past_hole (same key) i slots e))

  pub all_written : (slots : List (Option (K × V))) (old new : List (K × ℕ)) → AreWritten (length slots) slots old new
      → ((key : K) → is_some (lookup (same key) old) ≡ is_some (place_in (same key) slots))
      → (key : K) → lookup (same key) new ≡ place_in (same key) slots
  all_written slots old new h found key =
      h key ∙ ap (λ l. option_or (place_in (same key) l) (lookup (same key) old)) (whole slots)
      ∙ by (place_in (same key) slots) (lookup (same key) old) (found key)
    where
      whole : (l : List (Option (K × V))) → take (length l) l ≡ l
      whole [] = refl
      whole (x ∷ l) = ap (λ rest. x ∷ rest) (whole l)

      by : (o old : Option ℕ) → is_some old ≡ is_some o → option_or o old ≡ o
      by (Some p) old e = refl
      by None None e = refl
      by None (Some p) e = cc

module _ {K V : Type 0} (same : K → K → Bool) (laws : IsEquivalence same) where
  apart_at : (key : K) (i : ℕ) (entry : K × V) (slots : List (Option (K × V))) → slice_get slots i ≡ Some (Some entry)
      → AllByRecursion (λ k. same key k ≡ false) (keys_of (entries_in slots)) → same key entry.0 ≡ false
  apart_at key i entry [] e all = cc
  apart_at key zero entry (first ∷ slots) e all =
      let is : first ≡ Some entry = cc in
      (subst (λ s. AllByRecursion (λ k. same key k ≡ false) (keys_of (entries_in (s ∷ slots)))) is all).0
  apart_at key (suc i) entry (None ∷ slots) e all = apart_at key i entry slots e all
  apart_at key (suc i) entry (Some first ∷ slots) e all = apart_at key i entry slots e all.1

  -- no entry of the key stands before
  pub none_before : (i : ℕ) (entry : K × V) (slots : List (Option (K × V))) → slice_get slots i ≡ Some (Some entry)
      → IsDistinct same (keys_of (entries_in slots)) → place_in (same entry.0) (take i slots) ≡ None
  unfolding IsDistinct
  none_before i entry [] e d = cc
  none_before zero entry (first ∷ slots) e d = refl
  none_before (suc i) entry (None ∷ slots) e d = ap (option_map (λ p. suc p)) (none_before i entry slots e d)
  none_before (suc i) entry (Some first ∷ slots) e d =
      ap (λ b. cond b (Some 0) (option_map (λ p. suc p) (place_in (same entry.0) (take i slots))))
      (laws.symm entry.0 first.0 ∙ apart_at first.0 i entry slots e d.0)
      ∙ ap (option_map (λ p. suc p)) (none_before i entry slots e d.1)

  -- the place of an entry is that of its slot
  pub past_entry : (i : ℕ) (entry : K × V) (slots : List (Option (K × V))) → slice_get slots i ≡ Some (Some entry)
      → IsDistinct same (keys_of (entries_in slots)) → (other : K)
      → place_in (same other) (take (i + 1) slots) ≡ cond (same entry.0 other) (Some i) (place_in (same other) (take i slots))
  past_entry i entry slots e d other =
      let rest = taken i (Some entry) slots e in
      ap (λ n. place_in (same other) (take n slots)) (add-one i)
      ∙ ap (place_in (same other)) rest.0
      ∙ place_last same laws entry.0 entry.1 other (take i slots) (none_before i entry slots e d)
      ∙ ap (λ n. cond (same entry.0 other) (Some n) (place_in (same other) (take i slots))) rest.1

  pub entry_written : (i : ℕ) (entry : K × V) (slots : List (Option (K × V))) (old new after : List (K × ℕ))
      → slice_get slots i ≡ Some (Some entry) → IsDistinct same (keys_of (entries_in slots)) → AreWritten same i slots old new
      → ((other : K) → lookup (same other) after ≡ cond (same entry.0 other) (Some i) (lookup (same other) new))
      → AreWritten same (i + 1) slots old after
  entry_written i entry slots old new after e d h updates key =
      updates key ∙ ap (λ o. cond (same entry.0 key) (Some i) o) (h key)
      ∙ by (same entry.0 key) (place_in (same key) (take i slots))
      ∙ ap (λ o. option_or o (lookup (same key) old)) (sym (past_entry i entry slots e d key))
    where
      by : (b : Bool) (o : Option ℕ) → cond b (Some i) (option_or o (lookup (same key) old))
          ≡ option_or (cond b (Some i) o) (lookup (same key) old)
      by true o = refl
      by false o = refl

  -- the key of an entry had a place
  pub had_place : (i : ℕ) (entry : K × V) (slots : List (Option (K × V))) (old new : List (K × ℕ))
      → slice_get slots i ≡ Some (Some entry) → IsDistinct same (keys_of (entries_in slots)) → AreWritten same i slots old new
      → ((key : K) → is_some (lookup (same key) old) ≡ is_some (place_in (same key) slots))
      → is_some (lookup (same entry.0) new) ≡ true
  had_place i entry slots old new e d h found =
      ap is_some (h entry.0 ∙ ap (λ o. option_or o (lookup (same entry.0) old)) (none_before i entry slots e d))
      ∙ found entry.0 ∙ some_place (same entry.0) i entry slots e (laws.refl entry.0)
