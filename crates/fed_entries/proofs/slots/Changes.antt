-- What is true of entries stays so as one comes, changes and goes.
use Rattle.std.proofs.Common.{◌≡◌, ◌+◌, ◌<◌, ◌≤◌, ◌^◌, ℕ, Bool, cond, not, List, [], ◌∷◌, ◌++◌, length, length-append}
use Rattle.std.proofs.Common.{is_some, false, Option, Some, None, arith, sym, ap, subst, ◌∙◌}
use Rattle.std.specs.Prelude.{option_map}
use Rattle.std.specs.Cmp.{IsEquivalence}
use Rattle.std.specs.List.{IsDistinct}
use Rattle.std.specs.Map.{keys_of, lookup, remove_entry, set_value}
use Rattle.std.proofs.lemmas.Map.{keys-set_value, length-set_value}
use Rattle.std.proofs.lemmas.Map.Made.{IsDistinct-keys_filter}
use Rattle.std.proofs.lemmas.List.Elements.{filter_map-append}
use Rattle.indexmap.specs.IndexMap.{insert_entry}
use Rattle.fed_entries.specs.Entries.{AreEntries, CountsOne, PlacesOne, entries_in, place_in, with_hole, with_value}
use Rattle.fed_entries.proofs.slots.Places.{found_agree, none_agrees, no_place, place_last}
use Rattle.fed_entries.proofs.slots.Lists.{insert_new, insert_found, length_removed, none_removed, distinct_last, removed_is_filter}
use Rattle.fed_entries.proofs.slots.Written.{hole, length_written, place_hole, place_written, value_written}

module _ {K V : Type 0} (same : K → K → Bool) where
  pub none_goes : (key : K) (slots : List (Option (K × V))) → place_in (same key) slots ≡ None
      → entries_in slots ≡ remove_entry (same key) (entries_in slots)
  none_goes key slots e = sym (none_removed same (same key) (entries_in slots) (none_agrees (same key) slots e))

  -- ---- the holes are taken out

  pub distinct_closed : (places : List (K × ℕ)) (old new : List (Option (K × V))) → AreEntries same places old
      → entries_in new ≡ entries_in old → IsDistinct same (keys_of (entries_in new))
  distinct_closed places old new h entries = subst (λ es. IsDistinct same (keys_of es)) (sym entries) h.distinct

  pub found_closed : (places : List (K × ℕ)) (old new : List (Option (K × V))) → AreEntries same places old
      → entries_in new ≡ entries_in old
      → (key : K) → is_some (lookup (same key) places) ≡ is_some (place_in (same key) new)
  found_closed places old new h entries key =
      ap is_some (h.found key) ∙ found_agree (same key) old ∙ ap (λ es. is_some (lookup (same key) es)) (sym entries)
      ∙ sym (found_agree (same key) new)

  pub places_closed : (places anew : List (K × ℕ)) (old new : List (Option (K × V))) → AreEntries same places old
      → entries_in new ≡ entries_in old → length new ≤ length old
      → ((key : K) → lookup (same key) anew ≡ place_in (same key) new) → length anew ≡ length places
      → AreEntries same anew new
  places_closed places anew old new h entries shorter found count =
      let fits : length old ≤ 2 ^ 32 = h.fits in
      record {
        found = found;
        count = count ∙ h.count ∙ sym (ap length entries);
        fits = omega (arith, fits, shorter);
        distinct = distinct_closed places old new h entries;
      }

  -- ---- one has another value

  pub one_written : (places : List (K × ℕ)) (slots : List (Option (K × V))) (place : ℕ) (key : K) (value : V)
      → AreEntries same places slots → lookup (same key) places ≡ Some place
      → AreEntries same places (with_value value place slots)
  one_written places slots place key value h there =
      let entries : entries_in (with_value value place slots) ≡ set_value (same key) (entries_in slots) value =
      value_written (same key) value place slots (sym (h.found key) ∙ there) in
      record {
        found = λ other. h.found other ∙ sym (place_written (same other) value place slots);
        count = h.count ∙ sym (ap length entries ∙ length-set_value (same key) (entries_in slots) value);
        fits = subst (λ n. n ≤ 2 ^ 32) (sym (length_written (option_map (λ entry. (entry.0, value))) place slots)) h.fits;
        distinct =
            subst (IsDistinct same) (sym (ap keys_of entries ∙ keys-set_value (same key) (entries_in slots) value)) h.distinct;
      }

  pub value_now : (places : List (K × ℕ)) (slots : List (Option (K × V))) (place : ℕ) (key : K) (value : V)
      → AreEntries same places slots → lookup (same key) places ≡ Some place
      → entries_in (with_value value place slots) ≡ insert_entry same (entries_in slots) key value
  value_now places slots place key value h there =
      let found : place_in (same key) slots ≡ Some place = sym (h.found key) ∙ there in
      value_written (same key) value place slots found
      ∙ insert_found same key value (entries_in slots) (sym (found_agree (same key) slots) ∙ ap is_some found)

  -- ---- one comes

  pub entries_last : (slots : List (Option (K × V))) (key : K) (value : V)
      → entries_in (slots ++ Some (key, value) ∷ []) ≡ entries_in slots ++ (key, value) ∷ []
  entries_last slots key value = filter_map-append _ slots (Some (key, value) ∷ [])

  pub put_now : (old closed new : List (Option (K × V))) (key : K) (value : V)
      → is_some (lookup (same key) (entries_in old)) ≡ false → entries_in closed ≡ entries_in old
      → new ≡ closed ++ Some (key, value) ∷ []
      → entries_in new ≡ insert_entry same (entries_in old) key value
  put_now old closed new key value absent entries last =
      ap entries_in last ∙ entries_last closed key value ∙ ap (λ es. es ++ (key, value) ∷ []) entries
      ∙ insert_new same key value (entries_in old) (none_agrees (same key) old (no_place (same key) old absent))

module _ {K V : Type 0} (same : K → K → Bool) (laws : IsEquivalence same) where
  pub put_last : (places more : List (K × ℕ)) (closed new : List (Option (K × V))) (key : K) (value : V)
      → AreEntries same places closed → is_some (lookup (same key) (entries_in closed)) ≡ false
      → PlacesOne same key (length closed) places more → CountsOne same key places more
      → new ≡ closed ++ Some (key, value) ∷ [] → length closed < 2 ^ 32
      → AreEntries same more new
  put_last places more closed new key value h absent updates longer last fits =
      let none : place_in (same key) closed ≡ None = no_place (same key) closed absent in
      let longer_one : length (closed ++ Some (key, value) ∷ []) ≡ length closed + 1 = length-append closed (Some (key, value) ∷ []) in
      let one : AreEntries same more (closed ++ Some (key, value) ∷ []) =
      record {
        found = λ other.
            updates other ∙ ap (λ o. cond (same key other) (Some (length closed)) o) (h.found other)
            ∙ sym (place_last same laws key value other closed none);
        count = longer (h.found key ∙ none) ∙ ap (λ n. n + 1) h.count
            ∙ sym (ap length (entries_last same closed key value) ∙ length-append (entries_in closed) ((key, value) ∷ []));
        fits = subst (λ n. n ≤ 2 ^ 32) (sym longer_one) (omega (arith, fits));
        distinct = subst (λ es. IsDistinct same (keys_of es)) (sym (entries_last same closed key value))
            (distinct_last same laws key value (entries_in closed) (none_agrees (same key) closed none) h.distinct);
      } in
      subst (λ slots. AreEntries same more slots) (sym last) one

  -- ---- one goes

  pub one_leaves : (places fewer : List (K × ℕ)) (slots : List (Option (K × V))) (key : K) (place : ℕ)
      → AreEntries same places slots
      → lookup (same key) places ≡ Some place
      → ((other : K) → lookup (same other) fewer ≡ cond (same key other) None (lookup (same other) places))
      → length fewer + 1 ≡ length places
      → AreEntries same fewer (with_hole place slots)
  one_leaves places fewer slots key place h there updates shorter =
      let found : place_in (same key) slots ≡ Some place = sym (h.found key) ∙ there in
      let entries = hole (same key) place slots found in
      let one_less : length (remove_entry (same key) (entries_in slots)) + 1 ≡ length (entries_in slots) =
      length_removed same (same key) (entries_in slots) (sym (found_agree (same key) slots) ∙ ap is_some found) in
      let count : length places ≡ length (entries_in slots) = h.count in
      let left : length fewer ≡ length (remove_entry (same key) (entries_in slots)) = omega (arith, one_less, count, shorter) in
      record {
        found = λ other.
            updates other ∙ ap (λ o. cond (same key other) None o) (h.found other)
            ∙ sym (place_hole same laws key other place slots found h.distinct);
        count = left ∙ sym (ap length entries);
        fits = subst (λ n. n ≤ 2 ^ 32) (sym (length_written (λ slot. None) place slots)) h.fits;
        distinct = subst (λ es. IsDistinct same (keys_of es))
            (sym (entries ∙ removed_is_filter same laws key (entries_in slots) h.distinct))
            (IsDistinct-keys_filter same (λ e. not (same key e.0)) (entries_in slots) h.distinct);
      }
