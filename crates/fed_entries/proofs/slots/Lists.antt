-- Lists by key, as one comes, changes and goes.
use Rattle.std.proofs.Common.{◌≡◌, ◌+◌, Bool, true, false, cond, not, List, [], ◌∷◌, ◌++◌, filter, length}
use Rattle.std.proofs.Common.{is_some, Some, None, arith, refl, sym, ap, ◌∙◌}
use Rattle.std.specs.Cmp.{IsEquivalence}
use Rattle.std.specs.List.{AllByRecursion, IsDistinct}
use Rattle.std.specs.Map.{keys_of, lookup, remove_entry, set_value}
use Rattle.indexmap.specs.IndexMap.{insert_entry}

pub filter_all : {A : Type 0} (p : A → Bool) (xs : List A) → AllByRecursion (λ x. p x ≡ true) xs → filter p xs ≡ xs
filter_all p [] all = refl
filter_all p (x ∷ xs) all = (λ i. cond (all.0 i) (x ∷ filter_all p xs all.1 i) (filter_all p xs all.1 i))

module _ {K X : Type 0} (same : K → K → Bool) where
  -- what is inserted goes last, or to its place
  pub insert_new : (key : K) (value : X) (es : List (K × X)) → lookup (same key) es ≡ None
      → es ++ (key, value) ∷ [] ≡ insert_entry same es key value
  insert_new key value [] absent = refl
  insert_new key value (e ∷ es) absent = pick (same key e.0) absent (λ f. insert_new key value es f)
    where
      pick : (b : Bool) → cond b (Some e.1) (lookup (same key) es) ≡ None
          → (lookup (same key) es ≡ None → es ++ (key, value) ∷ [] ≡ insert_entry same es key value)
          → e ∷ (es ++ (key, value) ∷ []) ≡ cond b ((e.0, value) ∷ es) (e ∷ insert_entry same es key value)
      pick true f later = cc
      pick false f later = ap (λ l. e ∷ l) (later f)

  pub insert_found : (key : K) (value : X) (es : List (K × X)) → is_some (lookup (same key) es) ≡ true
      → set_value (same key) es value ≡ insert_entry same es key value
  insert_found key value [] found = cc
  insert_found key value (e ∷ es) found = pick (same key e.0) found (λ f. insert_found key value es f)
    where
      pick : (b : Bool) → is_some (cond b (Some e.1) (lookup (same key) es)) ≡ true
          → (is_some (lookup (same key) es) ≡ true → set_value (same key) es value ≡ insert_entry same es key value)
          → cond b ((e.0, value) ∷ es) (e ∷ set_value (same key) es value)
          ≡ cond b ((e.0, value) ∷ es) (e ∷ insert_entry same es key value)
      pick true f later = refl
      pick false f later = ap (λ l. e ∷ l) (later f)

  pub length_removed : (test : K → Bool) (es : List (K × X)) → is_some (lookup test es) ≡ true
      → length (remove_entry test es) + 1 ≡ length es
  length_removed test [] found = cc
  length_removed test (e ∷ es) found = pick (test e.0) found (λ f. length_removed test es f)
    where
      pick : (b : Bool) → is_some (cond b (Some e.1) (lookup test es)) ≡ true
          → (is_some (lookup test es) ≡ true → length (remove_entry test es) + 1 ≡ length es)
          → length (cond b es (e ∷ remove_entry test es)) + 1 ≡ length (e ∷ es)
      pick true f later = omega arith
      pick false f later = let rest : length (remove_entry test es) + 1 ≡ length es = later f in omega (arith, rest)

  pub none_removed : (test : K → Bool) (es : List (K × X)) → lookup test es ≡ None → remove_entry test es ≡ es
  none_removed test [] absent = refl
  none_removed test (e ∷ es) absent = pick (test e.0) absent (λ f. none_removed test es f)
    where
      pick : (b : Bool) → cond b (Some e.1) (lookup test es) ≡ None → (lookup test es ≡ None → remove_entry test es ≡ es)
          → cond b es (e ∷ remove_entry test es) ≡ e ∷ es
      pick true f later = cc
      pick false f later = ap (λ l. e ∷ l) (later f)

module _ {K X : Type 0} (same : K → K → Bool) (laws : IsEquivalence same) where
  pub distinct_last : (key : K) (value : X) (es : List (K × X)) → lookup (same key) es ≡ None
      → IsDistinct same (keys_of es) → IsDistinct same (keys_of (es ++ (key, value) ∷ []))
  unfolding IsDistinct
  distinct_last key value [] absent d = (tt, tt)
  distinct_last key value (e ∷ es) absent d = pick (same key e.0) refl absent (λ f. distinct_last key value es f d.1)
    where
      last : same e.0 key ≡ false → (ds : List (K × X))
          → AllByRecursion (λ k. same e.0 k ≡ false) (keys_of ds)
          → AllByRecursion (λ k. same e.0 k ≡ false) (keys_of (ds ++ (key, value) ∷ []))
      last apart [] all = (apart, tt)
      last apart (x ∷ ds) all = (all.0, last apart ds all.1)

      pick : (b : Bool) → same key e.0 ≡ b → cond b (Some e.1) (lookup (same key) es) ≡ None
          → (lookup (same key) es ≡ None → IsDistinct same (keys_of (es ++ (key, value) ∷ [])))
          → AllByRecursion (λ k. same e.0 k
          ≡ false) (keys_of (es ++ (key, value) ∷ [])) × IsDistinct same (keys_of (es ++ (key, value) ∷ []))
      pick true t f later = cc
      pick false t f later = (last (laws.symm e.0 key ∙ t) es d.0, later f)

  -- where none stands twice, all entries of a key go with the first
  pub removed_is_filter : (key : K) (es : List (K × X)) → IsDistinct same (keys_of es)
      → remove_entry (same key) es ≡ filter (λ e. not (same key e.0)) es
  unfolding IsDistinct
  removed_is_filter key [] d = refl
  removed_is_filter key (e ∷ es) d = pick (same key e.0) refl (removed_is_filter key es d.1)
    where
      others : List (K × X)
      others = filter (λ e. not (same key e.0)) es

      apart : same key e.0 ≡ true → (ds : List (K × X))
          → AllByRecursion (λ k. same e.0 k ≡ false) (keys_of ds)
          → AllByRecursion (λ d. not (same key d.0) ≡ true) ds
      apart t [] all = tt
      apart t (d ∷ ds) all = (ap not (laws.congr key e.0 d.0 t ∙ all.0), apart t ds all.1)

      pick : (b : Bool) → same key e.0 ≡ b → remove_entry (same key) es ≡ others
          → cond b es (e ∷ remove_entry (same key) es) ≡ cond (not b) (e ∷ others) others
      pick true t h = sym (filter_all (λ d. not (same key d.0)) es (apart t es d.0))
      pick false t h = ap (λ l. e ∷ l) h
