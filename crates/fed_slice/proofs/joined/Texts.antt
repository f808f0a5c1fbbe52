-- Texts in a set of vectors.
use Rattle.std.proofs.Common.{◌≡◌, ℕ, suc, ◌+◌, ◌<◌, Bool, true, false, cond, not, ◌||◌, nat_lt, List, [], ◌∷◌, ◌++◌, map, length}
use Rattle.std.proofs.Common.{Some, None}
use Rattle.std.proofs.Common.{refl, sym, ap, ◌∙◌, arith}
use Rattle.std.proofs.lemmas.Bool.Decides.{nat_tests}
use Rattle.std.proofs.lemmas.Slice.Eq.{bytes_eq-Decides}
use Rattle.std.specs.Prelude.{bytes_eq, position}
use Rattle.std.specs.List.{list_any, position_or_len, AllByRecursion, IsDistinct}
use Rattle.std.proofs.lemmas.List.{map-append}
use Rattle.indexmap.specs.IndexSet.{insert_key}
use Rattle.fed_slice.specs.Linked.{name_at, StandsAt}

pub any_texts : {V : Type 0} (items : V → List ℕ) (name : List ℕ) (keys : List V)
    → list_any (bytes_eq name) (map items keys) ≡ list_any (λ k. bytes_eq name (items k)) keys
any_texts items name [] = refl
any_texts items name (k ∷ keys) = ap (λ t. bytes_eq name (items k) || t) (any_texts items name keys)

len_texts : {V : Type 0} (items : V → List ℕ) (keys : List V) → length (map items keys) ≡ length keys
len_texts items [] = refl
len_texts items (k ∷ keys) = ap suc (len_texts items keys)

first_is : {V : Type 0} (items : V → List ℕ) (name : List ℕ) (keys : List V)
    → position_or_len (λ k. bytes_eq name (items k)) keys < length keys
    → name_at (map items keys) (position_or_len (λ k. bytes_eq name (items k)) keys) ≡ name
first_is items name [] lt = absurd (omega (arith, lt))
first_is items name (k ∷ keys) lt = go (bytes_eq name (items k)) refl (first_is items name keys) lt
  where
    n : ℕ
    n = position_or_len (λ k. bytes_eq name (items k)) keys

    go : (b : Bool) → bytes_eq name (items k) ≡ b
        → (position_or_len (λ k. bytes_eq name (items k)) keys < length keys
        → name_at (map items keys) (position_or_len (λ k. bytes_eq name (items k)) keys) ≡ name)
        → cond (not b) (1 + position_or_len (λ k. bytes_eq name (items k)) keys) 0 < length (k ∷ keys)
        → name_at (map items (k ∷ keys)) (cond (not b) (1 + position_or_len (λ k. bytes_eq name (items k)) keys) 0) ≡ name
    go true is rest lt = sym ((bytes_eq-Decides name (items k)).0 is)
    go false is rest lt =
        let next : 1 + position_or_len (λ k. bytes_eq name (items k)) keys ≡ suc (position_or_len (λ k. bytes_eq name (items k)) keys) =
        omega arith in
        ap (name_at (map items (k ∷ keys))) next ∙ rest (omega (arith, lt))

pub stands_at : {V : Type 0} (items : V → List ℕ) (name : List ℕ) (keys : List V) (place : ℕ)
    → Some place ≡ position (λ k. bytes_eq name (items k)) keys → StandsAt (map items keys) name place
stands_at items name keys place found =
    go (nat_lt (position_or_len (λ k. bytes_eq name (items k)) keys) (length keys)) refl found
  where
    go : (b : Bool) → nat_lt (position_or_len (λ k. bytes_eq name (items k)) keys) (length keys) ≡ b
        → Some place ≡ cond b (Some (position_or_len (λ k. bytes_eq name (items k)) keys)) None → StandsAt (map items keys) name place
    go false is found = absurd (cc)
    go true is found =
        let one : place ≡ position_or_len (λ k. bytes_eq name (items k)) keys = cc in
        let lt : position_or_len (λ k. bytes_eq name (items k)) keys < length keys = grind (arith, nat_tests, is) in
        record {
          within = let l = len_texts items keys in omega (arith, one, lt, l);
          named = ap (name_at (map items keys)) one ∙ first_is items name keys lt;
        }

-- a text that is none of them is put after them
pub put_texts : {V : Type 0} (items : V → List ℕ) (v : V) (name : List ℕ) (keys : List V) {new : List V}
    → new ≡ insert_key (λ x y. bytes_eq (items x) (items y)) keys v → items v ≡ name
    → list_any (bytes_eq name) (map items keys) ≡ false → map items new ≡ map items keys ++ name ∷ []
put_texts items v name keys added is none =
    ap (map items) added ∙ ap (λ b. map items (cond b keys (keys ++ v ∷ []))) other ∙ map-append items keys (v ∷ [])
    ∙ ap (λ n. map items keys ++ n ∷ []) is
  where
    other : list_any (λ k. bytes_eq (items v) (items k)) keys ≡ false
    other = ap (λ n. list_any (λ k. bytes_eq n (items k)) keys) is ∙ sym (any_texts items name keys) ∙ none

others_apart : {V : Type 0} (items : V → List ℕ) (k : V) (keys : List V) → AllByRecursion (λ y. bytes_eq (items k) (items y) ≡ false) keys
    → AllByRecursion (λ y. bytes_eq (items k) y ≡ false) (map items keys)
others_apart items k [] all = tt
others_apart items k (x ∷ keys) all = (all.0, others_apart items k keys all.1)

pub texts_apart : {V : Type 0} (items : V → List ℕ) (keys : List V) → IsDistinct (λ x y. bytes_eq (items x) (items y)) keys
    → IsDistinct bytes_eq (map items keys)
unfolding IsDistinct
texts_apart items [] d = tt
texts_apart items (k ∷ keys) d = (others_apart items k keys d.0, texts_apart items keys d.1)
