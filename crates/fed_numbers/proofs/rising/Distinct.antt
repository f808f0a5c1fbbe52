-- One more number after two lists, of which no number stands twice.
use Rattle.std.proofs.Common.{arith}
use Rattle.std.proofs.Common.{◌≡◌, ℕ, Bool, true, false, ◌||◌, nat_eq, List, [], ◌∷◌, ◌++◌, if◌then◌else◌, sym, ap, subst, ◌∙◌}
use Rattle.std.specs.List.{IsDistinct, list_any}
use Rattle.indexmap.specs.IndexSet.{insert_key}
use Rattle.std.proofs.lemmas.Cmp.{nat_eq_equiv}
use Rattle.std.proofs.lemmas.List.{append-nil, append_assoc, get_or_append_left, length-append}
use Rattle.std.proofs.lemmas.List.Folds.{list_any-append}
use Rattle.std.proofs.lemmas.Map.Keys.{IsDistinct-push, IsDistinct-from_apart, apart_from_distinct}

-- a number that is in neither is not in the second
pub not_in_second : (xs ys : List ℕ) (number : ℕ) → list_any (nat_eq number) (xs ++ ys) ≡ false → list_any (nat_eq number) ys ≡ false
not_in_second xs ys number none = by (list_any (nat_eq number) xs) (sym (list_any-append (nat_eq number) xs ys) ∙ none)
  where
    by : (b : Bool) → (b || list_any (nat_eq number) ys) ≡ false → list_any (nat_eq number) ys ≡ false
    by true e = cc
    by false e = e

-- it comes last in the second
pub enters_last : (xs ys : List ℕ) (number : ℕ) → list_any (nat_eq number) (xs ++ ys) ≡ false → insert_key nat_eq ys number ≡ ys ++ number ∷ []
enters_last xs ys number none = ap (λ b. if b then ys else ys ++ number ∷ []) (not_in_second xs ys number none)

-- none stands twice then
pub distinct_others : (xs ys : List ℕ) (number : ℕ) → IsDistinct nat_eq (xs ++ ys) → list_any (nat_eq number) (xs ++ ys) ≡ false
    → IsDistinct nat_eq (xs ++ insert_key nat_eq ys number)
distinct_others xs ys number distinct none =
    subst (IsDistinct nat_eq) (append_assoc xs ys (number ∷ []) ∙ ap (λ l. xs ++ l) (sym (enters_last xs ys number none)))
    (IsDistinct-push nat_eq_equiv (xs ++ ys) number distinct none)

-- the same where the second list is empty, and it comes last in the first
pub distinct_rising : (xs ys : List ℕ) (number : ℕ) → ys ≡ [] → IsDistinct nat_eq (xs ++ ys) → list_any (nat_eq number) (xs ++ ys) ≡ false
    → IsDistinct nat_eq ((xs ++ number ∷ []) ++ ys)
distinct_rising xs ys number empty distinct none =
    let same : xs ++ ys ≡ xs = ap (λ l. xs ++ l) empty ∙ append-nil xs in
    subst (IsDistinct nat_eq) (sym (ap (λ l. (xs ++ number ∷ []) ++ l) empty ∙ append-nil (xs ++ number ∷ [])))
    (IsDistinct-push nat_eq_equiv xs number (subst (IsDistinct nat_eq) same distinct) (ap (list_any (nat_eq number)) (sym same) ∙ none))

-- none stands twice in the front of a list in which none does
pub distinct_front : (xs ys : List ℕ) → IsDistinct nat_eq (xs ++ ys) → IsDistinct nat_eq xs
distinct_front xs ys distinct = IsDistinct-from_apart nat_eq xs (λ i j d lt within.
    let long = length-append xs ys in
    rw (← get_or_append_left xs ys d i (omega (arith, lt, within)), ← get_or_append_left xs ys d j within)
    (apart_from_distinct nat_eq (xs ++ ys) i j d distinct lt (omega (arith, within, long))))

-- the same for a list behind another
pub distinct_middle : (xs ys zs : List ℕ) → IsDistinct nat_eq (xs ++ (ys ++ zs)) → IsDistinct nat_eq (xs ++ ys)
distinct_middle xs ys zs distinct = distinct_front (xs ++ ys) zs (subst (IsDistinct nat_eq) (sym (append_assoc xs ys zs)) distinct)

-- the same for the front of a list that stands alone
pub distinct_left : (xs ys zs others : List ℕ) → others ≡ [] → xs ≡ ys ++ zs → IsDistinct nat_eq (xs ++ others)
    → IsDistinct nat_eq (ys ++ others)
distinct_left xs ys zs others empty parts distinct =
    let alone = distinct_front ys zs (subst (IsDistinct nat_eq) parts (distinct_front xs others distinct)) in
    subst (IsDistinct nat_eq) (sym (ap (λ l. ys ++ l) empty ∙ append-nil ys)) alone
