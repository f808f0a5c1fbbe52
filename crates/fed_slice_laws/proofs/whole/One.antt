-- There is one closure of a party: rising lists of which each has all of the other are equal.
use Rattle.std.proofs.Common.{◌≡◌, ℕ, Bool, true, false, ◌||◌, List, [], ◌∷◌, Less, Greater, Equal, refl, sym, ap, ap₂, subst, ◌∙◌}
use Rattle.std.proofs.lemmas.Cmp.{nat_list_cmp_total, tied_itself}
use Rattle.std.proofs.lemmas.Slice.Eq.{bytes_eq-Decides}
use Rattle.std.specs.Cmp.Lexicographic.{slice_cmp}
use Rattle.std.specs.List.{AllByRecursion}
use Rattle.std.specs.List.Sorted.{IsStrictlySortedBy}
use Rattle.std.specs.Ordering.{nat_cmp, ordering_reverse}
use Rattle.std.specs.Prelude.{bytes_eq}
use Rattle.fed_slice.specs.Closure.{RiseByBytes, is_one}
use Rattle.fed_slice.proofs.joined.Risen.{at_member}
use Rattle.fed_slice_laws.specs.Laws.{OneClosure}

abbrev IsBelow : List ℕ → List ℕ → Type 0
IsBelow a b = slice_cmp nat_cmp a b ≡ Less

not_both : (a b : List ℕ) → IsBelow a b → IsBelow b a → ⊥
not_both a b x y = let no : Less ≡ Greater = sym x ∙ nat_list_cmp_total.antisymm a b ∙ ap ordering_reverse y in absurd (cc)

not_itself : (a : List ℕ) → IsBelow a a → ⊥
not_itself a x = let no : Less ≡ Equal = sym x ∙ tied_itself nat_list_cmp_total a in absurd (cc)

-- all of the first are among the second
abbrev AreWithin : List (List ℕ) → List (List ℕ) → Type 0
AreWithin xs ys = AllByRecursion (λ one. is_one ys one ≡ true) xs

-- where it is not the first, it is among the others
in_others : (x y : List ℕ) (ys : List (List ℕ)) → bytes_eq x y ≡ false → is_one (y ∷ ys) x ≡ true → is_one ys x ≡ true
in_others x y ys other is = ap (λ b. b || is_one ys x) (sym other) ∙ is

same_first : (a b : List ℕ) (xs ys : List (List ℕ)) → RiseByBytes (a ∷ xs) → RiseByBytes (b ∷ ys) → is_one (b ∷ ys) a ≡ true
    → is_one (a ∷ xs) b ≡ true → a ≡ b
unfolding IsStrictlySortedBy
same_first a b xs ys rise_a rise_b a_in b_in = go (bytes_eq a b) refl (bytes_eq b a) refl
  where
    go : (p : Bool) → bytes_eq a b ≡ p → (q : Bool) → bytes_eq b a ≡ q → a ≡ b
    go true is q at = (bytes_eq-Decides a b).0 is
    go false is true at = sym ((bytes_eq-Decides b a).0 at)
    go false is false at =
        absurd
        (not_both a b (at_member (IsBelow a) xs rise_a.0 b (in_others b a xs at b_in))
        (at_member (IsBelow b) ys rise_b.0 a (in_others a b ys is a_in)))

-- those above the first are among the others
others_within : (a : List ℕ) (xs ys : List (List ℕ)) → AllByRecursion (IsBelow a) xs → AreWithin xs (a ∷ ys) → AreWithin xs ys
others_within a [] ys above h = tt
others_within a (x ∷ xs) ys above h = (go (bytes_eq x a) refl, others_within a xs ys above.1 h.1)
  where
    go : (b : Bool) → bytes_eq x a ≡ b → is_one ys x ≡ true
    go true is = absurd (not_itself a (subst (IsBelow a) ((bytes_eq-Decides x a).0 is) above.0))
    go false is = in_others x a ys is h.0

one_list : (xs ys : List (List ℕ)) → RiseByBytes xs → RiseByBytes ys → AreWithin xs ys → AreWithin ys xs → xs ≡ ys
unfolding IsStrictlySortedBy
one_list [] [] rise_x rise_y x y = refl
one_list [] (b ∷ ys) rise_x rise_y x y = let no : false ≡ true = y.0 in absurd (cc)
one_list (a ∷ xs) [] rise_x rise_y x y = let no : false ≡ true = x.0 in absurd (cc)
one_list (a ∷ xs) (b ∷ ys) rise_x rise_y x y =
    let same : a ≡ b = same_first a b xs ys rise_x rise_y x.0 y.0 in
    ap₂ (λ first others. first ∷ others) same
    (one_list xs ys rise_x.1 rise_y.1
    (others_within a xs ys rise_x.0 (subst (λ first. AreWithin xs (first ∷ ys)) (sym same) x.1))
    (others_within b ys xs rise_y.0 (subst (λ first. AreWithin ys (first ∷ xs)) same y.1)))

pub one_closure_lem : OneClosure
one_closure_lem s name a b p q =
    one_list a b p.rising q.rising (p.least.least b q.least.named q.least.closed) (q.least.least a p.least.named p.least.closed)
