-- A list in order by a number is fixed by the lists of the items that tie.
use Rattle.std.proofs.Common.{◌≡◌, ℕ, suc, Bool, true, false, cond, not, ◌&&◌, List, [], ◌∷◌, ◌++◌, sym, refl, ap, ◌∙◌, ⊎_elim, arith}
use Rattle.std.proofs.Common.{map}
use Rattle.std.specs.Bool.{⊤}
use Rattle.std.specs.Prelude.{nat_lt, nat_le, filter, ◌⊎◌}
use Rattle.std.specs.List.{AllByRecursion}
use Rattle.std.specs.List.Sorted.{IsSortedBy, IsStableBy, ties}
use Rattle.std.specs.Ordering.{is_lt, nat_cmp}
use Rattle.std.proofs.lemmas.List.Elements.{filter_agree}
use Rattle.std.proofs.lemmas.Bool.Decides.{nat_tests}
use native.Mathlib.Numerals.{unary_clauses}
use Rattle.fed_jar.specs.Send.{put_by, in_order, largest_first}
use Rattle.fed_jar.specs.Parts.{smallest_first}

-- a number stands before another: larger ones first, or smaller ones
abbrev pub ahead : Bool → ℕ → ℕ → Bool
ahead true a b = nat_lt b a
ahead false a b = nat_lt a b

-- it does not stand after the other
abbrev pub goes : Bool → ℕ → ℕ → Bool
goes true a b = nat_le b a
goes false a b = nat_le a b

-- a stands before b
abbrev pub before_by : {X : Type 0} → Bool → (X → ℕ) → X → X → Bool
before_by d n a b = ahead d (n a) (n b)

abbrev pub by : {X : Type 0} → Bool → (X → ℕ) → X → X → Bool
by d n a b = goes d (n a) (n b)

abbrev pub tie : {X : Type 0} → Bool → (X → ℕ) → X → X → Bool
tie d n = ties (before_by d n)

-- no item stands before one that comes earlier
abbrev pub Ordered : {X : Type 0} → Bool → (X → ℕ) → List X → Type 0
Ordered d n [] = ⊤
Ordered d n (x ∷ xs) = AllByRecursion (λ y. ahead d (n y) (n x) ≡ false) xs × Ordered d n xs

pub filter_yes : {X : Type 0} (p : X → Bool) (x : X) (xs : List X) → p x ≡ true → filter p (x ∷ xs) ≡ x ∷ filter p xs
filter_yes p x xs e = ap (λ b. cond b (x ∷ filter p xs) (filter p xs)) e

pub filter_no : {X : Type 0} (p : X → Bool) (x : X) (xs : List X) → p x ≡ false → filter p (x ∷ xs) ≡ filter p xs
filter_no p x xs e = ap (λ b. cond b (x ∷ filter p xs) (filter p xs)) e

-- ---- numbers

tie_same : (d : Bool) (a b : ℕ) → a ≡ b → (not (ahead d a b) && not (ahead d b a)) ≡ true
tie_same true a b e = grind (arith, nat_tests)
tie_same false a b e = grind (arith, nat_tests)

tie_other : (d : Bool) (a b : ℕ) → ahead d a b ≡ true → (not (ahead d a b) && not (ahead d b a)) ≡ false
tie_other true a b e = grind (arith, nat_tests)
tie_other false a b e = grind (arith, nat_tests)

three : (d : Bool) (a b : ℕ) → (a ≡ b) ⊎ ((ahead d b a ≡ true) ⊎ (ahead d a b ≡ true))
three true a b = grind (arith, nat_tests)
three false a b = grind (arith, nat_tests)

further : (d : Bool) (a b c : ℕ) → ahead d a b ≡ false → ahead d b c ≡ false → ahead d a c ≡ false
further true a b c e f = grind (arith, nat_tests)
further false a b c e f = grind (arith, nat_tests)

far : (d : Bool) (a b c : ℕ) → ahead d a b ≡ false → ahead d c b ≡ true → ahead d c a ≡ true
far true a b c e f = grind (arith, nat_tests)
far false a b c e f = grind (arith, nat_tests)

not_itself : (d : Bool) (a b : ℕ) → a ≡ b → ahead d a b ≡ false
not_itself true a b e = grind (arith, nat_tests)
not_itself false a b e = grind (arith, nat_tests)

one_way : (d : Bool) (a b : ℕ) → ahead d a b ≡ true → ahead d b a ≡ false
one_way true a b e = grind (arith, nat_tests)
one_way false a b e = grind (arith, nat_tests)

pub test_true : (d : Bool) (a b : ℕ) → goes d a b ≡ true → ahead d b a ≡ false
test_true true a b e = grind (arith, nat_tests)
test_true false a b e = grind (arith, nat_tests)

test_false : (d : Bool) (a b : ℕ) → goes d a b ≡ false → ahead d b a ≡ true
test_false true a b e = grind (arith, nat_tests)
test_false false a b e = grind (arith, nat_tests)

tie_apart : (d : Bool) (c a b : ℕ) → ahead d b a ≡ true → (not (ahead d c b) && not (ahead d b c)) ≡ true
    → (not (ahead d c a) && not (ahead d a c)) ≡ false
tie_apart true c a b low e = grind (arith, nat_tests)
tie_apart false c a b low e = grind (arith, nat_tests)

-- ---- lists in order

-- where all stand after it, nothing ties
none_ties : {X : Type 0} (d : Bool) (n : X → ℕ) (y : X) (m : ℕ) (xs : List X) → AllByRecursion (λ x. ahead d (n x) m ≡ false) xs
    → ahead d (n y) m ≡ true → filter (tie d n y) xs ≡ []
none_ties d n y m [] all low = refl
none_ties d n y m (x ∷ xs) all low =
    filter_no (tie d n y) x xs (tie_other d (n y) (n x) (far d (n x) m (n y) all.0 low)) ∙ none_ties d n y m xs all.1 low

all_below : {X : Type 0} (d : Bool) (n : X → ℕ) (a b : ℕ) (xs : List X) → ahead d a b ≡ false
    → AllByRecursion (λ x. ahead d (n x) a ≡ false) xs → AllByRecursion (λ x. ahead d (n x) b ≡ false) xs
all_below d n a b [] le all = tt
all_below d n a b (x ∷ xs) le all = (further d (n x) a b all.0 le, all_below d n a b xs le all.1)

empty_cons : {X : Type 0} {P : Type 0} (x : X) (xs : List X) → ◌≡◌ {A = List X} [] (x ∷ xs) → P
empty_cons x xs e = cc

heads : {X : Type 0} (x y : X) (xs ys : List X) → x ∷ xs ≡ y ∷ ys → x ≡ y
heads x y xs ys e = cc

tails : {X : Type 0} (x y : X) (xs ys : List X) → x ∷ xs ≡ y ∷ ys → xs ≡ ys
tails x y xs ys e = cc

-- both lists tie alike without their equal heads
rest_ties : {X : Type 0} (p : X → Bool) (x y : X) (xs ys : List X) (b : Bool) → p x ≡ b → x ≡ y
    → filter p (x ∷ xs) ≡ filter p (y ∷ ys) → filter p xs ≡ filter p ys
rest_ties p x y xs ys true e s h = tails _ _ _ _ (sym (filter_yes p x xs e) ∙ h ∙ filter_yes p y ys (sym (ap p s) ∙ e))
rest_ties p x y xs ys false e s h = sym (filter_no p x xs e) ∙ h ∙ filter_no p y ys (sym (ap p s) ∙ e)

-- the list is the only one
pub only_order : {X : Type 0} (d : Bool) (n : X → ℕ) (xs ys : List X) → Ordered d n xs → Ordered d n ys
    → ((z : X) → filter (tie d n z) xs ≡ filter (tie d n z) ys) → xs ≡ ys
only_order d n [] [] dx dy h = refl
only_order d n [] (y ∷ ys) dx dy h =
    empty_cons y (filter (tie d n y) ys) (h y ∙ filter_yes (tie d n y) y ys (tie_same d (n y) (n y) refl))
only_order d n (x ∷ xs) [] dx dy h =
    empty_cons x (filter (tie d n x) xs) (sym (h x) ∙ filter_yes (tie d n x) x xs (tie_same d (n x) (n x) refl))
only_order {X} d n (x ∷ xs) (y ∷ ys) dx dy h = ⊎_elim
    (λ same. let hx : x ∷ filter (tie d n x) xs ≡ y ∷ filter (tie d n x) ys =
    sym (filter_yes (tie d n x) x xs (tie_same d (n x) (n x) refl)) ∙ h x ∙ filter_yes (tie d n x) y ys (tie_same d (n x) (n y) same) in
    let head : x ≡ y = heads _ _ _ _ hx in
    let rest : xs ≡ ys = only_order d n xs ys dx.1 dy.1 (λ z. rest_ties (tie d n z) x y xs ys (tie d n z x) refl head (h z)) in
    λ i. head i ∷ rest i)
    (λ other. ⊎_elim
    (λ low. let small : filter (tie d n y) (x ∷ xs) ≡ [] =
    none_ties d n y (n x) (x ∷ xs) (not_itself d (n x) (n x) refl, dx.0) low in
    empty_cons y (filter (tie d n y) ys) (sym small ∙ h y ∙ filter_yes (tie d n y) y ys (tie_same d (n y) (n y) refl)))
    (λ low. let small : filter (tie d n x) (y ∷ ys) ≡ [] =
    none_ties d n x (n y) (y ∷ ys) (not_itself d (n y) (n y) refl, dy.0) low in
    empty_cons x (filter (tie d n x) xs) (sym small ∙ sym (h x) ∙ filter_yes (tie d n x) x xs (tie_same d (n x) (n x) refl)))
    other)
    (three d (n x) (n y))

-- one item more keeps a bound
put_below : {X : Type 0} (d : Bool) (n : X → ℕ) (m : ℕ) (x : X) (xs : List X) → ahead d (n x) m ≡ false
    → AllByRecursion (λ y. ahead d (n y) m ≡ false) xs → AllByRecursion (λ y. ahead d (n y) m ≡ false) (put_by (by d n) x xs)
put_below d n m x [] le all = (le, tt)
put_below {X} d n m x (y ∷ ys) le all = pick (goes d (n x) (n y)) (put_below d n m x ys le all.1)
  where
    pick : (b : Bool) → AllByRecursion (λ z. ahead d (n z) m ≡ false) (put_by (by d n) x ys)
        → AllByRecursion (λ z. ahead d (n z) m ≡ false) (cond b (x ∷ y ∷ ys) (y ∷ put_by (by d n) x ys))
    pick true rest = (le, all)
    pick false rest = (all.0, rest)

-- one item more keeps the order
put_ordered : {X : Type 0} (d : Bool) (n : X → ℕ) (x : X) (xs : List X) → Ordered d n xs → Ordered d n (put_by (by d n) x xs)
put_ordered d n x [] o = (tt, tt)
put_ordered {X} d n x (y ∷ ys) o = pick (goes d (n x) (n y)) refl (put_ordered d n x ys o.1)
  where
    pick : (b : Bool) → goes d (n x) (n y) ≡ b → Ordered d n (put_by (by d n) x ys)
        → Ordered d n (cond b (x ∷ y ∷ ys) (y ∷ put_by (by d n) x ys))
    pick true e rest = ((test_true d _ _ e, all_below d n (n y) (n x) ys (test_true d _ _ e) o.0), o)
    pick false e rest = (put_below d n (n y) x ys (one_way d _ _ (test_false d _ _ e)) o.0, rest)

pub ordered : {X : Type 0} (d : Bool) (n : X → ℕ) (xs : List X) → Ordered d n (in_order (by d n) xs)
ordered d n [] = tt
ordered d n (x ∷ xs) = put_ordered d n x _ (ordered d n xs)

swap_ties : {X : Type 0} (p : X → Bool) (x y : X) (ys zs : List X) → (p y ≡ true → p x ≡ false) → filter p zs ≡ filter p (x ∷ ys)
    → (b : Bool) → p y ≡ b → filter p (y ∷ zs) ≡ filter p (x ∷ y ∷ ys)
swap_ties p x y ys zs out h true e =
    filter_yes p y zs e ∙ ap (λ l. y ∷ l) (h ∙ filter_no p x ys (out e)) ∙ sym (filter_no p x (y ∷ ys) (out e) ∙ filter_yes p y ys e)
swap_ties p x y ys zs out h false e =
    filter_no p y zs e ∙ h ∙ sym (ap (λ l. cond (p x) (x ∷ l) l) (filter_no p y ys e))

-- one item more stands before the items that tie with it
put_ties : {X : Type 0} (d : Bool) (n : X → ℕ) (z x : X) (xs : List X)
    → filter (tie d n z) (put_by (by d n) x xs) ≡ filter (tie d n z) (x ∷ xs)
put_ties d n z x [] = refl
put_ties {X} d n z x (y ∷ ys) = pick (goes d (n x) (n y)) refl (put_ties d n z x ys)
  where
    pick : (b : Bool) → goes d (n x) (n y) ≡ b → filter (tie d n z) (put_by (by d n) x ys) ≡ filter (tie d n z) (x ∷ ys)
        → filter (tie d n z) (cond b (x ∷ y ∷ ys) (y ∷ put_by (by d n) x ys)) ≡ filter (tie d n z) (x ∷ y ∷ ys)
    pick true e h = refl
    pick false e h =
        swap_ties (tie d n z) x y ys (put_by (by d n) x ys) (λ t. tie_apart d (n z) (n x) (n y) (test_false d _ _ e) t) h (tie d n z y) refl

pub order_ties : {X : Type 0} (d : Bool) (n : X → ℕ) (z : X) (xs : List X)
    → filter (tie d n z) (in_order (by d n) xs) ≡ filter (tie d n z) xs
order_ties d n z [] = refl
order_ties d n z (x ∷ xs) = put_ties d n z x (in_order (by d n) xs) ∙ ap (λ l. cond (tie d n z x) (x ∷ l) l) (order_ties d n z xs)

-- ---- a stable sort

-- what a sort says by places, as a recursion
first_bound : {X : Type 0} (d : Bool) (n : X → ℕ) (x : X) (xs : List X) → IsSortedBy (before_by d n) (x ∷ xs) → Ordered d n xs
    → AllByRecursion (λ y. ahead d (n y) (n x) ≡ false) xs
first_bound d n x [] s o = tt
first_bound d n x (y ∷ ys) s o =
    let low : ahead d (n y) (n x) ≡ false = s 0 x (omega arith) (omega arith) in
    (low, all_below d n (n y) (n x) ys low o.0)

pub sorted_ordered : {X : Type 0} (d : Bool) (n : X → ℕ) (xs : List X) → IsSortedBy (before_by d n) xs → Ordered d n xs
sorted_ordered d n [] s = tt
sorted_ordered d n (x ∷ xs) s =
    let rest =
    sorted_ordered d n xs (λ k e low high. let h = s (suc k) e (omega arith) (omega arith) in
    simp unary_clauses (simp unary_clauses at h)) in
    (first_bound d n x xs s rest, rest)

-- a stable sort by a number is `in_order`
pub sort_is_in_order : {X : Type 0} (d : Bool) (n : X → ℕ) (xs ys : List X) → IsSortedBy (before_by d n) ys
    → ((z : X) → filter (tie d n z) ys ≡ filter (tie d n z) xs) → ys ≡ in_order (by d n) xs
sort_is_in_order d n xs ys s t =
    only_order d n ys (in_order (by d n) xs) (sorted_ordered d n ys s) (ordered d n xs) (λ z. t z ∙ sym (order_ties d n z xs))

less_test : (a b : ℕ) → is_lt (nat_cmp a b) ≡ nat_lt a b
less_test a b = grind (arith, nat_tests)

-- a sort that compares the numbers the other way round
pub reversed_sort : {X : Type 0} (n : X → ℕ) (xs ys : List X) → IsSortedBy (λ x y. is_lt (nat_cmp (n y) (n x))) ys
    → IsStableBy (λ x y. is_lt (nat_cmp (n y) (n x))) xs ys → ys ≡ largest_first n xs
reversed_sort {X} n xs ys s t =
    let same : (a b : X) → ties (λ x y. is_lt (nat_cmp (n y) (n x))) a b ≡ tie true n a b =
    λ a b. rw (less_test (n b) (n a), less_test (n a) (n b)) refl in
    sort_is_in_order true n xs ys (λ k d low high. sym (less_test _ _) ∙ s k d low high)
    (λ z. sym (filter_agree _ _ (same z) ys) ∙ t z ∙ filter_agree _ _ (same z) xs)

-- a sort that compares the numbers
pub plain_sort : {X : Type 0} (n : X → ℕ) (xs ys : List X) → IsSortedBy (λ x y. is_lt (nat_cmp (n x) (n y))) ys
    → IsStableBy (λ x y. is_lt (nat_cmp (n x) (n y))) xs ys → ys ≡ smallest_first n xs
plain_sort {X} n xs ys s t =
    let same : (a b : X) → ties (λ x y. is_lt (nat_cmp (n x) (n y))) a b ≡ tie false n a b =
    λ a b. rw (less_test (n b) (n a), less_test (n a) (n b)) refl in
    sort_is_in_order false n xs ys (λ k d low high. sym (less_test _ _) ∙ s k d low high)
    (λ z. sym (filter_agree _ _ (same z) ys) ∙ t z ∙ filter_agree _ _ (same z) xs)

-- ---- what goes through an order

-- a list in order of what a function gives
put-map : {X Y : Type 0} (f : X → Y) (g : Y → Y → Bool) (x : X) (xs : List X)
    → map f (put_by (λ a b. g (f a) (f b)) x xs) ≡ put_by g (f x) (map f xs)
put-map f g x [] = refl
put-map {X} {Y} f g x (y ∷ ys) = pick (g (f x) (f y)) (put-map f g x ys)
  where
    pick : (b : Bool) → map f (put_by (λ a b. g (f a) (f b)) x ys) ≡ put_by g (f x) (map f ys)
        → map f (cond b (x ∷ y ∷ ys) (y ∷ put_by (λ a b. g (f a) (f b)) x ys))
        ≡ cond b (f x ∷ f y ∷ map f ys) (f y ∷ put_by g (f x) (map f ys))
    pick true h = refl
    pick false h = ap (λ l. f y ∷ l) h

pub in_order-map : {X Y : Type 0} (f : X → Y) (g : Y → Y → Bool) (xs : List X)
    → map f (in_order (λ a b. g (f a) (f b)) xs) ≡ in_order g (map f xs)
in_order-map f g [] = refl
in_order-map f g (x ∷ xs) = put-map f g x _ ∙ ap (put_by g (f x)) (in_order-map f g xs)

filter_all : {X : Type 0} (p : X → Bool) (P : X → Type 0) (xs : List X) → AllByRecursion P xs → AllByRecursion P (filter p xs)
filter_all p P [] all = tt
filter_all {X} p P (x ∷ xs) all = pick (p x) (filter_all p P xs all.1)
  where
    pick : (b : Bool) → AllByRecursion P (filter p xs) → AllByRecursion P (cond b (x ∷ filter p xs) (filter p xs))
    pick true rest = (all.0, rest)
    pick false rest = rest

filter_ordered : {X : Type 0} (d : Bool) (n : X → ℕ) (p : X → Bool) (xs : List X) → Ordered d n xs → Ordered d n (filter p xs)
filter_ordered d n p [] o = tt
filter_ordered {X} d n p (x ∷ xs) o = pick (p x) (filter_ordered d n p xs o.1)
  where
    pick : (b : Bool) → Ordered d n (filter p xs) → Ordered d n (cond b (x ∷ filter p xs) (filter p xs))
    pick true rest = (filter_all p (λ y. ahead d (n y) (n x) ≡ false) xs o.0, rest)
    pick false rest = rest

filter_swap : {X : Type 0} (p q : X → Bool) (xs : List X) → filter p (filter q xs) ≡ filter q (filter p xs)
filter_swap p q [] = refl
filter_swap {X} p q (x ∷ xs) = pick (p x) (q x) refl refl (filter_swap p q xs)
  where
    pick : (a b : Bool) → p x ≡ a → q x ≡ b → filter p (filter q xs) ≡ filter q (filter p xs)
        → filter p (cond b (x ∷ filter q xs) (filter q xs)) ≡ filter q (cond a (x ∷ filter p xs) (filter p xs))
    pick true true e f h = filter_yes p x _ e ∙ ap (λ l. x ∷ l) h ∙ sym (filter_yes q x _ f)
    pick true false e f h = h ∙ sym (filter_no q x _ f)
    pick false true e f h = filter_no p x _ e ∙ h
    pick false false e f h = h

-- what stands in order as it is keeps its order among the others
pub filter_in_order : {X : Type 0} (d : Bool) (n : X → ℕ) (p : X → Bool) (xs : List X) → Ordered d n (filter p xs)
    → filter p (in_order (by d n) xs) ≡ filter p xs
filter_in_order d n p xs o =
    only_order d n (filter p (in_order (by d n) xs)) (filter p xs) (filter_ordered d n p _ (ordered d n xs)) o
    (λ z. filter_swap (tie d n z) p (in_order (by d n) xs) ∙ ap (filter p) (order_ties d n z xs) ∙ filter_swap p (tie d n z) xs)

-- a filter of items in order is the items that pass, in order
pub in_order_filter : {X : Type 0} (d : Bool) (n : X → ℕ) (p : X → Bool) (xs : List X)
    → filter p (in_order (by d n) xs) ≡ in_order (by d n) (filter p xs)
in_order_filter d n p xs =
    only_order d n (filter p (in_order (by d n) xs)) (in_order (by d n) (filter p xs)) (filter_ordered d n p _ (ordered d n xs))
    (ordered d n (filter p xs))
    (λ z. filter_swap (tie d n z) p (in_order (by d n) xs) ∙ ap (filter p) (order_ties d n z xs) ∙ filter_swap p (tie d n z) xs
    ∙ sym (order_ties d n z (filter p xs)))

-- an item in the place of another in two lists that are alike but for it
pub record Swapped {X : Type 0} (a b : X) (xs ys : List X) : Type 0 where
  pub front : List X
  pub back : List X
  pub first : xs ≡ front ++ a ∷ back
  pub second : ys ≡ front ++ b ∷ back

put_swapped : {X : Type 0} (d : Bool) (n : X → ℕ) (a b x : X) (front back : List X) → n a ≡ n b
    → Swapped a b (put_by (by d n) x (front ++ a ∷ back)) (put_by (by d n) x (front ++ b ∷ back))
put_swapped {X} d n a b x [] back e = pick (goes d (n x) (n a)) refl
  where
    pick : (t : Bool) → goes d (n x) (n a) ≡ t
        → Swapped a b (cond t (x ∷ a ∷ back) (a ∷ put_by (by d n) x back)) (put_by (by d n) x (b ∷ back))
    pick true f = record {
      front = x ∷ [];
      back = back;
      first = refl;
      second = ap (λ t. cond t (x ∷ b ∷ back) (b ∷ put_by (by d n) x back)) (ap (goes d (n x)) (sym e) ∙ f);
    }
    pick false f = record {
      front = [];
      back = put_by (by d n) x back;
      first = refl;
      second = ap (λ t. cond t (x ∷ b ∷ back) (b ∷ put_by (by d n) x back)) (ap (goes d (n x)) (sym e) ∙ f);
    }
put_swapped {X} d n a b x (y ∷ front) back e = pick (goes d (n x) (n y)) (put_swapped d n a b x front back e)
  where
    pick : (t : Bool) → Swapped a b (put_by (by d n) x (front ++ a ∷ back)) (put_by (by d n) x (front ++ b ∷ back))
        → Swapped a b (cond t (x ∷ y ∷ (front ++ a ∷ back)) (y ∷ put_by (by d n) x (front ++ a ∷ back)))
        (cond t (x ∷ y ∷ (front ++ b ∷ back)) (y ∷ put_by (by d n) x (front ++ b ∷ back)))
    pick true h = record { front = x ∷ y ∷ front; back = back; first = refl; second = refl }
    pick false h =
        record { front = y ∷ h.front; back = h.back; first = ap (λ l. y ∷ l) h.first; second = ap (λ l. y ∷ l) h.second }

put_at : {X : Type 0} (d : Bool) (n : X → ℕ) (a b : X) (xs ys : List X) → n a ≡ n b → Swapped a b xs ys
    → (x : X) → Swapped a b (put_by (by d n) x xs) (put_by (by d n) x ys)
put_at d n a b xs ys e s x = rw (s.first, s.second) (put_swapped d n a b x s.front s.back e)

first_swapped : {X : Type 0} (d : Bool) (n : X → ℕ) (a b : X) (xs : List X) → n a ≡ n b
    → Swapped a b (put_by (by d n) a xs) (put_by (by d n) b xs)
first_swapped d n a b [] e = record { front = []; back = []; first = refl; second = refl }
first_swapped {X} d n a b (x ∷ xs) e = pick (goes d (n a) (n x)) refl (first_swapped d n a b xs e)
  where
    pick : (t : Bool) → goes d (n a) (n x) ≡ t → Swapped a b (put_by (by d n) a xs) (put_by (by d n) b xs)
        → Swapped a b (cond t (a ∷ x ∷ xs) (x ∷ put_by (by d n) a xs)) (put_by (by d n) b (x ∷ xs))
    pick true f h = record {
      front = [];
      back = x ∷ xs;
      first = refl;
      second = ap (λ t. cond t (b ∷ x ∷ xs) (x ∷ put_by (by d n) b xs)) (ap (λ m. goes d m (n x)) (sym e) ∙ f);
    }
    pick false f h = record {
      front = x ∷ h.front;
      back = h.back;
      first = ap (λ l. x ∷ l) h.first;
      second = ap (λ t. cond t (b ∷ x ∷ xs) (x ∷ put_by (by d n) b xs)) (ap (λ m. goes d m (n x)) (sym e) ∙ f) ∙ ap (λ l. x ∷ l) h.second;
    }

-- an item in the place of another with its number keeps its place in the order
pub swapped_in_order : {X : Type 0} (d : Bool) (n : X → ℕ) (a b : X) (front back : List X) → n a ≡ n b
    → Swapped a b (in_order (by d n) (front ++ a ∷ back)) (in_order (by d n) (front ++ b ∷ back))
swapped_in_order d n a b [] back e = first_swapped d n a b (in_order (by d n) back) e
swapped_in_order d n a b (x ∷ front) back e = put_at d n a b _ _ e (swapped_in_order d n a b front back e) x

put_before : {X : Type 0} (d : Bool) (n : X → ℕ) (x w : X) (xs : List X) → goes d (n x) (n w) ≡ true
    → put_by (by d n) x (xs ++ w ∷ []) ≡ put_by (by d n) x xs ++ w ∷ []
put_before d n x w [] e = ap (λ t. cond t (x ∷ w ∷ []) (w ∷ x ∷ [])) e
put_before {X} d n x w (y ∷ ys) e = pick (goes d (n x) (n y)) (put_before d n x w ys e)
  where
    pick : (t : Bool) → put_by (by d n) x (ys ++ w ∷ []) ≡ put_by (by d n) x ys ++ w ∷ []
        → cond t (x ∷ y ∷ (ys ++ w ∷ [])) (y ∷ put_by (by d n) x (ys ++ w ∷ []))
        ≡ cond t (x ∷ y ∷ ys) (y ∷ put_by (by d n) x ys) ++ w ∷ []
    pick true h = refl
    pick false h = ap (λ l. y ∷ l) h

put_last : {X : Type 0} (d : Bool) (n : X → ℕ) (w : X) (xs : List X) → AllByRecursion (λ x. goes d (n w) (n x) ≡ false) xs
    → put_by (by d n) w xs ≡ xs ++ w ∷ []
put_last d n w [] all = refl
put_last d n w (x ∷ xs) all = ap (λ t. cond t (w ∷ x ∷ xs) (x ∷ put_by (by d n) w xs)) all.0 ∙ ap (λ l. x ∷ l) (put_last d n w xs all.1)

-- one item more keeps what is so of each
put_all : {X : Type 0} (P : X → Type 0) (g : X → X → Bool) (x : X) (xs : List X) → P x → AllByRecursion P xs
    → AllByRecursion P (put_by g x xs)
put_all P g x [] px all = (px, tt)
put_all {X} P g x (y ∷ ys) px all = pick (g x y) (put_all P g x ys px all.1)
  where
    pick : (t : Bool) → AllByRecursion P (put_by g x ys) → AllByRecursion P (cond t (x ∷ y ∷ ys) (y ∷ put_by g x ys))
    pick true rest = (px, all)
    pick false rest = (all.0, rest)

pub all_in_order : {X : Type 0} (P : X → Type 0) (g : X → X → Bool) (xs : List X) → AllByRecursion P xs → AllByRecursion P (in_order g xs)
all_in_order P g [] all = tt
all_in_order P g (x ∷ xs) all = put_all P g x _ all.0 (all_in_order P g xs all.1)

-- an item that stands after all others is the last, wherever it was
pub last_in_order : {X : Type 0} (d : Bool) (n : X → ℕ) (w : X) (front back : List X)
    → AllByRecursion (λ x. (goes d (n w) (n x) ≡ false) × (goes d (n x) (n w) ≡ true)) (front ++ back)
    → in_order (by d n) (front ++ w ∷ back) ≡ in_order (by d n) (front ++ back) ++ w ∷ []
last_in_order {X} d n w [] back all =
    put_last d n w (in_order (by d n) back) (firsts (in_order (by d n) back) (all_in_order _ (by d n) back all))
  where
    firsts : (xs : List X) → AllByRecursion (λ x. (goes d (n w) (n x) ≡ false) × (goes d (n x) (n w) ≡ true)) xs
        → AllByRecursion (λ x. goes d (n w) (n x) ≡ false) xs
    firsts [] all = tt
    firsts (x ∷ xs) all = (all.0.0, firsts xs all.1)
last_in_order {X} d n w (x ∷ front) back all =
    ap (put_by (by d n) x) (last_in_order d n w front back all.1)
    ∙ put_before d n x w (in_order (by d n) (front ++ back)) all.0.1
