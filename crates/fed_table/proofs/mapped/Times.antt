-- How often a call stands in lists, by how often its node does.
use Rattle.std.proofs.Common.{◌≡◌, ℕ, zero, suc, Bool, true, false, nat_eq, List, [], ◌∷◌, ◌+◌, ◌≤◌, refl, arith, cond, map, length}
use Rattle.fed_links.specs.Lists.{has, stands_in, times, times_in, list_at, without, all_without, total}
use Rattle.fed_links.proofs.threads.Seams.{has_first, has_later}
use Rattle.fed_table.proofs.mapped.Maps.{stands_first, stands_later, IsOf, IsOfAll, IsOfNone}

pub times_some : (n : ℕ) (xs : List ℕ) → has n xs ≡ true → 1 ≤ times n xs
times_some n [] e = absurd (grind (arith, e))
times_some n (x ∷ xs) e = by (nat_eq n x) e (times_some n xs)
  where
    by : (t : Bool) → cond t true (has n xs) ≡ true → (has n xs ≡ true → 1 ≤ times n xs) → 1 ≤ cond t 1 0 + times n xs
    by true e rest = omega arith
    by false e rest = let some = rest e in omega (arith, some)

pub some_times : (n : ℕ) (xs : List ℕ) → 1 ≤ times n xs → has n xs ≡ true
some_times n [] e = absurd (omega (arith, e))
some_times n (x ∷ xs) e = by (nat_eq n x) e (some_times n xs)
  where
    by : (t : Bool) → 1 ≤ cond t 1 0 + times n xs → (1 ≤ times n xs → has n xs ≡ true) → cond t true (has n xs) ≡ true
    by true e rest = refl
    by false e rest = rest (omega (arith, e))

pub stands_times : (n : ℕ) (lists : List (List ℕ)) → stands_in n lists ≡ true → 1 ≤ times_in n lists
stands_times n [] e = absurd (grind (arith, e))
stands_times n (xs ∷ more) e = by (has n xs) refl e (stands_times n more)
  where
    by : (t : Bool) → has n xs ≡ t → cond t true (stands_in n more) ≡ true → (stands_in n more ≡ true → 1 ≤ times_in n more)
        → 1 ≤ times n xs + times_in n more
    by true is e rest = let some = times_some n xs is in omega (arith, some)
    by false is e rest = let some = rest e in omega (arith, some)

times_no : (n : ℕ) (xs : List ℕ) → has n xs ≡ false → times n xs ≡ 0
times_no n [] h = refl
times_no n (x ∷ xs) h = go (nat_eq n x) h (times_no n xs)
  where
    go : (t : Bool) → cond t true (has n xs) ≡ false → (has n xs ≡ false → times n xs ≡ 0) → cond t 1 0 + times n xs ≡ 0
    go true e rest = absurd (grind (arith, e))
    go false e rest = let none = rest e in omega (arith, none)

pub times_stands : (n : ℕ) (lists : List (List ℕ)) → 1 ≤ times_in n lists → stands_in n lists ≡ true
times_stands n [] e = absurd (omega (arith, e))
times_stands n (xs ∷ more) e = by (has n xs) refl (times_stands n more)
  where
    by : (t : Bool) → has n xs ≡ t → (1 ≤ times_in n more → stands_in n more ≡ true) → cond t true (stands_in n more) ≡ true
    by true is rest = refl
    by false is rest = rest (let none = times_no n xs is in omega (arith, e, none))

length-without : (n : ℕ) (xs : List ℕ) → length (without n xs) + times n xs ≡ length xs
length-without n [] = refl
length-without n (x ∷ xs) = by (nat_eq n x) (length-without n xs)
  where
    by : (t : Bool) → length (without n xs) + times n xs ≡ length xs
        → length (cond t (without n xs) (x ∷ without n xs)) + (cond t 1 0 + times n xs) ≡ length (x ∷ xs)
    by true rest = omega (arith, rest)
    by false rest = omega (arith, rest)

pub total-without : (n : ℕ) (lists : List (List ℕ)) → total (all_without n lists) + times_in n lists ≡ total lists
total-without n [] = refl
total-without n (xs ∷ more) = let here = length-without n xs in let rest = total-without n more in omega (arith, here, rest)

pub times_within : (n k : ℕ) (lists : List (List ℕ)) → times n (list_at lists k) ≤ times_in n lists
times_within n k [] = omega arith
times_within n zero (xs ∷ more) = omega arith
times_within n (suc k) (xs ∷ more) = let rest = times_within n k more in omega (arith, rest)

module _ (f : ℕ → ℕ) where
  module _ (c n : ℕ) where
    times-map : (xs : List ℕ) → IsOf f c n xs → times c (map f xs) ≡ times n xs
    times-map [] h = refl
    times-map (x ∷ xs) h =
        let rest = times-map xs (λ m e. h m (has_later m x xs e)) in
        rw (h x (has_first x xs), rest) refl

    pub all_times-map : (lists : List (List ℕ)) → IsOfAll f c n lists → times_in c (map (map f) lists) ≡ times_in n lists
    all_times-map [] h = refl
    all_times-map (xs ∷ more) h =
        let here = times-map xs (λ m e. h m (stands_first m xs more e)) in
        let there = all_times-map more (λ m e. h m (stands_later m xs more e)) in
        omega (arith, here, there)

  module _ (c : ℕ) where
    times-none : (xs : List ℕ) → ((m : ℕ) → has m xs ≡ true → nat_eq c (f m) ≡ false) → times c (map f xs) ≡ 0
    times-none [] h = refl
    times-none (x ∷ xs) h =
        let rest = times-none xs (λ m e. h m (has_later m x xs e)) in
        rw (h x (has_first x xs)) (omega (arith, rest))

    pub all_times-none : (lists : List (List ℕ)) → IsOfNone f c lists → times_in c (map (map f) lists) ≡ 0
    all_times-none [] h = refl
    all_times-none (xs ∷ more) h =
        let here = times-none xs (λ m e. h m (stands_first m xs more e)) in
        let there = all_times-none more (λ m e. h m (stands_later m xs more e)) in
        omega (arith, here, there)
