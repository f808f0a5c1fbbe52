-- How many nodes a list has.
use Rattle.std.proofs.Common.{◌≡◌, ℕ, zero, suc, Bool, true, false, nat_eq, List, [], ◌∷◌, ◌+◌, ◌<◌, ◌≤◌, refl, sym, ap}
use Rattle.std.proofs.Common.{◌∙◌, arith, cond, length, set}
use Rattle.std.proofs.lemmas.Bool.Decides.{nat_tests}
use Rattle.std.proofs.lemmas.Bool.{eqb-false, eqb-true}
use Rattle.fed_links.specs.Lists.{has, without, list_at}
use Rattle.fed_links.specs.Lists.{total}
use Rattle.fed_links.specs.Threads.{AreDistinct}
use Rattle.fed_links.proofs.threads.Seams.{has_first, without_none}
use Rattle.fed_links.proofs.threads.Threads.{has_without, distinct_without}

pub length-without : (y : ℕ) (xs : List ℕ) → AreDistinct xs → length (without y xs) + cond (has y xs) 1 0 ≡ length xs
length-without y [] d = refl
length-without y (x ∷ xs) d = pick (nat_eq y x) refl (length-without y xs d.1)
  where
    pick : (t : Bool) → nat_eq y x ≡ t → length (without y xs) + cond (has y xs) 1 0 ≡ length xs
        → length (cond t (without y xs) (x ∷ without y xs)) + cond (cond t true (has y xs)) 1 0 ≡ length (x ∷ xs)
    pick true is rest =
        let gone : has y xs ≡ false = ap (λ n. has n xs) (eqb-true y x is) ∙ d.0 in
        rw (without_none y xs gone) (omega arith)
    pick false is rest = omega (arith, rest)

pub few : (m : ℕ) (xs : List ℕ) → AreDistinct xs → ((n : ℕ) → has n xs ≡ true → n < m) → length xs ≤ m
few m [] d h = omega arith
few zero (x ∷ xs) d h = let e = h x (has_first x xs) in omega (arith, e)
few (suc m) (x ∷ xs) d h =
    let rest : length (without m (x ∷ xs)) ≤ m = few m (without m (x ∷ xs)) (distinct_without m (x ∷ xs) d) (λ n e. below n e) in
    let all = length-without m (x ∷ xs) d in
    bound (has m (x ∷ xs)) rest all
  where
    below : (n : ℕ) → has n (without m (x ∷ xs)) ≡ true → n < m
    below n e = go (nat_eq n m) refl
      where
        split : cond (nat_eq n m) false (has n (x ∷ xs)) ≡ true
        split = sym (has_without n m (x ∷ xs)) ∙ e

        go : (t : Bool) → nat_eq n m ≡ t → n < m
        go true is = let s = split in grind (arith, nat_tests, is, s)
        go false is =
            let s : has n (x ∷ xs) ≡ true = (let s = split in grind (arith, nat_tests, is, s)) in
            let l = h n s in
            let ne = eqb-false n m is in
            omega (arith, l, ne)

    bound : (t : Bool) → length (without m (x ∷ xs)) ≤ m → length (without m (x ∷ xs)) + cond t 1 0 ≡ length (x ∷ xs)
        → length (x ∷ xs) ≤ suc m
    bound true a b = omega (arith, a, b)
    bound false a b = omega (arith, a, b)

pub total-set : (lists : List (List ℕ)) (k : ℕ) (xs : List ℕ) → k < length lists
    → total (set lists k xs) + length (list_at lists k) ≡ total lists + length xs
total-set [] k xs le = absurd (omega (arith, le))
total-set (ys ∷ more) zero xs le = omega arith
total-set (ys ∷ more) (suc k) xs le = let rest = total-set more k xs (omega (arith, le)) in omega (arith, rest)
