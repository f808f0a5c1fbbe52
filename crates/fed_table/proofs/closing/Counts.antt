-- How often a call stands in a list.
use Rattle.std.proofs.Common.{◌≡◌, ℕ, ◌+◌, ◌≤◌, Bool, true, false, cond, not, nat_eq, List, [], ◌∷◌}
use Rattle.std.proofs.Common.{◌++◌, length, refl, ap, ◌∙◌, arith}
use Rattle.std.proofs.lemmas.Bool.Decides.{nat_tests}
use Rattle.std.specs.Prelude.{◌||◌}
use Rattle.fed_table.specs.Lists.{has, without, times}

pub times-append : (q c : ℕ) (xs : List ℕ) → times q (xs ++ c ∷ []) ≡ times q xs + cond (nat_eq q c) 1 0
times-append q c [] = omega arith
times-append q c (x ∷ xs) = let rest = times-append q c xs in omega (arith, rest)

pub without_none : (c : ℕ) (xs : List ℕ) → times c xs ≡ 0 → xs ≡ without c xs
without_none c [] none = refl
without_none c (x ∷ xs) none = by (nat_eq c x) none (without_none c xs)
  where
    by : (t : Bool) → cond t 1 0 + times c xs ≡ 0 → (times c xs ≡ 0 → xs ≡ without c xs)
        → x ∷ xs ≡ cond (not t) (x ∷ without c xs) (without c xs)
    by true is rest = absurd (omega (arith, is))
    by false is rest = ap (λ ys. x ∷ ys) (rest (omega (arith, is)))

pub times-without : (q c : ℕ) (xs : List ℕ) → times q (without c xs) ≡ cond (nat_eq c q) 0 (times q xs)
times-without q c [] = by (nat_eq c q)
  where
    by : (t : Bool) → ◌≡◌ {A = ℕ} 0 (cond t 0 0)
    by true = refl
    by false = refl
times-without q c (x ∷ xs) = by (nat_eq c x) (nat_eq c q) (nat_eq q x) refl refl refl (times-without q c xs)
  where
    by : (t u v : Bool) → nat_eq c x ≡ t → nat_eq c q ≡ u → nat_eq q x ≡ v → times q (without c xs) ≡ cond u 0 (times q xs)
        → times q (cond (not t) (x ∷ without c xs) (without c xs)) ≡ cond u 0 (cond v 1 0 + times q xs)
    by true true v a b d rest = rest
    by true false true a b d rest = absurd (grind (arith, nat_tests, a, b, d))
    by true false false a b d rest = rest ∙ (let e : times q xs ≡ 0 + times q xs = omega arith in e)
    by false true true a b d rest = absurd (grind (arith, nat_tests, a, b, d))
    by false true false a b d rest = rw d (let e : 0 + times q (without c xs) ≡ times q (without c xs) = omega arith in e ∙ rest)
    by false false v a b d rest = rw d (ap (λ n. cond v 1 0 + n) rest)

pub has_none : (c : ℕ) (xs : List ℕ) → times c xs ≡ 0 → has c xs ≡ false
has_none c [] none = refl
has_none c (x ∷ xs) none = by (nat_eq c x) none (has_none c xs)
  where
    by : (t : Bool) → cond t 1 0 + times c xs ≡ 0 → (times c xs ≡ 0 → has c xs ≡ false) → (t || has c xs) ≡ false
    by true is rest = absurd (omega (arith, is))
    by false is rest = rest (omega (arith, is))

pub has_some : (c : ℕ) (xs : List ℕ) → times c xs ≡ 1 → has c xs ≡ true
has_some c [] one = absurd (omega (arith, one))
has_some c (x ∷ xs) one = by (nat_eq c x) one (has_some c xs)
  where
    by : (t : Bool) → cond t 1 0 + times c xs ≡ 1 → (times c xs ≡ 1 → has c xs ≡ true) → (t || has c xs) ≡ true
    by true is rest = refl
    by false is rest = rest (omega (arith, is))

pub length-without : (c : ℕ) (xs : List ℕ) → length (without c xs) ≤ length xs
length-without c [] = omega arith
length-without c (x ∷ xs) = by (nat_eq c x) (length-without c xs)
  where
    by : (t : Bool) → length (without c xs) ≤ length xs
        → length (cond (not t) (x ∷ without c xs) (without c xs)) ≤ length (x ∷ xs)
    by true rest = omega (arith, rest)
    by false rest = omega (arith, rest)
