-- What is left of a list from a node on.
use Rattle.std.proofs.Common.{◌≡◌, ℕ, zero, suc, Bool, true, false, nat_eq, List, [], ◌∷◌, ◌+◌, ◌≤◌, Option, Some, None, refl, sym, ap}
use Rattle.std.proofs.Common.{◌++◌, ◌∙◌, arith, cond, eq-eqb, subst, map}
use Rattle.std.proofs.lemmas.List.{append_assoc, append-nil}
use Rattle.std.proofs.lemmas.Bool.{eqb-true}
use Rattle.fed_links.specs.Lists.{LinkLists, AreLinkLists, has, times, times_in, list_at, first_of, after_in, after_among}
use Rattle.fed_links.proofs.threads.Seams.{has_first, has_later}
use Rattle.fed_table.specs.Kept.{rest_from}
use Rattle.fed_table.proofs.mapped.Times.{times_some, times_within}

-- no node stands twice in the list
abbrev pub AreOnce : List ℕ → Type 0
AreOnce xs = (m : ℕ) → times m xs ≤ 1

tail_once : (x : ℕ) (xs : List ℕ) → AreOnce (x ∷ xs) → AreOnce xs
tail_once x xs once m = by (nat_eq m x) (once m)
  where
    by : (t : Bool) → cond t 1 0 + times m xs ≤ 1 → times m xs ≤ 1
    by true e = omega (arith, e)
    by false e = omega (arith, e)

apart : (x m : ℕ) (xs : List ℕ) → AreOnce (x ∷ xs) → has m xs ≡ true → nat_eq m x ≡ false
apart x m xs once h = go (nat_eq m x) refl (once m)
  where
    go : (t : Bool) → nat_eq m x ≡ t → cond t 1 0 + times m xs ≤ 1 → t ≡ false
    go false e less = refl
    go true e less = absurd (let some = times_some m xs h in omega (arith, some, less))

pub first_has : (m : ℕ) (xs : List ℕ) → first_of xs ≡ Some m → has m xs ≡ true
first_has m [] e = absurd (grind (arith, e))
first_has m (x ∷ xs) e = subst (λ (k : ℕ). has k (x ∷ xs) ≡ true) (let s : x ≡ m = grind (arith, e) in s) (has_first x xs)

pub after_has : (n m : ℕ) (xs : List ℕ) → after_in xs n ≡ Some m → has m xs ≡ true
after_has n m [] e = absurd (grind (arith, e))
after_has n m (x ∷ xs) e = by (nat_eq n x) e (after_has n m xs)
  where
    by : (t : Bool) → cond t (first_of xs) (after_in xs n) ≡ Some m → (after_in xs n ≡ Some m → has m xs ≡ true) → has m (x ∷ xs) ≡ true
    by true h rest = has_later m x xs (first_has m xs h)
    by false h rest = has_later m x xs (rest h)

-- a node of the list leads past its first
skips : (x : ℕ) (xs : List ℕ) (o : Option ℕ) → AreOnce (x ∷ xs) → ((m : ℕ) → o ≡ Some m → has m xs ≡ true)
    → rest_from o (x ∷ xs) ≡ rest_from o xs
skips x [] None once h = refl
skips x (y ∷ ys) None once h = refl
skips x xs (Some m) once h = rw (apart x m xs once (h m refl)) refl

pub rest_first : (xs : List ℕ) → rest_from (first_of xs) xs ≡ xs
rest_first [] = refl
rest_first (x ∷ xs) = rw (eq-eqb x x refl) refl

pub rest_step : (n : ℕ) (xs : List ℕ) → AreOnce xs → has n xs ≡ true → rest_from (Some n) xs ≡ n ∷ rest_from (after_in xs n) xs
rest_step n [] once h = absurd (grind (arith, h))
rest_step n (x ∷ xs) once h = by (nat_eq n x) refl h (rest_step n xs (tail_once x xs once))
  where
    by : (t : Bool) → nat_eq n x ≡ t → cond t true (has n xs) ≡ true
        → (has n xs ≡ true → rest_from (Some n) xs ≡ n ∷ rest_from (after_in xs n) xs)
        → cond t (x ∷ xs) (rest_from (Some n) xs) ≡ n ∷ rest_from (cond t (first_of xs) (after_in xs n)) (x ∷ xs)
    by true is e rest =
        let same = skips x xs (first_of xs) once (λ m f. first_has m xs f) ∙ rest_first xs in
        let here : x ≡ n = sym (eqb-true n x is) in
        λ i. here i ∷ sym same i
    by false is e rest =
        rest e ∙ ap (λ ys. n ∷ ys) (sym (skips x xs (after_in xs n) once (λ m f. after_has n m xs f)))

-- the node after a node, in the list where it stands alone
pub among_at : (n k : ℕ) (lists : List (List ℕ)) → times_in n lists ≤ 1 → has n (list_at lists k) ≡ true
    → after_among lists n ≡ after_in (list_at lists k) n
among_at n k [] less h = absurd (grind (arith, h))
among_at n zero (xs ∷ more) less h = rw h refl
among_at n (suc k) (xs ∷ more) less h = by (has n xs) refl (among_at n k more)
  where
    some : 1 ≤ times_in n more
    some = let a = times_some n (list_at more k) h in let b = times_within n k more in omega (arith, a, b)

    by : (t : Bool) → has n xs ≡ t → (times_in n more ≤ 1 → has n (list_at more k) ≡ true
        → after_among more n ≡ after_in (list_at more k) n)
        → cond t (after_in xs n) (after_among more n) ≡ after_in (list_at more k) n
    by true is rest = absurd (let a = times_some n xs is in let b = some in omega (arith, a, b, less))
    by false is rest = rest (omega (arith, less)) h

module _ {links : LinkLists} (are : AreLinkLists links) (k : ℕ) where
  waits_once : (m : ℕ) → times_in m links.waits ≤ 1
  waits_once m = let a = are.waiting m in let b = are.once m in omega (arith, a, b)

  list_once : AreOnce (list_at links.waits k)
  list_once m = let a = times_within m k links.waits in let b = waits_once m in omega (arith, a, b)

  -- one turn: the next node, and what is left
  pub turn : (n : ℕ) (o : Option ℕ) → has n (list_at links.waits k) ≡ true → o ≡ after_among links.waits n
      → rest_from (Some n) (list_at links.waits k) ≡ n ∷ rest_from o (list_at links.waits k)
  turn n o h e = rest_step n (list_at links.waits k) list_once h
      ∙ ap (λ o. n ∷ rest_from o (list_at links.waits k)) (sym (e ∙ among_at n k links.waits (waits_once n) h))

  pub next_has : (n m : ℕ) (o : Option ℕ) → has n (list_at links.waits k) ≡ true → o ≡ after_among links.waits n → o ≡ Some m
      → has m (list_at links.waits k) ≡ true
  next_has n m o h e is = after_has n m (list_at links.waits k) (sym (among_at n k links.waits (waits_once n) h) ∙ sym e ∙ is)

-- the calls so far with one more, and those of the nodes that are left
pub one_more : (f : ℕ → ℕ) (calls calls' rest rest' all : List ℕ) (n o : ℕ) → calls' ≡ calls ++ o ∷ [] → o ≡ f n → rest ≡ n ∷ rest'
    → calls ++ map f rest ≡ all → calls' ++ map f rest' ≡ all
one_more f calls calls' rest rest' all n o push named step found =
    ap (λ cs. cs ++ map f rest') (push ∙ ap (λ o. calls ++ o ∷ []) named) ∙ append_assoc calls (f n ∷ []) (map f rest')
    ∙ ap (λ r. calls ++ map f r) (sym step) ∙ found

pub none_more : (f : ℕ → ℕ) (calls all xs : List ℕ) (o : Option ℕ) → o ≡ None → calls ++ map f (rest_from o xs) ≡ all → calls ≡ all
none_more f calls all xs o none found =
    sym (append-nil calls) ∙ ap (λ o. calls ++ map f (rest_from o xs)) (sym none) ∙ found
