-- Numbers that are joined into sets.
use Rattle.std.proofs.Common.{◌≡◌, ◌≢◌, ℕ, zero, suc, ◌+◌, ◌<◌, ◌≤◌, Bool, true, false, cond, nat_eq, List, [], ◌∷◌, ◌++◌, length}
use Rattle.std.proofs.Common.{refl, sym, ap, subst, ◌∙◌, arith}
use Rattle.std.proofs.lemmas.Bool.Decides.{nat_tests}
use Rattle.std.proofs.lemmas.List.{length-set, get_or-set_same, get_or-set_other}
use Rattle.std.specs.Prelude.{slice_index_or, slice_set}
use Rattle.fed_slice.specs.Sets.{AreParents, Respects, SameSets, KeepsRoots, Joins, IsSetOf, told_by}

-- a number on the way from another to the one that stands for its set
pub record Halves (initial now : List ℕ) (number at : ℕ) : Type 0 where
  pub parents : AreParents now
  pub len : length now ≡ length initial
  pub sets : SameSets initial now
  pub within : at < length now
  pub one : (test : ℕ → Bool) → Respects test initial → test at ≡ test number
  pub roots : KeepsRoots initial now

-- nothing is gone yet
pub begin : (initial : List ℕ) (number : ℕ) → number < length initial → AreParents initial → Halves initial initial number number
begin initial number within parents =
    record {
      parents = parents;
      len = refl;
      sets = record { more = λ test r. r; less = λ test r. r };
      within = within;
      one = λ test r. refl;
      roots = λ k lt own. own;
    }

-- within a list the default is not looked at
index_any : (xs : List ℕ) (k d e : ℕ) → k < length xs → slice_index_or xs k d ≡ slice_index_or xs k e
index_any [] k d e lt = absurd (omega (arith, lt))
index_any (x ∷ xs) zero d e lt = refl
index_any (x ∷ xs) (suc k) d e lt = index_any xs k d e (omega (arith, lt))

-- what stands after a write
set_at : (xs : List ℕ) (i v k : ℕ) → i < length xs → slice_index_or (slice_set xs i v) k 0 ≡ cond (nat_eq k i) v (slice_index_or xs k 0)
set_at xs i v k lt = go (nat_eq k i) refl
  where
    go : (b : Bool) → nat_eq k i ≡ b → slice_index_or (slice_set xs i v) k 0 ≡ cond b v (slice_index_or xs k 0)
    go true is =
        let one : k ≡ i = grind (arith, nat_tests, is) in
        ap (λ n. slice_index_or (slice_set xs i v) n 0) one ∙ get_or-set_same xs i v 0 lt
    go false is = get_or-set_other xs i k v 0 (λ one. let no : nat_eq k i ≡ true = grind (arith, nat_tests, one) in cc)

-- two reads of one place
pub reads_same : (xs : List ℕ) (k x y : ℕ) → k < length xs → x ≡ slice_index_or xs k x → y ≡ slice_index_or xs k y → x ≡ y
reads_same xs k x y lt h g = h ∙ index_any xs k x y lt ∙ sym g

-- one step on the way, which shortens it
pub record Step (initial now : List ℕ) (number at next : ℕ) : Type 0 where
  pub halves : Halves initial (slice_set now at next) number next
  pub smaller : next < at

pub halve : (initial now : List ℕ) (number at above next : ℕ) → Halves initial now number at → above ≡ slice_index_or now at above
    → next ≡ slice_index_or now above next → (above ≡ at → ⊥) → Step initial now number at next
halve initial now number at above next h a n apart =
    record {
      halves = record {
        parents = λ k lt. parents k (subst (λ l. k < l) (length-set now at next) lt);
        len = length-set now at next ∙ h.len;
        sets = record { more = λ test r. more test (h.sets.more test r); less = λ test r. h.sets.less test (less test r) };
        within = subst (λ l. next < l) (sym (length-set now at next)) next_within;
        one = λ test r.
            let now_r = h.sets.more test r in
            ap test n0 ∙ now_r above above_within ∙ ap test a0 ∙ now_r at h.within ∙ h.one test r;
        roots = λ k lt own. roots k (subst (λ l. k < l) (sym h.len) lt) (h.roots k lt own);
      };
      smaller = smaller;
    }
  where
    a0 : above ≡ slice_index_or now at 0
    a0 = a ∙ index_any now at above 0 h.within

    above_le : above ≤ at
    above_le = subst (λ x. x ≤ at) (sym a0) (h.parents at h.within)

    above_lt : above < at
    above_lt = omega (arith, above_le, apart)

    above_within : above < length now
    above_within = let w = h.within in omega (arith, above_lt, w)

    n0 : next ≡ slice_index_or now above 0
    n0 = n ∙ index_any now above next 0 above_within

    next_le : next ≤ above
    next_le = subst (λ x. x ≤ above) (sym n0) (h.parents above above_within)

    smaller : next < at
    smaller = omega (arith, above_lt, next_le)

    next_within : next < length now
    next_within = let w = h.within in omega (arith, smaller, w)

    parents : (k : ℕ) → k < length now → slice_index_or (slice_set now at next) k 0 ≤ k
    parents k lt = subst (λ x. x ≤ k) (sym (set_at now at next k h.within)) (go (nat_eq k at) refl)
      where
        go : (b : Bool) → nat_eq k at ≡ b → cond b next (slice_index_or now k 0) ≤ k
        go true is = let one : k ≡ at = grind (arith, nat_tests, is) in omega (arith, smaller, one)
        go false is = h.parents k lt

    roots : (k : ℕ) → k < length now → slice_index_or now k 0 ≡ k → slice_index_or (slice_set now at next) k 0 ≡ k
    roots k lt own = set_at now at next k h.within ∙ go (nat_eq k at) refl
      where
        go : (b : Bool) → nat_eq k at ≡ b → cond b next (slice_index_or now k 0) ≡ k
        go true is =
            let one : k ≡ at = grind (arith, nat_tests, is) in
            absurd (apart (a0 ∙ ap (λ j. slice_index_or now j 0) (sym one) ∙ own ∙ one))
        go false is = own

    more : (test : ℕ → Bool) → Respects test now → Respects test (slice_set now at next)
    more test r k lt = ap test (set_at now at next k h.within) ∙ go (nat_eq k at) refl
      where
        go : (b : Bool) → nat_eq k at ≡ b → test (cond b next (slice_index_or now k 0)) ≡ test k
        go true is =
            let one : k ≡ at = grind (arith, nat_tests, is) in
            ap test n0 ∙ r above above_within ∙ ap test a0 ∙ r at h.within ∙ sym (ap test one)
        go false is = r k (subst (λ l. k < l) (length-set now at next) lt)

    less : (test : ℕ → Bool) → Respects test (slice_set now at next) → Respects test now
    less test r k lt = go (nat_eq k at) refl
      where
        written : (j : ℕ) → j < length now → test (cond (nat_eq j at) next (slice_index_or now j 0)) ≡ test j
        written j lt = sym (ap test (set_at now at next j h.within)) ∙ r j (subst (λ l. j < l) (sym (length-set now at next)) lt)

        at_self : nat_eq at at ≡ true
        at_self = grind (arith, nat_tests)

        above_other : nat_eq above at ≡ false
        above_other = grind (arith, nat_tests, above_lt)

        at_next : test next ≡ test at
        at_next = sym (ap (λ b. test (cond b next (slice_index_or now at 0))) at_self) ∙ written at h.within

        at_above : test next ≡ test above
        at_above = ap test n0 ∙ sym (ap (λ b. test (cond b next (slice_index_or now above 0))) above_other) ∙ written above above_within

        go : (b : Bool) → nat_eq k at ≡ b → test (slice_index_or now k 0) ≡ test k
        go true is =
            let one : k ≡ at = grind (arith, nat_tests, is) in
            ap (λ j. test (slice_index_or now j 0)) one ∙ sym (ap test a0) ∙ sym at_above ∙ at_next ∙ sym (ap test one)
        go false is = sym (ap (λ b. test (cond b next (slice_index_or now k 0))) is) ∙ written k lt

-- ---- two sets are joined

-- the one that stands for a set is put under the one that stands for another
pub joined : (old mid : List ℕ) (x y root other : ℕ) → SameSets old mid → root < length mid → slice_index_or mid root 0 ≡ root
    → ((test : ℕ → Bool) → Respects test mid → test root ≡ test x) → ((test : ℕ → Bool) → Respects test mid → test other ≡ test y)
    → Joins old (slice_set mid root other) x y
joined old mid x y root other same within stands first second =
    record {
      more = λ test r equal.
          let m = same.more test r in
          λ k lt. ap test (set_at mid root other k within)
          ∙ put test m equal k (subst (λ l. k < l) (length-set mid root other) lt) (nat_eq k root) refl;
      less = λ test r. same.less test (less test r);
      one = λ test r. sym (first test (less test r)) ∙ sym (at_root test r) ∙ second test (less test r);
    }
  where
    put : (test : ℕ → Bool) → Respects test mid → test x ≡ test y → (k : ℕ) → k < length mid → (b : Bool) → nat_eq k root ≡ b
        → test (cond b other (slice_index_or mid k 0)) ≡ test k
    put test m equal k lt true is =
        let one : k ≡ root = grind (arith, nat_tests, is) in
        second test m ∙ sym equal ∙ sym (first test m) ∙ sym (ap test one)
    put test m equal k lt false is = m k lt

    written : (test : ℕ → Bool) → Respects test (slice_set mid root other) → (j : ℕ) → j < length mid
        → test (cond (nat_eq j root) other (slice_index_or mid j 0)) ≡ test j
    written test r j lt = sym (ap test (set_at mid root other j within)) ∙ r j (subst (λ l. j < l) (sym (length-set mid root other)) lt)

    at_root : (test : ℕ → Bool) → Respects test (slice_set mid root other) → test other ≡ test root
    at_root test r =
        let own : nat_eq root root ≡ true = grind (arith, nat_tests) in
        sym (ap (λ b. test (cond b other (slice_index_or mid root 0))) own) ∙ written test r root within

    less : (test : ℕ → Bool) → Respects test (slice_set mid root other) → Respects test mid
    less test r k lt = go (nat_eq k root) refl
      where
        go : (b : Bool) → nat_eq k root ≡ b → test (slice_index_or mid k 0) ≡ test k
        go true is =
            let one : k ≡ root = grind (arith, nat_tests, is) in
            ap test (ap (λ j. slice_index_or mid j 0) one ∙ stands ∙ sym one)
        go false is = sym (ap (λ b. test (cond b other (slice_index_or mid k 0))) is) ∙ written test r k lt

-- the same two sets in the other order
pub flip_joins : (old new : List ℕ) (x y : ℕ) → Joins old new x y → Joins old new y x
flip_joins old new x y h =
    record { more = λ test r equal. h.more test r (sym equal); less = h.less; one = λ test r. sym (h.one test r) }

pub same_twice : (old mid new : List ℕ) → SameSets old mid → SameSets mid new → SameSets old new
same_twice old mid new h k =
    record { more = λ test r. k.more test (h.more test r); less = λ test r. h.less test (k.less test r) }

pub still_within : (old new : List ℕ) (n : ℕ) → n < length old → length new ≡ length old → n < length new
still_within old new n lt len = subst (λ l. n < l) (sym len) lt

-- ---- the numbers of a set

-- so many numbers were told apart
pub record SetsSoFar (parents : List ℕ) (root number : ℕ) (inside : List Bool) : Type 0 where
  pub within : number ≤ length parents
  pub len : length inside ≡ number
  pub respects : (k : ℕ) → k < number → slice_index_or inside (slice_index_or parents k 0) false ≡ slice_index_or inside k false
  pub own : root < number → slice_index_or inside root false ≡ true
  pub only : (test : ℕ → Bool) → Respects test parents → (k : ℕ) → k < number → slice_index_or inside k false ≡ true → test k ≡ test root

index_bool : (xs : List Bool) (k : ℕ) (d e : Bool) → k < length xs → slice_index_or xs k d ≡ slice_index_or xs k e
index_bool [] k d e lt = absurd (omega (arith, lt))
index_bool (x ∷ xs) zero d e lt = refl
index_bool (x ∷ xs) (suc k) d e lt = index_bool xs k d e (omega (arith, lt))

before_last : (xs : List Bool) (x : Bool) (k : ℕ) → k < length xs → slice_index_or (xs ++ x ∷ []) k false ≡ slice_index_or xs k false
before_last [] x k lt = absurd (omega (arith, lt))
before_last (y ∷ xs) x zero lt = refl
before_last (y ∷ xs) x (suc k) lt = before_last xs x k (omega (arith, lt))

at_last : (xs : List Bool) (x : Bool) (k : ℕ) → k ≡ length xs → slice_index_or (xs ++ x ∷ []) k false ≡ x
at_last [] x zero is = refl
at_last [] x (suc k) is = absurd (omega (arith, is))
at_last (y ∷ xs) x zero is = absurd (omega (arith, is))
at_last (y ∷ xs) x (suc k) is = at_last xs x k (omega (arith, is))

len_last : (xs : List Bool) (x : Bool) → length (xs ++ x ∷ []) ≡ length xs + 1
len_last [] x = refl
len_last (y ∷ xs) x = let rest = len_last xs x in omega (arith, rest)

module _ (parents : List ℕ) (root : ℕ) (are : AreParents parents) (stands : slice_index_or parents root 0 ≡ root) where
  pub told_more : (number above : ℕ) (inside : List Bool) (is : Bool) → SetsSoFar parents root number inside → number < length parents
      → above ≡ slice_index_or parents number 0 → is ≡ told_by inside above number root
      → SetsSoFar parents root (number + 1) (inside ++ is ∷ [])
  told_more number above inside is h lt read told =
      record {
        within = omega (arith, lt);
        len = let l = h.len in len_last inside is ∙ ap (λ n. n + 1) l;
        respects = λ k below. respects k below (nat_eq k number) refl;
        own = λ below. own below (nat_eq root number) refl;
        only = λ test r k below found. only test r k below found (nat_eq k number) refl;
      }
    where
      above_is : above ≡ slice_index_or parents number 0
      above_is = read

      above_le : above ≤ number
      above_le = subst (λ x. x ≤ number) (sym above_is) (are number lt)

      front : (k : ℕ) → k < number → slice_index_or (inside ++ is ∷ []) k false ≡ slice_index_or inside k false
      front k below = before_last inside is k (let l = h.len in omega (arith, below, l))

      last : slice_index_or (inside ++ is ∷ []) number false ≡ is
      last = at_last inside is number (sym h.len)

      -- the new one and the one above it
      new_one : (b : Bool) → nat_eq above number ≡ b → slice_index_or (inside ++ is ∷ []) above false ≡ is
      new_one true same =
          let one : above ≡ number = grind (arith, nat_tests, same) in
          ap (λ j. slice_index_or (inside ++ is ∷ []) j false) one ∙ last
      new_one false other =
          let below : above < number = let ne : above ≢ number = grind (arith, nat_tests, other) in omega (arith, above_le, ne) in
          front above below
          ∙ sym (told ∙ ap (λ t. cond t (nat_eq number root) (slice_index_or inside above false)) other)

      respects : (k : ℕ) → k < number + 1 → (b : Bool) → nat_eq k number ≡ b
          → slice_index_or (inside ++ is ∷ []) (slice_index_or parents k 0) false ≡ slice_index_or (inside ++ is ∷ []) k false
      respects k below true same =
          let one : k ≡ number = grind (arith, nat_tests, same) in
          ap (λ j. slice_index_or (inside ++ is ∷ []) (slice_index_or parents j 0) false) one
          ∙ ap (λ j. slice_index_or (inside ++ is ∷ []) j false) (sym above_is) ∙ new_one (nat_eq above number) refl
          ∙ sym last ∙ sym (ap (λ j. slice_index_or (inside ++ is ∷ []) j false) one)
      respects k below false other =
          let ne : k ≢ number = grind (arith, nat_tests, other) in
          let lower : k < number = omega (arith, below, ne) in
          let k_in : k < length parents = omega (arith, lower, lt) in
          let up : slice_index_or parents k 0 ≤ k = are k k_in in
          front (slice_index_or parents k 0) (omega (arith, up, lower)) ∙ h.respects k lower ∙ sym (front k lower)

      own : root < number + 1 → (b : Bool) → nat_eq root number ≡ b → slice_index_or (inside ++ is ∷ []) root false ≡ true
      own below true same =
          let one : root ≡ number = grind (arith, nat_tests, same) in
          let self : above ≡ number = above_is ∙ ap (λ j. slice_index_or parents j 0) (sym one) ∙ stands ∙ one in
          let at : nat_eq above number ≡ true = grind (arith, nat_tests, self) in
          let here : nat_eq number root ≡ true = grind (arith, nat_tests, one) in
          ap (λ j. slice_index_or (inside ++ is ∷ []) j false) one ∙ last ∙ told
          ∙ ap (λ t. cond t (nat_eq number root) (slice_index_or inside above false)) at ∙ here
      own below false other =
          let ne : root ≢ number = grind (arith, nat_tests, other) in
          let lower : root < number = omega (arith, below, ne) in
          front root lower ∙ h.own lower

      only : (test : ℕ → Bool) → Respects test parents → (k : ℕ) → k < number + 1
          → slice_index_or (inside ++ is ∷ []) k false ≡ true → (b : Bool) → nat_eq k number ≡ b → test k ≡ test root
      only test r k below found false other =
          let ne : k ≢ number = grind (arith, nat_tests, other) in
          let lower : k < number = omega (arith, below, ne) in
          h.only test r k lower (sym (front k lower) ∙ found)
      only test r k below found true same =
          let one : k ≡ number = grind (arith, nat_tests, same) in
          by (nat_eq above number) refl (sym told ∙ sym last ∙ sym (ap (λ j. slice_index_or (inside ++ is ∷ []) j false) one) ∙ found) one
        where
          by : (b : Bool) → nat_eq above number ≡ b → told_by inside above number root ≡ true → k ≡ number → test k ≡ test root
          by true at told_so one =
              let here : nat_eq number root ≡ true =
              sym (ap (λ t. cond t (nat_eq number root) (slice_index_or inside above false)) at) ∙ told_so in
              let is_root : number ≡ root = grind (arith, nat_tests, here) in
              ap test (one ∙ is_root)
          by false at told_so one =
              let ne : above ≢ number = grind (arith, nat_tests, at) in
              let lower : above < number = omega (arith, above_le, ne) in
              let there : slice_index_or inside above false ≡ true =
              sym (ap (λ t. cond t (nat_eq number root) (slice_index_or inside above false)) at) ∙ told_so in
              ap test one ∙ sym (r number lt) ∙ ap test (sym above_is) ∙ h.only test r above lower there

pub none_told : (parents : List ℕ) (root : ℕ) (inside : List Bool) → inside ≡ [] → SetsSoFar parents root 0 inside
none_told parents root inside is =
    record {
      within = omega arith;
      len = ap length is;
      respects = λ k lt. absurd (omega (arith, lt));
      own = λ lt. absurd (omega (arith, lt));
      only = λ test r k lt found. absurd (omega (arith, lt));
    }

pub all_told : (parents : List ℕ) (root number : ℕ) (inside : List Bool) → SetsSoFar parents root number inside
    → number ≡ length parents → root < length parents → IsSetOf parents root inside
all_told parents root number inside h all within =
    record {
      len = h.len ∙ all;
      respects = λ k lt. h.respects k (subst (λ n. k < n) (sym all) lt);
      own = h.own (subst (λ n. root < n) (sym all) within);
      only = λ test r k lt found. h.only test r k (subst (λ n. k < n) (sym all) lt) found;
    }
