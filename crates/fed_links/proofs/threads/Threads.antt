-- One list, as a node comes or goes there or in another.
use Rattle.std.proofs.Common.{◌≡◌, ℕ, Bool, true, false, nat_eq, List, [], ◌∷◌, ◌++◌, Some, None, refl, sym, ◌∙◌, arith, cond}
use Rattle.std.proofs.lemmas.Bool.Decides.{nat_tests}
use Rattle.std.specs.Prelude.{Option}
use Rattle.fed_links.specs.Lists.{has, without}
use Rattle.fed_links.specs.Threads.{same_link, link_from, IsThread, AreDistinct}
use Rattle.fed_links.proofs.threads.Seams.{same_seam, seam_with, seam_without, one_of_same, same_self}

pub has_push : (n y : ℕ) (xs : List ℕ) → has n (xs ++ y ∷ []) ≡ cond (nat_eq n y) true (has n xs)
has_push n y [] = refl
has_push n y (x ∷ xs) = let rest = has_push n y xs in grind (arith, nat_tests, rest)

pub has_without : (n y : ℕ) (xs : List ℕ) → has n (without y xs) ≡ cond (nat_eq n y) false (has n xs)
has_without n y [] = grind (arith, nat_tests)
has_without n y (x ∷ xs) = let rest = has_without n y xs in grind (arith, nat_tests, rest)

pub distinct_push : (y : ℕ) (xs : List ℕ) → AreDistinct xs → has y xs ≡ false → AreDistinct (xs ++ y ∷ [])
distinct_push y [] d f = (refl, tt)
distinct_push y (x ∷ xs) d f = (
  has_push x y xs ∙ (let e : cond (nat_eq x y) true (has x xs) ≡ false = (let c = d.0 in grind (arith, nat_tests, c, f)) in e),
  distinct_push y xs d.1 (let e : has y xs ≡ false = grind (arith, nat_tests, f) in e),
)

pub distinct_without : (y : ℕ) (xs : List ℕ) → AreDistinct xs → AreDistinct (without y xs)
distinct_without y [] d = tt
distinct_without y (x ∷ xs) d = pick (nat_eq y x) (distinct_without y xs d.1)
  where
    pick : (t : Bool) → AreDistinct (without y xs) → AreDistinct (cond t (without y xs) (x ∷ without y xs))
    pick true rest = rest
    pick false rest =
        (has_without x y xs ∙ (let c = d.0 in let e : cond (nat_eq x y) false (has x xs) ≡ false = grind (arith, nat_tests, c) in e), rest)

module _ (after before home after' before' home' : ℕ → Option ℕ) where
  -- another list stays
  pub thread_other : (first last : Option ℕ) (j : ℕ) (xs : List ℕ) → IsThread first last after before home j xs
      → ((n : ℕ) → home n ≡ Some j → (after' n ≡ after n) × (before' n ≡ before n))
      → ((n : ℕ) → same_link (home' n) (Some j) ≡ same_link (home n) (Some j))
      → IsThread first last after' before' home' j xs
  thread_other first last j xs t h g =
      record {
        seam =
            same_seam (link_from first after) (link_from last before) (link_from first after') (link_from last before') None xs t.seam refl
            (λ n m. h n (one_of_same (home n) (Some j) (sym (t.homes n) ∙ m))) refl;
        distinct = t.distinct;
        homes = λ n. t.homes n ∙ sym (g n);
      }

  -- y comes at the end
  pub thread_with : (first last : Option ℕ) (k y : ℕ) (xs : List ℕ) → IsThread first last after before home k xs → home y ≡ None
      → ((n : ℕ) → after' n ≡ cond (nat_eq n y) None (cond (same_link (Some n) last) (Some y) (after n)))
      → ((n : ℕ) → before' n ≡ cond (nat_eq n y) last (before n))
      → ((n : ℕ) → home' n ≡ cond (nat_eq n y) (Some k) (home n))
      → IsThread (cond (same_link None last) (Some y) first) (Some y) after' before' home' k (xs ++ y ∷ [])
  thread_with first last k y xs t out ha hb hh =
      record {
        seam =
            seam_with (link_from first after) (link_from last before) (link_from (cond (same_link None last) (Some y) first) after')
            (link_from (Some y) before') y ahead back None xs t.seam t.distinct fresh refl refl;
        distinct = distinct_push y xs t.distinct fresh;
        homes = λ n. has_push n y xs ∙ rw (hh n, t.homes n) (there (nat_eq n y) (home n));
      }
    where
      fresh : has y xs ≡ false
      fresh = t.homes y ∙ rw out refl

      ahead : (x : Option ℕ) → link_from (cond (same_link None last) (Some y) first) after' x
          ≡ cond (same_link x (Some y)) None (cond (same_link x last) (Some y) (link_from first after x))
      ahead None = refl
      ahead (Some n) = ha n

      back : (x : Option ℕ) → link_from (Some y) before' x
          ≡ cond (same_link x None) (Some y) (cond (same_link x (Some y)) last (link_from last before x))
      back None = refl
      back (Some n) = hb n

      there : (t : Bool) (o : Option ℕ) → cond t true (same_link o (Some k)) ≡ same_link (cond t (Some k) o) (Some k)
      there true o = sym (same_self (Some k))
      there false o = refl

  -- y goes
  pub thread_without : (first last : Option ℕ) (k y : ℕ) (xs : List ℕ) → IsThread first last after before home k xs → home y ≡ Some k
      → ((n : ℕ) → nat_eq n y ≡ false → after' n ≡ cond (same_link (Some n) (before y)) (after y) (after n))
      → ((n : ℕ) → nat_eq n y ≡ false → before' n ≡ cond (same_link (Some n) (after y)) (before y) (before n))
      → ((n : ℕ) → home' n ≡ cond (nat_eq n y) None (home n))
      → IsThread (cond (same_link None (before y)) (after y) first) (cond (same_link None (after y)) (before y) last) after' before' home'
      k (without y xs)
  thread_without first last k y xs t here ha hb hh =
      record {
        seam =
            seam_without (link_from first after) (link_from last before)
            (link_from (cond (same_link None (before y)) (after y) first) after')
            (link_from (cond (same_link None (after y)) (before y) last) before') y ahead back None xs t.seam t.distinct stood refl refl;
        distinct = distinct_without y xs t.distinct;
        homes = λ n. has_without n y xs ∙ rw (hh n, t.homes n) (there (nat_eq n y) (home n));
      }
    where
      stood : has y xs ≡ true
      stood = t.homes y ∙ rw here (same_self (Some k))

      ahead : (x : Option ℕ) → same_link x (Some y) ≡ false
          → link_from (cond (same_link None (before y)) (after y) first) after' x
          ≡ cond (same_link x (before y)) (after y) (link_from first after x)
      ahead None ne = refl
      ahead (Some n) ne = ha n ne

      back : (x : Option ℕ) → same_link x (Some y) ≡ false
          → link_from (cond (same_link None (after y)) (before y) last) before' x
          ≡ cond (same_link x (after y)) (before y) (link_from last before x)
      back None ne = refl
      back (Some n) ne = hb n ne

      there : (t : Bool) (o : Option ℕ) → cond t false (same_link o (Some k)) ≡ same_link (cond t None o) (Some k)
      there true o = refl
      there false o = refl
