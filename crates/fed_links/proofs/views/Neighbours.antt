-- The neighbours of a node are where its links lead.
use Rattle.std.proofs.Common.{◌≡◌, ℕ, zero, suc, Bool, true, false, nat_eq, List, [], ◌∷◌, Some, None, refl, sym, ap}
use Rattle.std.proofs.Common.{◌∙◌, arith, cond, is_some}
use Rattle.std.proofs.lemmas.Bool.Decides.{nat_tests}
use Rattle.std.proofs.lemmas.Bool.{eqb-true}
use Rattle.std.specs.Prelude.{Option}
use Rattle.fed_links.specs.Lists.{has, stands_in, list_at, first_of, after_in, before_from, after_among, before_among}
use Rattle.fed_links.specs.Threads.{same_link, link_from, IsSeam, IsFamily, ends_at}
use Rattle.fed_links.specs.declared.node.Ends.{Ends}
use Rattle.fed_links.proofs.threads.Seams.{same_self}

pub after_in_seam : (N P : Option ℕ → Option ℕ) (p : Option ℕ) (xs : List ℕ) (n : ℕ) → IsSeam N P p xs → has n xs ≡ true
    → after_in xs n ≡ N (Some n)
after_in_seam N P p [] n s h = grind (arith, h)
after_in_seam N P p (x ∷ xs) n s h = pick (nat_eq n x) refl (after_in_seam N P (Some x) xs n s.2)
  where
    first : (zs : List ℕ) → IsSeam N P (Some x) zs → first_of zs ≡ N (Some x)
    first [] t = sym t.0
    first (z ∷ zs) t = sym t.0

    pick : (t : Bool) → nat_eq n x ≡ t → (has n xs ≡ true → after_in xs n ≡ N (Some n)) → cond t (first_of xs) (after_in xs n) ≡ N (Some n)
    pick true is more = first xs s.2 ∙ ap (λ m. N (Some m)) (sym (eqb-true n x is))
    pick false is more = more (let e : has n xs ≡ true = grind (arith, nat_tests, is, h) in e)

pub before_from_seam : (N P : Option ℕ → Option ℕ) (p : Option ℕ) (xs : List ℕ) (n : ℕ) → IsSeam N P p xs → has n xs ≡ true
    → before_from p xs n ≡ P (Some n)
before_from_seam N P p [] n s h = grind (arith, h)
before_from_seam N P p (x ∷ xs) n s h = pick (nat_eq n x) refl (before_from_seam N P (Some x) xs n s.2)
  where
    pick : (t : Bool) → nat_eq n x ≡ t → (has n xs ≡ true → before_from (Some x) xs n ≡ P (Some n))
        → cond t p (before_from (Some x) xs n) ≡ P (Some n)
    pick true is more = sym s.1 ∙ ap (λ m. P (Some m)) (sym (eqb-true n x is))
    pick false is more = more (let e : has n xs ≡ true = grind (arith, nat_tests, is, h) in e)

pub after_among_is : (lists : List (List ℕ)) (n : ℕ) (v : Option ℕ) → ((k : ℕ) → has n (list_at lists k) ≡ true
    → after_in (list_at lists k) n ≡ v) → (stands_in n lists ≡ false → v ≡ None) → after_among lists n ≡ v
after_among_is [] n v h none = sym (none refl)
after_among_is (xs ∷ more) n v h none = pick (has n xs) refl (after_among_is more n v (λ k. h (suc k)))
  where
    pick : (t : Bool) → has n xs ≡ t → ((stands_in n more ≡ false → v ≡ None) → after_among more n ≡ v)
        → cond t (after_in xs n) (after_among more n) ≡ v
    pick true is rest = h zero is
    pick false is rest = rest (λ e. none (rw is e))

pub before_among_is : (lists : List (List ℕ)) (n : ℕ) (v : Option ℕ) → ((k : ℕ) → has n (list_at lists k) ≡ true
    → before_from None (list_at lists k) n ≡ v) → (stands_in n lists ≡ false → v ≡ None) → before_among lists n ≡ v
before_among_is [] n v h none = sym (none refl)
before_among_is (xs ∷ more) n v h none = pick (has n xs) refl (before_among_is more n v (λ k. h (suc k)))
  where
    pick : (t : Bool) → has n xs ≡ t → ((stands_in n more ≡ false → v ≡ None) → before_among more n ≡ v)
        → cond t (before_from None xs n) (before_among more n) ≡ v
    pick true is rest = h zero is
    pick false is rest = rest (λ e. none (rw is e))

pub any_none : (n : ℕ) (lists : List (List ℕ)) → ((k : ℕ) → has n (list_at lists k) ≡ false) → stands_in n lists ≡ false
any_none n [] h = refl
any_none n (xs ∷ more) h = rw (h zero) (any_none n more (λ k. h (suc k)))

pub any_at : (n k : ℕ) (lists : List (List ℕ)) → has n (list_at lists k) ≡ true → stands_in n lists ≡ true
any_at n k [] h = h
any_at n zero (xs ∷ more) h = rw h refl
any_at n (suc k) (xs ∷ more) h = pick (has n xs) (any_at n k more h)
  where
    pick : (t : Bool) → stands_in n more ≡ true → cond t true (stands_in n more) ≡ true
    pick true r = refl
    pick false r = r

module _ (after before home : ℕ → Option ℕ) (ends : List Ends) (lists : List (List ℕ)) where
  pub any_home : (n : ℕ) → IsFamily after before home ends lists → stands_in n lists ≡ is_some (home n)
  any_home n f = go (home n) refl
    where
      go : (o : Option ℕ) → home n ≡ o → stands_in n lists ≡ is_some o
      go None is = any_none n lists (λ k. (f k).homes n ∙ ap (λ o. same_link o (Some k)) is)
      go (Some k) is = any_at n k lists ((f k).homes n ∙ (ap (λ o. same_link o (Some k)) is ∙ same_self (Some k)))

  pub family_after : (n : ℕ) → IsFamily after before home ends lists → (home n ≡ None → after n ≡ None) → after_among lists n ≡ after n
  family_after n f idle =
      after_among_is lists n (after n) (λ k e. after_in_seam (link_from (ends_at ends k).first after)
      (link_from (ends_at ends k).last before) None (list_at lists k) n (f k).seam e)
      (λ e. idle (none_of (home n) (sym (any_home n f) ∙ e)))
    where
      none_of : (o : Option ℕ) → is_some o ≡ false → o ≡ None
      none_of None h = refl
      none_of (Some k) h = grind (arith, h)

  pub family_before : (n : ℕ) → IsFamily after before home ends lists → (home n ≡ None → before n ≡ None) → before_among lists n ≡ before n
  family_before n f idle =
      before_among_is lists n (before n) (λ k e. before_from_seam (link_from (ends_at ends k).first after)
      (link_from (ends_at ends k).last before) None (list_at lists k) n (f k).seam e)
      (λ e. idle (none_of (home n) (sym (any_home n f) ∙ e)))
    where
      none_of : (o : Option ℕ) → is_some o ≡ false → o ≡ None
      none_of None h = refl
      none_of (Some k) h = grind (arith, h)

  pub family_first : (k : ℕ) → IsFamily after before home ends lists → (ends_at ends k).first ≡ first_of (list_at lists k)
  family_first k f = go (list_at lists k) (f k).seam
    where
      go : (xs : List ℕ) → IsSeam (link_from (ends_at ends k).first after) (link_from (ends_at ends k).last before) None xs
          → (ends_at ends k).first ≡ first_of xs
      go [] s = s.0
      go (x ∷ xs) s = s.0
