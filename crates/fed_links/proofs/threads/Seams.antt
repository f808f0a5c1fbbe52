-- A seam of nodes, as a node comes at its end or one goes.
use Rattle.std.proofs.Common.{◌≡◌, ℕ, Bool, true, false, nat_eq, List, [], ◌∷◌, ◌++◌, Some, None, refl, sym, ap, ◌∙◌, arith, cond}
use Rattle.std.proofs.lemmas.Bool.Decides.{nat_tests}
use Rattle.std.specs.Prelude.{Option}
use Rattle.fed_links.specs.Lists.{has, without}
use Rattle.fed_links.specs.Threads.{same_link, leads_into, IsSeam, AreDistinct}

-- what does not stand in a list is not its first and does not stand in the rest
pub not_first : (p₀ : Option ℕ) (x : ℕ) (xs : List ℕ) → leads_into p₀ (x ∷ xs) ≡ false → same_link p₀ (Some x) ≡ false
not_first None x xs h = refl
not_first (Some m) x xs h = grind (arith, nat_tests)

pub not_later : (p₀ : Option ℕ) (x : ℕ) (xs : List ℕ) → leads_into p₀ (x ∷ xs) ≡ false → leads_into p₀ xs ≡ false
not_later None x xs h = refl
not_later (Some m) x xs h = grind (arith, nat_tests)

pub has_later : (n x : ℕ) (xs : List ℕ) → has n xs ≡ true → has n (x ∷ xs) ≡ true
has_later n x xs h = grind (arith, nat_tests)

pub has_first : (x : ℕ) (xs : List ℕ) → has x (x ∷ xs) ≡ true
has_first x xs = grind (arith, nat_tests)

-- two that are one
pub one_of_same : (p q : Option ℕ) → same_link p q ≡ true → p ≡ q
one_of_same None None h = refl
one_of_same None (Some b) h = grind arith
one_of_same (Some a) None h = grind arith
one_of_same (Some a) (Some b) h = let e : a ≡ b = grind (arith, nat_tests) in ap (λ n. Some n) e

pub same_self : (p : Option ℕ) → same_link p p ≡ true
same_self None = refl
same_self (Some a) = grind (arith, nat_tests)

pub same_sym : (p q : Option ℕ) → same_link p q ≡ same_link q p
same_sym None None = refl
same_sym None (Some b) = refl
same_sym (Some a) None = refl
same_sym (Some a) (Some b) = grind (arith, nat_tests)

pub without_none : (n : ℕ) (xs : List ℕ) → has n xs ≡ false → without n xs ≡ xs
without_none n [] h = refl
without_none n (x ∷ xs) h = let rest = without_none n xs in grind (arith, nat_tests, rest)

-- a node of a list is another than what does not stand there
pub other_of : (p : Option ℕ) (n : ℕ) (xs : List ℕ) → leads_into p xs ≡ false → has n xs ≡ true → same_link (Some n) p ≡ false
other_of None n xs a h = refl
other_of (Some m) n xs a h = pick (nat_eq n m) refl
  where
    pick : (t : Bool) → nat_eq n m ≡ t → t ≡ false
    pick false is = refl
    pick true is = let one : n ≡ m = grind (arith, nat_tests, is) in let both : has m xs ≡ true = rw (sym one) h in grind (arith, a, both)

module _ (N P : Option ℕ → Option ℕ) where
  -- what stands neither before the seam nor in it is before no node of it
  pub before_other : (p₀ p : Option ℕ) (xs : List ℕ) (y : ℕ) → IsSeam N P p xs → has y xs ≡ true → same_link p₀ p ≡ false
      → leads_into p₀ xs ≡ false → same_link p₀ (P (Some y)) ≡ false
  before_other p₀ p [] y s here a b = grind arith
  before_other p₀ p (x ∷ xs) y s here a b = pick (nat_eq y x) refl (before_other p₀ (Some x) xs y s.2)
    where
      pick : (t : Bool) → nat_eq y x ≡ t → (has y xs ≡ true → same_link p₀ (Some x) ≡ false → leads_into p₀ xs ≡ false
          → same_link p₀ (P (Some y)) ≡ false) → same_link p₀ (P (Some y)) ≡ false
      pick true is more = let one : y ≡ x = grind (arith, nat_tests, is) in let e = s.1 in rw (one, e) a
      pick false is more = more (grind (arith, nat_tests, is)) (not_first p₀ x xs b) (not_later p₀ x xs b)

  pub last_other : (p₀ p : Option ℕ) (xs : List ℕ) → IsSeam N P p xs → same_link p₀ p ≡ false → leads_into p₀ xs ≡ false
      → same_link p₀ (P None) ≡ false
  last_other p₀ p [] s a b = rw s.1 a
  last_other p₀ p (x ∷ xs) s a b = last_other p₀ (Some x) xs s.2 (not_first p₀ x xs b) (not_later p₀ x xs b)

  -- what does not stand in the seam is after no node of it
  pub after_other : (x₀ : ℕ) (p : Option ℕ) (xs : List ℕ) (y : ℕ) → IsSeam N P p xs → has y xs ≡ true → has x₀ xs ≡ false
      → same_link (Some x₀) (N (Some y)) ≡ false
  after_other x₀ p [] y s here a = grind arith
  after_other x₀ p (x ∷ xs) y s here a = pick (nat_eq y x) refl (after_other x₀ (Some x) xs y s.2)
    where
      next : (zs : List ℕ) → IsSeam N P (Some x) zs → has x₀ zs ≡ false → same_link (Some x₀) (N (Some x)) ≡ false
      next [] t h = rw t.0 refl
      next (z ∷ zs) t h = rw t.0 (not_first (Some x₀) z zs h)

      pick : (t : Bool) → nat_eq y x ≡ t → (has y xs ≡ true → has x₀ xs ≡ false → same_link (Some x₀) (N (Some y)) ≡ false)
          → same_link (Some x₀) (N (Some y)) ≡ false
      pick true is more = let one : y ≡ x = grind (arith, nat_tests, is) in rw one (next xs s.2 (not_later (Some x₀) x xs a))
      pick false is more = more (grind (arith, nat_tests, is)) (not_later (Some x₀) x xs a)

  module _ (N' P' : Option ℕ → Option ℕ) where
    -- a seam stays where its steps do
    pub same_seam : (p : Option ℕ) (xs : List ℕ) → IsSeam N P p xs → N' p ≡ N p
        → ((n : ℕ) → has n xs ≡ true → (N' (Some n) ≡ N (Some n)) × (P' (Some n) ≡ P (Some n))) → P' None ≡ P None → IsSeam N' P' p xs
    same_seam p [] s hp h hl = (hp ∙ s.0, hl ∙ s.1)
    same_seam p (x ∷ xs) s hp h hl =
        (hp ∙ s.0, (h x (has_first x xs)).1 ∙ s.1, same_seam (Some x) xs s.2 (h x (has_first x xs)).0 (λ n m. h n (has_later n x xs m)) hl)

    -- y comes at the end
    pub seam_with : (y : ℕ) → ((x : Option ℕ) → N' x ≡ cond (same_link x (Some y)) None (cond (same_link x (P None)) (Some y) (N x)))
        → ((x : Option ℕ) → P' x ≡ cond (same_link x None) (Some y) (cond (same_link x (Some y)) (P None) (P x)))
        → (p : Option ℕ) (xs : List ℕ) → IsSeam N P p xs → AreDistinct xs → has y xs ≡ false → same_link p (Some y) ≡ false
        → leads_into p xs ≡ false → IsSeam N' P' p (xs ++ y ∷ [])
    seam_with y hN hP p [] s d f a b = (
      hN p ∙ rw (a, s.1, same_self p) refl,
      hP (Some y) ∙ rw (same_self (Some y)) s.1,
      (hN (Some y) ∙ rw (same_self (Some y)) refl, hP None),
    )
    seam_with y hN hP p (x ∷ xs) s d f a b =
        let old : same_link p (P None) ≡ false = last_other p (Some x) xs s.2 (not_first p x xs b) (not_later p x xs b) in
        let other : same_link (Some x) (Some y) ≡ false = same_sym (Some x) (Some y) ∙ not_first (Some y) x xs f in
        (hN p ∙ rw (a, old) s.0, hP (Some x) ∙ rw other s.1, seam_with y hN hP (Some x) xs s.2 d.1 (not_later (Some y) x xs f) other d.0)

    -- y goes
    pub seam_without : (y : ℕ) → ((x : Option ℕ) → same_link x (Some y) ≡ false → N' x ≡ cond (same_link x (P (Some y))) (N (Some y)) (N x))
        → ((x : Option ℕ) → same_link x (Some y) ≡ false → P' x ≡ cond (same_link x (N (Some y))) (P (Some y)) (P x))
        → (p : Option ℕ) (xs : List ℕ) → IsSeam N P p xs → AreDistinct xs → has y xs ≡ true → same_link p (Some y) ≡ false
        → leads_into p xs ≡ false → IsSeam N' P' p (without y xs)
    seam_without y hN hP p [] s d here a b = grind arith
    seam_without y hN hP p (x ∷ xs) s d here a b = pick (nat_eq y x) refl (seam_without y hN hP (Some x) xs s.2 d.1)
      where
        meet : (zs : List ℕ) → y ≡ x → IsSeam N P (Some x) zs → AreDistinct zs → leads_into p zs ≡ false → has x zs ≡ false
            → IsSeam N' P' p zs
        meet [] e t f c k = (hN p a ∙ rw (e, s.1, same_self p) t.0, hP None refl ∙ rw (e, t.0) s.1)
        meet (z ∷ zs) e t f c k =
            let apart : same_link (Some z) (Some y) ≡ false = rw e (same_sym (Some z) (Some x) ∙ not_first (Some x) z zs k) in
            let ahead : same_link (Some z) p ≡ false = same_sym (Some z) p ∙ not_first p z zs c in (
              hN p a ∙ rw (e, s.1, same_self p) t.0,
              hP (Some z) apart ∙ rw (e, t.0, same_self (Some z)) s.1,
              same_seam (Some z) zs t.2 (hN (Some z) apart ∙ rw (e, s.1, ahead) refl)
                  (λ n m. let there : same_link (Some n) (Some y) ≡ false = rw e (other_of (Some x) n zs (not_later (Some x) z zs k) m) in (
                    hN (Some n) there ∙ rw (e, s.1, other_of p n zs (not_later p z zs c) m) refl,
                    hP (Some n) there ∙ rw (e, t.0, other_of (Some z) n zs f.0 m) refl,
                  ))
                  (hP None refl ∙ rw (e, t.0) refl),
            )

        pick : (t : Bool) → nat_eq y x ≡ t → (has y xs ≡ true → same_link (Some x) (Some y) ≡ false → has x xs ≡ false
            → IsSeam N' P' (Some x) (without y xs))
            → IsSeam N' P' p (cond t (without y xs) (x ∷ without y xs))
        pick true is more =
            let one : y ≡ x = grind (arith, nat_tests, is) in
            let gone : has y xs ≡ false = rw one d.0 in
            rw (without_none y xs gone) (meet xs one s.2 d.1 (not_later p x xs b) d.0)
        pick false is more =
            let there : has y xs ≡ true = grind (arith, nat_tests, is) in
            let early : same_link p (P (Some y)) ≡ false = before_other p (Some x) xs y s.2 there (not_first p x xs b)
            (not_later p x xs b) in
            let late : same_link (Some x) (N (Some y)) ≡ false = after_other x (Some x) xs y s.2 there d.0 in
            let other : same_link (Some x) (Some y) ≡ false = same_sym (Some x) (Some y) ∙ is in
            (hN p a ∙ rw early s.0, hP (Some x) other ∙ rw late s.1, more there other d.0)
