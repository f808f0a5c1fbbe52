-- A family of lists, as a node comes at the end of one or goes.
use Rattle.std.proofs.Common.{◌≡◌, ℕ, zero, suc, Bool, true, false, nat_eq, List, [], ◌∷◌, ◌++◌, ◌<◌, Some, None, refl, sym, ap, ◌∙◌, arith}
use Rattle.std.proofs.Common.{cond, length, map, set, get_or-set_same, get_or-set_other}
use Rattle.std.proofs.lemmas.Bool.Decides.{nat_tests}
use Rattle.std.proofs.lemmas.Bool.{eqb-false, eqb-true}
use Rattle.std.specs.Prelude.{Option}
use Rattle.fed_links.specs.Lists.{has, without, list_at}
use Rattle.fed_links.specs.Threads.{same_link, link_from, IsThread, IsFamily, ends_at, no_ends}
use Rattle.fed_links.specs.declared.node.Ends.{Ends}
use Rattle.fed_links.proofs.threads.Seams.{same_self, before_other, after_other, last_other, without_none}
use Rattle.fed_links.proofs.threads.Threads.{thread_other, thread_with, thread_without}

pub list_at-without : (y : ℕ) (lists : List (List ℕ)) (k : ℕ) → list_at (map (without y) lists) k ≡ without y (list_at lists k)
list_at-without y [] k = refl
list_at-without y (xs ∷ more) zero = refl
list_at-without y (xs ∷ more) (suc k) = list_at-without y more k

-- two homes
some_is_not_none : (o : Option ℕ) (j : ℕ) → o ≡ Some j → o ≡ None → ⊥
some_is_not_none o j a b = grind (arith, a, b)

module _ (after before home after' before' home' : ℕ → Option ℕ) (ends : List Ends) (lists : List (List ℕ)) where
  -- a family stays where nothing of it changes
  pub family_same : IsFamily after before home ends lists
      → ((n j : ℕ) → home n ≡ Some j → (after' n ≡ after n) × (before' n ≡ before n))
      → ((n : ℕ) → home' n ≡ home n)
      → IsFamily after' before' home' ends lists
  family_same f h g j =
      thread_other after before home after' before' home' (ends_at ends j).first (ends_at ends j).last j (list_at lists j) (f j)
      (λ n e. h n j e) (λ n. ap (λ o. same_link o (Some j)) (g n))

  pub family_with : (k y : ℕ) → IsFamily after before home ends lists → k < length ends → k < length lists → home y ≡ None
      → ((n : ℕ) → after' n ≡ cond (nat_eq n y) None (cond (same_link (Some n) (ends_at ends k).last) (Some y) (after n)))
      → ((n : ℕ) → before' n ≡ cond (nat_eq n y) (ends_at ends k).last (before n))
      → ((n : ℕ) → home' n ≡ cond (nat_eq n y) (Some k) (home n))
      → IsFamily after' before' home' (set ends k (record {
        first = cond (same_link None (ends_at ends k).last) (Some y)
            (ends_at ends k).first;
        last = Some y;
      })) (set lists k (list_at lists k ++ y ∷ []))
  family_with k y f le ll out ha hb hh j = pick (nat_eq j k) refl
    where
      first : Option ℕ
      first = (ends_at ends k).first

      last : Option ℕ
      last = (ends_at ends k).last

      e' : Ends
      e' = record { first = cond (same_link None (ends_at ends k).last) (Some y) (ends_at ends k).first; last = Some y }

      not_y : (n : ℕ) → home n ≡ Some j → nat_eq n y ≡ false
      not_y n h = go (nat_eq n y) refl
        where
          go : (t : Bool) → nat_eq n y ≡ t → t ≡ false
          go false is = refl
          go true is = absurd (some_is_not_none (home n) j h (ap home (eqb-true n y is) ∙ out))

      not_last : nat_eq j k ≡ false → (n : ℕ) → home n ≡ Some j → same_link (Some n) last ≡ false
      not_last ne n h =
          last_other (link_from first after) (link_from last before) (Some n) None (list_at lists k) (f k).seam refl
          ((f k).homes n ∙ rw h ne)

      homes : nat_eq j k ≡ false → (n : ℕ) → (t : Bool) → nat_eq n y ≡ t
          → same_link (cond t (Some k) (home n)) (Some j) ≡ same_link (home n) (Some j)
      homes ne n false is = refl
      homes ne n true is = rw (eqb-true n y is, out) (let e : nat_eq k j ≡ false = grind (arith, nat_tests, ne) in e)

      pick : (t : Bool) → nat_eq j k ≡ t → IsThread (ends_at (set ends k e') j).first
          (ends_at (set ends k e') j).last after' before' home' j (list_at (set lists k (list_at lists k ++ y ∷ [])) j)
      pick true is =
          rw (eqb-true j k is, get_or-set_same ends k e' no_ends le, get_or-set_same lists k (list_at lists k ++ y ∷ []) [] ll)
          (thread_with after before home after' before' home' first last k y (list_at lists k) (f k) out ha hb hh)
      pick false is =
          rw (
            get_or-set_other ends k j e' no_ends (eqb-false j k is),
            get_or-set_other lists k j (list_at lists k ++ y ∷ []) []
                (eqb-false j k is),
          )
          (thread_other after before home after' before' home' (ends_at ends j).first (ends_at ends j).last j (list_at lists j) (f j)
          (λ n h. (ha n ∙ rw (not_y n h, not_last is n h) refl, hb n ∙ rw (not_y n h) refl))
          (λ n. rw (hh n) (homes is n (nat_eq n y) refl)))

  pub family_without : (k y : ℕ) → IsFamily after before home ends lists → k < length ends → home y ≡ Some k
      → ((n : ℕ) → nat_eq n y ≡ false → after' n ≡ cond (same_link (Some n) (before y)) (after y) (after n))
      → ((n : ℕ) → nat_eq n y ≡ false → before' n ≡ cond (same_link (Some n) (after y)) (before y) (before n))
      → ((n : ℕ) → home' n ≡ cond (nat_eq n y) None (home n))
      → IsFamily after' before' home' (set ends k (record {
        first = cond (same_link None (before y)) (after y) (ends_at ends k).first;
        last = cond (same_link None (after y)) (before y) (ends_at ends k).last;
      })) (map (without y) lists)
  family_without k y f le here ha hb hh j = rw (list_at-without y lists j) (pick (nat_eq j k) refl)
    where
      first : Option ℕ
      first = (ends_at ends k).first

      last : Option ℕ
      last = (ends_at ends k).last

      e' : Ends
      e' = record {
        first = cond (same_link None (before y)) (after y) (ends_at ends k).first;
        last = cond (same_link None (after y)) (before y) (ends_at ends k).last;
      }

      stood : has y (list_at lists k) ≡ true
      stood = (f k).homes y ∙ rw here (same_self (Some k))

      elsewhere : nat_eq j k ≡ false → (n : ℕ) → home n ≡ Some j → has n (list_at lists k) ≡ false
      elsewhere ne n h = (f k).homes n ∙ rw h ne

      not_y : nat_eq j k ≡ false → (n : ℕ) → home n ≡ Some j → nat_eq n y ≡ false
      not_y ne n h = go (nat_eq n y) refl
        where
          go : (t : Bool) → nat_eq n y ≡ t → t ≡ false
          go false is = refl
          go true is = sym stood ∙ (ap (λ m. has m (list_at lists k)) (sym (eqb-true n y is)) ∙ elsewhere ne n h)

      not_before : nat_eq j k ≡ false → (n : ℕ) → home n ≡ Some j → same_link (Some n) (before y) ≡ false
      not_before ne n h =
          before_other (link_from first after) (link_from last before) (Some n) None (list_at lists k) y (f k).seam stood refl
          (elsewhere ne n h)

      not_after : nat_eq j k ≡ false → (n : ℕ) → home n ≡ Some j → same_link (Some n) (after y) ≡ false
      not_after ne n h =
          after_other (link_from first after) (link_from last before) n None (list_at lists k) y (f k).seam stood (elsewhere ne n h)

      gone : nat_eq j k ≡ false → has y (list_at lists j) ≡ false
      gone ne = (f j).homes y ∙ rw here (let e : nat_eq k j ≡ false = grind (arith, nat_tests, ne) in e)

      homes : nat_eq j k ≡ false → (n : ℕ) → (t : Bool) → nat_eq n y ≡ t
          → same_link (cond t None (home n)) (Some j) ≡ same_link (home n) (Some j)
      homes ne n false is = refl
      homes ne n true is = rw (eqb-true n y is, here) (let e : nat_eq k j ≡ false = grind (arith, nat_tests, ne) in sym e)

      pick : (t : Bool) → nat_eq j k ≡ t → IsThread (ends_at (set ends k e') j).first
          (ends_at (set ends k e') j).last after' before' home' j (without y (list_at lists j))
      pick true is =
          rw (eqb-true j k is, get_or-set_same ends k e' no_ends le)
          (thread_without after before home after' before' home' first last k y (list_at lists k) (f k) here ha hb hh)
      pick false is =
          rw (get_or-set_other ends k j e' no_ends (eqb-false j k is), without_none y (list_at lists j) (gone is))
          (thread_other after before home after' before' home' (ends_at ends j).first (ends_at ends j).last j (list_at lists j) (f j)
          (λ n h. (ha n (not_y is n h) ∙ rw (not_before is n h) refl, hb n (not_y is n h) ∙ rw (not_after is n h) refl))
          (λ n. rw (hh n) (homes is n (nat_eq n y) refl)))
