-- How often a node stands in all lists, and what is so of all linked lists.
use Rattle.std.proofs.Common.{◌≡◌, ℕ, zero, suc, Bool, true, false, nat_eq, List, [], ◌∷◌, ◌+◌, ◌≤◌, Some, None, refl, ap, ◌∙◌, arith}
use Rattle.std.proofs.Common.{cond}
use Rattle.std.proofs.Common.{is_some}
use Rattle.std.proofs.lemmas.Bool.Decides.{nat_tests}
use Rattle.std.proofs.lemmas.Bool.{eqb-true}
use Rattle.std.specs.Prelude.{Option}
use Rattle.fed_links.specs.Lists.{LinkLists, has, times, times_in, list_at, AreLinkLists}
use Rattle.fed_links.specs.Threads.{same_link, IsFamily, AreDistinct, after_at, before_at, wait_after_at, wait_before_at, page_at}
use Rattle.fed_links.specs.Threads.{origin_at, AreTied}
use Rattle.fed_links.specs.declared.node.Ends.{Ends}
use Rattle.fed_links.specs.declared.node.Slot.{Slot}
use Rattle.fed_links.proofs.threads.Seams.{same_self}
use Rattle.fed_links.proofs.tied.Slots.{free_home}

times_none : (n : ℕ) (xs : List ℕ) → has n xs ≡ false → times n xs ≡ 0
times_none n [] h = refl
times_none n (x ∷ xs) h = by (nat_eq n x) h (times_none n xs)
  where
    by : (t : Bool) → cond t true (has n xs) ≡ false → (has n xs ≡ false → times n xs ≡ 0) → cond t 1 0 + times n xs ≡ 0
    by true e rest = absurd (grind (arith, e))
    by false e rest = let none = rest e in omega (arith, none)

times_distinct : (n : ℕ) (xs : List ℕ) → AreDistinct xs → times n xs ≡ cond (has n xs) 1 0
times_distinct n [] d = refl
times_distinct n (x ∷ xs) d = by (nat_eq n x) refl (times_distinct n xs d.1)
  where
    by : (t : Bool) → nat_eq n x ≡ t → times n xs ≡ cond (has n xs) 1 0 → cond t 1 0 + times n xs ≡ cond (cond t true (has n xs)) 1 0
    by true is rest = let none = times_none n xs (ap (λ m. has m xs) (eqb-true n x is) ∙ d.0) in omega (arith, none)
    by false is rest = omega (arith, rest)

times_nowhere : (n : ℕ) (lists : List (List ℕ)) → ((k : ℕ) → times n (list_at lists k) ≡ 0) → times_in n lists ≡ 0
times_nowhere n [] h = refl
times_nowhere n (xs ∷ more) h = let here = h zero in let rest = times_nowhere n more (λ k. h (suc k)) in omega (arith, here, rest)

times_there : (n k : ℕ) (lists : List (List ℕ)) → ((j : ℕ) → times n (list_at lists j) ≡ cond (nat_eq k j) 1 0) → times_in n lists ≡ 1
times_there n k [] h = absurd
    (let here = h k in let self = same_self (Some k) in let bad : 0 ≡ 1 = here ∙ ap (λ t. cond t 1 0) self in omega (arith, bad))
times_there n zero (xs ∷ more) h =
    let here = h zero ∙ ap (λ t. cond t 1 0) (same_self (Some zero)) in
    let rest = times_nowhere n more (λ j. h (suc j) ∙ ap (λ t. cond t 1 0) (later j)) in
    omega (arith, here, rest)
  where
    later : (j : ℕ) → nat_eq zero (suc j) ≡ false
    later j = grind (arith, nat_tests)
times_there n (suc k) (xs ∷ more) h =
    let here = h zero ∙ ap (λ t. cond t 1 0) first in
    let rest = times_there n k more (λ j. h (suc j) ∙ ap (λ t. cond t 1 0) (next j)) in
    omega (arith, here, rest)
  where
    first : nat_eq (suc k) zero ≡ false
    first = grind (arith, nat_tests)

    next : (j : ℕ) → nat_eq (suc k) (suc j) ≡ nat_eq k j
    next j = grind (arith, nat_tests)

-- a node stands once in a family where it has a home, and else nowhere
times_home : (after before home : ℕ → Option ℕ) (ends : List Ends) (lists : List (List ℕ)) → IsFamily after before home ends lists
    → (n : ℕ) → times_in n lists ≡ cond (is_some (home n)) 1 0
times_home after before home ends lists f n = by (home n) refl
  where
    at : (k : ℕ) → times n (list_at lists k) ≡ cond (same_link (home n) (Some k)) 1 0
    at k = times_distinct n (list_at lists k) (f k).distinct ∙ ap (λ t. cond t 1 0) ((f k).homes n)

    by : (o : Option ℕ) → home n ≡ o → times_in n lists ≡ cond (is_some o) 1 0
    by None e = times_nowhere n lists (λ k. at k ∙ ap (λ o. cond (same_link o (Some k)) 1 0) e)
    by (Some k) e = times_there n k lists (λ j. at j ∙ (ap (λ o. cond (same_link o (Some j)) 1 0) e))

one_at_most : (t : Bool) → cond t 1 0 ≤ 1
one_at_most true = omega arith
one_at_most false = omega arith

module _ {slots : List Slot} {pages origins : List Ends} {free : Option ℕ} {spare : ℕ} {l : LinkLists}
    (t : AreTied slots pages origins free spare l) where
  on_pages : (n : ℕ) → times_in n l.pages ≡ cond (is_some (page_at slots n)) 1 0
  on_pages = times_home (after_at slots) (before_at slots) (page_at slots) pages l.pages t.by_page

  on_origins : (n : ℕ) → times_in n l.waits ≡ cond (is_some (origin_at slots n)) 1 0
  on_origins = times_home (wait_after_at slots) (wait_before_at slots) (origin_at slots) origins l.waits t.by_origin

  not_free : (n k : ℕ) → page_at slots n ≡ Some k → has n l.free ≡ false
  not_free n k e = by (has n l.free) refl
    where
      by : (z : Bool) → has n l.free ≡ z → z ≡ false
      by false is = refl
      by true is = absurd (let none = free_home slots free l.free n t.chain is in grind (arith, e, none))

  once_by : (n : ℕ) (o : Option ℕ) → page_at slots n ≡ o → times_in n l.pages + times n l.free ≤ 1
  once_by n None e =
      let a : times_in n l.pages ≡ 0 = on_pages n ∙ ap (λ o. cond (is_some o) 1 0) e in
      let b = times_distinct n l.free t.distinct in
      let c = one_at_most (has n l.free) in
      omega (arith, a, b, c)
  once_by n (Some k) e =
      let a : times_in n l.pages ≡ 1 = on_pages n ∙ ap (λ o. cond (is_some o) 1 0) e in
      let b = times_none n l.free (not_free n k e) in
      omega (arith, a, b)

  waiting_by : (n : ℕ) (o : Option ℕ) → page_at slots n ≡ o → times_in n l.waits ≤ times_in n l.pages
  waiting_by n None e =
      let a : times_in n l.waits ≡ 0 = on_origins n ∙ ap (λ o. cond (is_some o) 1 0) (t.alone n e) in
      omega (arith, a)
  waiting_by n (Some k) e =
      let a : times_in n l.pages ≡ 1 = on_pages n ∙ ap (λ o. cond (is_some o) 1 0) e in
      let b = on_origins n in
      let c = one_at_most (is_some (origin_at slots n)) in
      omega (arith, a, b, c)

  pub lists_are : AreLinkLists l
  lists_are =
      record {
        once = λ n. once_by n (page_at slots n) refl;
        waiting = λ n. waiting_by n (page_at slots n) refl;
        spare = t.spares;
        few = (let a = t.fits in let b = t.small in omega (arith, a, b));
      }
