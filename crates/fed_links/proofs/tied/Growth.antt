-- More nodes, and more lists.
use Rattle.std.proofs.Common.{◌≡◌, ℕ, zero, suc, Bool, true, false, nat_eq, List, [], ◌∷◌, ◌++◌, ◌+◌, ◌<◌, Some, refl, sym, ap, ◌∙◌, arith}
use Rattle.std.proofs.Common.{cond, length, get_or, subst, replicate}
use Rattle.std.proofs.lemmas.Bool.Decides.{nat_tests}
use Rattle.std.proofs.lemmas.Bool.{eqb-true}
use Rattle.std.proofs.lemmas.List.{get_or_past, length_push, length-append, length-replicate}
use Rattle.std.specs.Prelude.{Option}
use Rattle.fed_links.specs.Lists.{LinkLists, has, total, with_free}
use Rattle.fed_links.specs.Threads.{IsFamily, no_ends, AreFree, slot_at, blank, after_at, before_at, wait_after_at, wait_before_at, page_at}
use Rattle.fed_links.specs.Threads.{origin_at, AreTied}
use Rattle.fed_links.specs.Changes.{free_slot, with_free_slots}
use Rattle.fed_links.specs.declared.node.Ends.{Ends}
use Rattle.fed_links.specs.declared.node.Slot.{Slot}
use Rattle.fed_links.proofs.threads.Seams.{same_self}
use Rattle.fed_links.proofs.threads.Families.{family_same}
use Rattle.fed_links.proofs.tied.Slots.{page_within}

-- ---- what is past the end is there already

default_append : {A : Type 0} (d : A) (xs : List A) (n k : ℕ) → get_or (xs ++ replicate n d) k d ≡ get_or xs k d
default_append d [] zero k = refl
default_append d [] (suc n) zero = refl
default_append d [] (suc n) (suc k) = default_append d [] n k
default_append d (x ∷ xs) n zero = refl
default_append d (x ∷ xs) n (suc k) = default_append d xs n k

slot_at-push : (slots : List Slot) (s : Slot) (n : ℕ) → slot_at (slots ++ s ∷ []) n ≡ cond (nat_eq n (length slots)) s (slot_at slots n)
slot_at-push [] s zero = refl
slot_at-push [] s (suc n) = let e : nat_eq (suc n) 0 ≡ false = grind (arith, nat_tests) in rw e refl
slot_at-push (x ∷ slots) s zero = let e : nat_eq 0 (length (x ∷ slots)) ≡ false = grind (arith, nat_tests) in rw e refl
slot_at-push (x ∷ slots) s (suc n) =
    let e : nat_eq (suc n) (length (x ∷ slots)) ≡ nat_eq n (length slots) = grind (arith, nat_tests) in rw e (slot_at-push slots s n)

pub family_more : (after before home : ℕ → Option ℕ) (ends : List Ends) (lists : List (List ℕ)) (n : ℕ)
    → IsFamily after before home ends lists
    → IsFamily after before home (ends ++ replicate n no_ends) (lists ++ replicate n [])
family_more after before home ends lists n f k = rw (default_append no_ends ends n k, default_append [] lists n k) (f k)

total-more : (lists : List (List ℕ)) (n : ℕ) → total (lists ++ replicate n []) ≡ total lists
total-more [] zero = refl
total-more [] (suc n) = let rest = total-more [] n in omega (arith, rest)
total-more (xs ∷ lists) n = let rest = total-more lists n in omega (arith, rest)

pub tied_more : (slots : List Slot) (pages origins : List Ends) (free : Option ℕ) (spare : ℕ) (l : LinkLists) (n m : ℕ)
    → AreTied slots pages origins free spare l
    → AreTied slots (pages ++ replicate n no_ends) (origins ++ replicate m no_ends) free spare
    (record { pages = l.pages ++ replicate n []; waits = l.waits ++ replicate m []; free = l.free; spare = l.spare })
tied_more slots pages origins free spare l n m t =
    record {
      by_page = family_more (after_at slots) (before_at slots) (page_at slots) pages l.pages n t.by_page;
      by_origin = family_more (wait_after_at slots) (wait_before_at slots) (origin_at slots) origins l.waits m t.by_origin;
      page_count =
          (let c = t.page_count in let a = length-append l.pages (replicate {A = List ℕ} n []) in
          let b = length-append pages (replicate n no_ends) in let e = length-replicate {A = List ℕ} n [] in
          let f = length-replicate n no_ends in omega (arith, a, b, c, e, f));
      origin_count =
          (let c = t.origin_count in let a = length-append l.waits (replicate {A = List ℕ} m []) in
          let b = length-append origins (replicate m no_ends) in let e = length-replicate {A = List ℕ} m [] in
          let f = length-replicate m no_ends in omega (arith, a, b, c, e, f));
      chain = t.chain;
      distinct = t.distinct;
      fits = rw (total-more l.pages n) t.fits;
      small = t.small;
      spares = t.spares;
      spare_is = t.spare_is;
      alone = t.alone;
      idle = t.idle;
    }

-- a free node is below the number of slots
free_below : (slots : List Slot) (o : Option ℕ) (xs : List ℕ) (n : ℕ) → AreFree slots o xs → has n xs ≡ true → n < length slots
free_below slots o [] n c h = absurd (grind (arith, h))
free_below slots o (x ∷ xs) n c h = pick (nat_eq n x) refl (free_below slots (after_at slots x) xs n c.3)
  where
    pick : (t : Bool) → nat_eq n x ≡ t → (has n xs ≡ true → n < length slots) → n < length slots
    pick true is more = rw (eqb-true n x is) c.1
    pick false is more = more (let e : has n xs ≡ true = grind (arith, nat_tests, is, h) in e)

-- one node more
tied_one : (slots : List Slot) (pages origins : List Ends) (free : Option ℕ) (spare : ℕ) (l : LinkLists) → length slots + 1 < 4294967296
    → AreTied slots pages origins free spare l
    → AreTied (slots ++ free_slot free ∷ []) pages origins (Some (length slots)) (spare + 1)
    (record { pages = l.pages; waits = l.waits; free = length slots ∷ l.free; spare = l.spare + 1 })
tied_one slots pages origins free spare l le t =
    record {
      by_page =
          family_same (after_at slots) (before_at slots) (page_at slots) (after_at new) (before_at new)
          (page_at new) pages l.pages t.by_page
          (λ n j h. (
            ap (λ (s : Slot). s.node.after) (slot_is n) ∙ rw (below n (page_within slots n j h)) refl,
            ap (λ (s : Slot). s.node.before) (slot_is n) ∙ rw (below n (page_within slots n j h)) refl,
          ))
          page_same;
      by_origin =
          family_same (wait_after_at slots) (wait_before_at slots) (origin_at slots) (wait_after_at new) (wait_before_at new)
          (origin_at new) origins l.waits t.by_origin
          (λ n j h. (wait_after_same n, wait_before_same n))
          origin_same;
      page_count = t.page_count;
      origin_count = t.origin_count;
      chain = (
        refl,
        (let a = length_push slots (free_slot free) in omega (arith, a)),
        ap (λ (s : Slot). s.page) (slot_is (length slots)) ∙ rw (same_self (Some (length slots))) refl,
        subst (λ o. AreFree new o l.free) (sym (ap (λ (s : Slot). s.node.after) (slot_is (length slots))
            ∙ rw (same_self (Some (length slots))) refl)) rest,
      );
      distinct = (not_there, t.distinct);
      fits = (let a = t.fits in let b = length_push slots (free_slot free) in omega (arith, a, b));
      small = (let b = length_push slots (free_slot free) in omega (arith, b, le));
      spares = (let a = t.spares in omega (arith, a));
      spare_is = ap (λ m. m + 1) t.spare_is;
      alone = λ n h. origin_same n ∙ t.alone n (sym (page_same n) ∙ h);
      idle =
          λ n h. (wait_before_same n ∙ (t.idle n (sym (origin_same n) ∙ h)).0, wait_after_same n ∙ (t.idle n (sym (origin_same n) ∙ h)).1);
    }
  where
    new : List Slot
    new = slots ++ free_slot free ∷ []

    slot_is : (n : ℕ) → slot_at new n ≡ cond (nat_eq n (length slots)) (free_slot free) (slot_at slots n)
    slot_is n = slot_at-push slots (free_slot free) n

    below : (n : ℕ) → n < length slots → nat_eq n (length slots) ≡ false
    below n h = grind (arith, nat_tests, h)

    blank_at : slot_at slots (length slots) ≡ blank
    blank_at = get_or_past slots (length slots) blank (omega arith)

    -- a part that a free slot and a blank one share
    part : (f : Slot → Option ℕ) → f (free_slot free) ≡ f blank → (n : ℕ) → f (slot_at new n) ≡ f (slot_at slots n)
    part f e n = ap f (slot_is n) ∙ go (nat_eq n (length slots)) refl
      where
        go : (z : Bool) → nat_eq n (length slots) ≡ z → f (cond z (free_slot free) (slot_at slots n)) ≡ f (slot_at slots n)
        go false is = refl
        go true is = e ∙ ap f (sym (ap (slot_at slots) (eqb-true n (length slots) is) ∙ blank_at))

    page_same : (n : ℕ) → page_at new n ≡ page_at slots n
    page_same = part (λ (s : Slot). s.page) refl

    origin_same : (n : ℕ) → origin_at new n ≡ origin_at slots n
    origin_same = part (λ (s : Slot). s.origin) refl

    wait_after_same : (n : ℕ) → wait_after_at new n ≡ wait_after_at slots n
    wait_after_same = part (λ (s : Slot). s.node.wait_after) refl

    wait_before_same : (n : ℕ) → wait_before_at new n ≡ wait_before_at slots n
    wait_before_same = part (λ (s : Slot). s.node.wait_before) refl

    not_there : has (length slots) l.free ≡ false
    not_there = go (has (length slots) l.free) refl
      where
        go : (z : Bool) → has (length slots) l.free ≡ z → z ≡ false
        go false is = refl
        go true is = absurd (let e = free_below slots free l.free (length slots) t.chain is in omega (arith, e))

    rest : AreFree new free l.free
    rest = grown_free free l.free t.chain
      where
        grown_free : (o : Option ℕ) (xs : List ℕ) → AreFree slots o xs → AreFree new o xs
        grown_free o [] c = c
        grown_free o (x ∷ xs) c = (
          c.0,
          (let a = c.1 in let b = length_push slots (free_slot free) in omega (arith, a, b)),
          page_same x ∙ c.2,
          subst (λ p. AreFree new p xs) (sym (ap (λ (s : Slot). s.node.after) (slot_is x) ∙ rw (below x c.1) refl))
              (grown_free (after_at slots x) xs c.3),
        )

pub tied_grown : (n : ℕ) (slots : List Slot) (pages origins : List Ends) (free : Option ℕ) (spare : ℕ) (l : LinkLists)
    → length slots + n < 4294967296 → AreTied slots pages origins free spare l
    → AreTied (with_free_slots n slots free).0 pages origins (with_free_slots n slots free).1 (spare + n)
    (record { pages = l.pages; waits = l.waits; free = with_free n (length slots) l.free; spare = l.spare + n })
tied_grown zero slots pages origins free spare l le t =
    let a : spare ≡ spare + 0 = omega arith in
    let b : l.spare ≡ l.spare + 0 = omega arith in
    subst (λ (k : ℕ). AreTied slots pages origins free k (record { pages = l.pages; waits = l.waits; free = l.free; spare = l.spare + 0 }))
    a
    (subst (λ (k : ℕ). AreTied slots pages origins free spare (record { pages = l.pages; waits = l.waits; free = l.free; spare = k })) b t)
tied_grown (suc n) slots pages origins free spare l le t =
    let one = tied_one slots pages origins free spare l (omega (arith, le)) t in
    let size = length_push slots (free_slot free) in
    let more = tied_grown n (slots ++ free_slot free ∷ []) pages origins (Some (length slots)) (spare + 1)
    (record { pages = l.pages; waits = l.waits; free = length slots ∷ l.free; spare = l.spare + 1 }) (omega (arith, le, size)) one in
    let a : spare + 1 + n ≡ spare + suc n = omega arith in
    let b : l.spare + 1 + n ≡ l.spare + suc n = omega arith in
    subst (λ (k : ℕ). AreTied (with_free_slots n (slots ++ free_slot free ∷ []) (Some (length slots))).0 pages origins
    (with_free_slots n (slots ++ free_slot free ∷ []) (Some (length slots))).1 k
    (record {
      pages = l.pages;
      waits = l.waits;
      free = with_free n (length slots + 1) (length slots ∷ l.free);
      spare = l.spare + suc n;
    })) a
    (subst (λ (k : ℕ). AreTied (with_free_slots n (slots ++ free_slot free ∷ []) (Some (length slots))).0 pages origins
    (with_free_slots n (slots ++ free_slot free ∷ []) (Some (length slots))).1 (spare + 1 + n)
    (record { pages = l.pages; waits = l.waits; free = with_free n (length slots + 1) (length slots ∷ l.free); spare = k })) b
    (subst (λ (k : ℕ). AreTied (with_free_slots n (slots ++ free_slot free ∷ []) (Some (length slots))).0 pages origins
    (with_free_slots n (slots ++ free_slot free ∷ []) (Some (length slots))).1 (spare + 1 + n)
    (record { pages = l.pages; waits = l.waits; free = with_free n k (length slots ∷ l.free); spare = l.spare + 1 + n })) size more))
