-- What each call leaves, from what it wrote.
use Rattle.std.proofs.Common.{◌≡◌, ℕ, Bool, true, false, List, [], ◌∷◌, ◌++◌, ◌+◌, ◌-◌, ◌<◌, Some, None, refl, sym, ap, ◌∙◌, arith, length}
use Rattle.std.proofs.Common.{map, set, get_or, is_some, subst, drop, replicate}
use Rattle.std.proofs.lemmas.List.{get_or_read}
use Rattle.std.specs.Prelude.{Option, IfSome}
use Rattle.fed_links.specs.Lists.{LinkLists, has, stands_in, without, list_at, total, first_of, after_among, before_among}
use Rattle.fed_links.specs.Lists.{with_free}
use Rattle.fed_links.specs.Threads.{ends_at, no_ends, AreFree, slot_at, blank, after_at, before_at, wait_after_at}
use Rattle.fed_links.specs.Threads.{wait_before_at, page_at, origin_at, shown, AreTied}
use Rattle.fed_links.specs.Changes.{with_slot, with_after, with_before, free_slot, slots_after_add, ends_after_add, slots_after_wait}
use Rattle.fed_links.specs.Changes.{slots_after_join, ends_after_join, slots_after_leave, with_free_slots}
use Rattle.fed_links.specs.declared.node.Ends.{Ends}
use Rattle.fed_links.specs.declared.node.Slot.{Slot}
use Rattle.fed_links.specs.declared.node.LinkNode.{LinkNode}
use Rattle.fed_links.proofs.threads.Seams.{same_self, without_none}
use Rattle.fed_links.proofs.threads.Threads.{has_without}
use Rattle.fed_links.proofs.tied.Slots.{length-with_slot, page_within, origin_within, before_home, after_home, last_home, within_page}
use Rattle.fed_links.proofs.tied.Slots.{within_origin, home_there}
use Rattle.fed_links.proofs.tied.Changes.{tied_add, tied_wait, tied_unwait, tied_remove, lists_added, lists_waited, lists_unwaited}
use Rattle.fed_links.proofs.tied.Changes.{lists_removed}
use Rattle.fed_links.proofs.tied.Growth.{tied_more, tied_grown}
use Rattle.fed_links.proofs.views.Neighbours.{any_home, family_after, family_before, family_first}

-- what was read at a place
pub read_slot : (slots : List Slot) (n : ℕ) (s : Slot) → n < length slots → s ≡ get_or slots n s → s ≡ slot_at slots n
read_slot slots n s le is = get_or_read slots n s le is blank

pub read_ends : (ends : List Ends) (k : ℕ) (e : Ends) → k < length ends → e ≡ get_or ends k e → e ≡ ends_at ends k
read_ends ends k e le is = get_or_read ends k e le is no_ends

module _ {slots : List Slot} {pages origins : List Ends} {free : Option ℕ} {spare : ℕ} {l : LinkLists}
    (inv : AreTied slots pages origins free spare (shown slots pages origins free spare)) (view : shown slots pages origins free spare ≡ l)
  where
    pub tied : AreTied slots pages origins free spare l
    tied = subst (AreTied slots pages origins free spare) view inv

    pub page_there : (k : ℕ) → k < length l.pages → k < length pages
    page_there k le = let c = tied.page_count in omega (arith, c, le)

    pub origin_there : (k : ℕ) → k < length l.waits → k < length origins
    origin_there k le = let c = tied.origin_count in omega (arith, c, le)

    -- ---- add
    pub last_page_within : (k : ℕ) (e : Ends) → k < length l.pages → e ≡ get_or pages k e → IfSome e.last (λ n. n < length slots)
    last_page_within k e le is = rw (read_ends pages k e (page_there k le) is)
        (within_page slots (ends_at pages k).last k (last_home (after_at slots) (before_at slots)
        (page_at slots) pages l.pages tied.by_page k))

    pub free_first : (y : ℕ) (o : Option ℕ) (xs : List ℕ) → AreFree slots o xs → o ≡ Some y → xs ≡ y ∷ drop 1 xs
    free_first y o [] c is = absurd (let e : o ≡ None = c in grind (arith, e, is))
    free_first y o (x ∷ xs) c is = let e : x ≡ y = (let a = c.0 in grind (arith, a, is)) in ap (λ z. z ∷ xs) e

    pub after_add : (y k : ℕ) (e e' : Ends) (s : Slot) (slots' : List Slot) → free ≡ Some y → k < length l.pages → e ≡ get_or pages k e
        → s ≡ get_or slots y s
        → slots' ≡ slots_after_add slots e k y → e' ≡ ends_after_add e y
        → AreTied slots' (set pages k e') origins s.node.after (spare - 1)
        (lists_added slots pages origins free spare l y k (drop 1 l.free))
    after_add y k e e' s slots' is le reads at ws we =
        let there = page_there k le in
        let e_is = read_ends pages k e there reads in
        let frees : l.free ≡ y ∷ drop 1 l.free = free_first y free l.free tied.chain is in
        let in_y : y < length slots = (subst (AreFree slots free) frees tied.chain).1 in
        rw (ws, we, e_is, read_slot slots y s in_y at) (tied_add slots pages origins free spare l y k (drop 1 l.free) tied frees there)

    -- ---- wait
    home_of : (o : Option ℕ) → is_some o ≡ true → (p : ℕ) × (o ≡ Some p)
    home_of None h = absurd (grind (arith, h))
    home_of (Some p) h = (p, refl)

    none_of : (o : Option ℕ) → is_some o ≡ false → o ≡ None
    none_of None h = refl
    none_of (Some p) h = absurd (grind (arith, h))

    pub page_of : (y : ℕ) → stands_in y l.pages ≡ true → (p : ℕ) × (page_at slots y ≡ Some p)
    page_of y h =
        home_of (page_at slots y) (sym (any_home (after_at slots) (before_at slots) (page_at slots) pages l.pages y tied.by_page) ∙ h)

    pub origin_of : (y : ℕ) → stands_in y l.waits ≡ true → (p : ℕ) × (origin_at slots y ≡ Some p)
    origin_of y h =
        home_of (origin_at slots y) (sym (any_home (wait_after_at slots) (wait_before_at slots)
        (origin_at slots) origins l.waits y tied.by_origin) ∙ h)

    pub no_origin : (y : ℕ) → stands_in y l.waits ≡ false → origin_at slots y ≡ None
    no_origin y h =
        none_of (origin_at slots y) (sym (any_home (wait_after_at slots) (wait_before_at slots)
        (origin_at slots) origins l.waits y tied.by_origin) ∙ h)

    pub node_within : (y : ℕ) → stands_in y l.pages ≡ true → y < length slots
    node_within y h = page_within slots y (page_of y h).0 (page_of y h).1

    pub waiter_within : (y : ℕ) → stands_in y l.waits ≡ true → y < length slots
    waiter_within y h = origin_within slots y (origin_of y h).0 (origin_of y h).1

    pub last_origin_within : (k : ℕ) (e : Ends) → k < length l.waits → e ≡ get_or origins k e → IfSome e.last (λ n. n < length slots)
    last_origin_within k e le is = rw (read_ends origins k e (origin_there k le) is)
        (within_origin slots (ends_at origins k).last k (last_home (wait_after_at slots) (wait_before_at slots)
        (origin_at slots) origins l.waits tied.by_origin k))

    pub after_wait : (y k : ℕ) (e e' : Ends) (slots' : List Slot) → stands_in y l.pages ≡ true → stands_in y l.waits ≡ false
        → k < length l.waits → e ≡ get_or origins k e
        → slots' ≡ slots_after_wait slots e k y → e' ≡ ends_after_add e y
        → AreTied slots' pages (set origins k e') free spare (lists_waited slots pages origins free spare l y k)
    after_wait y k e e' slots' h idle le reads ws we =
        rw (ws, we, read_ends origins k e (origin_there k le) reads)
        (tied_wait slots pages origins free spare l y k (page_of y h).0 tied (page_of y h).1 (no_origin y idle) (origin_there k le))

    -- ---- unwait
    pub origin_read : (y : ℕ) (s : Slot) → stands_in y l.waits ≡ true → s ≡ get_or slots y s → s.origin ≡ origin_at slots y
    origin_read y s h is = ap (λ (z : Slot). z.origin) (read_slot slots y s (waiter_within y h) is)

    pub origin_is_there : (y k : ℕ) (s : Slot) → stands_in y l.waits ≡ true → s ≡ get_or slots y s → s.origin ≡ Some k → k < length origins
    origin_is_there y k s h is o =
        home_there (wait_after_at slots) (wait_before_at slots) (origin_at slots) origins l.waits tied.by_origin tied.origin_count y k
        (sym (origin_read y s h is) ∙ o)

    pub origin_is_some : (y : ℕ) (s : Slot) → stands_in y l.waits ≡ true → s ≡ get_or slots y s → s.origin ≡ None → ⊥
    origin_is_some y s h is o = let a = (origin_of y h).1 in let b = origin_read y s h is in grind (arith, a, b, o)

    pub wait_before_within : (y k : ℕ) (s : Slot) → stands_in y l.waits ≡ true → s ≡ get_or slots y s → s.origin ≡ Some k
        → IfSome (wait_before_at slots y) (λ n. n < length slots)
    wait_before_within y k s h is o =
        within_origin slots (wait_before_at slots y) k (before_home (wait_after_at slots) (wait_before_at slots)
        (origin_at slots) origins l.waits tied.by_origin y k (sym (origin_read y s h is) ∙ o))

    pub wait_after_within : (y k : ℕ) (s : Slot) → stands_in y l.waits ≡ true → s ≡ get_or slots y s → s.origin ≡ Some k
        → IfSome (wait_after_at slots y) (λ n. n < length slots)
    wait_after_within y k s h is o =
        within_origin slots (wait_after_at slots y) k (after_home (wait_after_at slots) (wait_before_at slots)
        (origin_at slots) origins l.waits tied.by_origin y k (sym (origin_read y s h is) ∙ o))

    pub after_unwait : (y k : ℕ) (s : Slot) (e e' : Ends) (slots' : List Slot) → stands_in y l.waits ≡ true → s ≡ get_or slots y s
        → s.origin ≡ Some k → e ≡ get_or origins k e
        → slots' ≡ slots_after_leave slots y → e' ≡ ends_after_join e (wait_before_at slots y) (wait_after_at slots y)
        → AreTied slots' pages (set origins k e') free spare (lists_unwaited slots pages origins free spare l y k)
    after_unwait y k s e e' slots' h is o reads ws we =
        rw (ws, we, read_ends origins k e (origin_is_there y k s h is o) reads)
        (tied_unwait slots pages origins free spare l y k tied (sym (origin_read y s h is) ∙ o))

    -- ---- remove, of a node that waits nowhere
    pub page_read : (y : ℕ) (s : Slot) → stands_in y l.pages ≡ true → s ≡ get_or slots y s → s.page ≡ page_at slots y
    page_read y s h is = ap (λ (z : Slot). z.page) (read_slot slots y s (node_within y h) is)

    pub page_is_there : (y k : ℕ) (s : Slot) → stands_in y l.pages ≡ true → s ≡ get_or slots y s → s.page ≡ Some k → k < length pages
    page_is_there y k s h is o =
        home_there (after_at slots) (before_at slots) (page_at slots) pages l.pages tied.by_page tied.page_count y k
        (sym (page_read y s h is) ∙ o)

    pub page_is_some : (y : ℕ) (s : Slot) → stands_in y l.pages ≡ true → s ≡ get_or slots y s → s.page ≡ None → ⊥
    page_is_some y s h is o = let a = (page_of y h).1 in let b = page_read y s h is in grind (arith, a, b, o)

    pub before_within : (y k : ℕ) (s : Slot) → stands_in y l.pages ≡ true → s ≡ get_or slots y s → s.page ≡ Some k
        → IfSome (before_at slots y) (λ n. n < length slots)
    before_within y k s h is o =
        within_page slots (before_at slots y) k (before_home (after_at slots) (before_at slots)
        (page_at slots) pages l.pages tied.by_page y k (sym (page_read y s h is) ∙ o))

    pub after_within : (y k : ℕ) (s : Slot) → stands_in y l.pages ≡ true → s ≡ get_or slots y s → s.page ≡ Some k
        → IfSome (after_at slots y) (λ n. n < length slots)
    after_within y k s h is o =
        within_page slots (after_at slots y) k (after_home (after_at slots) (before_at slots) (page_at slots) pages l.pages tied.by_page y k
        (sym (page_read y s h is) ∙ o))

    pub after_remove : (y k : ℕ) (s : Slot) (e e' : Ends) (slots' : List Slot) → stands_in y l.pages ≡ true → stands_in y l.waits ≡ false
        → s ≡ get_or slots y s → s.page ≡ Some k → e ≡ get_or pages k e
        → slots' ≡ slots_after_join slots y → e' ≡ ends_after_join e (before_at slots y) (after_at slots y)
        → AreTied (set slots' y (free_slot free)) (set pages k e') origins (Some y) (spare + 1)
        (lists_removed slots pages origins free spare l y k)
    after_remove y k s e e' slots' h idle is o reads ws we =
        rw (ws, we, read_ends pages k e (page_is_there y k s h is o) reads)
        (tied_remove slots pages origins free spare l y k tied (sym (page_read y s h is) ∙ o) (no_origin y idle))

-- ---- lists without a node

pub untouched : (y : ℕ) (lists : List (List ℕ)) → stands_in y lists ≡ false → lists ≡ map (without y) lists
untouched y [] h = refl
untouched y (xs ∷ more) h = pick (has y xs) refl (untouched y more)
  where
    pick : (t : Bool) → has y xs ≡ t → (stands_in y more ≡ false → more ≡ map (without y) more)
        → (xs ∷ more) ≡ (without y xs ∷ map (without y) more)
    pick true is rest = absurd (grind (arith, is, h))
    pick false is rest =
        let here : xs ≡ without y xs = sym (without_none y xs is) in
        let there : more ≡ map (without y) more = rest (grind (arith, is, h)) in
        λ i. here i ∷ there i

pub none_without : (y : ℕ) (lists : List (List ℕ)) → stands_in y (map (without y) lists) ≡ false
none_without y [] = refl
none_without y (xs ∷ more) =
    let here : has y (without y xs) ≡ false = has_without y y xs ∙ rw (same_self (Some y)) refl in
    rw (here) (none_without y more)

module _ {slots : List Slot} {pages origins : List Ends} {free : Option ℕ} {spare : ℕ} {l : LinkLists}
    (inv : AreTied slots pages origins free spare (shown slots pages origins free spare)) (view : shown slots pages origins free spare ≡ l)
  where
    pub stands_waiting : (y k : ℕ) (s : Slot) → stands_in y l.pages ≡ true → s ≡ get_or slots y s → s.origin ≡ Some k
        → stands_in y l.waits ≡ true
    stands_waiting y k s h is o =
        let t = tied inv view in
        let at : s ≡ slot_at slots y = read_slot slots y s (node_within inv view y h) is in
        any_home (wait_after_at slots) (wait_before_at slots) (origin_at slots) origins l.waits y t.by_origin
        ∙ ap is_some (sym (ap (λ (z : Slot). z.origin) at) ∙ o)

    pub stands_idle : (y : ℕ) (s : Slot) → stands_in y l.pages ≡ true → s ≡ get_or slots y s → s.origin ≡ None → stands_in y l.waits ≡ false
    stands_idle y s h is o =
        let t = tied inv view in
        let at : s ≡ slot_at slots y = read_slot slots y s (node_within inv view y h) is in
        any_home (wait_after_at slots) (wait_before_at slots) (origin_at slots) origins l.waits y t.by_origin
        ∙ ap is_some (sym (ap (λ (z : Slot). z.origin) at) ∙ o)

    -- ---- look-ups
    pub first_page : (k : ℕ) (e : Ends) → k < length l.pages → e ≡ get_or pages k e → e.first ≡ first_of (list_at l.pages k)
    first_page k e le is =
        let t = tied inv view in
        ap (λ (z : Ends). z.first) (read_ends pages k e (page_there inv view k le) is)
        ∙ family_first (after_at slots) (before_at slots) (page_at slots) pages l.pages k t.by_page

    pub first_origin : (k : ℕ) (e : Ends) → k < length l.waits → e ≡ get_or origins k e → e.first ≡ first_of (list_at l.waits k)
    first_origin k e le is =
        let t = tied inv view in
        ap (λ (z : Ends). z.first) (read_ends origins k e (origin_there inv view k le) is)
        ∙ family_first (wait_after_at slots) (wait_before_at slots) (origin_at slots) origins l.waits k t.by_origin

    pub node_is : (y : ℕ) (s : Slot) → stands_in y l.pages ≡ true → s ≡ get_or slots y s
        → s.node ≡ record {
          before = before_among l.pages y;
          after = after_among l.pages y;
          wait_before = before_among l.waits y;
          wait_after = after_among l.waits y;
        }
    node_is y s h is = λ i. record { before = a i; after = b i; wait_before = c i; wait_after = d i }
      where
        t : AreTied slots pages origins free spare l
        t = tied inv view

        at : s ≡ slot_at slots y
        at = read_slot slots y s (node_within inv view y h) is

        out : page_at slots y ≡ None → ⊥
        out o = let p = (page_of inv view y h).1 in grind (arith, p, o)

        a : s.node.before ≡ before_among l.pages y
        a =
            ap (λ (z : Slot). z.node.before) at ∙ sym (family_before (after_at slots) (before_at slots)
            (page_at slots) pages l.pages y t.by_page (λ o. absurd (out o)))

        b : s.node.after ≡ after_among l.pages y
        b =
            ap (λ (z : Slot). z.node.after) at ∙ sym (family_after (after_at slots) (before_at slots)
            (page_at slots) pages l.pages y t.by_page (λ o. absurd (out o)))

        c : s.node.wait_before ≡ before_among l.waits y
        c =
            ap (λ (z : Slot). z.node.wait_before) at ∙ sym (family_before (wait_after_at slots) (wait_before_at slots)
            (origin_at slots) origins l.waits y t.by_origin (λ o. (t.idle y o).0))

        d : s.node.wait_after ≡ after_among l.waits y
        d =
            ap (λ (z : Slot). z.node.wait_after) at ∙ sym (family_after (wait_after_at slots) (wait_before_at slots)
            (origin_at slots) origins l.waits y t.by_origin (λ o. (t.idle y o).1))

    pub next_is : (y : ℕ) (s : Slot) → stands_in y l.pages ≡ true → s ≡ get_or slots y s → s.node.after ≡ after_among l.pages y
    next_is y s h is = ap (λ (z : LinkNode). z.after) (node_is y s h is)

    pub next_waiting_is : (y : ℕ) (s : Slot) → stands_in y l.waits ≡ true → s ≡ get_or slots y s → s.node.wait_after ≡ after_among l.waits y
    next_waiting_is y s h is =
        let t = tied inv view in
        let at : s ≡ slot_at slots y = read_slot slots y s (waiter_within inv view y h) is in
        ap (λ (z : Slot). z.node.wait_after) at ∙ sym (family_after (wait_after_at slots) (wait_before_at slots)
        (origin_at slots) origins l.waits y t.by_origin (λ o. (t.idle y o).1))

-- ---- the number of free nodes fits
pub spare_small : {slots : List Slot} {pages origins : List Ends} {free : Option ℕ} {spare : ℕ} {l : LinkLists}
    → AreTied slots pages origins free spare l → spare < 4294967296
spare_small t = let a = t.spare_is in let b = t.spares in let c = t.fits in let d = t.small in omega (arith, a, b, c, d)

pub joined_within : (slots slots' : List Slot) (y : ℕ) → y < length slots → slots' ≡ slots_after_join slots y → y < length slots'
joined_within slots slots' y le is =
    let a = length-with_slot (with_before (before_at slots y)) (with_slot (with_after (after_at slots y)) slots (before_at slots y))
    (after_at slots y) in
    let b = length-with_slot (with_after (after_at slots y)) slots (before_at slots y) in
    rw is (omega (arith, a, b, le))

-- ---- reserve

module _ {slots : List Slot} {pages origins : List Ends} {free : Option ℕ} {spare : ℕ} {l : LinkLists}
    (inv : AreTied slots pages origins free spare (shown slots pages origins free spare)) (view : shown slots pages origins free spare ≡ l)
  where
    abbrev pub lists_reserved : ℕ → ℕ → ℕ → LinkLists
    lists_reserved nodes p o =
        record {
          pages = l.pages ++ replicate (p - length l.pages) [];
          waits = l.waits ++ replicate (o - length l.waits) [];
          free = with_free (nodes - l.spare) (total l.pages + length l.free) l.free;
          spare = l.spare + (nodes - l.spare);
        }

    pub after_reserve : (nodes p o n pl pn ol on : ℕ) (slots₁ slots' : List Slot) (pages₁ pages' origins₁ origins' : List Ends)
        (free' : Option ℕ)
        → total l.pages + nodes < 4294967296 → n ≡ nodes - spare → pl ≡ length pages → pn ≡ p - pl → ol ≡ length origins → on ≡ o - ol
        → slots₁ ≡ slots → slots' ≡ (with_free_slots n slots₁ free).0 → free' ≡ (with_free_slots n slots₁ free).1
        → pages₁ ≡ pages → pages' ≡ pages₁ ++ replicate pn no_ends → origins₁ ≡ origins → origins' ≡ origins₁ ++ replicate on no_ends
        → AreTied slots' pages' origins' free' (spare + n) (lists_reserved nodes p o)
    after_reserve nodes p o n pl pn ol on slots₁ slots' pages₁ pages' origins₁ origins' free' le n_is pl_is pn_is ol_is on_is s₁ s' f' p₁ p'
        o₁ o' =
        rw (s', f', p', o', s₁, p₁, o₁)
        (subst (AreTied (with_free_slots n slots free).0 (pages ++ replicate pn no_ends) (origins ++ replicate on no_ends)
        (with_free_slots n slots free).1 (spare + n)) goal_is
        (tied_more (with_free_slots n slots free).0 pages origins (with_free_slots n slots free).1 (spare + n)
        (record { pages = l.pages; waits = l.waits; free = with_free n (length slots) l.free; spare = l.spare + n }) pn on
        (tied_grown n slots pages origins free spare l bound t)))
      where
        t : AreTied slots pages origins free spare l
        t = tied inv view

        bound : length slots + n < 4294967296
        bound = let a = t.fits in let b = t.spares in let c = t.spare_is in let d = t.small in omega (arith, a, b, c, d, le, n_is)

        same_pn : pn ≡ p - length l.pages
        same_pn = pn_is ∙ ap (λ m. p - m) (pl_is ∙ sym t.page_count)

        same_on : on ≡ o - length l.waits
        same_on = on_is ∙ ap (λ m. o - m) (ol_is ∙ sym t.origin_count)

        same_n : n ≡ nodes - l.spare
        same_n = n_is ∙ ap (λ m. nodes - m) t.spare_is

        goal_is : (record {
          pages = l.pages ++ replicate pn [];
          waits = l.waits ++ replicate on [];
          free = with_free n (length slots) l.free;
          spare = l.spare + n;
        }) ≡ lists_reserved nodes p o
        goal_is = λ i. record {
          pages = l.pages ++ replicate (same_pn i) [];
          waits = l.waits ++ replicate (same_on i) [];
          free = with_free (same_n i) (sym t.fits i) l.free;
          spare = l.spare + same_n i;
        }
