-- Each call keeps the indexes tied to the lists.
use Rattle.std.proofs.Common.{◌≡◌, ℕ, Bool, true, false, nat_eq, List, [], ◌∷◌, ◌++◌, ◌+◌, ◌-◌, ◌<◌, Some, None, refl, sym, ap, ◌∙◌, arith}
use Rattle.std.proofs.Common.{cond, length, map, set, get_or-set_same, get_or-set_other, ext_get_or, subst, length-set}
use Rattle.std.proofs.lemmas.Bool.{eqb-false, eqb-true}
use Rattle.std.proofs.lemmas.List.{length-map, length_push}
use Rattle.std.specs.Prelude.{Option, IfSome}
use Rattle.fed_links.specs.Lists.{LinkLists, has, without, list_at, total}
use Rattle.fed_links.specs.Threads.{same_link, ends_at, AreFree, slot_at, after_at, before_at, wait_after_at, wait_before_at}
use Rattle.fed_links.specs.Threads.{page_at, origin_at, AreTied, AreDistinct}
use Rattle.fed_links.specs.Changes.{with_slot, with_after, with_before, with_wait_after, with_wait_before, added_slot, waiting_slot}
use Rattle.fed_links.specs.Changes.{idle_slot, free_slot, slots_after_add, ends_after_add, slots_after_wait, slots_after_join}
use Rattle.fed_links.specs.Changes.{ends_after_join, slots_after_leave}
use Rattle.fed_links.specs.declared.node.Ends.{Ends}
use Rattle.fed_links.specs.declared.node.Slot.{Slot}
use Rattle.fed_links.proofs.threads.Seams.{same_self, without_none}
use Rattle.fed_links.proofs.threads.Families.{family_same, family_with, family_without, list_at-without}
use Rattle.fed_links.proofs.views.Counts.{length-without, total-set}
use Rattle.fed_links.proofs.tied.Slots.{slot_at-set, slot_at-with_slot, length-with_slot, within_same, page_within, origin_within}
use Rattle.fed_links.proofs.tied.Slots.{not_before, not_after, not_last, before_home, after_home, last_home, within_page, within_origin}
use Rattle.fed_links.proofs.tied.Slots.{home_there, free_same, free_home, not_of_rest}

-- each field of a slot after the change, with the tests as Bools: t, it is y; u, it is after y; v, it is before y
abbrev unwaited : (t u v : Bool) (a b : Option ℕ) → Slot → Slot
unwaited t u v a b s =
    record {
      node = record {
        before = s.node.before;
        after = s.node.after;
        wait_before = cond t None (cond u b s.node.wait_before);
        wait_after = cond t None (cond v a s.node.wait_after);
      };
      page = s.page;
      origin = cond t None s.origin;
    }

unwaited_is : (t u v : Bool) (a b : Option ℕ) (s : Slot)
    → cond t (idle_slot (cond u (with_wait_before b (cond v (with_wait_after a s) s)) (cond v (with_wait_after a s) s)))
    (cond u (with_wait_before b (cond v (with_wait_after a s) s)) (cond v (with_wait_after a s) s))
    ≡ unwaited t u v a b s
unwaited_is true true true a b s = refl
unwaited_is true true false a b s = refl
unwaited_is true false true a b s = refl
unwaited_is true false false a b s = refl
unwaited_is false true true a b s = refl
unwaited_is false true false a b s = refl
unwaited_is false false true a b s = refl
unwaited_is false false false a b s = refl

still_none : (t : Bool) (o : Option ℕ) → o ≡ None → cond t None o ≡ None
still_none true o e = refl
still_none false o e = e

-- ---- a node leaves its waiting list

module _ (slots : List Slot) (pages origins : List Ends) (free : Option ℕ) (spare : ℕ) (l : LinkLists) (y k : ℕ) where
  abbrev pub lists_unwaited : LinkLists
  lists_unwaited = record { pages = l.pages; waits = map (without y) l.waits; free = l.free; spare = l.spare }

  pub tied_unwait : AreTied slots pages origins free spare l → origin_at slots y ≡ Some k
      → AreTied (slots_after_leave slots y) pages (set origins k (ends_after_join (ends_at origins k) (wait_before_at slots y)
      (wait_after_at slots y))) free spare lists_unwaited
  tied_unwait t here =
      record {
        by_page =
            family_same (after_at slots) (before_at slots) (page_at slots) (after_at new) (before_at new)
            (page_at new) pages l.pages t.by_page
            (λ n j h. (ap (λ (s : Slot). s.node.after) (slot_is n), ap (λ (s : Slot). s.node.before) (slot_is n)))
            (λ n. ap (λ (s : Slot). s.page) (slot_is n));
        by_origin =
            family_without (wait_after_at slots) (wait_before_at slots) (origin_at slots) (wait_after_at new) (wait_before_at new)
            (origin_at new) origins l.waits k y t.by_origin
            (home_there (wait_after_at slots) (wait_before_at slots) (origin_at slots) origins l.waits t.by_origin t.origin_count y k here)
            here
            (λ n ne. ap (λ (s : Slot). s.node.wait_after) (slot_is n) ∙ rw ne refl)
            (λ n ne. ap (λ (s : Slot). s.node.wait_before) (slot_is n) ∙ rw ne refl)
            (λ n. ap (λ (s : Slot). s.origin) (slot_is n));
        page_count = t.page_count;
        origin_count =
            length-map l.waits (without y) ∙ (t.origin_count ∙ sym (length-set origins k (ends_after_join (ends_at origins k) b a)));
        chain = free_same slots new free l.free t.chain size
            (λ n h p. (ap (λ (s : Slot). s.page) (slot_is n) ∙ p, ap (λ (s : Slot). s.node.after) (slot_is n)));
        distinct = t.distinct;
        fits = t.fits ∙ sym size;
        small = (let s = t.small in omega (arith, s, size));
        spares = t.spares;
        spare_is = t.spare_is;
        alone =
            λ n h. ap (λ (s : Slot). s.origin) (slot_is n) ∙ still_none (nat_eq n y) (origin_at slots n)
            (t.alone n (sym (ap (λ (s : Slot). s.page) (slot_is n)) ∙ h));
        idle = λ n h. idle_of n (nat_eq n y) refl (sym (ap (λ (s : Slot). s.origin) (slot_is n)) ∙ h);
      }
    where
      a : Option ℕ
      a = wait_after_at slots y

      b : Option ℕ
      b = wait_before_at slots y

      one : List Slot
      one = with_slot (with_wait_after a) slots b

      two : List Slot
      two = with_slot (with_wait_before b) one a

      new : List Slot
      new = slots_after_leave slots y

      size : length new ≡ length slots
      size =
          length-with_slot idle_slot two (Some y) ∙ (length-with_slot (with_wait_before b) one a
          ∙ length-with_slot (with_wait_after a) slots b)

      in_b : IfSome b (λ n. n < length slots)
      in_b =
          within_origin slots b k (before_home (wait_after_at slots) (wait_before_at slots)
          (origin_at slots) origins l.waits t.by_origin y k here)

      in_a : IfSome a (λ n. n < length one)
      in_a = within_same a (length one) (length slots) (length-with_slot (with_wait_after a) slots b)
          (within_origin slots a k (after_home (wait_after_at slots) (wait_before_at slots)
          (origin_at slots) origins l.waits t.by_origin y k here))

      in_y : y < length two
      in_y =
          let e = origin_within slots y k here in let u = length-with_slot (with_wait_after a) slots b in
          let v = length-with_slot (with_wait_before b) one a in omega (arith, e, u, v)

      slot_is : (n : ℕ) → slot_at new n ≡ unwaited (nat_eq n y) (same_link (Some n) a) (same_link (Some n) b) a b (slot_at slots n)
      slot_is n =
          slot_at-with_slot idle_slot two (Some y) n in_y
          ∙ (ap (λ (s : Slot). cond (nat_eq n y) (idle_slot s) s)
          (slot_at-with_slot (with_wait_before b) one a n in_a
          ∙ ap (λ (s : Slot). cond (same_link (Some n) a) (with_wait_before b s) s) (slot_at-with_slot (with_wait_after a) slots b n in_b))
          ∙ unwaited_is (nat_eq n y) (same_link (Some n) a) (same_link (Some n) b) a b (slot_at slots n))

      far_a : (n : ℕ) → origin_at slots n ≡ None → same_link (Some n) a ≡ false
      far_a n h =
          not_after (wait_after_at slots) (wait_before_at slots) (origin_at slots) origins l.waits t.by_origin y k n here (rw h refl)

      far_b : (n : ℕ) → origin_at slots n ≡ None → same_link (Some n) b ≡ false
      far_b n h =
          not_before (wait_after_at slots) (wait_before_at slots) (origin_at slots) origins l.waits t.by_origin y k n here (rw h refl)

      idle_of : (n : ℕ) (z : Bool) → nat_eq n y ≡ z → cond z None (origin_at slots n) ≡ None
          → (wait_before_at new n ≡ None) × (wait_after_at new n ≡ None)
      idle_of n true is h =
          (ap (λ (s : Slot). s.node.wait_before) (slot_is n) ∙ rw is refl, ap (λ (s : Slot). s.node.wait_after) (slot_is n) ∙ rw is refl)
      idle_of n false is h = (
        ap (λ (s : Slot). s.node.wait_before) (slot_is n) ∙ rw (is, far_a n h) (t.idle n h).0,
        ap (λ (s : Slot). s.node.wait_after) (slot_is n) ∙ rw (is, far_b n h) (t.idle n h).1,
      )

-- ---- a node comes to the end of a waiting list

abbrev waited : (t u : Bool) (y k : ℕ) (last : Option ℕ) → Slot → Slot
waited t u y k last s =
    record {
      node = record {
        before = s.node.before;
        after = s.node.after;
        wait_before = cond t last s.node.wait_before;
        wait_after = cond u (Some y) (cond t None s.node.wait_after);
      };
      page = s.page;
      origin = cond t (Some k) s.origin;
    }

waited_is : (t u : Bool) (y k : ℕ) (last : Option ℕ) (s : Slot)
    → cond u (with_wait_after (Some y) (cond t (waiting_slot last k s) s)) (cond t (waiting_slot last k s) s) ≡ waited t u y k last s
waited_is true true y k last s = refl
waited_is true false y k last s = refl
waited_is false true y k last s = refl
waited_is false false y k last s = refl

-- the two tests do not both hold
swapped : (t u : Bool) (y : ℕ) (o : Option ℕ) → (t ≡ true → u ≡ false) → cond u (Some y) (cond t None o) ≡ cond t None (cond u (Some y) o)
swapped true true y o h = let e = h refl in grind (arith, e)
swapped true false y o h = refl
swapped false true y o h = refl
swapped false false y o h = refl

some_not_none : (o : Option ℕ) (j : ℕ) → o ≡ Some j → o ≡ None → ⊥
some_not_none o j a b = grind (arith, a, b)

kept_alone : (z : Bool) (o : Option ℕ) (k : ℕ) → z ≡ false → o ≡ None → cond z (Some k) o ≡ None
kept_alone z o k e h = rw e h

module _ (slots : List Slot) (pages origins : List Ends) (free : Option ℕ) (spare : ℕ) (l : LinkLists) (y k : ℕ) where
  abbrev pub lists_waited : LinkLists
  lists_waited = record { pages = l.pages; waits = set l.waits k (list_at l.waits k ++ y ∷ []); free = l.free; spare = l.spare }

  pub tied_wait : (p : ℕ) → AreTied slots pages origins free spare l → page_at slots y ≡ Some p → origin_at slots y ≡ None
      → k < length origins
      → AreTied (slots_after_wait slots (ends_at origins k) k y) pages
      (set origins k (ends_after_add (ends_at origins k) y)) free spare lists_waited
  tied_wait p t here out there =
      record {
        by_page =
            family_same (after_at slots) (before_at slots) (page_at slots) (after_at new) (before_at new)
            (page_at new) pages l.pages t.by_page
            (λ n j h. (ap (λ (s : Slot). s.node.after) (slot_is n), ap (λ (s : Slot). s.node.before) (slot_is n)))
            (λ n. ap (λ (s : Slot). s.page) (slot_is n));
        by_origin =
            family_with (wait_after_at slots) (wait_before_at slots) (origin_at slots) (wait_after_at new) (wait_before_at new)
            (origin_at new) origins l.waits k y t.by_origin there (let c = t.origin_count in omega (arith, c, there)) out
            (λ n. ap (λ (s : Slot). s.node.wait_after) (slot_is n) ∙ swapped (nat_eq n y) (same_link (Some n) last) y
            (wait_after_at slots n) (λ e. far n (ap (origin_at slots) (eqb-true n y e) ∙ out)))
            (λ n. ap (λ (s : Slot). s.node.wait_before) (slot_is n))
            (λ n. ap (λ (s : Slot). s.origin) (slot_is n));
        page_count = t.page_count;
        origin_count =
            length-set l.waits k (list_at l.waits k ++ y ∷ []) ∙ (t.origin_count
            ∙ sym (length-set origins k (ends_after_add (ends_at origins k) y)));
        chain = free_same slots new free l.free t.chain size
            (λ n h q. (ap (λ (s : Slot). s.page) (slot_is n) ∙ q, ap (λ (s : Slot). s.node.after) (slot_is n)));
        distinct = t.distinct;
        fits = t.fits ∙ sym size;
        small = (let s = t.small in omega (arith, s, size));
        spares = t.spares;
        spare_is = t.spare_is;
        alone = λ n h. ap (λ (s : Slot). s.origin) (slot_is n)
            ∙ kept_alone (nat_eq n y) (origin_at slots n) k (not_y n (sym (ap (λ (s : Slot). s.page) (slot_is n)) ∙ h))
            (t.alone n (sym (ap (λ (s : Slot). s.page) (slot_is n)) ∙ h));
        idle = λ n h. idle_of n (nat_eq n y) refl (sym (ap (λ (s : Slot). s.origin) (slot_is n)) ∙ h);
      }
    where
      last : Option ℕ
      last = (ends_at origins k).last

      one : List Slot
      one = with_slot (waiting_slot last k) slots (Some y)

      new : List Slot
      new = slots_after_wait slots (ends_at origins k) k y

      size : length new ≡ length slots
      size = length-with_slot (with_wait_after (Some y)) one last ∙ length-with_slot (waiting_slot last k) slots (Some y)

      in_last : IfSome last (λ n. n < length one)
      in_last = within_same last (length one) (length slots) (length-with_slot (waiting_slot last k) slots (Some y))
          (within_origin slots last k (last_home (wait_after_at slots) (wait_before_at slots)
          (origin_at slots) origins l.waits t.by_origin k))

      slot_is : (n : ℕ) → slot_at new n ≡ waited (nat_eq n y) (same_link (Some n) last) y k last (slot_at slots n)
      slot_is n =
          slot_at-with_slot (with_wait_after (Some y)) one last n in_last
          ∙ (ap (λ (s : Slot). cond (same_link (Some n) last) (with_wait_after (Some y) s) s)
          (slot_at-with_slot (waiting_slot last k) slots (Some y) n (page_within slots y p here))
          ∙ waited_is (nat_eq n y) (same_link (Some n) last) y k last (slot_at slots n))

      far : (n : ℕ) → origin_at slots n ≡ None → same_link (Some n) last ≡ false
      far n h = not_last (wait_after_at slots) (wait_before_at slots) (origin_at slots) origins l.waits t.by_origin k n (rw h refl)

      not_y : (n : ℕ) → page_at slots n ≡ None → nat_eq n y ≡ false
      not_y n h = go (nat_eq n y) refl
        where
          go : (z : Bool) → nat_eq n y ≡ z → z ≡ false
          go false is = refl
          go true is = absurd (some_not_none (page_at slots y) p here (ap (page_at slots) (sym (eqb-true n y is)) ∙ h))

      idle_of : (n : ℕ) (z : Bool) → nat_eq n y ≡ z → cond z (Some k) (origin_at slots n) ≡ None
          → (wait_before_at new n ≡ None) × (wait_after_at new n ≡ None)
      idle_of n true is h = absurd (some_not_none (Some k) k refl h)
      idle_of n false is h = (
        ap (λ (s : Slot). s.node.wait_before) (slot_is n) ∙ rw is (t.idle n h).0,
        ap (λ (s : Slot). s.node.wait_after) (slot_is n) ∙ rw (is, far n h) (t.idle n h).1,
      )

-- ---- a free node comes to the end of a page list

abbrev added : (t u : Bool) (y k : ℕ) (last : Option ℕ) → Slot → Slot
added t u y k last s =
    record {
      node = record {
        before = cond t last s.node.before;
        after = cond u (Some y) (cond t None s.node.after);
        wait_before = cond t None s.node.wait_before;
        wait_after = cond t None s.node.wait_after;
      };
      page = cond t (Some k) s.page;
      origin = cond t None s.origin;
    }

added_is : (t u : Bool) (y k : ℕ) (last : Option ℕ) (s : Slot) → cond u (with_after (Some y) (cond t (added_slot last k) s))
    (cond t (added_slot last k) s) ≡ added t u y k last s
added_is true true y k last s = refl
added_is true false y k last s = refl
added_is false true y k last s = refl
added_is false false y k last s = refl

-- a part that is None at y stays as it was
none_at : (t : Bool) (n y : ℕ) (f : ℕ → Option ℕ) → nat_eq n y ≡ t → f y ≡ None → cond t None (f n) ≡ f n
none_at false n y f is h = refl
none_at true n y f is h = sym (ap f (eqb-true n y is) ∙ h)

module _ (slots : List Slot) (pages origins : List Ends) (free : Option ℕ) (spare : ℕ) (l : LinkLists) (y k : ℕ) (rest : List ℕ) where
  abbrev pub lists_added : LinkLists
  lists_added = record { pages = set l.pages k (list_at l.pages k ++ y ∷ []); waits = l.waits; free = rest; spare = l.spare - 1 }

  pub tied_add : AreTied slots pages origins free spare l → l.free ≡ y ∷ rest → k < length pages
      → AreTied (slots_after_add slots (ends_at pages k) k y) (set pages k (ends_after_add (ends_at pages k) y)) origins (after_at slots y)
      (spare - 1) lists_added
  tied_add t frees there =
      record {
        by_page =
            family_with (after_at slots) (before_at slots) (page_at slots) (after_at new) (before_at new)
            (page_at new) pages l.pages k y t.by_page there (let c = t.page_count in omega (arith, c, there)) out
            (λ n. ap (λ (s : Slot). s.node.after) (slot_is n) ∙ swapped (nat_eq n y) (same_link (Some n) last) y (after_at slots n)
            (λ e. far n (ap (page_at slots) (eqb-true n y e) ∙ out)))
            (λ n. ap (λ (s : Slot). s.node.before) (slot_is n))
            (λ n. ap (λ (s : Slot). s.page) (slot_is n));
        by_origin =
            family_same (wait_after_at slots) (wait_before_at slots) (origin_at slots) (wait_after_at new) (wait_before_at new)
            (origin_at new) origins l.waits t.by_origin
            (λ n j h. (same_wait_after n, same_wait_before n))
            same_origin;
        page_count =
            length-set l.pages k (list_at l.pages k ++ y ∷ []) ∙ (t.page_count
            ∙ sym (length-set pages k (ends_after_add (ends_at pages k) y)));
        origin_count = t.origin_count;
        chain = free_same slots new (after_at slots y) rest chain.3 size
            (λ n h q. (
              ap (λ (s : Slot). s.page) (slot_is n) ∙ rw (not_of_rest y n rest fresh_y h) q,
              ap (λ (s : Slot). s.node.after) (slot_is n) ∙ rw (not_of_rest y n rest fresh_y h, far n q) refl,
            ));
        distinct = apart.1;
        fits = (let a = total-set l.pages k (list_at l.pages k ++ y ∷ []) (let c = t.page_count in omega (arith, c, there)) in
            let b = length_push (list_at l.pages k) y in
            let c = t.fits in
            let d : length l.free ≡ length rest + 1 = rw frees (omega arith) in
            omega (arith, a, b, c, d, size));
        small = (let s = t.small in omega (arith, s, size));
        spares = (let a = t.spares in let d : length l.free ≡ length rest + 1 = rw frees (omega arith) in omega (arith, a, d));
        spare_is = ap (λ m. m - 1) t.spare_is;
        alone = λ n h. same_origin n ∙ alone_of n (nat_eq n y) refl (sym (ap (λ (s : Slot). s.page) (slot_is n)) ∙ h);
        idle =
            λ n h. (
              same_wait_before n ∙ (t.idle n (sym (same_origin n) ∙ h)).0,
              same_wait_after n
                  ∙ (t.idle n (sym (same_origin n) ∙ h)).1,
            );
      }
    where
      last : Option ℕ
      last = (ends_at pages k).last

      one : List Slot
      one = set slots y (added_slot last k)

      new : List Slot
      new = slots_after_add slots (ends_at pages k) k y

      chain : AreFree slots free (y ∷ rest)
      chain = subst (AreFree slots free) frees t.chain

      apart : AreDistinct (y ∷ rest)
      apart = subst AreDistinct frees t.distinct

      fresh_y : has y rest ≡ false
      fresh_y = apart.0

      out : page_at slots y ≡ None
      out = chain.2

      size : length new ≡ length slots
      size = length-with_slot (with_after (Some y)) one last ∙ length-set slots y (added_slot last k)

      in_last : IfSome last (λ n. n < length one)
      in_last = within_same last (length one) (length slots) (length-set slots y (added_slot last k))
          (within_page slots last k (last_home (after_at slots) (before_at slots) (page_at slots) pages l.pages t.by_page k))

      slot_is : (n : ℕ) → slot_at new n ≡ added (nat_eq n y) (same_link (Some n) last) y k last (slot_at slots n)
      slot_is n =
          slot_at-with_slot (with_after (Some y)) one last n in_last
          ∙ (ap (λ (s : Slot). cond (same_link (Some n) last) (with_after (Some y) s) s) (slot_at-set slots y n (added_slot last k) chain.1)
          ∙ added_is (nat_eq n y) (same_link (Some n) last) y k last (slot_at slots n))

      far : (n : ℕ) → page_at slots n ≡ None → same_link (Some n) last ≡ false
      far n h = not_last (after_at slots) (before_at slots) (page_at slots) pages l.pages t.by_page k n (rw h refl)

      same_origin : (n : ℕ) → origin_at new n ≡ origin_at slots n
      same_origin n = ap (λ (s : Slot). s.origin) (slot_is n) ∙ none_at (nat_eq n y) n y (origin_at slots) refl (t.alone y out)

      same_wait_after : (n : ℕ) → wait_after_at new n ≡ wait_after_at slots n
      same_wait_after n =
          ap (λ (s : Slot). s.node.wait_after) (slot_is n) ∙ none_at (nat_eq n y) n y (wait_after_at slots) refl
          (t.idle y (t.alone y out)).1

      same_wait_before : (n : ℕ) → wait_before_at new n ≡ wait_before_at slots n
      same_wait_before n =
          ap (λ (s : Slot). s.node.wait_before) (slot_is n) ∙ none_at (nat_eq n y) n y (wait_before_at slots) refl
          (t.idle y (t.alone y out)).0

      alone_of : (n : ℕ) (z : Bool) → nat_eq n y ≡ z → cond z (Some k) (page_at slots n) ≡ None → origin_at slots n ≡ None
      alone_of n true is h = absurd (some_not_none (Some k) k refl h)
      alone_of n false is h = t.alone n h

-- ---- a node leaves its page list and becomes free

abbrev removed : (t u v : Bool) (a b free : Option ℕ) → Slot → Slot
removed t u v a b free s =
    record {
      node = record {
        before = cond t None (cond u b s.node.before);
        after = cond t free (cond v a s.node.after);
        wait_before = cond t None s.node.wait_before;
        wait_after = cond t None s.node.wait_after;
      };
      page = cond t None s.page;
      origin = cond t None s.origin;
    }

removed_is : (t u v : Bool) (a b free : Option ℕ) (s : Slot) → cond t (free_slot free)
    (cond u (with_before b (cond v (with_after a s) s)) (cond v (with_after a s) s)) ≡ removed t u v a b free s
removed_is true u v a b free s = refl
removed_is false true true a b free s = refl
removed_is false true false a b free s = refl
removed_is false false true a b free s = refl
removed_is false false false a b free s = refl

-- one node fewer
total-without : (lists : List (List ℕ)) (k y : ℕ) → k < length lists → AreDistinct (list_at lists k)
    → ((j : ℕ) → has y (list_at lists j) ≡ nat_eq k j) → total (map (without y) lists) + 1 ≡ total lists
total-without lists k y le d homes =
    let a = total-set lists k (without y (list_at lists k)) le in
    let b = length-without y (list_at lists k) d in
    let c : has y (list_at lists k) ≡ true = homes k ∙ same_self (Some k) in
    let e : map (without y) lists ≡ set lists k (without y (list_at lists k)) = same_lists_at in
    let f : length (without y (list_at lists k)) + 1 ≡ length (list_at lists k) = rw (sym b, c) refl in
    rw e (omega (arith, a, f))
  where
    at : (j : ℕ) (z : Bool) → nat_eq k j ≡ z → list_at (map (without y) lists) j ≡ list_at (set lists k (without y (list_at lists k))) j
    at j true is =
        rw (sym (eqb-true k j is)) (list_at-without y lists k ∙ sym (get_or-set_same lists k (without y (list_at lists k)) [] le))
    at j false is =
        list_at-without y lists j ∙ (without_none y (list_at lists j) (homes j ∙ is)
        ∙ sym (get_or-set_other lists k j (without y (list_at lists k)) [] (λ e. eqb-false k j is (sym e))))

    same_lists_at : map (without y) lists ≡ set lists k (without y (list_at lists k))
    same_lists_at = ext_get_or [] (map (without y) lists) (set lists k (without y (list_at lists k)))
        (length-map lists (without y) ∙ sym (length-set lists k (without y (list_at lists k)))) (λ j le. at j (nat_eq k j) refl)

module _ (slots : List Slot) (pages origins : List Ends) (free : Option ℕ) (spare : ℕ) (l : LinkLists) (y k : ℕ) where
  abbrev pub lists_removed : LinkLists
  lists_removed = record { pages = map (without y) l.pages; waits = l.waits; free = y ∷ l.free; spare = l.spare + 1 }

  pub tied_remove : AreTied slots pages origins free spare l → page_at slots y ≡ Some k → origin_at slots y ≡ None
      → AreTied (set (slots_after_join slots y) y (free_slot free)) (set pages k
      (ends_after_join (ends_at pages k) (before_at slots y) (after_at slots y))) origins (Some y) (spare + 1) lists_removed
  tied_remove t here out =
      record {
        by_page =
            family_without (after_at slots) (before_at slots) (page_at slots) (after_at new) (before_at new)
            (page_at new) pages l.pages k y t.by_page there here
            (λ n ne. ap (λ (s : Slot). s.node.after) (slot_is n) ∙ rw ne refl)
            (λ n ne. ap (λ (s : Slot). s.node.before) (slot_is n) ∙ rw ne refl)
            (λ n. ap (λ (s : Slot). s.page) (slot_is n));
        by_origin =
            family_same (wait_after_at slots) (wait_before_at slots) (origin_at slots) (wait_after_at new) (wait_before_at new)
            (origin_at new) origins l.waits t.by_origin
            (λ n j h. (same_wait_after n, same_wait_before n))
            same_origin;
        page_count = length-map l.pages (without y) ∙ (t.page_count ∙ sym (length-set pages k (ends_after_join (ends_at pages k) b a)));
        origin_count = t.origin_count;
        chain = (
          refl,
          in_new,
          ap (λ (s : Slot). s.page) (slot_is y) ∙ rw (same_self (Some y)) refl,
          subst (λ o. AreFree new o l.free) (sym (ap (λ (s : Slot). s.node.after) (slot_is y) ∙ rw (same_self (Some y)) refl))
              (free_same slots new free l.free t.chain size
              (λ n h q. (
                ap (λ (s : Slot). s.page) (slot_is n) ∙ still_none (nat_eq n y) (page_at slots n) q,
                ap (λ (s : Slot). s.node.after) (slot_is n) ∙ rw (not_of_rest y n l.free not_free h, far_b n q) refl,
              ))),
        );
        distinct = (not_free, t.distinct);
        fits =
            (let a = total-without l.pages k y (let c = t.page_count in omega (arith, c, there)) (t.by_page k).distinct
            (λ j. (t.by_page j).homes y ∙ rw here refl) in
            let b = t.fits in omega (arith, a, b, size));
        small = (let s = t.small in omega (arith, s, size));
        spares = (let a = t.spares in omega (arith, a));
        spare_is = ap (λ m. m + 1) t.spare_is;
        alone = λ n h. alone_of n (nat_eq n y) refl (sym (ap (λ (s : Slot). s.page) (slot_is n)) ∙ h);
        idle =
            λ n h. (
              same_wait_before n ∙ (t.idle n (sym (same_origin n) ∙ h)).0,
              same_wait_after n
                  ∙ (t.idle n (sym (same_origin n) ∙ h)).1,
            );
      }
    where
      a : Option ℕ
      a = after_at slots y

      b : Option ℕ
      b = before_at slots y

      one : List Slot
      one = with_slot (with_after a) slots b

      two : List Slot
      two = slots_after_join slots y

      new : List Slot
      new = set (slots_after_join slots y) y (free_slot free)

      two_size : length two ≡ length slots
      two_size = length-with_slot (with_before b) one a ∙ length-with_slot (with_after a) slots b

      size : length new ≡ length slots
      size = length-set two y (free_slot free) ∙ two_size

      there : k < length pages
      there = home_there (after_at slots) (before_at slots) (page_at slots) pages l.pages t.by_page t.page_count y k here

      in_b : IfSome b (λ n. n < length slots)
      in_b = within_page slots b k (before_home (after_at slots) (before_at slots) (page_at slots) pages l.pages t.by_page y k here)

      in_a : IfSome a (λ n. n < length one)
      in_a = within_same a (length one) (length slots) (length-with_slot (with_after a) slots b)
          (within_page slots a k (after_home (after_at slots) (before_at slots) (page_at slots) pages l.pages t.by_page y k here))

      in_two : y < length two
      in_two = let e = page_within slots y k here in let u = two_size in omega (arith, e, u)

      in_new : y < length new
      in_new = let e = page_within slots y k here in let u = size in omega (arith, e, u)

      slot_is : (n : ℕ) → slot_at new n ≡ removed (nat_eq n y) (same_link (Some n) a) (same_link (Some n) b) a b free (slot_at slots n)
      slot_is n =
          slot_at-set two y n (free_slot free) in_two
          ∙ (ap (λ (s : Slot). cond (nat_eq n y) (free_slot free) s)
          (slot_at-with_slot (with_before b) one a n in_a
          ∙ ap (λ (s : Slot). cond (same_link (Some n) a) (with_before b s) s) (slot_at-with_slot (with_after a) slots b n in_b))
          ∙ removed_is (nat_eq n y) (same_link (Some n) a) (same_link (Some n) b) a b free (slot_at slots n))

      far_b : (n : ℕ) → page_at slots n ≡ None → same_link (Some n) b ≡ false
      far_b n h = not_before (after_at slots) (before_at slots) (page_at slots) pages l.pages t.by_page y k n here (rw h refl)

      not_free : has y l.free ≡ false
      not_free = go (has y l.free) refl
        where
          go : (z : Bool) → has y l.free ≡ z → z ≡ false
          go false is = refl
          go true is = absurd (some_not_none (page_at slots y) k here (free_home slots free l.free y t.chain is))

      same_origin : (n : ℕ) → origin_at new n ≡ origin_at slots n
      same_origin n = ap (λ (s : Slot). s.origin) (slot_is n) ∙ none_at (nat_eq n y) n y (origin_at slots) refl out

      same_wait_after : (n : ℕ) → wait_after_at new n ≡ wait_after_at slots n
      same_wait_after n =
          ap (λ (s : Slot). s.node.wait_after) (slot_is n) ∙ none_at (nat_eq n y) n y (wait_after_at slots) refl (t.idle y out).1

      same_wait_before : (n : ℕ) → wait_before_at new n ≡ wait_before_at slots n
      same_wait_before n =
          ap (λ (s : Slot). s.node.wait_before) (slot_is n) ∙ none_at (nat_eq n y) n y (wait_before_at slots) refl (t.idle y out).0

      alone_of : (n : ℕ) (z : Bool) → nat_eq n y ≡ z → cond z None (page_at slots n) ≡ None → origin_at new n ≡ None
      alone_of n true is h = same_origin n ∙ (ap (origin_at slots) (eqb-true n y is) ∙ out)
      alone_of n false is h = same_origin n ∙ t.alone n h
