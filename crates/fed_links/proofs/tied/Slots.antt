-- Each call keeps the indexes tied to the lists.
use Rattle.std.proofs.Common.{◌≡◌, ℕ, Bool, true, false, nat_eq, nat_lt, List, [], ◌∷◌, ◌<◌, ◌≤◌, Some, None, refl, sym, ap, ◌∙◌, arith}
use Rattle.std.proofs.Common.{cond, length, set, get_or-set_same, get_or-set_other, subst, length-set}
use Rattle.std.proofs.lemmas.Bool.Decides.{nat_tests}
use Rattle.std.proofs.lemmas.Bool.{eqb-false, eqb-true}
use Rattle.std.proofs.lemmas.List.{get_or_past}
use Rattle.std.specs.Prelude.{Option, IfSome}
use Rattle.fed_links.specs.Lists.{has, list_at}
use Rattle.fed_links.specs.Threads.{same_link, link_from, IsFamily, ends_at, AreFree, slot_at, blank, after_at, page_at, origin_at}
use Rattle.fed_links.specs.Changes.{with_slot}
use Rattle.fed_links.specs.declared.node.Ends.{Ends}
use Rattle.fed_links.specs.declared.node.Slot.{Slot}
use Rattle.fed_links.proofs.threads.Seams.{one_of_same, same_self, has_first, has_later, before_other, after_other, last_other}

-- ---- slots

pub slot_at-set : (slots : List Slot) (n m : ℕ) (v : Slot) → n < length slots
    → slot_at (set slots n v) m ≡ cond (nat_eq m n) v (slot_at slots m)
slot_at-set slots n m v le = go (nat_eq m n) refl
  where
    go : (t : Bool) → nat_eq m n ≡ t → slot_at (set slots n v) m ≡ cond t v (slot_at slots m)
    go true is = rw (eqb-true m n is) (get_or-set_same slots n v blank le)
    go false is = get_or-set_other slots n m v blank (eqb-false m n is)

pub slot_at-with_slot : (f : Slot → Slot) (slots : List Slot) (p : Option ℕ) (m : ℕ) → IfSome p (λ n. n < length slots)
    → slot_at (with_slot f slots p) m ≡ cond (same_link (Some m) p) (f (slot_at slots m)) (slot_at slots m)
slot_at-with_slot f slots None m le = refl
slot_at-with_slot f slots (Some n) m le = slot_at-set slots n m (f (slot_at slots n)) le ∙ go (nat_eq m n) refl
  where
    go : (t : Bool) → nat_eq m n ≡ t → cond t (f (slot_at slots n)) (slot_at slots m) ≡ cond t (f (slot_at slots m)) (slot_at slots m)
    go true is = ap (λ k. f (slot_at slots k)) (sym (eqb-true m n is))
    go false is = refl

pub length-with_slot : (f : Slot → Slot) (slots : List Slot) (p : Option ℕ) → length (with_slot f slots p) ≡ length slots
length-with_slot f slots None = refl
length-with_slot f slots (Some n) = length-set slots n (f (slot_at slots n))

pub within_same : (p : Option ℕ) (m n : ℕ) → m ≡ n → IfSome p (λ k. k < n) → IfSome p (λ k. k < m)
within_same p m n e h = subst (λ (l : ℕ). IfSome p (λ k. k < l)) (sym e) h

-- ---- what has a home is in range, and so are its neighbours

pub page_within : (slots : List Slot) (n k : ℕ) → page_at slots n ≡ Some k → n < length slots
page_within slots n k h = go (nat_lt n (length slots)) refl
  where
    go : (t : Bool) → nat_lt n (length slots) ≡ t → n < length slots
    go true is = grind (arith, nat_tests, is)
    go false is =
        let far : length slots ≤ n = grind (arith, nat_tests, is) in
        let lost : page_at slots n ≡ None = ap (λ (s : Slot). s.page) (get_or_past slots n blank far) in
        grind (arith, h, lost)

pub origin_within : (slots : List Slot) (n k : ℕ) → origin_at slots n ≡ Some k → n < length slots
origin_within slots n k h = go (nat_lt n (length slots)) refl
  where
    go : (t : Bool) → nat_lt n (length slots) ≡ t → n < length slots
    go true is = grind (arith, nat_tests, is)
    go false is =
        let far : length slots ≤ n = grind (arith, nat_tests, is) in
        let lost : origin_at slots n ≡ None = ap (λ (s : Slot). s.origin) (get_or_past slots n blank far) in
        grind (arith, h, lost)

module _ (after before home : ℕ → Option ℕ) (ends : List Ends) (lists : List (List ℕ)) (f : IsFamily after before home ends lists) where
  home_within : (n k : ℕ) → home n ≡ Some k → k < length ends → k < length ends
  home_within n k h l = l

  stood : (y k : ℕ) → home y ≡ Some k → has y (list_at lists k) ≡ true
  stood y k h = (f k).homes y ∙ rw h (same_self (Some k))

  away : (m k : ℕ) → same_link (home m) (Some k) ≡ false → has m (list_at lists k) ≡ false
  away m k h = (f k).homes m ∙ h

  -- what is in another list, or in none, is no neighbour
  pub not_before : (y k m : ℕ) → home y ≡ Some k → same_link (home m) (Some k) ≡ false → same_link (Some m) (before y) ≡ false
  not_before y k m h o =
      before_other (link_from (ends_at ends k).first after) (link_from (ends_at ends k).last before) (Some m) None (list_at lists k) y
      (f k).seam (stood y k h) refl (away m k o)

  pub not_after : (y k m : ℕ) → home y ≡ Some k → same_link (home m) (Some k) ≡ false → same_link (Some m) (after y) ≡ false
  not_after y k m h o =
      after_other (link_from (ends_at ends k).first after) (link_from (ends_at ends k).last before) m None (list_at lists k) y (f k).seam
      (stood y k h) (away m k o)

  pub not_last : (k m : ℕ) → same_link (home m) (Some k) ≡ false → same_link (Some m) (ends_at ends k).last ≡ false
  not_last k m o =
      last_other (link_from (ends_at ends k).first after) (link_from (ends_at ends k).last before) (Some m) None (list_at lists k)
      (f k).seam refl (away m k o)

  near : (p : Option ℕ) (k : ℕ) → ((m : ℕ) → same_link (home m) (Some k) ≡ false → same_link (Some m) p ≡ false)
      → IfSome p (λ m. home m ≡ Some k)
  near None k h = tt
  near (Some m) k h = go (same_link (home m) (Some k)) refl
    where
      go : (t : Bool) → same_link (home m) (Some k) ≡ t → home m ≡ Some k
      go true is = one_of_same (home m) (Some k) is
      go false is = let a = h m is in let b = same_self (Some m) in grind (arith, a, b)

  pub before_home : (y k : ℕ) → home y ≡ Some k → IfSome (before y) (λ m. home m ≡ Some k)
  before_home y k h = near (before y) k (λ m. not_before y k m h)

  pub after_home : (y k : ℕ) → home y ≡ Some k → IfSome (after y) (λ m. home m ≡ Some k)
  after_home y k h = near (after y) k (λ m. not_after y k m h)

  pub last_home : (k : ℕ) → IfSome (ends_at ends k).last (λ m. home m ≡ Some k)
  last_home k = near (ends_at ends k).last k (λ m. not_last k m)

pub within_page : (slots : List Slot) (p : Option ℕ) (k : ℕ) → IfSome p (λ m. page_at slots m ≡ Some k) → IfSome p (λ m. m < length slots)
within_page slots None k h = tt
within_page slots (Some m) k h = page_within slots m k h

pub within_origin : (slots : List Slot) (p : Option ℕ) (k : ℕ) → IfSome p (λ m. origin_at slots m ≡ Some k)
    → IfSome p (λ m. m < length slots)
within_origin slots None k h = tt
within_origin slots (Some m) k h = origin_within slots m k h

-- a list that is someone's home is there
pub home_there : (after before home : ℕ → Option ℕ) (ends : List Ends) (lists : List (List ℕ)) → IsFamily after before home ends lists
    → length lists ≡ length ends → (y k : ℕ) → home y ≡ Some k → k < length ends
home_there after before home ends lists f count y k h = go (nat_lt k (length ends)) refl
  where
    go : (t : Bool) → nat_lt k (length ends) ≡ t → k < length ends
    go true is = grind (arith, nat_tests, is)
    go false is =
        let far : length lists ≤ k = (let e : length ends ≤ k = grind (arith, nat_tests, is) in omega (arith, e, count)) in
        let empty : list_at lists k ≡ [] = get_or_past lists k [] far in
        let a : has y (list_at lists k) ≡ true = (f k).homes y ∙ rw h (same_self (Some k)) in
        let b : has y (list_at lists k) ≡ false = ap (λ xs. has y xs) empty in
        grind (arith, a, b)

-- ---- the free nodes

pub free_same : (slots slots' : List Slot) (o : Option ℕ) (xs : List ℕ) → AreFree slots o xs → length slots' ≡ length slots
    → ((n : ℕ) → has n xs ≡ true → page_at slots n ≡ None → (page_at slots' n ≡ None) × (after_at slots' n ≡ after_at slots n))
    → AreFree slots' o xs
free_same slots slots' o [] c le h = c
free_same slots slots' o (x ∷ xs) c le h =
    let at = h x (has_first x xs) c.2 in (
      c.0,
      (let a = c.1 in omega (arith, a, le)),
      at.0,
      subst (λ p. AreFree slots' p xs) (sym at.1) (free_same slots slots' (after_at slots x) xs c.3 le (λ n m. h n (has_later n x xs m))),
    )

pub free_home : (slots : List Slot) (o : Option ℕ) (xs : List ℕ) (n : ℕ) → AreFree slots o xs → has n xs ≡ true → page_at slots n ≡ None
free_home slots o [] n c h = grind (arith, h)
free_home slots o (x ∷ xs) n c h = pick (nat_eq n x) refl (free_home slots (after_at slots x) xs n c.3)
  where
    pick : (t : Bool) → nat_eq n x ≡ t → (has n xs ≡ true → page_at slots n ≡ None) → page_at slots n ≡ None
    pick true is more = ap (page_at slots) (eqb-true n x is) ∙ c.2
    pick false is more = more (let e : has n xs ≡ true = grind (arith, nat_tests, is, h) in e)

-- a node of the rest is another than the first
pub not_of_rest : (y n : ℕ) (xs : List ℕ) → has y xs ≡ false → has n xs ≡ true → nat_eq n y ≡ false
not_of_rest y n xs a b = go (nat_eq n y) refl
  where
    go : (t : Bool) → nat_eq n y ≡ t → t ≡ false
    go false is = refl
    go true is = sym b ∙ (ap (λ m. has m xs) (eqb-true n y is) ∙ a)
