-- A call comes, with a node that is used again or is new.
use Rattle.std.proofs.Common.{◌≡◌, ℕ, zero, suc, Bool, true, false, nat_eq, List, [], ◌∷◌, ◌++◌, ◌+◌, ◌-◌, ◌<◌, ◌≤◌, Option, Some, None}
use Rattle.std.proofs.Common.{refl, sym, ap, ◌∙◌, arith, cond, length, map, set, get_or, get_or-set_same, get_or-set_other, length-set}
use Rattle.std.proofs.Common.{drop}
use Rattle.std.proofs.Common.{is_some, eq-eqb}
use Rattle.std.proofs.lemmas.Bool.Decides.{nat_tests}
use Rattle.std.proofs.lemmas.Bool.{eqb-false, eqb-true}
use Rattle.fed_links.specs.Lists.{LinkLists, AreLinkLists, has, stands_in, times, total, with_last, with_free}
use Rattle.fed_table.specs.declared.place.CallPlace.{CallPlace}
use Rattle.fed_table.specs.Table.{has_call}
use Rattle.fed_table.specs.Kept.{owner, with_owner, place_node, items_in, ChangesPlace, AreOwned}
use Rattle.fed_table.proofs.mapped.Maps.{stands_last, total_last, map-last, maps-same}
use Rattle.fed_table.proofs.mapped.Times.{stands_times}
use Rattle.fed_table.proofs.found.Items.{there_is, node_changes}
use Rattle.fed_table.proofs.owned.Owned.{some_one, waiter}

length_more : (n : ℕ) (xs : List ℕ) → length (xs ++ n ∷ []) ≡ length xs + 1
length_more n [] = refl
length_more n (x ∷ xs) = let rest = length_more n xs in omega (arith, rest)

get_more : (xs : List ℕ) (c q : ℕ) → get_or (xs ++ c ∷ []) q 0 ≡ cond (nat_eq q (length xs)) c (get_or xs q 0)
get_more [] c zero = refl
get_more [] c (suc q) = rw none refl
  where
    none : nat_eq (suc q) 0 ≡ false
    none = grind (arith, nat_tests)
get_more (x ∷ xs) c zero = rw none refl
  where
    none : nat_eq 0 (length (x ∷ xs)) ≡ false
    none = grind (arith, nat_tests)
get_more (x ∷ xs) c (suc q) = get_more xs c q ∙ ap (λ t. cond t c (get_or xs q 0)) same
  where
    same : nat_eq q (length xs) ≡ nat_eq (suc q) (length (x ∷ xs))
    same = grind (arith, nat_tests)

-- each other node keeps its call
pub owner_with : (node call : ℕ) (owners : List ℕ) (q : ℕ) → node ≤ length owners
    → owner (with_owner node call owners) q ≡ cond (nat_eq q node) call (owner owners q)
owner_with node call owners q le = by (nat_eq node (length owners)) refl
  where
    set_one : node < length owners → get_or (set owners node call) q 0 ≡ cond (nat_eq q node) call (get_or owners q 0)
    set_one lt = go (nat_eq q node) refl
      where
        go : (u : Bool) → nat_eq q node ≡ u → get_or (set owners node call) q 0 ≡ cond u call (get_or owners q 0)
        go true is = ap (λ k. get_or (set owners node call) k 0) (eqb-true q node is) ∙ get_or-set_same owners node call 0 lt
        go false is = get_or-set_other owners node q call 0 (eqb-false q node is)

    by : (t : Bool) → nat_eq node (length owners) ≡ t
        → owner (cond t (owners ++ call ∷ []) (set owners node call)) q ≡ cond (nat_eq q node) call (owner owners q)
    by true is = get_more owners call q ∙ ap (λ n. cond (nat_eq q n) call (get_or owners q 0)) (sym (eqb-true node (length owners) is))
    by false is = set_one (let ne = eqb-false node (length owners) is in omega (arith, le, ne))

-- the node that was taken, and what is left of the free ones
pub record IsTaken (owners owners' free free' : List ℕ) (node most : ℕ) : Type 0 where
  pub below : node ≤ length owners
  pub cells : length owners' ≡ most + 1 + length free'
  pub no_fewer : length owners ≤ length owners'
  pub within : node < length owners'
  pub left : (m : ℕ) → has m free' ≡ true → has m free ≡ true

module _ (owners free free' : List ℕ) (node call most : ℕ) (cells : length owners ≡ most + length free) where
  new_node : node ≡ most + length free → free' ≡ free → IsTaken owners (with_owner node call owners) free free' node most
  new_node is same = record {
    below = omega (arith, is, cells);
    cells = (let a = long in let b = ap length same in omega (arith, a, b, cells));
    no_fewer = (let a = long in omega (arith, a));
    within = (let a = long in omega (arith, a, is, cells));
    left = λ m h. sym (ap (has m) same) ∙ h;
  }
    where
      here : nat_eq node (length owners) ≡ true
      here = eq-eqb node (length owners) (is ∙ sym cells)

      long : length (with_owner node call owners) ≡ length owners + 1
      long = rw here (length_more call owners)

  used_node : node < length owners → free ≡ node ∷ free' → IsTaken owners (with_owner node call owners) free free' node most
  used_node lt is = record {
    below = omega (arith, lt);
    cells =
        (let a = long in let b : length free ≡ 1 + length free' =
        ap length is ∙ (let e : suc (length free') ≡ 1 + length free' = omega arith in e)
        in omega (arith, a, b, cells));
    no_fewer = (let a = long in omega (arith, a));
    within = (let a = long in omega (arith, a, lt));
    left = λ m h. ap (has m) is ∙ later m (nat_eq m node) h;
  }
    where
      there : nat_eq node (length owners) ≡ false
      there = grind (arith, nat_tests, lt)

      long : length (with_owner node call owners) ≡ length owners
      long = rw there (length-set owners node call)

      later : (m : ℕ) (t : Bool) → has m free' ≡ true → cond t true (has m free') ≡ true
      later m true h = refl
      later m false h = h

pub taken : (owners free free₁ free' : List ℕ) (node call most spare : ℕ) → length owners ≡ most + length free
    → ((m : ℕ) → has m free ≡ true → m < length owners)
    → free₁ ≡ with_free (1 - spare) (most + length free) free → free₁ ≡ node ∷ free'
    → IsTaken owners (with_owner node call owners) free free' node most
taken owners free free₁ free' node call most spare cells within is took = by (1 - spare) refl is
  where
    head : (x : ℕ) (xs : List ℕ) → free₁ ≡ x ∷ xs → x ≡ node
    head x xs e = let both : x ∷ xs ≡ node ∷ free' = sym e ∙ took in grind (arith, both)

    tail : (x : ℕ) (xs : List ℕ) → free₁ ≡ x ∷ xs → xs ≡ free'
    tail x xs e = ap (drop 1) (sym e ∙ took)

    first : has node free ≡ true → node < length owners
    first h = within node h

    by : (n : ℕ) → 1 - spare ≡ n → free₁ ≡ with_free n (most + length free) free
        → IsTaken owners (with_owner node call owners) free free' node most
    by zero one e =
        let all : free ≡ node ∷ free' = sym e ∙ took in
        used_node owners free free' node call most cells
        (within node (ap (has node) all ∙ rw (eq-eqb node node refl) refl)) all
    by (suc zero) one e =
        new_node owners free free' node call most cells (sym (head (most + length free) free e)) (sym (tail (most + length free) free e))
    by (suc (suc n)) one e = absurd (omega (arith, one))

module _ {C : Type 0} (links added : LinkLists) {made : LinkLists} {owners owners' : List ℕ} {places : List (ℕ × CallPlace C)}
    (own : AreOwned links.pages links.free owners places) (are : AreLinkLists made) (node call k : ℕ)
    (same_pages : made.pages ≡ links.pages) (same_waits : made.waits ≡ links.waits)
    (free_is : made.free ≡ with_free (1 - links.spare) (total links.pages + length links.free) links.free)
    (took : made.free ≡ node ∷ added.free) (named : owners' ≡ with_owner node call owners) where
  is_taken : IsTaken owners (with_owner node call owners) links.free added.free node (total links.pages)
  is_taken = taken owners links.free made.free added.free node call (total links.pages) links.spare own.cells own.free_within free_is took

  pub node_below : node ≤ length owners
  node_below = is_taken.below

  -- the node stood in no page list
  out : stands_in node links.pages ≡ false
  out = go (stands_in node made.pages) refl
    where
      first : times node made.free ≡ 1 + times node added.free
      first = ap (times node) took ∙ rw (eq-eqb node node refl) refl

      go : (t : Bool) → stands_in node made.pages ≡ t → stands_in node links.pages ≡ false
      go false e = sym (ap (stands_in node) same_pages) ∙ e
      go true e = absurd
          (let some = stands_times node made.pages e in
          let less = are.once node in
          let one = first in
          omega (arith, some, less, one))

  other : (m : ℕ) → stands_in m links.pages ≡ true → nat_eq m node ≡ false
  other m h = go (nat_eq m node) refl
    where
      go : (t : Bool) → nat_eq m node ≡ t → t ≡ false
      go false e = refl
      go true e = sym h ∙ ap (λ n. stands_in n links.pages) (eqb-true m node e) ∙ out

  calls_are : (q : ℕ) → owner owners' q ≡ cond (nat_eq q node) call (owner owners q)
  calls_are q = ap (λ ns. owner ns q) named ∙ owner_with node call owners q node_below

  call_here : owner owners' node ≡ call
  call_here = calls_are node ∙ rw (eq-eqb node node refl) refl

  call_stays : (m : ℕ) → stands_in m links.pages ≡ true → owner owners' m ≡ owner owners m
  call_stays m h = calls_are m ∙ ap (λ t. cond t call (owner owners m)) (other m h)

  waits_too : (m : ℕ) → stands_in m links.waits ≡ true → stands_in m links.pages ≡ true
  waits_too m h = sym (ap (stands_in m) same_pages) ∙ waiter are m (ap (stands_in m) same_waits ∙ h)

  pub pages_last : added.pages ≡ with_last k node made.pages
      → map (map (owner owners')) added.pages ≡ with_last k call (map (map (owner owners)) links.pages)
  pages_last e =
      ap (map (map (owner owners'))) (e ∙ ap (with_last k node) same_pages)
      ∙ map-last (owner owners') k node links.pages
      ∙ (λ i. with_last k (call_here i) (maps-same (owner owners') (owner owners) links.pages call_stays i))

  pub waits_stay : added.waits ≡ made.waits → map (map (owner owners')) added.waits ≡ map (map (owner owners)) links.waits
  waits_stay e =
      ap (map (map (owner owners'))) (e ∙ same_waits)
      ∙ maps-same (owner owners') (owner owners) links.waits (λ m h. call_stays m (waits_too m h))

  module _ (item : Option C) (places' : List (ℕ × CallPlace C)) (within : k < length made.pages)
      (e : added.pages ≡ with_last k node made.pages) (new : has_call (items_in places) call ≡ false)
      (change : ChangesPlace call (Some (record { node = node; item = item })) places places') where
    no_node : place_node places call ≡ None
    no_node = go (place_node places call) (sym (there_is call places) ∙ new)
      where
        go : (o : Option ℕ) → is_some o ≡ false → o ≡ None
        go None h = refl
        go (Some n) h = absurd (grind (arith, h))

    up : (q : ℕ) → place_node places' q ≡ cond (nat_eq call q) (Some node) (place_node places q)
    up q = node_changes call _ places places' change q

    at : (m : ℕ) → stands_in m added.pages ≡ cond (nat_eq m node) true (stands_in m links.pages)
    at m = ap (stands_in m) e ∙ stands_last m k node made.pages within
        ∙ ap (λ ls. cond (nat_eq m node) true (stands_in m ls)) same_pages

    pub owned_more : AreOwned added.pages added.free owners' places'
    owned_more = record {
      owned = λ m h. owned_at m (nat_eq m node) refl (sym (at m) ∙ h);
      there = λ c m h. there_at c m (nat_eq call c) refl (sym (up c) ∙ h);
      cells = (let a = is_taken.cells in
          let b : total added.pages ≡ total links.pages + 1 =
          ap total e ∙ total_last k node made.pages within ∙ ap (λ ls. total ls + 1) same_pages in
          let d = ap length named in
          omega (arith, a, b, d));
      within = λ m h. within_at m (nat_eq m node) refl (sym (at m) ∙ h);
      free_within = λ m h.
          (let a = own.free_within m (is_taken.left m h) in
          let b = is_taken.no_fewer in
          let d = ap length named in
          omega (arith, a, b, d));
    }
      where
        owned_at : (m : ℕ) (t : Bool) → nat_eq m node ≡ t → cond t true (stands_in m links.pages) ≡ true
            → place_node places' (owner owners' m) ≡ Some m
        owned_at m true is h =
            ap (λ n. place_node places' (owner owners' n)) (eqb-true m node is)
            ∙ ap (place_node places') call_here ∙ up call ∙ rw (eq-eqb call call refl) (ap (λ n. Some n) (sym (eqb-true m node is)))
        owned_at m false is h =
            ap (place_node places') (call_stays m h) ∙ up (owner owners m) ∙ go (nat_eq call (owner owners m)) refl
          where
            go : (u : Bool) → nat_eq call (owner owners m) ≡ u → cond u (Some node) (place_node places (owner owners m)) ≡ Some m
            go false f = own.owned m h
            go true f = absurd
                (let lost : None ≡ Some m = sym no_node ∙ ap (place_node places) (eqb-true call (owner owners m) f) ∙ own.owned m h in
                grind (arith, lost))

        there_at : (c m : ℕ) (t : Bool) → nat_eq call c ≡ t → cond t (Some node) (place_node places c) ≡ Some m
            → (stands_in m added.pages ≡ true) × (owner owners' m ≡ c)
        there_at c m true is h =
            let one : node ≡ m = some_one node m h in (
              ap (λ n. stands_in n added.pages) (sym one) ∙ at node ∙ rw (eq-eqb node node refl) refl,
              ap (owner owners') (sym one) ∙ call_here ∙ eqb-true call c is,
            )
        there_at c m false is h =
            let a = own.there c m h in
            (at m ∙ rw (other m a.0) a.0, call_stays m a.0 ∙ a.1)

        within_at : (m : ℕ) (t : Bool) → nat_eq m node ≡ t → cond t true (stands_in m links.pages) ≡ true → m < length owners'
        within_at m true is h =
            let a = is_taken.within in
            let b = eqb-true m node is in
            let d = ap length named in
            omega (arith, a, b, d)
        within_at m false is h =
            let a = own.within m h in
            let b = is_taken.no_fewer in
            let d = ap length named in
            omega (arith, a, b, d)
