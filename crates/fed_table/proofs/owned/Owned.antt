-- Calls and their nodes: what is found by a call, and as calls wait and go.
use Rattle.std.proofs.Common.{◌≡◌, ℕ, suc, Bool, true, false, nat_eq, List, [], ◌∷◌, ◌++◌, ◌+◌, ◌<◌, ◌≤◌, Option, Some, None}
use Rattle.std.proofs.Common.{refl, sym, ap, ◌∙◌, arith, cond, length, map, subst, is_some, option_map}
use Rattle.std.proofs.lemmas.Bool.Decides.{nat_tests}
use Rattle.std.proofs.lemmas.Bool.{eqb-false, eqb-true}
use Rattle.fed_links.specs.Lists.{LinkLists, AreLinkLists, has, stands_in, times_in, all_without, total, list_at, with_last, first_of}
use Rattle.fed_links.specs.Lists.{with_empty, with_free}
use Rattle.std.specs.Prelude.{Result, Ok, Err, OnOk, OnErr, ◌-◌}
use Rattle.std.proofs.lemmas.List.{length-map}
use Rattle.fed_links.specs.Lists.{after_in, after_among}
use Rattle.fed_table.specs.declared.place.CallPlace.{CallPlace}
use Rattle.fed_table.specs.Table.{has_call, node_in, nodes_of}
use Rattle.fed_table.specs.Kept.{owner, place_node, items_in, nodes_in, ChangesPlace, AreOwned, AreCallLists, calls_shown}
use Rattle.fed_table.proofs.mapped.Maps.{stands_empty, total_empty, empty_one, stands_at, stands_without, list_at-map, total-map, map-last}
use Rattle.fed_table.proofs.mapped.Maps.{first-map, IsOfAll, IsOfNone}
use Rattle.fed_table.proofs.mapped.Maps.{maps-without, maps-none, stands-map, stands-none, among-map, among-none, back-map}
use Rattle.fed_table.proofs.mapped.Times.{stands_times, times_stands, all_times-map, all_times-none, total-without}
use Rattle.fed_table.proofs.mapped.Rest.{first_has, after_has}
use Rattle.fed_table.proofs.found.Items.{node_is, there_is, node_changes}

pub some_one : (m n : ℕ) → Some m ≡ Some n → m ≡ n
some_one m n e = grind (arith, e)

pub none_some : (n : ℕ) → ◌≡◌ {A = Option ℕ} None (Some n) → ⊥
none_some n e = grind (arith, e)

pub first_stands : (n k : ℕ) (lists : List (List ℕ)) → first_of (list_at lists k) ≡ Some n → stands_in n lists ≡ true
first_stands n k lists e = stands_at n k lists (first_has n (list_at lists k) e)

pub after_stands : (n m : ℕ) (lists : List (List ℕ)) → after_among lists n ≡ Some m → stands_in m lists ≡ true
after_stands n m [] e = absurd (grind (arith, e))
after_stands n m (xs ∷ more) e = by (has n xs) e (after_stands n m more)
  where
    go : (t : Bool) → stands_in m more ≡ true → cond t true (stands_in m more) ≡ true
    go true h = refl
    go false h = h

    by : (t : Bool) → cond t (after_in xs n) (after_among more n) ≡ Some m → (after_among more n ≡ Some m → stands_in m more ≡ true)
        → stands_in m (xs ∷ more) ≡ true
    by true h rest = rw (after_has n m xs h) refl
    by false h rest = go (has m xs) (rest h)

-- a node that waits stands in a page list
pub waiter : {links : LinkLists} → AreLinkLists links → (n : ℕ) → stands_in n links.waits ≡ true → stands_in n links.pages ≡ true
waiter {links} are n e = times_stands n links.pages
    (let some = stands_times n links.waits e in let less = are.waiting n in omega (arith, some, less))

module _ {C : Type 0} {pages : List (List ℕ)} {free owners : List ℕ} {places : List (ℕ × CallPlace C)}
    (own : AreOwned pages free owners places) where
  module _ (c n : ℕ) (at : place_node places c ≡ Some n) where
    pub node_there : stands_in n pages ≡ true
    node_there = (own.there c n at).0

    pub owner_is : owner owners n ≡ c
    owner_is = (own.there c n at).1

    pub alike : IsOfAll (owner owners) c n pages
    alike m h = go (nat_eq c (owner owners m)) (nat_eq n m) refl refl
      where
        go : (t u : Bool) → nat_eq c (owner owners m) ≡ t → nat_eq n m ≡ u → t ≡ u
        go true true a b = refl
        go false false a b = refl
        go true false a b = absurd
            (eqb-false n m b (some_one n m (sym at ∙ (ap (place_node places) (eqb-true c (owner owners m) a) ∙ own.owned m h))))
        go false true a b = absurd (eqb-false c (owner owners m) a (sym owner_is ∙ ap (owner owners) (eqb-true n m b)))

    -- the call goes
    pub owned_after : (pages' : List (List ℕ)) (free' : List ℕ) (places' : List (ℕ × CallPlace C)) → pages' ≡ all_without n pages
        → free' ≡ n ∷ free → total pages' + length free' ≡ total pages + length free → ChangesPlace c None places places'
        → AreOwned pages' free' owners places'
    owned_after pages' free' places' e f sum change = record {
      owned = λ m h. let a = was m (nat_eq m n) refl (sym (still m) ∙ h) in node_up (owner owners m) (alike m a.0 ∙ a.1) ∙ own.owned m a.0;
      there = λ q m h. back q m (nat_eq c q) refl (sym (up q) ∙ h);
      cells = own.cells ∙ sym sum;
      within = λ m h. own.within m (was m (nat_eq m n) refl (sym (still m) ∙ h)).0;
      free_within = λ m h. free_in m (nat_eq m n) refl (sym (ap (has m) f) ∙ h);
    }
      where
        still : (m : ℕ) → stands_in m pages' ≡ cond (nat_eq m n) false (stands_in m pages)
        still m = ap (stands_in m) e ∙ stands_without m n pages

        was : (m : ℕ) (t : Bool) → nat_eq m n ≡ t → cond t false (stands_in m pages) ≡ true
            → (stands_in m pages ≡ true) × (nat_eq n m ≡ false)
        was m true is h = absurd (grind (arith, h))
        was m false is h = (h, (let s : nat_eq n m ≡ false = grind (arith, nat_tests, is) in s))

        up : (q : ℕ) → place_node places' q ≡ cond (nat_eq c q) None (place_node places q)
        up q = node_changes c None places places' change q

        node_up : (q : ℕ) → nat_eq c q ≡ false → place_node places' q ≡ place_node places q
        node_up q ne = up q ∙ rw ne refl

        free_in : (m : ℕ) (t : Bool) → nat_eq m n ≡ t → cond t true (has m free) ≡ true → m < length owners
        free_in m true is h = subst (λ (k : ℕ). k < length owners) (sym (eqb-true m n is)) (own.within n node_there)
        free_in m false is h = own.free_within m h

        back : (q m : ℕ) (t : Bool) → nat_eq c q ≡ t → cond t None (place_node places q) ≡ Some m
            → (stands_in m pages' ≡ true) × (owner owners m ≡ q)
        back q m true is h = absurd (none_some m h)
        back q m false is h =
            let a = own.there q m h in
            let other : nat_eq m n ≡ false =
            (let b = alike m a.0 in
            let d : nat_eq c (owner owners m) ≡ false = rw a.1 is in
            let s : nat_eq n m ≡ false = sym b ∙ d in
            grind (arith, nat_tests, s)) in
            (still m ∙ rw other a.0, a.1)

  module _ (c : ℕ) (at : place_node places c ≡ None) where
    pub apart : IsOfNone (owner owners) c pages
    apart m h = go (nat_eq c (owner owners m)) refl
      where
        lost : nat_eq c (owner owners m) ≡ true → None ≡ Some m
        lost e = sym at ∙ (ap (place_node places) (eqb-true c (owner owners m) e) ∙ own.owned m h)

        go : (t : Bool) → nat_eq c (owner owners m) ≡ t → t ≡ false
        go false e = refl
        go true e = absurd (none_some m (lost e))

  pub first_within : (k n : ℕ) → first_of (list_at pages k) ≡ Some n → n < length owners
  first_within k n e = own.within n (first_stands n k pages e)

  pub next_within : (n m : ℕ) → after_among pages n ≡ Some m → m < length owners
  next_within n m e = own.within m (after_stands n m pages e)

  pub pages_after : (c n : ℕ) → place_node places c ≡ Some n → (pages' : List (List ℕ)) → pages' ≡ all_without n pages
      → map (map (owner owners)) pages' ≡ all_without c (map (map (owner owners)) pages)
  pages_after c n at pages' e = ap (map (map (owner owners))) e ∙ maps-without (owner owners) c n pages (alike c n at)

  pub pages_stay : (c : ℕ) → place_node places c ≡ None
      → map (map (owner owners)) pages ≡ all_without c (map (map (owner owners)) pages)
  pages_stay c at = maps-none (owner owners) c pages (apart c at)

  pub next_page : (c n : ℕ) (o : Option ℕ) → place_node places c ≡ Some n → o ≡ after_among pages n
      → option_map (owner owners) o ≡ after_among (map (map (owner owners)) pages) c
  next_page c n o at e = ap (option_map (owner owners)) e ∙ sym (among-map (owner owners) c n pages (alike c n at))

  pub no_next_page : (c : ℕ) → place_node places c ≡ None → None ≡ after_among (map (map (owner owners)) pages) c
  no_next_page c at = sym (among-none (owner owners) c pages (apart c at))

-- the first call of a list, by its first node
pub first_call : (owners : List ℕ) (lists : List (List ℕ)) (k : ℕ) (o : Option ℕ) → o ≡ first_of (list_at lists k)
    → option_map (owner owners) o ≡ first_of (list_at (map (map (owner owners)) lists) k)
first_call owners lists k o e = ap (option_map (owner owners)) e ∙ sym (first-map (owner owners) (list_at lists k))
    ∙ ap first_of (sym (list_at-map (owner owners) lists k))

pub not_there : {C : Type 0} (c : ℕ) (places : List (ℕ × CallPlace C)) → place_node places c ≡ None
    → has_call (items_in places) c ≡ true → ⊥
not_there c places at e = let none : has_call (items_in places) c ≡ false = there_is c places ∙ ap is_some at in grind (arith, none, e)

-- a call goes that was not there
pub gone_stays : {C : Type 0} (c : ℕ) (old new : List (ℕ × CallPlace C)) → place_node old c ≡ None → ChangesPlace c None old new → (q : ℕ)
    → place_node new q ≡ place_node old q
gone_stays c old new none change q = node_changes c None old new change q ∙ by (nat_eq c q) refl
  where
    by : (t : Bool) → nat_eq c q ≡ t → cond t None (place_node old q) ≡ place_node old q
    by true is = sym none ∙ ap (place_node old) (eqb-true c q is)
    by false is = refl

-- the same lists and the same nodes of calls
pub owned_same : {C : Type 0} (pages pages' : List (List ℕ)) (free free' owners : List ℕ) (places places' : List (ℕ × CallPlace C))
    → AreOwned pages free owners places → pages' ≡ pages → free' ≡ free → ((q : ℕ) → place_node places' q ≡ place_node places q)
    → AreOwned pages' free' owners places'
owned_same pages pages' free free' owners places places' own e f same = record {
  owned = λ n h. same (owner owners n) ∙ own.owned n (sym (ap (stands_in n) e) ∙ h);
  there = λ c n h. let a = own.there c n (sym (same c) ∙ h) in (ap (stands_in n) e ∙ a.0, a.1);
  cells = own.cells ∙ (λ i. total (sym e i) + length (sym f i));
  within = λ n h. own.within n (sym (ap (stands_in n) e) ∙ h);
  free_within = λ n h. own.free_within n (sym (ap (has n) f) ∙ h);
}

-- one page list more, without a node
pub owned_empty : {C A E : Type 0} (r : Result A E) (links links' : LinkLists) {owners : List ℕ} {places : List (ℕ × CallPlace C)} (n : ℕ)
    → AreOwned links.pages links.free owners places
    → OnOk r (links'.pages ≡ with_empty n links.pages)
    → OnOk r (links'.free ≡ with_free (0 - links.spare) (total links.pages + length links.free) links.free)
    → OnErr r (links' ≡ links) → n ≡ length (map (map (owner owners)) links.pages) + 1 → AreOwned links'.pages links'.free owners places
owned_empty (Err e) links links' {owners} {places} n own a b same count =
    subst (λ (l : LinkLists). AreOwned l.pages l.free owners places) (sym same) own
owned_empty (Ok x) links links' {owners} {places} n own a b same count = record {
  owned = λ n h. own.owned n (sym (stands n) ∙ h);
  there = λ c n h. let a = own.there c n h in (stands n ∙ a.0, a.1);
  cells = own.cells ∙ (λ i. sym sum i + length (sym free i));
  within = λ n h. own.within n (sym (stands n) ∙ h);
  free_within = λ n h. own.free_within n (sym (ap (has n) free) ∙ h);
}
  where
    more : links'.pages ≡ links.pages ++ [] ∷ []
    more = a ∙ empty_one links.pages n (let l = length-map links.pages (map (owner owners)) in omega (arith, count, l))

    stands : (m : ℕ) → stands_in m links'.pages ≡ stands_in m links.pages
    stands m = ap (stands_in m) more ∙ stands_empty m links.pages

    sum : total links'.pages ≡ total links.pages
    sum = ap total more ∙ total_empty links.pages

    free : links'.free ≡ links.free
    free = b ∙ ap (λ k. with_free k (total links.pages + length links.free) links.free) none
      where
        none : 0 - links.spare ≡ 0
        none = omega arith

module _ {C : Type 0} {links : LinkLists} {owners : List ℕ} {places : List (ℕ × CallPlace C)}
    (own : AreOwned links.pages links.free owners places) (are : AreLinkLists links) where
  pub waiting_alike : (c n : ℕ) → place_node places c ≡ Some n → IsOfAll (owner owners) c n links.waits
  waiting_alike c n at m h = alike own c n at m (waiter are m h)

  pub waiting_apart : (c : ℕ) → place_node places c ≡ None → IsOfNone (owner owners) c links.waits
  waiting_apart c at m h = apart own c at m (waiter are m h)

  -- a node that waits with its call, and a call that waits with its node
  pub waits_by_node : (c n : ℕ) → place_node places c ≡ Some n
      → stands_in c (map (map (owner owners)) links.waits) ≡ stands_in n links.waits
  waits_by_node c n at = stands-map (owner owners) c n links.waits (waiting_alike c n at)

  pub idle_without : (c : ℕ) → place_node places c ≡ None → stands_in c (map (map (owner owners)) links.waits) ≡ false
  idle_without c at = stands-none (owner owners) c links.waits (waiting_apart c at)

  pub waits_after : (c n : ℕ) → place_node places c ≡ Some n → (waits' : List (List ℕ)) → waits' ≡ all_without n links.waits
      → map (map (owner owners)) waits' ≡ all_without c (map (map (owner owners)) links.waits)
  waits_after c n at waits' e = ap (map (map (owner owners))) e ∙ maps-without (owner owners) c n links.waits (waiting_alike c n at)

  pub waits_stay : (c : ℕ) → place_node places c ≡ None
      → map (map (owner owners)) links.waits ≡ all_without c (map (map (owner owners)) links.waits)
  waits_stay c at = maps-none (owner owners) c links.waits (waiting_apart c at)

  pub first_waits_within : (k n : ℕ) → first_of (list_at links.waits k) ≡ Some n → n < length owners
  first_waits_within k n e = own.within n (waiter are n (first_stands n k links.waits e))

  pub next_waits_within : (n m : ℕ) → after_among links.waits n ≡ Some m → m < length owners
  next_waits_within n m e = own.within m (waiter are m (after_stands n m links.waits e))

  pub waits_last : (c n k : ℕ) → place_node places c ≡ Some n → (waits' : List (List ℕ)) → waits' ≡ with_last k n links.waits
      → map (map (owner owners)) waits' ≡ with_last k c (map (map (owner owners)) links.waits)
  waits_last c n k at waits' e = ap (map (map (owner owners))) e ∙ map-last (owner owners) k n links.waits
      ∙ ap (λ c. with_last k c (map (map (owner owners)) links.waits)) (owner_is own c n at)

  times_node : (n : ℕ) → stands_in n links.pages ≡ true → times_in n links.pages ≡ 1
  times_node n e = let some = stands_times n links.pages e in let less = are.once n in omega (arith, some, less)

  pub removed_total : (n : ℕ) → stands_in n links.pages ≡ true → (links' : LinkLists) → links'.pages ≡ all_without n links.pages
      → links'.free ≡ n ∷ links.free → total links'.pages + length links'.free ≡ total links.pages + length links.free
  removed_total n e links' a b =
      let one = times_node n e in
      let all = total-without n links.pages in
      let pages = ap total a in
      let free : length links'.free ≡ length links.free + 1 =
      ap length b ∙ (let s : suc (length links.free) ≡ length links.free + 1 = omega arith in s) in
      omega (arith, one, all, pages, free)

  node_for : (q : ℕ) (n : ℕ) → node_in (nodes_in places) q ≡ Some n → place_node places q ≡ Some n
  node_for q n e = sym (node_is q places) ∙ e

  page_back : (xs : List ℕ) → ((m : ℕ) → has m xs ≡ true → stands_in m links.pages ≡ true)
      → xs ≡ nodes_of (nodes_in places) (map (owner owners) xs)
  page_back xs h = back-map (owner owners) (node_in (nodes_in places)) xs
      (λ m e. node_is (owner owners m) places ∙ own.owned m (h m e))

  pub call_lists : AreCallLists (calls_shown links owners places)
  call_lists = record {
    standing = λ c. stands c (place_node places c) refl ∙ ap (λ t. cond t 1 0) (sym (there_is c places));
    waiting = λ c. subst (λ t. times_in c (map (map (owner owners)) links.waits) ≤ cond t 1 0) (sym (there_is c places))
        (waits c (place_node places c) refl);
    few = (let a = are.few in let b = total-map (owner owners) links.pages in omega (arith, a, b));
    noded = λ c. ap is_some (node_is c places) ∙ sym (there_is c places);
    apart = λ a b n e f. sym (owner_is own a n (node_for a n e)) ∙ owner_is own b n (node_for b n f);
    page_nodes = λ k. page_back (list_at links.pages k) (λ m h. stands_at m k links.pages h)
        ∙ ap (nodes_of (nodes_in places)) (sym (list_at-map (owner owners) links.pages k));
    wait_nodes = λ k. page_back (list_at links.waits k) (λ m h. waiter are m (stands_at m k links.waits h))
        ∙ ap (nodes_of (nodes_in places)) (sym (list_at-map (owner owners) links.waits k));
  }
    where
      stands : (c : ℕ) (o : Option ℕ) → place_node places c ≡ o
          → times_in c (map (map (owner owners)) links.pages) ≡ cond (is_some o) 1 0
      stands c None e = all_times-none (owner owners) c links.pages (apart own c e)
      stands c (Some n) e = all_times-map (owner owners) c n links.pages (alike own c n e) ∙ times_node n (node_there own c n e)

      waits : (c : ℕ) (o : Option ℕ) → place_node places c ≡ o
          → times_in c (map (map (owner owners)) links.waits) ≤ cond (is_some o) 1 0
      waits c None e = let none = all_times-none (owner owners) c links.waits (waiting_apart c e) in omega (arith, none)
      waits c (Some n) e =
          let is = all_times-map (owner owners) c n links.waits (waiting_alike c n e) in
          let less = are.waiting n in
          let one = times_node n (node_there own c n e) in
          omega (arith, is, less, one)

  -- a call that waits, or is in the table, has a node
  pub not_waiting : (c : ℕ) → place_node places c ≡ None → stands_in c (map (map (owner owners)) links.waits) ≡ true → ⊥
  not_waiting c at e = let none = idle_without c at in grind (arith, none, e)

  pub next_wait : (c n : ℕ) (o : Option ℕ) → place_node places c ≡ Some n → o ≡ after_among links.waits n
      → option_map (owner owners) o ≡ after_among (map (map (owner owners)) links.waits) c
  next_wait c n o at e = ap (option_map (owner owners)) e ∙ sym (among-map (owner owners) c n links.waits (waiting_alike c n at))

  pub no_next_wait : (c : ℕ) → place_node places c ≡ None → None ≡ after_among (map (map (owner owners)) links.waits) c
  no_next_wait c at = sym (among-none (owner owners) c links.waits (waiting_apart c at))
