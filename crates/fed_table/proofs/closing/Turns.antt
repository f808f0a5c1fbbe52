-- One turn of closing a page: what is done to the calls that are left is what is done to all.
use Rattle.std.proofs.Common.{◌≡◌, ℕ, suc, ◌+◌, ◌<◌, ◌≤◌, Bool, true, false, cond, nat_eq, List, [], ◌∷◌}
use Rattle.std.proofs.Common.{length, drop, Option, Some, None, refl, sym, ap, ◌∙◌, arith, eq-eqb}
use Rattle.std.specs.Prelude.{◌||◌, slice_get, unwrap_or}
use Rattle.std.proofs.lemmas.Bool.Decides.{nat_tests}
use Rattle.std.specs.Map.{lookup, set_value}
use Rattle.fed_table.specs.Lists.{has, without, without_calls, times, times_in, total, calls_at, all_without, all_without_calls, emptied}
use Rattle.fed_table.specs.Table.{item_of, ChangesItem}
use Rattle.fed_table.proofs.closing.Counts.{without_none}

pub first_is : (c : ℕ) (xs : List ℕ) → slice_get xs 0 ≡ Some c → xs ≡ c ∷ drop 1 xs
first_is c [] h = absurd cc
first_is c (x ∷ xs) h = let e : x ≡ c = cc in ap (λ z. z ∷ xs) e

pub none_is : (xs : List ℕ) → slice_get xs 0 ≡ None → xs ≡ []
none_is [] h = refl
none_is (x ∷ xs) h = absurd cc

pub once_of : (n : ℕ) (t : Bool) → n ≡ cond t 1 0 → n ≤ 1
once_of n true e = omega (arith, e)
once_of n false e = omega (arith, e)

pub times_first : (c : ℕ) (xs : List ℕ) → times c (c ∷ xs) ≡ suc (times c xs)
times_first c xs = rw (eq-eqb c c refl) (omega arith)

module _ {K : Type 0} (test : K → Bool) where
  pub times_within : (c : ℕ) (lists : List (K × List ℕ)) → times c (calls_at test lists) ≤ times_in c lists
  times_within c [] = omega arith
  times_within c (e ∷ es) = by (test e.0) (times_within c es)
    where
      by : (t : Bool) → times c (calls_at test es) ≤ times_in c es
          → times c (unwrap_or (cond t (Some e.1) (lookup test es)) []) ≤ times c e.1 + times_in c es
      by true rest = omega arith
      by false rest = omega (arith, rest)

  pub total_within : (lists : List (K × List ℕ)) → length (calls_at test lists) ≤ total lists
  total_within [] = omega arith
  total_within (e ∷ es) = by (test e.0) (total_within es)
    where
      by : (t : Bool) → length (calls_at test es) ≤ total es
          → length (unwrap_or (cond t (Some e.1) (lookup test es)) []) ≤ length e.1 + total es
      by true rest = omega arith
      by false rest = omega (arith, rest)

  calls_without : (c : ℕ) (lists : List (K × List ℕ)) → calls_at test (all_without c lists) ≡ without c (calls_at test lists)
  calls_without c [] = refl
  calls_without c (e ∷ es) = by (test e.0) (calls_without c es)
    where
      by : (t : Bool) → calls_at test (all_without c es) ≡ without c (calls_at test es)
          → unwrap_or (cond t (Some (without c e.1)) (lookup test (all_without c es))) []
          ≡ without c (unwrap_or (cond t (Some e.1) (lookup test es)) [])
      by true rest = refl
      by false rest = rest

  none_left : (c : ℕ) (lists : List (K × List ℕ)) → times_in c lists ≡ 0 → all_without c lists ≡ lists
  none_left c [] none = refl
  none_left c (e ∷ es) none =
      let here : times c e.1 ≡ 0 = omega (arith, none) in
      let more : times_in c es ≡ 0 = omega (arith, none) in
      let head = without_none c e.1 here in
      let rest = none_left c es more in
      λ i. (e.0, sym head i) ∷ rest i

  others_stay : (c : ℕ) (lists : List (K × List ℕ)) → times_in c lists ≤ 1 → 0 < times c (calls_at test lists)
      → emptied test (all_without c lists) ≡ emptied test lists
  others_stay c [] once some = refl
  others_stay c (e ∷ es) once some = by (test e.0) some (others_stay c es)
    where
      by : (t : Bool) → 0 < times c (unwrap_or (cond t (Some e.1) (lookup test es)) [])
          → (times_in c es ≤ 1 → 0 < times c (calls_at test es) → emptied test (all_without c es) ≡ emptied test es)
          → cond t ((e.0, []) ∷ all_without c es) ((e.0, without c e.1) ∷ set_value test (all_without c es) [])
          ≡ cond t ((e.0, []) ∷ es) (e ∷ set_value test es [])
      by true here rest =
          let none : times_in c es ≡ 0 = omega (arith, here, once) in
          ap (λ ls. (e.0, []) ∷ ls) (none_left c es none)
      by false there rest =
          let within = times_within c es in
          let less : times_in c es ≤ 1 = omega (arith, once) in
          let none : times c e.1 ≡ 0 = omega (arith, once, within, there) in
          let head = without_none c e.1 none in
          let more = rest less there in
          λ i. (e.0, sym head i) ∷ more i

  module _ (c : ℕ) (lists : List (K × List ℕ)) (once : times_in c lists ≤ 1)
      (first : slice_get (calls_at test lists) 0 ≡ Some c) where
    list_is : calls_at test lists ≡ c ∷ drop 1 (calls_at test lists)
    list_is = first_is c (calls_at test lists) first

    count_is : times c (calls_at test lists) ≡ suc (times c (drop 1 (calls_at test lists)))
    count_is = ap (times c) list_is ∙ times_first c (drop 1 (calls_at test lists))

    none_more : times c (drop 1 (calls_at test lists)) ≡ 0
    none_more = let within = times_within c lists in let is = count_is in omega (arith, once, within, is)

    pub left_is : calls_at test (all_without c lists) ≡ drop 1 (calls_at test lists)
    left_is =
        calls_without c lists ∙ ap (without c) list_is
        ∙ rw (eq-eqb c c refl) (sym (without_none c (drop 1 (calls_at test lists)) none_more))

    pub same_emptied : emptied test (all_without c lists) ≡ emptied test lists
    same_emptied = others_stay c lists once (let is = count_is in omega (arith, is))

    pub length_is : length (calls_at test lists) ≡ suc (length (calls_at test (all_without c lists)))
    length_is = ap length list_is ∙ ap (λ xs. suc (length xs)) (sym left_is)

    pub same_waits : {J : Type 0} (waits : List (J × List ℕ))
        → all_without_calls (calls_at test (all_without c lists)) (all_without c waits) ≡ all_without_calls (calls_at test lists) waits
    same_waits waits = ap (λ xs. all_without_calls xs (all_without c waits)) left_is ∙ by waits
        ∙ ap (λ xs. all_without_calls xs waits) (sym list_is)
      where
        by : {J : Type 0} (waits : List (J × List ℕ)) → all_without_calls (drop 1 (calls_at test lists)) (all_without c waits)
            ≡ all_without_calls (c ∷ drop 1 (calls_at test lists)) waits
        by [] = refl
        by (w ∷ ws) = ap (λ ls. (w.0, without_calls (drop 1 (calls_at test lists)) (without c w.1)) ∷ ls) (by ws)

    pub same_items : {C : Type 0} (old new : List (ℕ × Option C)) → ChangesItem c None old new → (q : ℕ)
        → cond (has q (calls_at test (all_without c lists))) None (item_of new q)
        ≡ cond (has q (calls_at test lists)) None (item_of old q)
    same_items old new change q =
        ap (λ xs. cond (has q xs) None (item_of new q)) left_is
        ∙ ap (λ o. cond (has q (drop 1 (calls_at test lists))) None o) (change q)
        ∙ by (item_of old q) (has q (drop 1 (calls_at test lists))) (nat_eq c q) (nat_eq q c)
        (let e : nat_eq c q ≡ nat_eq q c = flips c q in e)
        ∙ ap (λ xs. cond (has q xs) None (item_of old q)) (sym list_is)
      where
        flips : (a b : ℕ) → nat_eq a b ≡ nat_eq b a
        flips a b = go (nat_eq a b) (nat_eq b a) refl refl
          where
            go : (t u : Bool) → nat_eq a b ≡ t → nat_eq b a ≡ u → t ≡ u
            go true true x y = refl
            go false false x y = refl
            go true false x y = absurd (grind (arith, nat_tests, x, y))
            go false true x y = absurd (grind (arith, nat_tests, x, y))

        by : {C : Type 0} (o : Option C) (h t u : Bool) → t ≡ u → cond h None (cond t None o) ≡ cond (u || h) None o
        by o true t true e = refl
        by o true t false e = refl
        by o false true true e = refl
        by o false false false e = refl
        by o false true false e = absurd cc
        by o false false true e = absurd cc

pub nothing_left : {J : Type 0} (waits : List (J × List ℕ)) → waits ≡ all_without_calls [] waits
nothing_left [] = refl
nothing_left (w ∷ ws) = ap (λ ls. w ∷ ls) (nothing_left ws)

pub emptied_none : {K : Type 0} (test : K → Bool) (lists : List (K × List ℕ)) → calls_at test lists ≡ []
    → lists ≡ emptied test lists
emptied_none test [] none = refl
emptied_none test (e ∷ es) none = by (test e.0) none (emptied_none test es)
  where
    by : (t : Bool) → unwrap_or (cond t (Some e.1) (lookup test es)) [] ≡ [] → (calls_at test es ≡ [] → es ≡ emptied test es)
        → e ∷ es ≡ cond t ((e.0, []) ∷ es) (e ∷ set_value test es [])
    by true here rest = ap (λ xs. (e.0, xs) ∷ es) here
    by false there rest = ap (λ ls. e ∷ ls) (rest there)
