-- Lists of nodes, mapped to lists of their calls, as a node comes or goes.
use Rattle.std.proofs.Common.{◌≡◌, ℕ, zero, suc, Bool, true, false, nat_eq, List, [], ◌∷◌, ◌++◌, ◌+◌, ◌-◌, ◌<◌, Option, Some, None}
use Rattle.std.proofs.Common.{refl, sym, ap, ◌∙◌, arith, cond, length, map, option_map, replicate}
use Rattle.std.proofs.lemmas.List.{length-map, append-nil}
use Rattle.fed_links.specs.Lists.{has, stands_in, without, all_without, total, list_at, with_last, with_empty, first_of, after_in}
use Rattle.std.specs.List.{filter_map}
use Rattle.fed_links.specs.Lists.{after_among}
use Rattle.fed_links.proofs.threads.Seams.{has_first, has_later}
use Rattle.fed_links.proofs.threads.Threads.{has_push, has_without}

pub stands_first : (m : ℕ) (xs : List ℕ) (more : List (List ℕ)) → has m xs ≡ true → stands_in m (xs ∷ more) ≡ true
stands_first m xs more e = rw e refl

pub stands_later : (m : ℕ) (xs : List ℕ) (more : List (List ℕ)) → stands_in m more ≡ true → stands_in m (xs ∷ more) ≡ true
stands_later m xs more e = go (has m xs)
  where
    go : (t : Bool) → cond t true (stands_in m more) ≡ true
    go true = refl
    go false = e

pub stands_at : (m k : ℕ) (lists : List (List ℕ)) → has m (list_at lists k) ≡ true → stands_in m lists ≡ true
stands_at m k [] e = absurd (grind (arith, e))
stands_at m zero (xs ∷ more) e = stands_first m xs more e
stands_at m (suc k) (xs ∷ more) e = stands_later m xs more (stands_at m k more e)

pub stands_without : (m n : ℕ) (lists : List (List ℕ)) → stands_in m (all_without n lists) ≡ cond (nat_eq m n) false (stands_in m lists)
stands_without m n [] = go (nat_eq m n)
  where
    go : (t : Bool) → false ≡ cond t false false
    go true = refl
    go false = refl
stands_without m n (xs ∷ more) = rw (has_without m n xs, stands_without m n more) (go (nat_eq m n))
  where
    go : (t : Bool)
        → cond (cond t false (has m xs)) true (cond t false (stands_in m more)) ≡ cond t false (cond (has m xs) true (stands_in m more))
    go true = refl
    go false = refl

pub stands_last : (m k n : ℕ) (lists : List (List ℕ)) → k < length lists
    → stands_in m (with_last k n lists) ≡ cond (nat_eq m n) true (stands_in m lists)
stands_last m k n [] within = absurd (omega (arith, within))
stands_last m zero n (xs ∷ more) within = rw (has_push m n xs) (go (nat_eq m n))
  where
    go : (t : Bool)
        → cond (cond t true (has m xs)) true (stands_in m more) ≡ cond t true (cond (has m xs) true (stands_in m more))
    go true = refl
    go false = refl
stands_last m (suc k) n (xs ∷ more) within = rw (stands_last m k n more (omega (arith, within))) (go (has m xs) (nat_eq m n))
  where
    go : (t u : Bool) → cond t true (cond u true (stands_in m more)) ≡ cond u true (cond t true (stands_in m more))
    go true true = refl
    go true false = refl
    go false true = refl
    go false false = refl

pub stands_empty : (m : ℕ) (lists : List (List ℕ)) → stands_in m (lists ++ [] ∷ []) ≡ stands_in m lists
stands_empty m [] = refl
stands_empty m (xs ∷ more) = ap (λ t. cond (has m xs) true t) (stands_empty m more)

pub total_empty : (lists : List (List ℕ)) → total (lists ++ [] ∷ []) ≡ total lists
total_empty [] = refl
total_empty (xs ∷ more) = ap (λ n. length xs + n) (total_empty more)

pub total_last : (k n : ℕ) (lists : List (List ℕ)) → k < length lists → total (with_last k n lists) ≡ total lists + 1
total_last k n [] within = absurd (omega (arith, within))
total_last zero n (xs ∷ more) within = let l : length (xs ++ n ∷ []) ≡ length xs + 1 = length_more n xs in omega (arith, l)
  where
    length_more : (n : ℕ) (xs : List ℕ) → length (xs ++ n ∷ []) ≡ length xs + 1
    length_more n [] = refl
    length_more n (x ∷ xs) = let rest = length_more n xs in omega (arith, rest)
total_last (suc k) n (xs ∷ more) within = let rest = total_last k n more (omega (arith, within)) in omega (arith, rest)

-- no list more than there are
pub empty_none : (lists : List (List ℕ)) → with_empty 0 lists ≡ lists
empty_none lists = ap (λ n. lists ++ replicate n []) none ∙ append-nil lists
  where
    none : 0 - length lists ≡ 0
    none = omega arith

-- one list more than there are
pub empty_one : (lists : List (List ℕ)) (n : ℕ) → n ≡ length lists + 1 → with_empty n lists ≡ lists ++ [] ∷ []
empty_one lists n e = ap (λ n. lists ++ replicate n []) one
  where
    one : n - length lists ≡ 1
    one = omega (arith, e)

module _ (f : ℕ → ℕ) where
  pub list_at-map : (lists : List (List ℕ)) (k : ℕ) → list_at (map (map f) lists) k ≡ map f (list_at lists k)
  list_at-map [] k = refl
  list_at-map (xs ∷ more) zero = refl
  list_at-map (xs ∷ more) (suc k) = list_at-map more k

  pub total-map : (lists : List (List ℕ)) → total (map (map f) lists) ≡ total lists
  total-map [] = refl
  total-map (xs ∷ more) = let a = length-map xs f in let b = total-map more in omega (arith, a, b)

  pub map-empty : (lists : List (List ℕ)) → map (map f) (lists ++ [] ∷ []) ≡ map (map f) lists ++ [] ∷ []
  map-empty [] = refl
  map-empty (xs ∷ more) = ap (λ ls. map f xs ∷ ls) (map-empty more)

  pub map-last : (k n : ℕ) (lists : List (List ℕ)) → map (map f) (with_last k n lists) ≡ with_last k (f n) (map (map f) lists)
  map-last k n [] = refl
  map-last zero n (xs ∷ more) = ap (λ ys. ys ∷ map (map f) more) (push xs)
    where
      push : (xs : List ℕ) → map f (xs ++ n ∷ []) ≡ map f xs ++ f n ∷ []
      push [] = refl
      push (x ∷ xs) = ap (λ ys. f x ∷ ys) (push xs)
  map-last (suc k) n (xs ∷ more) = ap (λ ls. map f xs ∷ ls) (map-last k n more)

  pub first-map : (xs : List ℕ) → first_of (map f xs) ≡ option_map f (first_of xs)
  first-map [] = refl
  first-map (x ∷ xs) = refl

  -- a call is that of this node alone
  abbrev pub IsOf : ℕ → ℕ → List ℕ → Type 0
  IsOf c n xs = (m : ℕ) → has m xs ≡ true → nat_eq c (f m) ≡ nat_eq n m

  abbrev pub IsOfAll : ℕ → ℕ → List (List ℕ) → Type 0
  IsOfAll c n lists = (m : ℕ) → stands_in m lists ≡ true → nat_eq c (f m) ≡ nat_eq n m

  -- no node has this call
  abbrev pub IsOfNone : ℕ → List (List ℕ) → Type 0
  IsOfNone c lists = (m : ℕ) → stands_in m lists ≡ true → nat_eq c (f m) ≡ false

  module _ (c n : ℕ) where
    pub map-without : (xs : List ℕ) → IsOf c n xs → map f (without n xs) ≡ without c (map f xs)
    map-without [] h = refl
    map-without (x ∷ xs) h =
        pick (nat_eq n x) (nat_eq c (f x)) (sym (h x (has_first x xs))) (map-without xs (λ m e. h m (has_later m x xs e)))
      where
        pick : (t u : Bool) → t ≡ u → map f (without n xs) ≡ without c (map f xs)
            → map f (cond t (without n xs) (x ∷ without n xs)) ≡ cond u (without c (map f xs)) (f x ∷ without c (map f xs))
        pick true true e rest = rest
        pick false false e rest = ap (λ ys. f x ∷ ys) rest
        pick true false e rest = absurd (grind (arith, e))
        pick false true e rest = absurd (grind (arith, e))

    pub maps-without : (lists : List (List ℕ)) → IsOfAll c n lists → map (map f) (all_without n lists) ≡ all_without c (map (map f) lists)
    maps-without [] h = refl
    maps-without (xs ∷ more) h =
        let here = map-without xs (λ m e. h m (stands_first m xs more e)) in
        let there = maps-without more (λ m e. h m (stands_later m xs more e)) in
        λ i. here i ∷ there i

    pub has-map : (xs : List ℕ) → IsOf c n xs → has c (map f xs) ≡ has n xs
    has-map [] h = refl
    has-map (x ∷ xs) h =
        let rest = has-map xs (λ m e. h m (has_later m x xs e)) in
        rw (h x (has_first x xs), rest) refl

    pub stands-map : (lists : List (List ℕ)) → IsOfAll c n lists → stands_in c (map (map f) lists) ≡ stands_in n lists
    stands-map [] h = refl
    stands-map (xs ∷ more) h =
        let here = has-map xs (λ m e. h m (stands_first m xs more e)) in
        let there = stands-map more (λ m e. h m (stands_later m xs more e)) in
        rw (here, there) refl

    pub after-map : (xs : List ℕ) → IsOf c n xs → after_in (map f xs) c ≡ option_map f (after_in xs n)
    after-map [] h = refl
    after-map (x ∷ xs) h =
        pick (nat_eq n x) (nat_eq c (f x)) (sym (h x (has_first x xs))) (after-map xs (λ m e. h m (has_later m x xs e)))
      where
        pick : (t u : Bool) → t ≡ u → after_in (map f xs) c ≡ option_map f (after_in xs n)
            → cond u (first_of (map f xs)) (after_in (map f xs) c) ≡ option_map f (cond t (first_of xs) (after_in xs n))
        pick true true e rest = first-map xs
        pick false false e rest = rest
        pick true false e rest = absurd (grind (arith, e))
        pick false true e rest = absurd (grind (arith, e))

    pub among-map : (lists : List (List ℕ)) → IsOfAll c n lists → after_among (map (map f) lists) c ≡ option_map f (after_among lists n)
    among-map [] h = refl
    among-map (xs ∷ more) h =
        pick (has n xs) (has c (map f xs)) (sym (has-map xs (λ m e. h m (stands_first m xs more e))))
        (after-map xs (λ m e. h m (stands_first m xs more e))) (among-map more (λ m e. h m (stands_later m xs more e)))
      where
        pick : (t u : Bool) → t ≡ u → after_in (map f xs) c ≡ option_map f (after_in xs n)
            → after_among (map (map f) more) c ≡ option_map f (after_among more n)
            → cond u (after_in (map f xs) c) (after_among (map (map f) more) c) ≡ option_map f (cond t (after_in xs n) (after_among more n))
        pick true true e here there = here
        pick false false e here there = there
        pick true false e here there = absurd (grind (arith, e))
        pick false true e here there = absurd (grind (arith, e))

  module _ (c : ℕ) where
    map-none : (xs : List ℕ) → ((m : ℕ) → has m xs ≡ true → nat_eq c (f m) ≡ false) → map f xs ≡ without c (map f xs)
    map-none [] h = refl
    map-none (x ∷ xs) h =
        let out = h x (has_first x xs) in
        let rest = map-none xs (λ m e. h m (has_later m x xs e)) in
        rw out (ap (λ ys. f x ∷ ys) rest)

    pub maps-none : (lists : List (List ℕ)) → IsOfNone c lists → map (map f) lists ≡ all_without c (map (map f) lists)
    maps-none [] h = refl
    maps-none (xs ∷ more) h =
        let here = map-none xs (λ m e. h m (stands_first m xs more e)) in
        let there = maps-none more (λ m e. h m (stands_later m xs more e)) in
        λ i. here i ∷ there i

    has-none : (xs : List ℕ) → ((m : ℕ) → has m xs ≡ true → nat_eq c (f m) ≡ false) → has c (map f xs) ≡ false
    has-none [] h = refl
    has-none (x ∷ xs) h = rw (h x (has_first x xs)) (has-none xs (λ m e. h m (has_later m x xs e)))

    pub among-none : (lists : List (List ℕ)) → IsOfNone c lists → after_among (map (map f) lists) c ≡ None
    among-none [] h = refl
    among-none (xs ∷ more) h =
        rw (has-none xs (λ m e. h m (stands_first m xs more e))) (among-none more (λ m e. h m (stands_later m xs more e)))

    pub stands-none : (lists : List (List ℕ)) → IsOfNone c lists → stands_in c (map (map f) lists) ≡ false
    stands-none [] h = refl
    stands-none (xs ∷ more) h =
        rw (has-none xs (λ m e. h m (stands_first m xs more e))) (stands-none more (λ m e. h m (stands_later m xs more e)))

  -- other calls of the same nodes
  module _ (g : ℕ → ℕ) where
    map-same : (xs : List ℕ) → ((m : ℕ) → has m xs ≡ true → f m ≡ g m) → map f xs ≡ map g xs
    map-same [] h = refl
    map-same (x ∷ xs) h =
        let here = h x (has_first x xs) in
        let rest = map-same xs (λ m e. h m (has_later m x xs e)) in
        λ i. here i ∷ rest i

    pub maps-same : (lists : List (List ℕ)) → ((m : ℕ) → stands_in m lists ≡ true → f m ≡ g m) → map (map f) lists ≡ map (map g) lists
    maps-same [] h = refl
    maps-same (xs ∷ more) h =
        let here = map-same xs (λ m e. h m (stands_first m xs more e)) in
        let there = maps-same more (λ m e. h m (stands_later m xs more e)) in
        λ i. here i ∷ there i

  -- the nodes back from their calls
  pub back-map : (g : ℕ → Option ℕ) (xs : List ℕ) → ((m : ℕ) → has m xs ≡ true → g (f m) ≡ Some m) → xs ≡ filter_map g (map f xs)
  back-map g [] h = refl
  back-map g (x ∷ xs) h =
      let rest = back-map g xs (λ m e. h m (has_later m x xs e)) in
      rw (h x (has_first x xs)) (ap (λ ys. x ∷ ys) rest)
