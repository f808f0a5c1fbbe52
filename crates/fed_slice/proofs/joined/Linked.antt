-- Parties that page numbers link.
use Rattle.std.proofs.Common.{◌≡◌, ◌≢◌, ℕ, zero, suc, ◌+◌, ◌<◌, ◌≤◌, Bool, true, false, cond, nat_eq, List, [], ◌∷◌, ◌++◌, length, Option}
use Rattle.std.proofs.Common.{Some, None, refl, sym, ap, subst, ◌∙◌, arith, inl, inr, ◌⊎◌}
use Rattle.std.proofs.lemmas.Bool.Decides.{nat_tests}
use Rattle.std.specs.Prelude.{slice_index_or}
use Rattle.std.specs.Map.{lookup}
use Rattle.indexmap.specs.IndexMap.{insert_entry}
use Rattle.fed_slice.specs.Sets.{AreParents, Respects, Joins}
use Rattle.fed_slice.specs.Linked.{Pair, Among, Here, There, OnePerPage, Links, name_at, by_number, AtAnchor, Linked, with_name}
use Rattle.fed_slice.specs.Linked.{Enters}

among_left : (p : Pair) {ps : List Pair} (qs : List Pair) → Among p ps → Among p (ps ++ qs)
among_left p qs (Here ps) = Here (ps ++ qs)
among_left p qs (There q ps at) = There q (ps ++ qs) (among_left p qs at)

among_last : (p : Pair) (ps : List Pair) → Among p (ps ++ p ∷ [])
among_last p [] = Here []
among_last p (q ∷ ps) = There q (ps ++ p ∷ []) (among_last p ps)

-- one of pairs, or the one after them
among_either : (p q : Pair) (ps : List Pair) → Among p (ps ++ q ∷ []) → Among p ps ⊎ (p ≡ q)
among_either p q [] (Here qs) = inr refl
among_either p q [] (There r qs at) = absurd (nothing at)
  where
    nothing : Among p [] → ⊥
    nothing at = no at refl
      where
        no : {qs : List Pair} → Among p qs → qs ≡ [] → ⊥
        no (Here ps) is = cc
        no (There r ps at) is = cc
among_either p q (r ∷ ps) (Here qs) = inl (Here ps)
among_either p q (r ∷ ps) (There s qs at) = go (among_either p q ps at)
  where
    go : Among p ps ⊎ (p ≡ q) → Among p (r ∷ ps) ⊎ (p ≡ q)
    go (inl there) = inl (There r ps there)
    go (inr is) = inr is

fewer : (test : List ℕ → Bool) (ps : List Pair) (q : Pair) → OnePerPage test (ps ++ q ∷ []) → OnePerPage test ps
fewer test ps q one page a b at at' = one page a b (among_left (page, a) (q ∷ []) at) (among_left (page, b) (q ∷ []) at')

-- ---- a party that is new

name_before : (names : List (List ℕ)) (x : List ℕ) (k : ℕ) → k < length names → name_at (names ++ x ∷ []) k ≡ name_at names k
name_before [] x k lt = absurd (omega (arith, lt))
name_before (y ∷ names) x zero lt = refl
name_before (y ∷ names) x (suc k) lt = name_before names x k (omega (arith, lt))

name_last : (names : List (List ℕ)) (x : List ℕ) (k : ℕ) → k ≡ length names → name_at (names ++ x ∷ []) k ≡ x
name_last [] x zero is = refl
name_last [] x (suc k) is = absurd (omega (arith, is))
name_last (y ∷ names) x zero is = absurd (omega (arith, is))
name_last (y ∷ names) x (suc k) is = name_last names x k (omega (arith, is))

len_more : {A : Type 0} (xs : List A) (x : A) → length (xs ++ x ∷ []) ≡ length xs + 1
len_more [] x = refl
len_more (y ∷ xs) x = let rest = len_more xs x in omega (arith, rest)

parent_before : (parents : List ℕ) (x k : ℕ) → k < length parents → slice_index_or (parents ++ x ∷ []) k 0 ≡ slice_index_or parents k 0
parent_before [] x k lt = absurd (omega (arith, lt))
parent_before (y ∷ parents) x zero lt = refl
parent_before (y ∷ parents) x (suc k) lt = parent_before parents x k (omega (arith, lt))

parent_last : (parents : List ℕ) (x k : ℕ) → k ≡ length parents → slice_index_or (parents ++ x ∷ []) k 0 ≡ x
parent_last [] x zero is = refl
parent_last [] x (suc k) is = absurd (omega (arith, is))
parent_last (y ∷ parents) x zero is = absurd (omega (arith, is))
parent_last (y ∷ parents) x (suc k) is = parent_last parents x k (omega (arith, is))

module _ (ps : List Pair) (s : Links) (h : Linked ps s) (x : List ℕ) where
  -- tests of the old numbers
  old_test : (test : List ℕ → Bool) → Respects (by_number (s.names ++ x ∷ []) test) (s.parents ++ length s.names ∷ [])
      → Respects (by_number s.names test) s.parents
  old_test test r k lt =
      let longer : k < length (s.parents ++ length s.names ∷ []) = let l = len_more s.parents (length s.names) in omega (arith, lt, l) in
      let up = h.parents k lt in
      let k_in : k < length s.names = let l = h.len in omega (arith, lt, l) in
      let up_in : slice_index_or s.parents k 0 < length s.names = omega (arith, up, k_in) in
      sym (ap test (name_before s.names x (slice_index_or s.parents k 0) up_in))
      ∙ sym (ap (by_number (s.names ++ x ∷ []) test) (parent_before s.parents (length s.names) k lt))
      ∙ r k longer ∙ ap test (name_before s.names x k k_in)

  new_test : (test : List ℕ → Bool) → Respects (by_number s.names test) s.parents
      → Respects (by_number (s.names ++ x ∷ []) test) (s.parents ++ length s.names ∷ [])
  new_test test r k lt = go (nat_eq k (length s.parents)) refl
    where
      go : (b : Bool) → nat_eq k (length s.parents) ≡ b
          → by_number (s.names ++ x ∷ []) test (slice_index_or (s.parents ++ length s.names ∷ []) k 0)
          ≡ by_number (s.names ++ x ∷ []) test k
      go true is =
          let one : k ≡ length s.parents = grind (arith, nat_tests, is) in
          ap (by_number (s.names ++ x ∷ []) test) (parent_last s.parents (length s.names) k one ∙ sym h.len ∙ sym one)
      go false is =
          let l = len_more s.parents (length s.names) in
          let ne : k ≢ length s.parents = grind (arith, nat_tests, is) in
          let lower : k < length s.parents = omega (arith, lt, l, ne) in
          let k_in : k < length s.names = let l = h.len in omega (arith, lower, l) in
          let up = h.parents k lower in
          let up_in : slice_index_or s.parents k 0 < length s.names = omega (arith, up, k_in) in
          ap (by_number (s.names ++ x ∷ []) test) (parent_before s.parents (length s.names) k lower)
          ∙ ap test (name_before s.names x (slice_index_or s.parents k 0) up_in) ∙ r k lower
          ∙ sym (ap test (name_before s.names x k k_in))

  -- a party that is new leaves the pairs linked
  pub linked_name : Linked ps (with_name s x)
  linked_name =
      record {
        len = len_more s.parents (length s.names) ∙ ap (λ n. n + 1) h.len ∙ sym (len_more s.names x);
        parents = λ k lt. below k lt (nat_eq k (length s.parents)) refl;
        within = λ page first found. let w = h.within page first found in let l = len_more s.names x in omega (arith, w, l);
        anchored = λ page first found.
            subst (λ n. Among (page, n) ps) (sym (name_before s.names x first (h.within page first found))) (h.anchored page first found);
        holds = λ test r p at.
            let a = h.holds test (old_test test r) p at in
            record {
              first = a.first;
              found = a.found;
              same = a.same ∙ sym (ap test (name_before s.names x a.first (h.within p.0 a.first a.found)));
            };
        owes = λ test one. new_test test (h.owes test one);
      }
    where
      below : (k : ℕ) → k < length (s.parents ++ length s.names ∷ []) → (b : Bool) → nat_eq k (length s.parents) ≡ b
          → slice_index_or (s.parents ++ length s.names ∷ []) k 0 ≤ k
      below k lt true is =
          let one : k ≡ length s.parents = grind (arith, nat_tests, is) in
          let l = h.len in
          let at = parent_last s.parents (length s.names) k one in
          omega (arith, one, l, at)
      below k lt false is =
          let l = len_more s.parents (length s.names) in
          let ne : k ≢ length s.parents = grind (arith, nat_tests, is) in
          let lower : k < length s.parents = omega (arith, lt, l, ne) in
          subst (λ n. n ≤ k) (sym (parent_before s.parents (length s.names) k lower)) (h.parents k lower)

-- ---- a pair of a page number that has no party yet

abbrev pub with_anchor : Links → ℕ → ℕ → Links
with_anchor s page first = record { names = s.names; parents = s.parents; anchors = s.anchors ++ (page, first) ∷ [] }

look_last : (page k first : ℕ) (es : List (ℕ × ℕ)) → lookup (nat_eq k) es ≡ None
    → lookup (nat_eq k) (es ++ (page, first) ∷ []) ≡ cond (nat_eq k page) (Some first) None
look_last page k first [] none = refl
look_last page k first (e ∷ es) none = go (nat_eq k e.0) none (look_last page k first es)
  where
    go : (b : Bool) → cond b (Some e.1) (lookup (nat_eq k) es) ≡ None
        → (lookup (nat_eq k) es ≡ None → lookup (nat_eq k) (es ++ (page, first) ∷ []) ≡ cond (nat_eq k page) (Some first) None)
        → cond b (Some e.1) (lookup (nat_eq k) (es ++ (page, first) ∷ [])) ≡ cond (nat_eq k page) (Some first) None
    go true none rest = absurd (cc)
    go false none rest = rest none

look_before : (page k first x : ℕ) (es : List (ℕ × ℕ)) → lookup (nat_eq k) es ≡ Some x
    → lookup (nat_eq k) (es ++ (page, first) ∷ []) ≡ Some x
look_before page k first x [] found = absurd (cc)
look_before page k first x (e ∷ es) found = go (nat_eq k e.0) found (look_before page k first x es)
  where
    go : (b : Bool) → cond b (Some e.1) (lookup (nat_eq k) es) ≡ Some x
        → (lookup (nat_eq k) es ≡ Some x → lookup (nat_eq k) (es ++ (page, first) ∷ []) ≡ Some x)
        → cond b (Some e.1) (lookup (nat_eq k) (es ++ (page, first) ∷ [])) ≡ Some x
    go true found rest = found
    go false found rest = rest found

module _ (ps : List Pair) (s : Links) (h : Linked ps s) (page first : ℕ) (x : List ℕ) (in_names : first < length s.names)
    (named : name_at s.names first ≡ x) where
  -- what is found under a page number afterwards
  found_after : (q id : ℕ) → lookup (nat_eq q) (s.anchors ++ (page, first) ∷ []) ≡ Some id
      → (lookup (nat_eq q) s.anchors ≡ Some id) ⊎ ((q ≡ page) × (id ≡ first))
  found_after q id found = go (lookup (nat_eq q) s.anchors) refl
    where
      go : (o : Option ℕ) → lookup (nat_eq q) s.anchors ≡ o → (lookup (nat_eq q) s.anchors ≡ Some id) ⊎ ((q ≡ page) × (id ≡ first))
      go (Some y) is =
          let both : Some y ≡ Some id = sym (look_before page q first y s.anchors is) ∙ found in
          let one : y ≡ id = cc in inl (is ∙ ap Some one)
      go None is = by (nat_eq q page) refl (sym (look_last page q first s.anchors is) ∙ found)
        where
          by : (b : Bool) → nat_eq q page ≡ b → cond b (Some first) None ≡ Some id
              → (lookup (nat_eq q) s.anchors ≡ Some id) ⊎ ((q ≡ page) × (id ≡ first))
          by true same f = let one : first ≡ id = cc in let key : q ≡ page = grind (arith, nat_tests, same) in inr (key, sym one)
          by false same f = absurd (cc)

  pub linked_first : lookup (nat_eq page) s.anchors ≡ None → Linked (ps ++ (page, x) ∷ []) (with_anchor s page first)
  linked_first none =
      record {
        len = h.len;
        parents = h.parents;
        within = λ q id found. within q id (found_after q id found);
        anchored = λ q id found. anchored q id (found_after q id found);
        holds = λ test r p at. holds test r p (among_either p (page, x) ps at);
        owes = λ test one. h.owes test (fewer test ps (page, x) one);
      }
    where
      within : (q id : ℕ) → (lookup (nat_eq q) s.anchors ≡ Some id) ⊎ ((q ≡ page) × (id ≡ first)) → id < length s.names
      within q id (inl old) = h.within q id old
      within q id (inr new) = subst (λ n. n < length s.names) (sym new.1) in_names

      anchored : (q id : ℕ) → (lookup (nat_eq q) s.anchors ≡ Some id) ⊎ ((q ≡ page) × (id ≡ first))
          → Among (q, name_at s.names id) (ps ++ (page, x) ∷ [])
      anchored q id (inl old) = among_left (q, name_at s.names id) ((page, x) ∷ []) (h.anchored q id old)
      anchored q id (inr new) =
          subst (λ p. Among p (ps ++ (page, x) ∷ [])) (λ i. (sym new.0 i, (sym named ∙ ap (name_at s.names) (sym new.1)) i))
          (among_last (page, x) ps)

      holds : (test : List ℕ → Bool) → Respects (by_number s.names test) s.parents → (p : Pair) → Among p ps ⊎ (p ≡ (page, x))
          → AtAnchor (with_anchor s page first) test p
      holds test r p (inl old) =
          let a = h.holds test r p old in
          record { first = a.first; found = look_before page p.0 first a.first s.anchors a.found; same = a.same }
      holds test r p (inr is) =
          let own : nat_eq page page ≡ true = grind (arith, nat_tests) in
          record {
            first = first;
            found = ap (λ q. lookup (nat_eq q.0) (s.anchors ++ (page, first) ∷ [])) is
                ∙ look_last page page first s.anchors none ∙ ap (λ b. cond b (Some first) None) own;
            same = ap (λ q. test q.1) is ∙ sym (ap test named);
          }

-- ---- a pair of a page number that has a party: the two are joined

module _ (ps : List Pair) (s : Links) (h : Linked ps s) (page first id : ℕ) (x : List ℕ) (new : List ℕ)
    (found : lookup (nat_eq page) s.anchors ≡ Some first) (named : name_at s.names id ≡ x)
    (joins : Joins s.parents new first id) (are : AreParents new) (len : length new ≡ length s.parents) where
  pub linked_more : Linked (ps ++ (page, x) ∷ []) (record s { parents = new })
  linked_more =
      record {
        len = len ∙ h.len;
        parents = are;
        within = h.within;
        anchored = λ q n at. among_left (q, name_at s.names n) ((page, x) ∷ []) (h.anchored q n at);
        holds = λ test r p at. holds test r p (among_either p (page, x) ps at);
        owes = λ test one.
            joins.more (by_number s.names test) (h.owes test (fewer test ps (page, x) one))
            (one page (name_at s.names first) (name_at s.names id)
            (among_left (page, name_at s.names first) ((page, x) ∷ []) (h.anchored page first found))
            (subst (λ n. Among (page, n) (ps ++ (page, x) ∷ [])) (sym named) (among_last (page, x) ps)));
      }
    where
      holds : (test : List ℕ → Bool) → Respects (by_number s.names test) new → (p : Pair) → Among p ps ⊎ (p ≡ (page, x))
          → AtAnchor (record s { parents = new }) test p
      holds test r p (inl old) =
          let a = h.holds test (joins.less (by_number s.names test) r) p old in
          record { first = a.first; found = a.found; same = a.same }
      holds test r p (inr is) =
          record {
            first = first;
            found = ap (λ q. lookup (nat_eq q.0) s.anchors) is ∙ found;
            same = ap (λ q. test q.1) is ∙ sym (ap test named) ∙ sym (joins.one (by_number s.names test) r);
          }

-- ---- a party that is entered

pub linked_entered : (ps : List Pair) (old new : Links) (name : List ℕ) (id : ℕ) → Enters old new name id → Linked ps old → Linked ps new
linked_entered ps old new name id e h = go e.is
  where
    go : (new ≡ old) ⊎ (new ≡ with_name old name) → Linked ps new
    go (inl same) = subst (Linked ps) (sym same) h
    go (inr more) = subst (Linked ps) (sym more) (linked_name ps old h name)

-- ---- a pair whose party was entered

module _ (ps : List Pair) (old new s : Links) (page id : ℕ) (name : List ℕ) (e : Enters old new name id) (is : new ≡ s)
    (h : Linked ps old) where
  entered : Linked ps s
  entered = subst (Linked ps) is (linked_entered ps old new name id e h)

  stands : name_at s.names id ≡ name
  stands = subst (λ s. name_at s.names id ≡ name) is e.named

  pub link_first : lookup (nat_eq page) s.anchors ≡ None → Linked (ps ++ (page, name) ∷ []) (with_anchor s page id)
  link_first none = linked_first ps s entered page id name (subst (λ s. id < length s.names) is e.within) stands none

  pub link_more : (first : ℕ) (parents : List ℕ) → lookup (nat_eq page) s.anchors ≡ Some first → Joins s.parents parents first id
      → AreParents parents → length parents ≡ length s.parents → Linked (ps ++ (page, name) ∷ []) (record s { parents = parents })
  link_more first parents found joins are len = linked_more ps s entered page first id name parents found stands joins are len

-- entries with one more
pub insert_last : (page first : ℕ) (es : List (ℕ × ℕ)) → lookup (nat_eq page) es ≡ None
    → insert_entry nat_eq es page first ≡ es ++ (page, first) ∷ []
insert_last page first [] none = refl
insert_last page first (e ∷ es) none = go (nat_eq page e.0) none (insert_last page first es)
  where
    go : (b : Bool) → cond b (Some e.1) (lookup (nat_eq page) es) ≡ None
        → (lookup (nat_eq page) es ≡ None → insert_entry nat_eq es page first ≡ es ++ (page, first) ∷ [])
        → cond b ((e.0, first) ∷ es) (e ∷ insert_entry nat_eq es page first) ≡ e ∷ es ++ (page, first) ∷ []
    go true none rest = absurd (cc)
    go false none rest = ap (λ xs. e ∷ xs) (rest none)
