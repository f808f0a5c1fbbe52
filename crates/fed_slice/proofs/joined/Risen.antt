-- The least closed set in another order, and sorted.
use Rattle.std.proofs.Common.{◌≡◌, ℕ, Bool, true, false, ◌||◌, cond, List, [], ◌∷◌, refl, sym, ap, subst, ◌∙◌}
use Rattle.std.proofs.lemmas.Cmp.{nat_list_cmp_total}
use Rattle.std.proofs.lemmas.List.Kept.{IsStrictlySortedBy-dedup}
use Rattle.std.proofs.lemmas.List.Sorted.{list_any-IsPermutation}
use Rattle.std.proofs.lemmas.Map.Keys.{IsDistinct-IsPermutation}
use Rattle.std.proofs.lemmas.Slice.Eq.{bytes_eq-Decides}
use Rattle.std.specs.Cmp.Lexicographic.{slice_cmp, texts_ties}
use Rattle.std.specs.List.{AllByRecursion, IsDistinct, dedup, dedup_from, list_all, list_any}
use Rattle.std.specs.List.Sorted.{IsPermutation, IsSorted, IsStrictlySortedBy}
use Rattle.std.specs.Ordering.{nat_cmp}
use Rattle.std.specs.Prelude.{bytes_eq, not}
use Rattle.fed_suffix.specs.Registrable.{party}
use Rattle.fed_suffix.specs.Rule.{RuleSet}
use Rattle.fed_script.specs.Script.{Script}
use Rattle.fed_slice.specs.Closure.{IsClosed, IsClosure, IsLeastClosed, RiseByBytes, hosts_of, is_among, is_one}
use Rattle.fed_slice.specs.Gather.{SameMembers}
use Rattle.fed_slice.specs.Linked.{AreLeast}

-- ---- sorted

flips : (x y : List ℕ) → bytes_eq x y ≡ bytes_eq y x
flips x y = go (bytes_eq x y) refl (bytes_eq y x) refl
  where
    go : (b : Bool) → bytes_eq x y ≡ b → (c : Bool) → bytes_eq y x ≡ c → b ≡ c
    go true is true at = refl
    go false is false at = refl
    go true is false at =
        let one : y ≡ x = sym ((bytes_eq-Decides x y).0 is) in
        let no : false ≡ true = sym at ∙ (bytes_eq-Decides y x).1 one in
        absurd (cc)
    go false is true at =
        let one : x ≡ y = sym ((bytes_eq-Decides y x).0 at) in
        let no : false ≡ true = sym is ∙ (bytes_eq-Decides x y).1 one in
        absurd (cc)

-- of texts that differ none is taken away
none_twice : (k : List ℕ) (xs : List (List ℕ)) → AllByRecursion (λ y. bytes_eq k y ≡ false) xs → IsDistinct bytes_eq xs
    → dedup_from bytes_eq k xs ≡ k ∷ xs
unfolding IsDistinct
none_twice k [] h d = refl
none_twice k (x ∷ xs) h d =
    ap (λ b. cond b (dedup_from bytes_eq k xs) (k ∷ dedup_from bytes_eq x xs)) (flips x k ∙ h.0)
    ∙ ap (λ l. k ∷ l) (none_twice x xs d.0 d.1)

distinct_stay : (xs : List (List ℕ)) → IsDistinct bytes_eq xs → dedup bytes_eq xs ≡ xs
unfolding IsDistinct
distinct_stay [] d = refl
distinct_stay (x ∷ xs) d = none_twice x xs d.0 d.1

pub rises : (xs ys : List (List ℕ)) → IsDistinct bytes_eq xs → IsPermutation xs ys → IsSorted (slice_cmp nat_cmp) ys → RiseByBytes ys
rises xs ys d moved sorted =
    subst (IsStrictlySortedBy (slice_cmp nat_cmp)) (distinct_stay ys (IsDistinct-IsPermutation bytes_eq flips xs ys moved d))
    (IsStrictlySortedBy-dedup nat_list_cmp_total texts_ties ys sorted)

pub moved_members : (xs ys : List (List ℕ)) → IsPermutation xs ys → SameMembers ys xs
moved_members xs ys moved q = sym (list_any-IsPermutation (bytes_eq q) xs ys moved)

-- ---- the same members

-- what is so of each text of a list is so of each that is one of them
pub at_member : (P : List ℕ → Type 0) (ys : List (List ℕ)) → AllByRecursion P ys → (x : List ℕ) → is_one ys x ≡ true → P x
at_member P [] all x is = let no : false ≡ true = is in absurd (cc)
at_member P (y ∷ ys) all x is = go (bytes_eq x y) refl (at_member P ys all.1 x) is
  where
    go : (b : Bool) → bytes_eq x y ≡ b → (is_one ys x ≡ true → P x) → (b || is_one ys x) ≡ true → P x
    go true same rest is = subst P (sym ((bytes_eq-Decides x y).0 same)) all.0
    go false other rest is = rest is

in_itself : (x : List ℕ) (ys : List (List ℕ)) → bytes_eq x x ≡ true → is_one (x ∷ ys) x ≡ true
in_itself x ys own = ap (λ b. b || is_one ys x) own

-- each text of a list is one of them
each_is : (xs ys : List (List ℕ)) → ((x : List ℕ) → is_one xs x ≡ true → is_one ys x ≡ true)
    → AllByRecursion (λ x. is_one ys x ≡ true) xs
each_is [] ys h = tt
each_is (x ∷ xs) ys h =
    (h x (in_itself x xs ((bytes_eq-Decides x x).1 refl)), each_is xs ys (λ y is. h y (later y is)))
  where
    later : (y : List ℕ) → is_one xs y ≡ true → (bytes_eq y x || is_one xs y) ≡ true
    later y is = ap (λ b. bytes_eq y x || b) is ∙ or_true (bytes_eq y x)
      where
        or_true : (b : Bool) → (b || true) ≡ true
        or_true true = refl
        or_true false = refl

each_at : (P : List ℕ → Type 0) (xs ys : List (List ℕ)) → AllByRecursion P ys → AllByRecursion (λ x. is_one ys x ≡ true) xs
    → AllByRecursion P xs
each_at P [] ys all h = tt
each_at P (x ∷ xs) ys all h = (at_member P ys all x h.0, each_at P xs ys all h.1)

-- a host's party is among the same lists
pub among_same : (rules : RuleSet) (a b : List (List ℕ)) → SameMembers a b → is_among rules a ≡ is_among rules b
among_same rules a b same = λ i host. same (party rules host) i

closed_same : (s : Script) (a b : List (List ℕ)) → SameMembers a b → IsClosed s b → IsClosed s a
closed_same s a b same closed page is_in =
    subst (λ f. (list_all f (hosts_of s.events page) || not (list_any f (hosts_of s.events page))) ≡ true)
    (sym (among_same s.header.rules a b same)) (closed page is_in)

pub least_same : (s : Script) (name : List ℕ) (a b : List (List ℕ)) → SameMembers a b → IsLeastClosed s name b → IsLeastClosed s name a
least_same s name a b same h =
    record {
      named = same name ∙ h.named;
      closed = closed_same s a b same h.closed;
      least = λ others has closed.
          each_at (λ one. is_one others one ≡ true) a b (h.least others has closed) (each_is a b (λ x is. sym (same x) ∙ is));
    }

pub closure_is : (s : Script) (name : List ℕ) (risen closed : List (List ℕ)) → AreLeast s name closed → SameMembers risen closed
    → RiseByBytes risen → IsClosure s name risen
closure_is s name risen closed h same rising = record { least = least_same s name risen closed same h.least; rising = rising }
