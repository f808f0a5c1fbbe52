-- The ids of a pair go one after the other, and so all permissions of the pair.
use Rattle.std.proofs.Common.{◌≡◌, ℕ, Bool, true, false, cond, not, ◌&&◌, ◌||◌, nat_eq, bytes_eq, List, [], ◌∷◌, filter}
use Rattle.std.proofs.Common.{is_some, Some, eq-eqb, refl, sym, ap, ◌∙◌}
use Rattle.std.specs.List.{AllByRecursion, IsDistinct, list_any}
use Rattle.std.specs.Map.{keys_of, values_of, lookup}
use Rattle.std.proofs.lemmas.Map.Made.{IsDistinct-keys_filter}
use Rattle.fed_entries.proofs.slots.Lists.{filter_all, removed_is_filter}
use Rattle.fed_origin.specs.declared.status.Triple.{Triple}
use Rattle.fed_status.specs.declared.accounts.PairAccounts.{PairAccounts}
use Rattle.fed_status.specs.declared.names.Names.{Names}
use Rattle.fed_status.specs.declared.names.Pair.{Pair}
use Rattle.fed_status.specs.Kept.{HasDistinctTriples}
use Rattle.fed_status.specs.Names.{same_pair, is_numbered, is_for}
use Rattle.fed_status.specs.Pairs.{id_held, ids_held, id_in, AreApart}
use Rattle.fed_status.specs.Table.{AreListed, id_at, without_ids}
use Rattle.fed_status.proofs.lists.Entries.{each}
use Rattle.fed_status.proofs.numbers.Equal.{account_laws, number_laws}
use Rattle.fed_status.proofs.numbers.Found.{apart_key, own, stands}
use Rattle.fed_status.proofs.numbers.Listed.{among_held, held_among}
use Rattle.fed_status.proofs.numbers.Origins.{both, for_one}

-- filters by tests that agree
filter_same : {X : Type 0} (p q : X → Bool) (xs : List X) → AllByRecursion (λ x. p x ≡ q x) xs → filter p xs ≡ filter q xs
filter_same p q [] all = refl
filter_same p q (x ∷ xs) all = (λ i. cond (all.0 i) (x ∷ filter_same p q xs all.1 i) (filter_same p q xs all.1 i))

filter_twice : {X : Type 0} (p q r : X → Bool) → ((x : X) → (p x && q x) ≡ r x) → (xs : List X)
    → filter q (filter p xs) ≡ filter r xs
filter_twice p q r is [] = refl
filter_twice {X} p q r is (x ∷ xs) = pick (p x) refl (filter_twice p q r is xs)
  where
    pick : (b : Bool) → p x ≡ b → filter q (filter p xs) ≡ filter r xs
        → filter q (cond b (x ∷ filter p xs) (filter p xs)) ≡ cond (r x) (x ∷ filter r xs) (filter r xs)
    pick true t h =
        let e : q x ≡ r x = ap (λ b. b && q x) (sym t) ∙ is x in
        λ i. cond (e i) (x ∷ h i) (h i)
    pick false t h =
        let e : false ≡ r x = ap (λ b. b && q x) (sym t) ∙ is x in
        h ∙ ap (λ b. cond b (x ∷ filter r xs) (filter r xs)) e

each_goes : (ids : List ℕ) (es : List (ℕ × Triple)) → IsDistinct nat_eq (keys_of es)
    → without_ids ids es ≡ filter (λ e. not (list_any (nat_eq e.0) ids)) es
each_goes [] es d = sym (filter_all (λ e. not (list_any (nat_eq e.0) [])) es (stay es))
  where
    stay : (ds : List (ℕ × Triple)) → AllByRecursion (λ e. not (list_any (nat_eq e.0) []) ≡ true) ds
    stay [] = tt
    stay (e ∷ ds) = (refl, stay ds)
each_goes (id ∷ ids) es d =
    ap (without_ids ids) (removed_is_filter nat_eq number_laws id es d)
    ∙ each_goes ids left (IsDistinct-keys_filter nat_eq (λ e. not (nat_eq id e.0)) es d)
    ∙ filter_twice (λ e. not (nat_eq id e.0)) (λ e. not (list_any (nat_eq e.0) ids)) (λ e. not (list_any (nat_eq e.0) (id ∷ ids)))
    (λ e. here e.0) es
  where
    left : List (ℕ × Triple)
    left = filter (λ e. not (nat_eq id e.0)) es

    by : (a b : Bool) → (not a && not b) ≡ not (a || b)
    by true b = refl
    by false b = refl

    here : (n : ℕ) → (not (nat_eq id n) && not (list_any (nat_eq n) ids)) ≡ not (list_any (nat_eq n) (id ∷ ids))
    here n =
        ap (λ b. not b && not (list_any (nat_eq n) ids)) (number_laws.symm id n)
        ∙ by (nat_eq n id) (list_any (nat_eq n) ids)

-- each entry is found under its id
each_found : (all es : List (ℕ × Triple)) → ((id : ℕ) (triple : Triple) → lookup (nat_eq id) es ≡ Some triple
    → lookup (nat_eq id) all ≡ Some triple)
    → IsDistinct nat_eq (keys_of es) → AllByRecursion (λ e. lookup (nat_eq e.0) all ≡ Some e.1) es
unfolding IsDistinct
each_found all [] within d = tt
each_found all (e ∷ es) within d = (
  within e.0 e.1 (ap (λ b. cond b (Some e.1) (lookup (nat_eq e.0) es)) (eq-eqb e.0 e.0 refl)),
  each_found all es
      (λ id triple h. within id triple (ap (λ b. cond b (Some e.1) (lookup (nat_eq id) es))
      (apart_key nat_eq number_laws e.0 id es d.0 (ap is_some h)) ∙ h))
      d.1,
)

-- two tests of which each says the other
agree : (x y : Bool) → (x ≡ true → y ≡ true) → (y ≡ true → x ≡ true) → x ≡ y
agree true true f g = refl
agree false false f g = refl
agree true false f g = sym (f refl)
agree false true f g = g refl

module _ (names : Names) (kept : List (ℕ × Triple)) (pairs : List (Pair × PairAccounts)) (listed : AreListed names kept pairs)
    (apart : IsDistinct nat_eq (keys_of kept)) (distinct : HasDistinctTriples (values_of kept))
    (pair : Pair) (held : PairAccounts) (there : lookup (same_pair pair) pairs ≡ Some held) where
  -- what the pair holds is what stands
  found : (account : List ℕ) → id_held kept held account ≡ id_at (is_for names pair account) kept
  found account = sym (ap (λ o. id_in kept o account) there) ∙ listed pair account

  -- the ids of the pair are those of its permissions
  of_pair : AreApart held → (id : ℕ) (triple : Triple) → lookup (nat_eq id) kept ≡ Some triple
      → list_any (nat_eq id) (ids_held held) ≡ is_numbered names pair triple
  of_pair once id triple at = agree (list_any (nat_eq id) (ids_held held)) (is_numbered names pair triple) into back
    where
      some_one : {A : Type 0} (x y : A) → Some x ≡ Some y → x ≡ y
      some_one x y e = cc

      into : list_any (nat_eq id) (ids_held held) ≡ true → is_numbered names pair triple ≡ true
      into e =
          let some = among_held kept held id once e in
          let stands = stands (is_for names pair some.0) id kept (sym (found some.0) ∙ some.1) apart in
          let is : stands.0 ≡ triple = some_one stands.0 triple (sym stands.1 ∙ at) in
          ap (is_numbered names pair) (sym is)
          ∙ (both (is_numbered names pair stands.0) (bytes_eq some.0 stands.0.account) stands.2).0

      back : is_numbered names pair triple ≡ true → list_any (nat_eq id) (ids_held held) ≡ true
      back e =
          held_among kept held id triple.account (found triple.account
          ∙ own (is_for names pair triple.account) (for_one names pair triple.account) id triple kept at
          (ap (λ b. b && bytes_eq triple.account triple.account) e ∙ account_laws.refl triple.account) apart distinct)

  -- without the ids of the pair, the permissions are without the pair
  pub pair_goes : AreApart held → without_ids (ids_held held) kept ≡ filter (λ e. not (is_numbered names pair e.1)) kept
  pair_goes once =
      each_goes (ids_held held) kept apart
      ∙ filter_same (λ e. not (list_any (nat_eq e.0) (ids_held held))) (λ e. not (is_numbered names pair e.1)) kept
      (each (λ e at. ap not (of_pair once e.0 e.1 at)) kept (each_found kept kept (λ id triple h. h) apart))
