-- The ids that are listed, as permissions come and go.
use Rattle.std.proofs.Common.{◌≡◌, ℕ, Bool, true, false, cond, ◌&&◌, ◌||◌, nat_eq, bytes_eq, List, [], ◌∷◌, slice_get}
use Rattle.std.proofs.Common.{is_some, Option, Some, None, if◌then◌else◌, eq-eqb, refl, sym, ap, ◌∙◌}
use Rattle.std.specs.List.{IsDistinct, list_any}
use Rattle.std.specs.Map.{keys_of, values_of, lookup}
use Rattle.std.specs.Option.{option_map_or}
use Rattle.fed_origin.specs.declared.status.Triple.{Triple}
use Rattle.fed_status.specs.declared.accounts.PairAccounts.{PairAccounts}
use Rattle.fed_status.specs.declared.accounts.PairAccounts.TheVariants.{Empty, One, Many}
use Rattle.fed_status.specs.declared.names.Pair.{Pair}
use Rattle.fed_status.specs.Names.{same_pair}
use Rattle.fed_status.specs.Pairs.{id_alone, id_held, ids_held, id_in, ids_in, id_of, ids_of, AreApart}
use Rattle.fed_status.specs.Pairs.{HoldsOne, HoldsNew, HoldsLess, ListsOne, ListsNew, ListsLess, ListsSame, ListsNone}
use Rattle.fed_status.proofs.numbers.Equal.{account_laws, same_number_is, same_pair_is}
use Rattle.fed_status.proofs.numbers.Found.{apart_key}

some_one : {A : Type 0} (x y : A) → Some x ≡ Some y → x ≡ y
some_one x y e = cc

-- one alone is found for some account
alone_found : (kept : List (ℕ × Triple)) (id : ℕ) → (account : List ℕ) × (id_alone kept id account ≡ Some id)
alone_found kept id = by (lookup (nat_eq id) kept) refl
  where
    answer : List ℕ → Option Triple → Option ℕ
    answer account o = if option_map_or (λ triple. bytes_eq triple.account account) o true then Some id else None

    by : (o : Option Triple) → lookup (nat_eq id) kept ≡ o → (account : List ℕ) × (id_alone kept id account ≡ Some id)
    by None e = ([], ap (answer []) e)
    by (Some triple) e = (
      triple.account,
      ap (answer triple.account) e ∙ ap (λ b. if b then Some id else None) (account_laws.refl triple.account),
    )

-- what is found alone is it
alone_is : (kept : List (ℕ × Triple)) (only id : ℕ) (account : List ℕ) → id_alone kept only account ≡ Some id → only ≡ id
alone_is kept only id account e = by (option_map_or (λ triple. bytes_eq triple.account account) (lookup (nat_eq only) kept) true) e
  where
    by : (b : Bool) → (if b then Some only else None) ≡ Some id → only ≡ id
    by true f = some_one only id f
    by false f = cc

-- ---- the ids of one pair

values_none : (test : List ℕ → Bool) (es : List (List ℕ × ℕ)) → values_of es ≡ [] → lookup test es ≡ None
values_none test [] e = refl
values_none test (first ∷ es) e = cc

-- where there is no id, none is found
pub ids_none : (kept : List (ℕ × Triple)) (held : PairAccounts) → ids_held held ≡ [] → (account : List ℕ) → id_held kept held account ≡ None
ids_none kept Empty e account = refl
ids_none kept (One id) e account = cc
ids_none kept (Many ids) e account = values_none (bytes_eq account) ids.value.entries e

-- and else some is
pub ids_first : (kept : List (ℕ × Triple)) (held : PairAccounts) (id : ℕ) (rest : List ℕ) → ids_held held ≡ id ∷ rest
    → (account : List ℕ) × (id_held kept held account ≡ Some id)
ids_first kept Empty id rest e = cc
ids_first kept (One only) id rest e =
    let is : only ≡ id = cc in
    let found = alone_found kept only in
    (found.0, found.1 ∙ ap (λ n. Some n) is)
ids_first kept (Many ids) id rest e = by ids.value.entries e
  where
    by : (es : List (List ℕ × ℕ)) → values_of es ≡ id ∷ rest → (account : List ℕ) × (lookup (bytes_eq account) es ≡ Some id)
    by [] f = cc
    by (first ∷ es) f =
        let is : first.1 ≡ id = cc in (
          first.0,
          ap (λ b. cond b (Some first.1) (lookup (bytes_eq first.0) es)) (account_laws.refl first.0) ∙ ap (λ n. Some n) is,
        )

or_true : (a : Bool) → (a || true) ≡ true
or_true true = refl
or_true false = refl

list_among : (es : List (List ℕ × ℕ)) (id : ℕ) (account : List ℕ) → lookup (bytes_eq account) es ≡ Some id
    → list_any (nat_eq id) (values_of es) ≡ true
list_among [] id account f = cc
list_among (first ∷ es) id account f = pick (bytes_eq account first.0) f (λ g. list_among es id account g)
  where
    pick : (b : Bool) → cond b (Some first.1) (lookup (bytes_eq account) es) ≡ Some id
        → (lookup (bytes_eq account) es ≡ Some id → list_any (nat_eq id) (values_of es) ≡ true)
        → (nat_eq id first.1 || list_any (nat_eq id) (values_of es)) ≡ true
    pick true g later =
        ap (λ b. b || list_any (nat_eq id) (values_of es)) (eq-eqb id first.1 (sym (some_one first.1 id g)))
    pick false g later = ap (λ b. nat_eq id first.1 || b) (later g) ∙ or_true (nat_eq id first.1)

-- what is found is an id
pub held_among : (kept : List (ℕ × Triple)) (held : PairAccounts) (id : ℕ) (account : List ℕ) → id_held kept held account ≡ Some id
    → list_any (nat_eq id) (ids_held held) ≡ true
held_among kept Empty id account e = cc
held_among kept (One only) id account e = ap (λ b. b || false) (eq-eqb id only (sym (alone_is kept only id account e)))
held_among kept (Many ids) id account e = list_among ids.value.entries id account e

among_list : (es : List (List ℕ × ℕ)) (id : ℕ) → IsDistinct bytes_eq (keys_of es) → list_any (nat_eq id) (values_of es) ≡ true
    → (account : List ℕ) × (lookup (bytes_eq account) es ≡ Some id)
unfolding IsDistinct
among_list [] id d f = cc
among_list (first ∷ es) id d f = pick (nat_eq id first.1) refl f (λ g. among_list es id d.1 g)
  where
    pick : (b : Bool) → nat_eq id first.1 ≡ b → (b || list_any (nat_eq id) (values_of es)) ≡ true
        → (list_any (nat_eq id) (values_of es) ≡ true → (account : List ℕ) × (lookup (bytes_eq account) es ≡ Some id))
        → (account : List ℕ) × (cond (bytes_eq account first.0) (Some first.1) (lookup (bytes_eq account) es) ≡ Some id)
    pick true t g later = (
      first.0,
      ap (λ b. cond b (Some first.1) (lookup (bytes_eq first.0) es)) (account_laws.refl first.0)
          ∙ ap (λ n. Some n) (sym (same_number_is id first.1 t)),
    )
    pick false t g later =
        let rest = later g in (
          rest.0,
          ap (λ b. cond b (Some first.1) (lookup (bytes_eq rest.0) es))
              (apart_key bytes_eq account_laws first.0 rest.0 es d.0 (ap is_some rest.1)) ∙ rest.1,
        )

-- an id is found, for some account
pub among_held : (kept : List (ℕ × Triple)) (held : PairAccounts) (id : ℕ) → AreApart held
    → list_any (nat_eq id) (ids_held held) ≡ true → (account : List ℕ) × (id_held kept held account ≡ Some id)
among_held kept Empty id apart e = cc
among_held kept (One only) id apart e =
    let found = alone_found kept only in
    (found.0, found.1 ∙ ap (λ n. Some n) (sym (same_number_is id only (one (nat_eq id only) e))))
  where
    one : (b : Bool) → (b || false) ≡ true → b ≡ true
    one true f = refl
    one false f = f
among_held kept (Many ids) id apart e = among_list ids.value.entries id apart e

-- where what is listed stands as before, the same is found
pub stable : (kept later : List (ℕ × Triple)) (held : PairAccounts)
    → ((account : List ℕ) (id : ℕ) → id_held kept held account ≡ Some id → lookup (nat_eq id) later ≡ lookup (nat_eq id) kept)
    → (account : List ℕ) → id_held later held account ≡ id_held kept held account
stable kept later Empty as_before account = refl
stable kept later (Many ids) as_before account = refl
stable kept later (One id) as_before account =
    let found = alone_found kept id in
    ap (λ o. if option_map_or (λ triple. bytes_eq triple.account account) o true then Some id else None)
    (as_before found.0 id found.1)

-- ---- the ids of all pairs

pub stable_of : (kept later : List (ℕ × Triple)) (pairs : List (Pair × PairAccounts))
    → ((pair : Pair) (account : List ℕ) (id : ℕ) → id_of kept pairs pair account ≡ Some id
    → lookup (nat_eq id) later ≡ lookup (nat_eq id) kept)
    → (pair : Pair) (account : List ℕ) → id_of later pairs pair account ≡ id_of kept pairs pair account
stable_of kept later pairs as_before pair account = by (lookup (same_pair pair) pairs) refl
  where
    by : (o : Option PairAccounts) → lookup (same_pair pair) pairs ≡ o → id_in later o account ≡ id_in kept o account
    by None e = refl
    by (Some held) e =
        stable kept later held
        (λ a id f. as_before pair a id (ap (λ o. id_in kept o a) e ∙ f)) account

-- where there are none of a pair, nothing goes
pub lists_nothing : (pair : Pair) (old new : List (Pair × PairAccounts)) → is_some (slice_get (ids_of old pair) 0) ≡ false
    → ListsNone pair old new → ListsSame old new
lists_nothing pair old new none less = λ kept p a. less kept p a ∙ by kept p a (same_pair pair p) refl
  where
    is_empty : (ids : List ℕ) → is_some (slice_get ids 0) ≡ false → ids ≡ []
    is_empty [] e = refl
    is_empty (id ∷ ids) e = cc

    no_id : (kept : List (ℕ × Triple)) (a : List ℕ) (o : Option PairAccounts) → ids_in o ≡ [] → id_in kept o a ≡ None
    no_id kept a None e = refl
    no_id kept a (Some held) e = ids_none kept held e a

    by : (kept : List (ℕ × Triple)) (p : Pair) (a : List ℕ) (b : Bool) → same_pair pair p ≡ b
        → cond b None (id_of kept old p a) ≡ id_of kept old p a
    by kept p a true t =
        sym (ap (λ q. id_of kept old q a) (sym (same_pair_is pair p t))
        ∙ no_id kept a (lookup (same_pair pair) old) (is_empty (ids_of old pair) none))
    by kept p a false t = refl

-- the accounts of one pair change
module _ (pair : Pair) (old new : List (Pair × PairAccounts)) (before after : PairAccounts)
    (there : lookup (same_pair pair) old ≡ Some before)
    (updates : (p : Pair) → lookup (same_pair p) new ≡ cond (same_pair pair p) (Some after) (lookup (same_pair p) old)) where
  lists_one : (kept : List (ℕ × Triple)) (account : List ℕ) (id : Option ℕ) → HoldsOne kept account id before after
      → ListsOne kept pair account id old new
  lists_one kept account id h = λ p a. ap (λ o. id_in kept o a) (updates p) ∙ by p a (same_pair pair p) refl
    where
      by : (p : Pair) (a : List ℕ) (b : Bool) → same_pair pair p ≡ b
          → id_in kept (cond b (Some after) (lookup (same_pair p) old)) a
          ≡ cond (b && bytes_eq account a) id (id_of kept old p a)
      by p a true t =
          h a ∙ ap (λ o. cond (bytes_eq account a) id o)
          (sym (ap (λ q. id_of kept old q a) (sym (same_pair_is pair p t)) ∙ ap (λ o. id_in kept o a) there))
      by p a false t = refl

  pub lists_new : (kept : List (ℕ × Triple)) (id : ℕ) → HoldsNew kept id before after → ListsNew kept pair id old new
  lists_new kept id h = λ triple stands absent.
      lists_one kept triple.account (Some id) (h triple stands (sym (ap (λ o. id_in kept o triple.account) there) ∙ absent))

  pub lists_less : (account : List ℕ) → HoldsLess account before after → ListsLess pair account old new
  lists_less account h = λ kept id stands found.
      lists_one kept account None (h kept id stands (sym (ap (λ o. id_in kept o account) there) ∙ found))
