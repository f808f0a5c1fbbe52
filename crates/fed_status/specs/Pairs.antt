-- The permissions of each pair, by their accounts. Each permission stands under a number of its own, its id.
use Rattle.std.specs.Prelude.{◌≡◌, ℕ, true, cond, ◌&&◌, nat_eq, bytes_eq, List, [], ◌∷◌, Option, Some, None, if◌then◌else◌, is_some}
use Rattle.std.specs.List.{IsDistinct}
use Rattle.std.specs.Map.{keys_of, values_of, lookup}
use Rattle.std.specs.Option.{option_map_or}
use Rattle.fed_origin.specs.declared.status.Triple.{Triple}
use Rattle.fed_status.specs.declared.accounts.PairAccounts.{PairAccounts}
use Rattle.fed_status.specs.declared.accounts.PairAccounts.TheVariants.{Empty, One, Many}
use Rattle.fed_status.specs.declared.names.Pair.{Pair}
use Rattle.fed_status.specs.Names.{same_pair}

-- the permission under this id, unless it is for another account
abbrev pub id_alone : List (ℕ × Triple) → ℕ → List ℕ → Option ℕ
id_alone kept id account =
    if option_map_or (λ triple. bytes_eq triple.account account) (lookup (nat_eq id) kept) true then Some id else None

-- ---- of one pair

-- the id of the permission for an account, however it is held
abbrev pub id_held : List (ℕ × Triple) → PairAccounts → List ℕ → Option ℕ
id_held kept Empty account = None
id_held kept (One id) account = id_alone kept id account
id_held kept (Many ids) account = lookup (bytes_eq account) ids.value.entries

-- all ids that are held
abbrev pub ids_held : PairAccounts → List ℕ
ids_held Empty = []
ids_held (One id) = id ∷ []
ids_held (Many ids) = values_of ids.value.entries

-- no account is held twice
abbrev pub AreApart : PairAccounts → Type 0
AreApart Empty = Unit
AreApart (One id) = Unit
AreApart (Many ids) = IsDistinct bytes_eq (keys_of ids.value.entries)

-- of one account the id changes to this, or goes
abbrev pub HoldsOne : List (ℕ × Triple) → List ℕ → Option ℕ → PairAccounts → PairAccounts → Type 0
HoldsOne kept account id old new =
    (other : List ℕ) → id_held kept new other ≡ cond (bytes_eq account other) id (id_held kept old other)

-- the permission under this id is held, if there was none for its account
abbrev pub HoldsNew : List (ℕ × Triple) → ℕ → PairAccounts → PairAccounts → Type 0
HoldsNew kept id old new =
    (triple : Triple) → lookup (nat_eq id) kept ≡ Some triple → id_held kept old triple.account ≡ None
    → HoldsOne kept triple.account (Some id) old new

-- the permission for this account, if it was held and stands, is held no longer
abbrev pub HoldsLess : List ℕ → PairAccounts → PairAccounts → Type 0
HoldsLess account old new =
    (kept : List (ℕ × Triple)) (id : ℕ) → is_some (lookup (nat_eq id) kept) ≡ true → id_held kept old account ≡ Some id
    → HoldsOne kept account None old new

abbrev pub HoldsSame : PairAccounts → PairAccounts → Type 0
HoldsSame old new = (kept : List (ℕ × Triple)) (other : List ℕ) → id_held kept new other ≡ id_held kept old other

-- ---- of all pairs

abbrev pub id_in : List (ℕ × Triple) → Option PairAccounts → List ℕ → Option ℕ
id_in kept held account = option_map_or (λ accounts. id_held kept accounts account) held None

abbrev pub ids_in : Option PairAccounts → List ℕ
ids_in held = option_map_or ids_held held []

-- the id of the permission of a pair for an account
abbrev pub id_of : List (ℕ × Triple) → List (Pair × PairAccounts) → Pair → List ℕ → Option ℕ
id_of kept pairs pair account = id_in kept (lookup (same_pair pair) pairs) account

-- all ids of a pair
abbrev pub ids_of : List (Pair × PairAccounts) → Pair → List ℕ
ids_of pairs pair = ids_in (lookup (same_pair pair) pairs)

-- of one pair and account the id changes to this, or goes
abbrev pub ListsOne : List (ℕ × Triple) → Pair → List ℕ → Option ℕ → List (Pair × PairAccounts) → List (Pair × PairAccounts)
    → Type 0
ListsOne kept pair account id old new =
    (p : Pair) (a : List ℕ) → id_of kept new p a ≡ cond (same_pair pair p && bytes_eq account a) id (id_of kept old p a)

-- the permission under this id is listed, if there was none of the pair for its account
abbrev pub ListsNew : List (ℕ × Triple) → Pair → ℕ → List (Pair × PairAccounts) → List (Pair × PairAccounts) → Type 0
ListsNew kept pair id old new =
    (triple : Triple) → lookup (nat_eq id) kept ≡ Some triple → id_of kept old pair triple.account ≡ None
    → ListsOne kept pair triple.account (Some id) old new

-- the permission of the pair for this account, if it was listed and stands, is listed no longer
abbrev pub ListsLess : Pair → List ℕ → List (Pair × PairAccounts) → List (Pair × PairAccounts) → Type 0
ListsLess pair account old new =
    (kept : List (ℕ × Triple)) (id : ℕ) → is_some (lookup (nat_eq id) kept) ≡ true → id_of kept old pair account ≡ Some id
    → ListsOne kept pair account None old new

abbrev pub ListsSame : List (Pair × PairAccounts) → List (Pair × PairAccounts) → Type 0
ListsSame old new = (kept : List (ℕ × Triple)) (p : Pair) (a : List ℕ) → id_of kept new p a ≡ id_of kept old p a

-- the permissions of one pair are listed no longer
abbrev pub ListsNone : Pair → List (Pair × PairAccounts) → List (Pair × PairAccounts) → Type 0
ListsNone pair old new =
    (kept : List (ℕ × Triple)) (p : Pair) (a : List ℕ) → id_of kept new p a ≡ cond (same_pair pair p) None (id_of kept old p a)
