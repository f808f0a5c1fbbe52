-- Accounts whose ids differ.
use Rattle.std.proofs.Common.{◌≡◌, ◌≢◌, Bool, true, false, cond, not, List, [], ◌∷◌, length, refl, sym, ◌∙◌, arith}
use Rattle.std.specs.Prelude.{filter}
use Rattle.std.specs.List.{AllByRecursion, IsDistinct}
use Rattle.std.proofs.lemmas.Bool.Decides.{same_from_decides}
use Rattle.std.proofs.lemmas.Slice.Eq.{bytes_eq-Decides}
use Rattle.fed_accounts.specs.declared.account.Account.{Account}
use Rattle.fed_accounts.specs.Accounts.{same_id, AreAccounts, first_of_each_id}

same_id-comm : (a b : Account) → same_id a b ≡ same_id b a
same_id-comm a b =
    let d = bytes_eq-Decides a.id b.id in
    let e = bytes_eq-Decides b.id a.id in
    same_from_decides {P = a.id ≡ b.id} (same_id a b) (same_id b a) d (λ t. sym (e.0 t), λ h. e.1 (sym h))

all_left : {X : Type 0} (P : X → Type 0) (p : X → Bool) (xs : List X) → AllByRecursion P xs → AllByRecursion P (filter p xs)
all_left P p [] all = tt
all_left P p (x ∷ xs) all = pick (p x) (all_left P p xs all.1)
  where
    pick : (b : Bool) → AllByRecursion P (filter p xs) → AllByRecursion P (cond b (x ∷ filter p xs) (filter p xs))
    pick true h = (all.0, h)
    pick false h = h

-- of different items some are left
distinct_left : {X : Type 0} (e : X → X → Bool) (p : X → Bool) (xs : List X) → IsDistinct e xs → IsDistinct e (filter p xs)
unfolding IsDistinct
distinct_left e p [] d = tt
distinct_left e p (x ∷ xs) d = pick (p x) (distinct_left e p xs d.1)
  where
    pick : (b : Bool) → IsDistinct e (filter p xs) → IsDistinct e (cond b (x ∷ filter p xs) (filter p xs))
    pick true h = (all_left (λ y. e x y ≡ false) p xs d.0, h)
    pick false h = h

other_ids : (a : Account) (accounts : List Account) → AllByRecursion (λ b. same_id a b ≡ false) (filter (λ b. not (same_id b a)) accounts)
other_ids a [] = tt
other_ids a (b ∷ accounts) = pick (same_id b a) refl (other_ids a accounts)
  where
    pick : (t : Bool) → same_id b a ≡ t → AllByRecursion (λ c. same_id a c ≡ false) (filter (λ c. not (same_id c a)) accounts)
        → AllByRecursion (λ c. same_id a c ≡ false) (cond (not t) (b
        ∷ filter (λ c. not (same_id c a)) accounts) (filter (λ c. not (same_id c a)) accounts))
    pick true e h = h
    pick false e h = (same_id-comm a b ∙ e, h)

firsts_distinct : (accounts : List Account) → IsDistinct same_id (first_of_each_id accounts)
unfolding IsDistinct
firsts_distinct [] = tt
firsts_distinct (a ∷ accounts) =
    (other_ids a (first_of_each_id accounts), distinct_left same_id _ (first_of_each_id accounts) (firsts_distinct accounts))

-- those of the first accounts of each id that a test leaves
pub some_distinct : (p : Account → Bool) (found : List Account) → IsDistinct same_id (filter p (first_of_each_id found))
some_distinct p found = distinct_left same_id p (first_of_each_id found) (firsts_distinct found)

-- ---- lists of accounts

-- what a test leaves of accounts, where it leaves some
pub left_are : {accounts kept : List Account} (p : Account → Bool) → AreAccounts accounts → kept ≡ filter p accounts
    → length kept ≢ 0
    → AreAccounts kept
left_are {accounts = accounts} {kept = kept} p are is some =
    record { some = omega arith; distinct = rw is (distinct_left same_id p accounts are.distinct) }
