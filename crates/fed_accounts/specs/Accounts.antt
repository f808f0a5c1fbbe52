-- Lists of accounts.
use Rattle.std.specs.Prelude.{Bool, not, ◌<◌, List, [], ◌∷◌, length, filter, bytes_eq}
use Rattle.std.specs.List.{IsDistinct}
use Rattle.fed_accounts.specs.declared.account.Account.{Account}

abbrev pub same_id : Account → Account → Bool
same_id a b = bytes_eq a.id b.id

-- there is an account, and the ids differ
pub record AreAccounts (accounts : List Account) : Type 0 where
  pub some : 0 < length accounts
  pub distinct : IsDistinct same_id accounts

-- the first account of each id: after an account, those of its id are left out
abbrev pub first_of_each_id : List Account → List Account
first_of_each_id [] = []
first_of_each_id (a ∷ accounts) = a ∷ filter (λ b. not (same_id b a)) (first_of_each_id accounts)
