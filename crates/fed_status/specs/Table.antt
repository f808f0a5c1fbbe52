-- The table of kept permissions.
use Rattle.std.specs.Prelude.{◌≡◌, ◌<◌, ℕ, Bool, nat_eq, List, [], ◌∷◌, fold, Option, Some, None, if◌then◌else◌}
use Rattle.std.specs.List.{AllByRecursion, IsDistinct}
use Rattle.std.specs.Map.{keys_of, values_of, remove_entry}
use Rattle.fed_origin.specs.declared.status.Triple.{Triple}
use Rattle.fed_status.specs.declared.accounts.PairAccounts.{PairAccounts}
use Rattle.fed_status.specs.declared.names.Names.{Names}
use Rattle.fed_status.specs.declared.names.Pair.{Pair}
use Rattle.fed_status.specs.declared.table.Table.{Table}
use Rattle.fed_status.specs.Kept.{HasDistinctTriples}
use Rattle.fed_status.specs.Names.{HasNumbers, is_for}
use Rattle.fed_status.specs.Pairs.{id_of}

-- the permissions, in order of entering
abbrev pub triples_of : Table → List Triple
triples_of table = values_of table.kept

-- the id of the first permission that passes the test
abbrev pub id_at : (Triple → Bool) → List (ℕ × Triple) → Option ℕ
id_at test [] = None
id_at test (entry ∷ kept) = if test entry.1 then Some entry.0 else id_at test kept

-- a permission is listed under its pair and account exactly where it stands
abbrev pub AreListed : Names → List (ℕ × Triple) → List (Pair × PairAccounts) → Type 0
AreListed names kept pairs = (pair : Pair) (account : List ℕ) → id_of kept pairs pair account ≡ id_at (is_for names pair account) kept

-- the permissions without those under these ids, which go one after the other
abbrev pub without_ids : List ℕ → List (ℕ × Triple) → List (ℕ × Triple)
without_ids ids kept = fold (λ left id. remove_entry (nat_eq id) left) kept ids

-- each id is below this one
abbrev pub AreBelow : ℕ → List (ℕ × Triple) → Type 0
AreBelow next kept = AllByRecursion (λ entry. entry.0 < next) kept

-- what is true of each table
pub record IsTable (table : Table) : Type 0 where
  pub numbered : AllByRecursion (HasNumbers table.names) table.kept
  pub listed : AreListed table.names table.kept table.pairs.entries
  pub below : AreBelow table.next table.kept
  pub apart : IsDistinct nat_eq (keys_of table.kept)
  pub distinct : HasDistinctTriples (triples_of table)
