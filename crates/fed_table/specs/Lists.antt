-- Lists of calls, and lists of calls by key: by page, or by provider origin.
use Rattle.std.specs.Prelude.{ℕ, Bool, cond, not, nat_eq, ◌+◌, ◌++◌, List, [], ◌∷◌, Option, None, map}
use Rattle.std.specs.Prelude.{filter, length, slice_get, is_some, unwrap_or}
use Rattle.std.specs.List.{list_any}
use Rattle.std.specs.Map.{lookup, set_value}
use Rattle.indexmap.specs.IndexMap.{insert_entry}

-- whether a call stands in a list
abbrev pub has : ℕ → List ℕ → Bool
has call calls = list_any (nat_eq call) calls

-- a list without a call
abbrev pub without : ℕ → List ℕ → List ℕ
without call calls = filter (λ other. not (nat_eq call other)) calls

-- a list without each of these calls
abbrev pub without_calls : List ℕ → List ℕ → List ℕ
without_calls [] calls = calls
without_calls (gone ∷ more) calls = without_calls more (without gone calls)

-- the call after a call in its list
abbrev pub call_after : ℕ → List ℕ → Option ℕ
call_after call [] = None
call_after call (other ∷ more) = cond (nat_eq call other) (slice_get more 0) (call_after call more)

-- how often a call stands in a list
abbrev pub times : ℕ → List ℕ → ℕ
times call [] = 0
times call (other ∷ more) = cond (nat_eq call other) 1 0 + times call more

module _ {K : Type 0} where
  -- the calls of the key that passes the test, none where no key does
  abbrev pub calls_at : (K → Bool) → List (K × List ℕ) → List ℕ
  calls_at test lists = unwrap_or (lookup test lists) []

  -- whether a call stands in one of the lists
  abbrev pub stands_in : ℕ → List (K × List ℕ) → Bool
  stands_in call lists = list_any (λ entry. has call entry.1) lists

  -- how often a call stands in all lists together
  abbrev pub times_in : ℕ → List (K × List ℕ) → ℕ
  times_in call [] = 0
  times_in call (entry ∷ more) = times call entry.1 + times_in call more

  -- how many calls stand in all lists together
  abbrev pub total : List (K × List ℕ) → ℕ
  total [] = 0
  total (entry ∷ more) = length entry.1 + total more

  -- the call after a call, in the list where it stands
  abbrev pub next_in : ℕ → List (K × List ℕ) → Option ℕ
  next_in call [] = None
  next_in call (entry ∷ more) = cond (has call entry.1) (call_after call entry.1) (next_in call more)

  -- each list without a call
  abbrev pub all_without : ℕ → List (K × List ℕ) → List (K × List ℕ)
  all_without call lists = map (λ entry. (entry.0, without call entry.1)) lists

  -- each list without these calls
  abbrev pub all_without_calls : List ℕ → List (K × List ℕ) → List (K × List ℕ)
  all_without_calls gone lists = map (λ entry. (entry.0, without_calls gone entry.1)) lists

  -- the lists with a call last under its key: a key that is there keeps its place, and a new one goes last
  abbrev pub with_last : (K → K → Bool) → K → ℕ → List (K × List ℕ) → List (K × List ℕ)
  with_last same key call lists = insert_entry same lists key (calls_at (same key) lists ++ call ∷ [])

  -- the lists with this key: one that is there keeps its place and its calls, and a new one goes last, with none
  abbrev pub with_key : (K → K → Bool) → K → List (K × List ℕ) → List (K × List ℕ)
  with_key same key lists = cond (is_some (lookup (same key) lists)) lists (insert_entry same lists key [])

  -- the lists with none under this key
  abbrev pub emptied : (K → Bool) → List (K × List ℕ) → List (K × List ℕ)
  emptied test lists = set_value test lists []
