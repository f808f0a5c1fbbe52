-- What is kept of the entries of a list, for private clauses.
use Rattle.std.specs.Prelude.{◌≡◌, ℕ, not, ◌==◌, ⊤, List, length, filter, codes, Option, Some, None, option_map, Result, Ok, Err, IfOk}
use Rattle.std.specs.Prelude.{if◌then◌else◌}
use Rattle.std.specs.List.{IsDistinct}
use Rattle.serde_json.specs.Data.{Data, Items, Members}
use Rattle.serde_json.specs.Find.{as_array, get_member}
use Rattle.fed_io.specs.declared.error.Fault.{Fault}
use Rattle.fed_io.specs.declared.error.Fault.TheVariants.{Step, NoRoom}
use Rattle.fed_json.specs.declared.reading.Invalid.{Invalid}
use Rattle.fed_reply.specs.Members.{member_here, member_found, list_under}
use Rattle.fed_reply.specs.Shape.{required}
use Rattle.fed_reply.specs.Steps.{◌>>=◌, with_ok}
use Rattle.fed_accounts.specs.declared.account.Account.{Account}
use Rattle.fed_accounts.specs.declared.read.Kept.{Kept}
use Rattle.fed_accounts.specs.declared.step.AccountsStep.{AccountsStep}
use Rattle.fed_accounts.specs.declared.step.AccountsStep.TheVariants.{Shape, Empty}
use Rattle.fed_accounts.specs.Accounts.{same_id, first_of_each_id}
use Rattle.fed_accounts.specs.Hints.{is_hinted, some_left}
use Rattle.fed_accounts.specs.Read.{each, account_of}

-- what is kept of accounts: of the first of each id those that both hints ask for
abbrev pub kept_of : Option (List ℕ) → Option (List ℕ) → List Account → Kept
kept_of login domain accounts =
    record { some = not (length accounts == 0); accounts = filter (is_hinted login domain) (first_of_each_id accounts) }

-- the same of the accounts of entries, or the step of the first that has none
abbrev pub kept_entries : Option (List ℕ) → Option (List ℕ) → Items → Result Kept AccountsStep
kept_entries login domain entries = with_ok (kept_of login domain) (each account_of entries)

-- the same of the list that a value is, or the step where it is none
abbrev pub kept_list : Option (List ℕ) → Option (List ℕ) → Data → Result Kept AccountsStep
kept_list login domain d = required Shape (member_here as_array d) >>= kept_entries login domain

-- the same of the list that members have under its name
abbrev pub kept_under : Option (List ℕ) → Option (List ℕ) → Members → Result Kept AccountsStep
kept_under login domain ms = required Shape (member_found as_array (get_member (codes "accounts") ms)) >>= kept_entries login domain

-- the same of the list in a file
abbrev pub kept_in : Option (List ℕ) → Option (List ℕ) → Data → Result Kept AccountsStep
kept_in login domain d = required Shape (list_under (codes "accounts") d) >>= kept_entries login domain

-- what is made of a whole text, where it is a value, unless there was no memory
abbrev pub ReadsWhole : {X : Type 0} → (Data → X) → Option Data → Result X (Fault Invalid) → Type 0
ReadsWhole f whole (Ok x) = option_map f whole ≡ Some x
ReadsWhole f whole (Err (Step invalid)) = whole ≡ None
ReadsWhole f whole (Err NoRoom) = ⊤

-- the ids of the accounts that are kept differ
abbrev pub AreDistinct : Result (Result Kept AccountsStep) (Fault Invalid) → Type 0
AreDistinct result = IfOk result (λ kept. IfOk kept (λ k. IsDistinct same_id k.accounts))

-- what is kept, where there is an entry and something is kept
abbrev pub settled : Kept → Result (List Account) AccountsStep
settled kept = if kept.some then some_left kept.accounts else Err Empty
