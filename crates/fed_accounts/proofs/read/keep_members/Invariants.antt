use Rattle.std.proofs.Common.{◌≡◌, length}
use Rattle.std.specs.Prelude.{IfOk}
use Rattle.std.specs.List.{IsDistinct}
use Rattle.std.specs.Option.{option_copied}
use Rattle.serde_json.specs.Data.{Members, no_members}
use Rattle.fed_json.specs.Values.{members_in}
use Rattle.fed_accounts.specs.Accounts.{same_id}
use Rattle.fed_accounts.specs.Kept.{kept_under}
use Rattle.fed_accounts.proofs.read.keep_members.Given as goal

-- The members are those that were found, and then those that are left.
abbrev pub invariant-loop-kept : goal.invariant-loop-kept
invariant-loop-kept l =
    (ms : Members) × (members_in l.depth no_members l.initial.values ≡ members_in l.depth ms l.values)
    × (l.kept ≡ kept_under (option_copied l.login) (option_copied l.domain) ms)
    × IfOk l.kept (λ k. IsDistinct same_id k.accounts)

abbrev pub decreases-loop-kept : goal.decreases-loop-kept
decreases-loop-kept l = length l.values
