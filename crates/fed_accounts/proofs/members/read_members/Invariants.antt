-- The members are those that were found, and then those that are left.
use Rattle.std.proofs.Common.{◌≡◌, length}
use Rattle.serde_json.specs.Data.{Members, no_members}
use Rattle.fed_json.specs.Values.{members_in}
use Rattle.fed_accounts.specs.Found.{parts, parts_of}
use Rattle.fed_accounts.proofs.members.read_members.Given as goal

abbrev pub invariant-loop-found : goal.invariant-loop-found
invariant-loop-found l =
    (ms : Members) × (members_in l.depth no_members l.initial.values ≡ members_in l.depth ms l.values)
    × (parts l.found ≡ parts_of ms)

abbrev pub decreases-loop-found : goal.decreases-loop-found
decreases-loop-found l = length l.values
