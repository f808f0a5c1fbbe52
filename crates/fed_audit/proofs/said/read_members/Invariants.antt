use Rattle.std.proofs.Common.{◌≡◌, length}
use Rattle.serde_json.specs.Data.{Members, no_members}
use Rattle.fed_json.specs.Values.{members_in}
use Rattle.fed_audit.specs.Said.{HaveMembers}
use Rattle.fed_audit.proofs.said.read_members.Given as goal

-- The members are those that were passed, of which this is found, and then those that are left.
abbrev pub invariant-loop-name : goal.invariant-loop-name
invariant-loop-name l =
    (passed : Members) × (members_in l.depth no_members l.initial.values ≡ members_in l.depth passed l.values)
    × HaveMembers l.initial.asked l.asked passed

abbrev pub decreases-loop-name : goal.decreases-loop-name
decreases-loop-name l = length l.values
