use Rattle.std.proofs.Common.{◌≡◌, length}
use Rattle.serde_json.specs.Data.{Members, object, no_members}
use Rattle.fed_json.specs.Values.{members_in}
use Rattle.fed_script.specs.Said.{Says}
use Rattle.fed_script.proofs.saying.read_members.Given as goal

-- The members are those that were found, which say this, and then those that are left.
abbrev pub invariant-loop-name : goal.invariant-loop-name
invariant-loop-name l =
    (found : Members) × (members_in l.depth no_members l.fn.values ≡ members_in l.depth found l.values) × Says l.said (object found)

abbrev pub decreases-loop-name : goal.decreases-loop-name
decreases-loop-name l = length l.values
