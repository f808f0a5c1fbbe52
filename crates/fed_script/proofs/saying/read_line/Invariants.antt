use Rattle.std.proofs.Common.{◌≡◌, codes, length}
use Rattle.serde_json.specs.Data.{Members, object, no_members}
use Rattle.serde_json.specs.Find.{get_member}
use Rattle.fed_json.specs.Values.{members_in}
use Rattle.fed_script.specs.Entries.{all_said, entries_seen, providers_named}
use Rattle.fed_script.specs.Said.{Says}
use Rattle.fed_script.proofs.saying.read_line.Given as goal

-- The members are those that were found, which say this, and then those that are left.
abbrev pub invariant-loop-name : goal.invariant-loop-name
invariant-loop-name l =
    (found : Members) × (members_in l.depth no_members l.fn.values ≡ members_in l.depth found l.values) × Says l.said.members (object found)
    × (all_said (entries_seen l.said.providers) ≡ providers_named (get_member (codes "providers") found))

abbrev pub decreases-loop-name : goal.decreases-loop-name
decreases-loop-name l = length l.values
