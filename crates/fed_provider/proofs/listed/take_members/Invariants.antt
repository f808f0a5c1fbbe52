use Rattle.std.proofs.Common.{◌≡◌, ◌≤◌, length}
use Rattle.serde_json.specs.Data.{Members, no_members}
use Rattle.fed_json.specs.Values.{members_in}
use Rattle.fed_provider.specs.Listed.{parts, parts_of}
use Rattle.fed_provider.proofs.listed.take_members.Given as goal

-- The members are those that were passed, which name this, and then those that are left.
abbrev pub invariant-loop-name : goal.invariant-loop-name
invariant-loop-name l = record {
  passed : Members;
  all : members_in l.depth no_members l.initial.values ≡ members_in l.depth passed l.values;
  names : parts l.named ≡ parts_of passed;
  left : length l.values ≤ length l.initial.values;
}

abbrev pub decreases-loop-name : goal.decreases-loop-name
decreases-loop-name l = length l.values
