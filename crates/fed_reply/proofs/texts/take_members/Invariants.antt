use Rattle.std.proofs.Common.{◌≡◌, ◌≤◌, length, map}
use Rattle.serde_json.specs.Data.{Members, no_members}
use Rattle.fed_json.specs.Values.{members_in}
use Rattle.fed_reply.specs.Texts.{found_in, members_under}
use Rattle.fed_reply.proofs.texts.take_members.Given as goal

-- The members are those that were passed, of which this is found, and then those that are left.
abbrev pub invariant-loop-name : goal.invariant-loop-name
invariant-loop-name l = record {
  passed : Members;
  all : members_in l.depth no_members l.initial.values ≡ members_in l.depth passed l.values;
  found : found_in l.asked ≡ members_under l.asked passed;
  names : map (λ a. a.name) l.asked ≡ map (λ a. a.name) l.initial.asked;
  left : length l.values ≤ length l.initial.values;
}

abbrev pub decreases-loop-name : goal.decreases-loop-name
decreases-loop-name l = length l.values
