use Rattle.std.proofs.Common.{length, ◌-◌}
use Rattle.fed_slice.proofs.joined.Sets.{SetsSoFar}
use Rattle.fed_slice.proofs.sets.set_of.Given as goal

-- the numbers that were looked at are told apart
abbrev pub invariant-loop-number : goal.invariant-loop-number
invariant-loop-number l = SetsSoFar l.parents l.root l.number l.inside.items

abbrev pub decreases-loop-number : goal.decreases-loop-number
decreases-loop-number l = length l.parents - l.number
