use Rattle.fed_slice.proofs.joined.Sets.{Halves}
use Rattle.fed_slice.proofs.sets.root_of.Given as goal

-- the number stands where the one that is looked for does, and the sets are as they were
abbrev pub invariant-loop-at : goal.invariant-loop-at
invariant-loop-at l = Halves l.initial.parents.items l.parents.items l.number l.at

abbrev pub decreases-loop-at : goal.decreases-loop-at
decreases-loop-at l = l.at
