use Rattle.std.proofs.Common.{length}
use Rattle.std.specs.Option.{option_copied}
use Rattle.fed_suffix.specs.Label.{labels_in, labels_after}
use Rattle.fed_suffix.specs.Opened.{Leads}
use Rattle.fed_suffix.proofs.insertion.follow.Given as goal

-- the labels so far lead to the node
abbrev pub invariant-loop-rest : goal.invariant-loop-rest
invariant-loop-rest l = Leads (labels_in l.labels) l.fn.whole l.above.items l.node (labels_after (option_copied l.rest))

abbrev pub decreases-loop-rest : goal.decreases-loop-rest
decreases-loop-rest l = length (labels_after (option_copied l.rest))
