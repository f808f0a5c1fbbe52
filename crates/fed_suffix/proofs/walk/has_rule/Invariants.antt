use Rattle.std.proofs.Common.{◌≡◌, length}
use Rattle.std.specs.FinSet as set
use Rattle.std.specs.Option.{option_copied}
use Rattle.fed_suffix.specs.Label.{labels_in, labels_after}
use Rattle.fed_suffix.proofs.walk.has_rule.Given as goal

-- what is left of the rule is among the rules of the node
abbrev pub invariant-loop-rest : goal.invariant-loop-rest
invariant-loop-rest l =
    set.contains l.node (labels_after (option_copied l.rest), l.exception) ≡ set.contains l.top (labels_in l.labels, l.exception)

abbrev pub decreases-loop-rest : goal.decreases-loop-rest
decreases-loop-rest l = length (labels_after (option_copied l.rest))
