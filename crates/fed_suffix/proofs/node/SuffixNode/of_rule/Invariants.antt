use Rattle.std.proofs.Common.{◌≡◌, ◌+◌, ℕ, List, ◌++◌, length}
use Rattle.std.specs.FinSet as set
use Rattle.std.specs.Option.{option_copied, option_map_or}
use Rattle.fed_suffix.specs.Label.{labels_after}
use Rattle.fed_suffix.proofs.node.SuffixNode.of_rule.Given as goal

-- the node has the rule of the labels that were put in front
abbrev pub invariant-loop-left : goal.invariant-loop-left
invariant-loop-left l =
    (done : List (List ℕ)) × (labels_after (option_copied l.left) ++ done ≡ labels_after (option_copied l.labels))
    × (l.node ≡ set.insert set.empty (done, l.exception))

abbrev pub decreases-loop-left : goal.decreases-loop-left
decreases-loop-left l = option_map_or (λ left. length left.now + 1) l.left 0
