use Rattle.std.proofs.Common.{◌≡◌, ◌+◌, ◌++◌, length, option_map}
use Rattle.std.specs.Option.{option_copied, option_map_or}
use Rattle.fed_suffix.specs.Label.{labels_of, labels_before, labels_in, ascii_labels}
use Rattle.fed_suffix.proofs.label.read_labels.Given as goal

-- with those that are left, the labels read so far are all labels
abbrev pub invariant-loop-rest : goal.invariant-loop-rest
invariant-loop-rest l =
    option_map (λ more. labels_in l.labels.items ++ more) (ascii_labels (labels_before (option_copied l.rest)))
    ≡ ascii_labels (labels_of l.text)

abbrev pub decreases-loop-rest : goal.decreases-loop-rest
decreases-loop-rest l = option_map_or (λ rest. length rest.now + 1) l.rest 0
