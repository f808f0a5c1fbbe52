use Rattle.std.proofs.Common.{◌≡◌, drop}
use Rattle.fed_suffix.specs.Label.{labels_of}
use Rattle.fed_suffix.proofs.label.one_label_more.Given as goal

-- the labels before those that were passed
abbrev pub invariant-loop : goal.invariant-loop
invariant-loop l = labels_of l.rest ≡ drop l.counter (labels_of l.name)
