use Rattle.std.proofs.Common.{◌≡◌, ◌++◌}
use Rattle.std.specs.List.{flat_map, range_with_len}
use Rattle.fed_run.specs.Make.{item_line}
use Rattle.fed_run.proofs.make.push_item.Given as goal

-- the lines for the calls so far
abbrev pub invariant-loop-before : goal.invariant-loop-before
invariant-loop-before l = l.text.items ≡ l.initial.text.items ++ flat_map (item_line l.fn.item) (range_with_len 1 l.before)
