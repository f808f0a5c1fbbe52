use Rattle.std.proofs.Common.{◌≡◌, ◌++◌, take}
use Rattle.std.specs.List.{flat_map}
use Rattle.fed_run.specs.Make.{item_lines}
use Rattle.fed_run.proofs.make.push_items.Given as goal

-- the lines of the items so far
abbrev pub invariant-loop-item : goal.invariant-loop-item
invariant-loop-item l = l.text.items ≡ l.initial.text.items ++ flat_map (item_lines l.fn.calls) (take l.item-index l.items)
