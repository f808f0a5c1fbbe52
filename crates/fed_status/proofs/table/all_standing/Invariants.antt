use Rattle.std.proofs.Common.{◌≡◌, ◌++◌, drop}
use Rattle.std.specs.Map.{values_of}
use Rattle.fed_entries.specs.Entries.{entries_in}
use Rattle.fed_status.proofs.table.all_standing.Given as goal

-- What was copied, and what stands in the slots that are left, is all.
abbrev pub invariant-loop-slot : goal.invariant-loop-slot
invariant-loop-slot l = l.list ++ values_of (entries_in (drop l.slot-index l.slots)) ≡ values_of (entries_in l.slots)
