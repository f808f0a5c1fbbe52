use Rattle.std.proofs.Common.{◌≡◌, slice_get, drop}
use Rattle.std.specs.Map.{values_of}
use Rattle.fed_entries.specs.Entries.{entries_in}
use Rattle.fed_entries.proofs.entries.standing.Given as goal

-- What is looked for is among those that are left.
abbrev pub invariant-loop-slot : goal.invariant-loop-slot
invariant-loop-slot g l =
    slice_get (values_of (entries_in (drop l.slot-index l.slots))) l.before ≡ slice_get (values_of (entries_in l.slots)) l.k
