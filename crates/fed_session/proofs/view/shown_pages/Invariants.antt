use Rattle.std.proofs.Common.{◌≡◌, ◌++◌, drop}
use Rattle.fed_entries.specs.Entries.{entries_in}
use Rattle.fed_session.proofs.view.shown_pages.Given as goal

-- What was shown, and what stands in the slots that are left, is all.
abbrev pub invariant-loop-slot : goal.invariant-loop-slot
invariant-loop-slot l = l.shown ++ entries_in (drop l.slot-index l.slots) ≡ entries_in l.slots
