use Rattle.std.proofs.Common.{◌≡◌, length}
use Rattle.fed_entries.proofs.slots.Closed.{AreWritten}
use Rattle.fed_entries.proofs.entries.place_anew.Given as goal

-- Those before are written.
abbrev pub invariant-loop-place : goal.invariant-loop-place
invariant-loop-place g l =
    AreWritten g.K.PartialEq.eq l.place l.slots l.initial.places.entries l.places.entries
    × (length l.places.entries ≡ length l.initial.places.entries)
