use Rattle.std.proofs.Common.{◌≡◌, ◌≤◌, length}
use Rattle.fed_twin.specs.Script.{kept_events}
use Rattle.fed_twin.proofs.kept.next_kept.Given as goal

abbrev pub invariant-loop-first : goal.invariant-loop-first
invariant-loop-first l =
    record { kept : kept_events l.left ≡ kept_events l.fn.events; shorter : length l.left ≤ length l.fn.events }

abbrev pub decreases-loop-first : goal.decreases-loop-first
decreases-loop-first l = length l.left
