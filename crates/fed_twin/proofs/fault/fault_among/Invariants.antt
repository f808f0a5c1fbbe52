use Rattle.std.proofs.Common.{◌+◌, ◌≤◌, length}
use Rattle.fed_twin.specs.Clauses.{known_by}
use Rattle.fed_twin.specs.Names.{names_of}
use Rattle.fed_twin.specs.Script.{kept_events}
use Rattle.fed_twin.proofs.twins.Test.{Walks}
use Rattle.fed_twin.proofs.fault.fault_among.Given as goal

-- what is found of the events that are left is found of all, and their numbers fit
abbrev pub invariant-loop-one : goal.invariant-loop-one
invariant-loop-one l =
    record {
      walks : Walks (known_by l.rules l.parties) (kept_events l.fn.a) (kept_events l.fn.b) (names_of l.names) l.event (kept_events l.left)
          (kept_events l.right);
      counted : l.event + length l.left ≤ length l.fn.a + 1;
    }

abbrev pub decreases-loop-one : goal.decreases-loop-one
decreases-loop-one l = length l.left
