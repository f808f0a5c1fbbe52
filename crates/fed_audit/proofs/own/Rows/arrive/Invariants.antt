use Rattle.std.proofs.Common.{length}
use Rattle.fed_audit.specs.Compare.{At, arrive}
use Rattle.fed_audit.specs.Rows.{IsAt}
use Rattle.fed_audit.proofs.rows.Ways.{Way}
use Rattle.fed_audit.proofs.own.Rows.arrive.Given as goal

abbrev pub invariant-rows : goal.invariant-rows
invariant-rows g l = (at : At) → IsAt l.initial.self at → Way l.self (arrive l.line at.line at.left at.rows) l.line

abbrev pub decreases-rows : goal.decreases-rows
decreases-rows g l = length l.self.events.now
