use Rattle.std.proofs.Common.{length}
use Rattle.fed_audit.specs.Compare.{At, end_lacks}
use Rattle.fed_audit.specs.Rows.{IsAt}
use Rattle.fed_audit.proofs.rows.Ways.{EndWay}
use Rattle.fed_audit.proofs.own.Rows.finish.Given as goal

abbrev pub invariant-rows : goal.invariant-rows
invariant-rows g l = (at : At) → IsAt l.initial.self at → EndWay l.self (end_lacks at.line at.left at.rows)

abbrev pub decreases-rows : goal.decreases-rows
decreases-rows g l = length l.self.events.now
