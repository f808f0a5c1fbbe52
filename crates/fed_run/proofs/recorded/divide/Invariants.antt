use Rattle.std.proofs.Common.{length}
use Rattle.fed_run.specs.Recorded.{is_divider}
use Rattle.fed_script.proofs.lines.Walk.{Walked}
use Rattle.fed_run.proofs.recorded.divide.Given as goal

-- The rest is left after so many lines, of which none divides.
abbrev pub invariant-loop-line : goal.invariant-loop-line
invariant-loop-line l = Walked is_divider l.bytes l.rest l.before

abbrev pub decreases-loop-line : goal.decreases-loop-line
decreases-loop-line l = length l.rest
