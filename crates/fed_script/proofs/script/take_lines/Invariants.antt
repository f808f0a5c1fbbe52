use Rattle.std.proofs.Common.{◌≡◌, ◌≤◌, ◌+◌, length}
use Rattle.fed_script.specs.Script.{events_of, lines_of}
use Rattle.fed_script.specs.Further.{with_events}
use Rattle.fed_script.proofs.script.take_lines.Given as goal

-- What was read and then what is left is the whole, and the lines that are left are as many as their numbers.
abbrev pub invariant-loop-line : goal.invariant-loop-line
invariant-loop-line l = record {
  whole : with_events l.events (events_of l.used l.number (lines_of l.rest))
      ≡ with_events l.fn.events (events_of l.fn.used 2 (lines_of l.fn.lines));
  number : l.number + length l.rest ≤ length l.fn.lines + 2;
}

abbrev pub decreases-loop-line : goal.decreases-loop-line
decreases-loop-line l = length l.rest
