use Rattle.std.proofs.Common.{◌≡◌, ◌≤◌, ◌+◌, length}
use Rattle.fed_script.specs.Script.{lines_of}
use Rattle.fed_audit.specs.Compare.{At}
use Rattle.fed_audit.specs.Rows.{IsAt}
use Rattle.fed_audit.proofs.rows.Lines.{Goes}
use Rattle.fed_audit.proofs.lines.compare_lines.Given as goal

abbrev pub invariant-loop-line : goal.invariant-loop-line
invariant-loop-line g l = record {
  goes : (at : At) → IsAt l.initial.rows at → Goes at l.first l.text l.rows l.number l.rest l.requests;
  fits : l.number + length (lines_of l.rest) ≡ l.first + length (lines_of l.text);
  few : l.requests ≤ l.number;
}

abbrev pub decreases-loop-line : goal.decreases-loop-line
decreases-loop-line g l = length l.rest
