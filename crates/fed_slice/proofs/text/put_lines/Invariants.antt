use Rattle.std.proofs.Common.{◌≡◌, ◌≤◌, ◌+◌, ◌++◌, length}
use Rattle.fed_script.specs.Script.{lines_of}
use Rattle.fed_slice.specs.Lines.{lines_kept, text_of}
use Rattle.fed_slice.specs.Linked.{is_number}
use Rattle.fed_slice.proofs.text.put_lines.Given as goal

-- The text so far and what is to follow are the whole, and the lines that are left are as many as their numbers.
abbrev pub invariant-loop-line : goal.invariant-loop-line
invariant-loop-line l = record {
  whole : l.text.items ++ text_of (lines_kept (is_number l.fn.lines.keys) l.number (lines_of l.rest))
      ≡ l.fn.text.items ++ text_of (lines_kept (is_number l.fn.lines.keys) 2 (lines_of l.fn.bytes));
  number : l.number + length l.rest ≤ length l.fn.bytes + 2;
}

abbrev pub decreases-loop-line : goal.decreases-loop-line
decreases-loop-line l = length l.rest
