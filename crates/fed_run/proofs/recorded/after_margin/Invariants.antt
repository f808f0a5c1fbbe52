use Rattle.std.proofs.Common.{◌≡◌, length, drop}
use Rattle.std.specs.List.{prefix_len}
use Rattle.fed_script.specs.Script.{is_margin}
use Rattle.fed_run.proofs.recorded.after_margin.Given as goal

-- What follows the margin of the rest follows the margin of the line.
abbrev pub invariant-loop-first : goal.invariant-loop-first
invariant-loop-first l = drop (prefix_len is_margin l.rest) l.rest ≡ drop (prefix_len is_margin l.fn.line) l.fn.line

abbrev pub decreases-loop-first : goal.decreases-loop-first
decreases-loop-first l = length l.rest
