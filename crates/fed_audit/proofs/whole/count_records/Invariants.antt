use Rattle.std.proofs.Common.{◌≡◌, ◌+◌, not, count_by, length}
use Rattle.fed_script.specs.Script.{is_blank, lines_of}
use Rattle.fed_audit.proofs.whole.count_records.Given as goal

-- What was counted, and what stands in the lines that are left, is all.
abbrev pub invariant-loop-line : goal.invariant-loop-line
invariant-loop-line l =
    l.count + count_by (λ line. not (is_blank line)) (lines_of l.rest) ≡ count_by (λ line. not (is_blank line)) (lines_of l.text)

abbrev pub decreases-loop-line : goal.decreases-loop-line
decreases-loop-line l = length l.rest
