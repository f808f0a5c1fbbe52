use Rattle.std.proofs.Common.{length, ◌+◌, ◌-◌}
use Rattle.tests_scripts.proofs.check.finds.Given as goal

abbrev pub decreases-loop-place : goal.decreases-loop-place
decreases-loop-place l = length l.script + 1 - l.place
