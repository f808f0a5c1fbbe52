use Rattle.std.proofs.Common.{◌≡◌, ◌<◌, ◌≤◌, ◌-◌, ◌++◌, decimal, length, take}
use Rattle.fed_script.proofs.plain.longer.Given as goal

abbrev pub invariant-loop-at : goal.invariant-loop-at
invariant-loop-at l = (l.at ≤ length l.rest) × ((0 < l.number) × (decimal l.number ≡ decimal l.front ++ take l.at l.rest))

abbrev pub decreases-loop-at : goal.decreases-loop-at
decreases-loop-at l = length l.rest - l.at
