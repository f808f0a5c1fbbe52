use Rattle.std.proofs.Common.{◌≡◌, ◌≤◌, ◌-◌, ◌++◌, drop, length}
use Rattle.fed_slice.specs.Linked.{chosen, texts}
use Rattle.fed_slice.proofs.parties.copies_of.Given as goal

-- the copies, and the names that are left of which it is told
abbrev pub invariant-loop-place : goal.invariant-loop-place
invariant-loop-place l = record {
  whole : l.copies.items ++ chosen (texts (drop l.place l.names)) (drop l.place l.told) ≡ chosen (texts l.names) l.told;
  within : l.place ≤ length l.names;
}

abbrev pub decreases-loop-place : goal.decreases-loop-place
decreases-loop-place l = length l.names - l.place
