use Rattle.std.proofs.Common.{◌≡◌, ◌≤◌, ◌-◌, ◌+◌, ◌*◌, ◌++◌, length, take, drop}
use Rattle.json.specs.Print.{escape}
use Rattle.fed_escape.proofs.escaping.escape_into.Given as goal

abbrev pub invariant-loop-read : goal.invariant-loop-read
invariant-loop-read l = record {
  text : take l.end l.room ++ escape (drop l.read l.bytes) ≡ take l.at l.initial.room ++ escape l.bytes;
  within : l.read ≤ length l.bytes;
  room : l.end ≤ l.at + 6 * l.read;
  len : length l.room ≡ length l.initial.room;
}

abbrev pub decreases-loop-read : goal.decreases-loop-read
decreases-loop-read l = length l.bytes - l.read
