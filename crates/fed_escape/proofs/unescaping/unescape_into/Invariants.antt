use Rattle.std.proofs.Common.{◌≡◌, ◌≤◌, ◌-◌, ◌++◌, length, take, drop}
use Rattle.json.specs.Print.{escape}
use Rattle.fed_escape.proofs.unescaping.unescape_into.Given as goal

abbrev pub invariant-loop-read : goal.invariant-loop-read
invariant-loop-read l = record {
  text : l.bytes ≡ escape (take l.end l.room) ++ drop l.read l.bytes;
  within : l.read ≤ length l.bytes;
  fewer : l.end ≤ l.read;
  len : length l.room ≡ length l.initial.room;
}

abbrev pub decreases-loop-read : goal.decreases-loop-read
decreases-loop-read l = length l.bytes - l.read
