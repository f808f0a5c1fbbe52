use Rattle.std.proofs.Common.{◌≡◌, ◌+◌, ◌-◌, ◌<◌, ◌^◌, true, false, [], length}
use Rattle.fed_script.proofs.pieces.Feeds.{FedFront}
use Rattle.fed_script.proofs.reader.ScriptReader.read_piece.Given as goal

-- A front of the piece was read, and gave the lines.
abbrev pub invariant-loop-lines : goal.invariant-loop-lines
invariant-loop-lines l = record {
  fed : FedFront l.fn.self l.self l.fn.piece l.rest l.lines;
  few : l.self.phase.over ≡ false → l.self.phase.number + length l.rest < 2 ^ 32 - 1;
  over : l.fn.self.phase.over ≡ true → (l.self.phase.over ≡ true) × (l.lines ≡ []);
  alive : l.self.alive ≡ l.fn.self.alive;
}

abbrev pub decreases-loop-lines : goal.decreases-loop-lines
decreases-loop-lines l = length l.rest
