-- A front of the piece was taken, and what is found in it was noted.
use Rattle.std.proofs.Common.{length}
use Rattle.fed_check.proofs.checks.Pieces.{TookFront, HasRoomLeft}
use Rattle.fed_check.proofs.checker.Checker.take_piece.Given as goal

abbrev pub invariant-loop-found : goal.invariant-loop-found
invariant-loop-found l = record {
  took : TookFront l.fn.self l.self l.fn.piece l.rest l.found;
  room : HasRoomLeft l.self l.rest;
}

abbrev pub decreases-loop-found : goal.decreases-loop-found
decreases-loop-found l = length l.rest
