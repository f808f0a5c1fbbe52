use Rattle.std.proofs.Common.{refl}
use Rattle.fed_check.proofs.checks.Pieces.{taking_begins, taking_goes_on, taking_ends, few_now, room_after}
use Rattle.fed_check.proofs.checker.Checker.take_piece.Goals as goal

pub loop-found-init : goal.loop-found-init
loop-found-init c =
    let h = c.requires.few refl in
    record {
      took = rw c.new-found.ensures (taking_begins c.args.self.now c.args.piece.now);
      room = record { bytes = h.0; read = record { rest = h.1.rest; stage = h.1.stage }; few = h.2 };
    }

pub take-requires : goal.take-requires
take-requires c = record { few = few_now _ _ c.loop-found.invariant.room }

pub loop-found-preserved : goal.loop-found-preserved
loop-found-preserved c =
    let so = c.loop-found.invariant in
    let one = rw c.in-Some.is at c.in_ok-further.ensures.some in
    record { took = taking_goes_on _ _ _ _ _ _ _ _ so.took one; room = room_after _ _ _ _ _ _ so.room one }

pub returns : goal.returns
returns c =
    let none = rw c.in_default.is at c.in_ok-further.ensures.none in
    record { found = taking_ends _ _ _ _ _ _ _ c.loop-found.invariant.took none.0 none.1 }
