use Rattle.std.proofs.Common.{◌≡◌, ◌≤◌, false, length, arith, rules}
use Rattle.std.specs.Prelude.{is_some}
use Rattle.fed_run.proofs.lives.Fed.{fed_past, fed_on}
use Rattle.fed_run.proofs.live.Live.feed.Goals as goal
use Rattle.fed_run.proofs.live.Live.feed.Goals.{else-is_none-via-then-is_none+else-room-piece, else-is_none-via-else-is_none}

pub returns-then-room-piece-clause-fed : goal.returns-then-room-piece-clause-fed
returns-then-room-piece-clause-fed c = λ bytes none goes.
    fed_past _ c.args.self.now c.feed_front.new.self c.args.piece.now c.min-room.result
    (search (c.is_none.ensures, c.if-is_none.true, rules)) (omega (arith, c.saturating_sub.ensures, c.min-room.ensures))
    c.if-room-piece.true
    c.feed_front.ensures.none bytes goes

pub returns-else-is_none-clause-fed : goal.returns-else-is_none-clause-fed
returns-else-is_none-clause-fed c = λ bytes none goes.
    let whole : is_some c.feed_front.new.self.end ≡ false → length c.args.piece.now ≤ c.min-room.result = elim c.else-is_none.branch [
      | else-is_none-via-then-is_none+else-room-piece w ↦ λ _. omega (arith, w.if-room-piece.false)
      | else-is_none-via-else-is_none w ↦ λ no. absurd (search (no, c.is_none.ensures, w.if-is_none.false, rules))
    ] in
    fed_on _ c.args.self.now c.feed_front.new.self c.args.piece.now c.min-room.result whole c.feed_front.ensures.none
    c.feed_front.ensures.some bytes goes
