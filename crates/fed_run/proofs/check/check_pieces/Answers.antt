use Rattle.std.proofs.Common.{Err, refl, ◌≡◌, ◌≤◌, ◌+◌, arith, length}
use Rattle.std.proofs.lemmas.List.{length-take}
use Rattle.fed_run.proofs.streams.Lines.{takes_more, err_given}
use Rattle.fed_run.proofs.checks.Ends.{short_taken}
use Rattle.fed_run.proofs.checks.Pieces.{stops_by, stops_taken, is_long}
use Rattle.fed_run.proofs.check.check_pieces.Goals as goal

pub returns-in-Err-check_piece-clause-err : goal.returns-in-Err-check_piece-clause-err
returns-in-Err-check_piece-clause-err g c =
    let so = c.loop-count.invariant in
    let fits : length c.take.new.buf ≤ c.min-room.result = omega (arith, simp (length-take) at c.take.auto.buf) in
    let small : c.min-room.result ≤ 65536 = omega (arith, c.min-room.ensures) in
    let few : length so.bytes + c.min-room.result ≤ 67108864 = omega (arith, c.min-room.ensures, so.count, c.loop-count-test.true) in
    stops_by c.in-Err-check_piece.stop c.in-Err-check_piece.ensures.kind
    (stops_taken _ _ _ _ _ so.bytes c.take.new.buf _ c.in-Ok.n c.min-room.result so.consumed c.in-Ok.ensures.bytes.0 c.in-Ok.ensures.bound.0
    fits small few
    (c.in-Err-check_piece.ensures.err _ so.bytes so.at))

pub returns-in-Ok-take-clause-ok : goal.returns-in-Ok-take-clause-ok
returns-in-Ok-take-clause-ok g c =
    let so = c.loop-count.invariant in
    let one : length c.take-2.new.buf ≡ 1 = omega (arith, simp (length-take) at c.take-2.auto.buf) in
    let full : length so.bytes ≡ 67108864 = omega (arith, so.count, so.within, c.loop-count-test.false) in
    is_long _ _ _ _ _ so.bytes c.take-2.new.buf c.in-Ok-take.field-0 so.consumed c.in-Ok-take.ensures.bytes.0 c.in-Ok-take.ensures.bound.0
    one c.in-Ok-take.field-0-test.1 full so.at

pub returns-in-Err-check_piece-clause-takes : goal.returns-in-Err-check_piece-clause-takes
returns-in-Err-check_piece-clause-takes g c =
    let so = c.loop-count.invariant in
    let fits : length c.take.new.buf ≤ c.min-room.result = omega (arith, simp length-take at c.take.auto.buf) in
    let few : length so.bytes + c.min-room.result ≤ 67108865 = omega (arith, c.min-room.ensures, so.count, c.loop-count-test.true) in
    takes_more _ _ _ so.bytes c.take.new.buf c.in-Ok.n c.min-room.result so.consumed c.in-Ok.ensures.bytes.0 fits few

pub returns-in-Ok-take-clause-takes : goal.returns-in-Ok-take-clause-takes
returns-in-Ok-take-clause-takes g c =
    let so = c.loop-count.invariant in
    let fits : length c.take-2.new.buf ≤ 1 = omega (arith, simp length-take at c.take-2.auto.buf) in
    takes_more _ _ _ so.bytes c.take-2.new.buf c.in-Ok-take.field-0 1 so.consumed c.in-Ok-take.ensures.bytes.0 fits (omega
    (arith, so.count, so.within))

pub returns-in-Err-check_piece-clause-short : goal.returns-in-Err-check_piece-clause-short
returns-in-Err-check_piece-clause-short g c =
    let so = c.loop-count.invariant in
    let fits : length c.take.new.buf ≤ c.min-room.result = omega (arith, simp (length-take) at c.take.auto.buf) in
    let few : length so.bytes + c.min-room.result ≤ 67108864 = omega (arith, c.min-room.ensures, so.count, c.loop-count-test.true) in
    λ is. short_taken _ _ _ _ _ so.bytes c.take.new.buf _ c.in-Ok.n c.min-room.result so.consumed c.in-Ok.ensures.bytes.0
    c.in-Ok.ensures.bound.0 fits few (c.in-Err-check_piece.ensures.less (err_given (Err c.in-Err-check_piece.stop) _ _ refl is) _ so.bytes so.at)
