use Rattle.std.proofs.Common.{◌≡◌, ◌+◌, ◌-◌, ◌<◌, ◌++◌, decimal, drop, take, length, ap, sym, ◌∙◌, arith}
use Rattle.std.proofs.Math.Seq.{take-append_seam}
use Rattle.std.proofs.lemmas.Fmt.{decimal_digit, length-decimal-le}
use Rattle.std.proofs.lemmas.List.{take-take}
use Rattle.fed_escape.proofs.runs.Written.{front_put}
use Rattle.fed_print.proofs.place.put_number.Goals as goal

pub returns-then-number-lt10-clause-written : goal.returns-then-number-lt10-clause-written
returns-then-number-lt10-clause-written c =
    c.put_byte.ensures.written
    ∙ ap (λ l. take c.args.at c.args.room.now ++ l) (sym (decimal_digit c.args.number c.if-number-lt10.true))

pub write_digits-start-requires : goal.write_digits-start-requires
write_digits-start-requires c =
    let number : c.from.result ≡ c.args.number = c.from.ensures in
    let small : c.from.result < 4294967296 = omega (arith, number, c.ranges.number.fits) in
    (length-decimal-le 16 c.from.result (omega arith) (omega (arith, small)) (omega (arith, small)), omega arith)

pub returns-clause-written : goal.returns-clause-written
returns-clause-written c =
    let start = c.write_digits-start.result in
    let buf = c.write_digits-start.new.buf in
    let text = decimal c.args.number in
    let ends : start + length text ≡ 16 = rw (c.from.ensures) at c.write_digits-start.ensures.start in
    let written = rw (c.from.ensures) at c.write_digits-start.ensures.written in
    let k : 16 - start ≡ length text = omega (arith, ends) in
    let left = take (32 - start) (drop start buf) in
    front_put 16 c.args.at (16 - start) c.args.room.now left (omega (arith, ends)) c.requires (omega arith)
    ∙ ap (λ l. take c.args.at c.args.room.now ++ l)
    (take-take (16 - start) (32 - start) (drop start buf) (omega arith) ∙ (λ i. take (k i) (written i)) ∙ take-append_seam text _)
