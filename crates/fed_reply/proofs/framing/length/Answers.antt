use Rattle.std.proofs.Common.{rules, arith, ◌≡◌, ◌<◌, sym, ◌∙◌, true}
use Rattle.std.specs.Char.{is_ascii_digit}
use Rattle.std.proofs.Common.{get_or}
use Rattle.fed_reply.proofs.body.Length.{below_limit, digits_more, number_more}
use Rattle.fed_reply.proofs.framing.length.Goals as goal

pub overflow_mul-length : goal.overflow_mul-length
overflow_mul-length c =
    let small =
    below_limit c.args.value.now c.loop-byte.byte-index c.loop-byte.length c.loop-byte-test.true c.if-value-gt19.false
    c.loop-byte.invariant.digits c.loop-byte.invariant.number in
    omega (arith, small)

pub overflow_add-length : goal.overflow_add-length
overflow_add-length c =
    let small =
    below_limit c.args.value.now c.loop-byte.byte-index c.loop-byte.length c.loop-byte-test.true c.if-value-gt19.false
    c.loop-byte.invariant.digits c.loop-byte.invariant.number in
    let byte : get_or c.args.value.now c.loop-byte.byte-index 0 < 256 = search (rules, c.type_inv.value c.loop-byte.byte-index) in
    omega (arith, small, c.from.ensures, byte)

pub loop-byte-preserved : goal.loop-byte-preserved
loop-byte-preserved c =
    let here : is_ascii_digit (get_or c.args.value.now c.loop-byte.byte-index 0) ≡ true =
    sym c.is_ascii_digit.ensures.value ∙ c.if-not-is_ascii_digit.false in
    record {
      digits = digits_more c.args.value.now c.loop-byte.byte-index c.loop-byte-test.true c.loop-byte.invariant.digits here;
      number =
          number_more c.args.value.now c.loop-byte.byte-index c.loop-byte.length c.from.result c.loop-byte-test.true here c.from.ensures
          c.loop-byte.invariant.number;
    }
