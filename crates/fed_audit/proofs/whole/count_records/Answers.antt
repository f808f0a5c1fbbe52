use Rattle.std.proofs.Common.{◌∙◌, sym, arith}
use Rattle.fed_audit.proofs.verdicts.Counted.{is_below}
use Rattle.fed_audit.proofs.whole.count_records.Goals as goal

pub overflow_add-count : goal.overflow_add-count
overflow_add-count c =
    let below =
    is_below c.args.text.now c.loop-line.rest.now c.in-Some.line.now c.in-Some.after.now c.loop-line.count c.in-Some.ensures.lines
    (sym c.is_blank.ensures ∙ c.if-not-is_blank.true) c.loop-line.invariant in
    omega (arith, below)
