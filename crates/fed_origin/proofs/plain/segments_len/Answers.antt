use Rattle.std.proofs.Common.{◌≡◌, true, take, subst, arith}
use Rattle.fed_origin.specs.Plain.{is_segment}
use Rattle.fed_origin.proofs.urls.Segments.{one_segment, more_segments}
use Rattle.fed_origin.proofs.plain.segments_len.Goals as goal

pub loop-end-init : goal.loop-end-init
loop-end-init c = record { within = c.in_ok-end.ensures.0; all = one_segment (take c.in_ok-end.end c.args.text.now) c.in_ok-end.ensures.1 }

pub loop-end-preserved : goal.loop-end-preserved
loop-end-preserved c =
    let len = c.in_ok-end-2.field-0 in
    let last = subst (λ l. is_segment (take len l) ≡ true) c.split_at.ensures.back c.in_ok-end-2.ensures.1 in
    record {
      within = omega (arith, c.split_at.ensures.back_len, c.in_ok-end-2.ensures.0);
      all = more_segments c.args.text.now c.loop-end.end len c.loop-end-test.true c.if-text-end-eq47.true c.loop-end.invariant.all last;
    }
