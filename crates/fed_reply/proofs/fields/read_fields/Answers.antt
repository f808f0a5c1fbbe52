use Rattle.std.proofs.Common.{◌≡◌, true, sym}
use Rattle.std.specs.Prelude.{slice_index_or}
use Rattle.httparse.specs.Spans.{header_bytes}
use Rattle.httparse.specs.declared.spans.HeaderSpan.{HeaderSpan}
use Rattle.fed_reply.specs.Fields.{is_taken_field}
use Rattle.fed_reply.proofs.head.Fields.{fields_more, taken_more, refuses_at}
use Rattle.fed_reply.proofs.fields.read_fields.Goals as goal

pub returns-in-Err : goal.returns-in-Err
returns-in-Err c =
    let d : HeaderSpan = record { name = record { start = 0; end = 0 }; value = record { start = 0; end = 0 } } in
    refuses_at c.args.raw.now c.args.spans.now c.loop-span.span-index d c.in-Err.fault c.loop-span-test.true
    (rw (← c.of.ensures, ← c.of-in-loop-span.ensures) c.in-Err.ensures.refused)

pub loop-span-preserved : goal.loop-span-preserved
loop-span-preserved c =
    let d : HeaderSpan = record { name = record { start = 0; end = 0 }; value = record { start = 0; end = 0 } } in
    let now : is_taken_field (header_bytes c.args.raw.now (slice_index_or c.args.spans.now c.loop-span.span-index d)) ≡ true =
    rw (← c.of.ensures, ← c.of-in-loop-span.ensures) c.in-Ok.ensures.taken in
    record {
      kept =
          rw (
            c.in-Ok.ensures.ok,
            c.of.ensures,
            c.of-in-loop-span.ensures,
            c.loop-span.invariant.kept,
          ) (sym (fields_more c.args.raw.now c.args.spans.now c.loop-span.span-index d
          c.loop-span-test.true));
      taken = taken_more c.args.raw.now c.args.spans.now c.loop-span.span-index d c.loop-span-test.true c.loop-span.invariant.taken now;
    }
