use Rattle.std.proofs.Common.{sym, subst}
use Rattle.fed_trace.specs.OfScript.{trace_of}
use Rattle.fed_run.proofs.makes.Tally.{Counts, counts_start, counts_at, counts_next, room_for}
use Rattle.fed_run.proofs.summary.take_events.Goals as goal

pub loop-numbered-init : goal.loop-numbered-init
loop-numbered-init g c =
    subst (λ events. Counts c.args.session.now c.none-tally.result events (trace_of c.args.script.now)) (sym c.events-events.ensures.events)
    (counts_start c.args.script.now c.requires c.events-events.ensures.read c.none-tally.ensures)

pub loop-numbered-preserved : goal.loop-numbered-preserved
loop-numbered-preserved g c =
    let here =
    counts_at c.events-events.result.now c.loop-numbered.numbered-index c.numbered-item.result c.loop-numbered-test.true
    c.numbered-item.is c.loop-numbered.invariant in
    counts_next c.numbered-item.result _ here c.in_ok-tally.ensures

pub take_event-requires-clause-room : goal.take_event-requires-clause-room
take_event-requires-clause-room g c =
    let here =
    counts_at c.events-events.result.now c.loop-numbered.numbered-index c.numbered-item.result c.loop-numbered-test.true
    c.numbered-item.is c.loop-numbered.invariant in
    room_for c.numbered-item.result _ here
