use Rattle.std.proofs.Common.{sym, subst}
use Rattle.fed_trace.specs.OfScript.{trace_of}
use Rattle.fed_run.proofs.saves.Steps.{GoesOn, begins, at_next, may_step, goes_on, at_end}
use Rattle.fed_run.proofs.save.take_events.Goals as goal

pub loop-n-init : goal.loop-n-init
loop-n-init g c =
    subst (λ events. GoesOn c.args.session.now events (trace_of c.args.script.now)) (sym c.events-events.ensures.events)
    (begins c.args.script.now c.args.session.now c.requires c.events-events.ensures.read)

pub step-requires : goal.step-requires
step-requires g c =
    let may = may_step
    (at_next c.events-events.result.now c.loop-n.n-index c.n-item.result c.loop-n-test.true c.n-item.is c.loop-n.invariant) in
    record { few = may.few; fresh = may.fresh; providers = may.provider; status = may.status }

pub loop-n-preserved : goal.loop-n-preserved
loop-n-preserved g c =
    goes_on
    (at_next c.events-events.result.now c.loop-n.n-index c.n-item.result c.loop-n-test.true c.n-item.is c.loop-n.invariant)
    (λ T stands. (c.in_ok-_records.ensures.row T stands).1)

pub returns : goal.returns
returns g c = at_end c.events-events.result.now c.loop-n.n-index c.loop-n-test.false c.loop-n.invariant
