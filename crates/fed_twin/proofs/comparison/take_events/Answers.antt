use Rattle.std.proofs.Common.{◌+◌, ◌<◌, ◌^◌, ◌∙◌, sym, arith}
use Rattle.fed_twin.proofs.compared.Compare.{begins, at_next, at_end, may_step, fits_more, goes_on_kept, goes_on_skipped, ends_full}
use Rattle.fed_twin.proofs.compared.Compare.{ends_loud, ends_here}
use Rattle.fed_twin.proofs.comparison.take_events.Goals as goal
use Rattle.fed_twin.proofs.comparison.take_events.Goals.{then-is_kept, else-is_kept}

pub loop-n-init : goal.loop-n-init
loop-n-init g c = begins c.args.script.now c.args.most c.args.session.now c.requires c.events-n-items.ensures.read

pub take_event-requires : goal.take_event-requires
take_event-requires g c =
    let at =
    at_next c.events-n-items.result.now c.args.script.now.events c.loop-n.n-index c.n-item.result c.events-n-items.ensures.events
    c.loop-n-test.true c.n-item.is c.loop-n.invariant in
    let may = may_step at in
    record { few = may.few; fresh = may.fresh; providers = may.provider; status = may.status }

pub overflow_add-total : goal.overflow_add-total
overflow_add-total g c =
    let at =
    at_next c.events-n-items.result.now c.args.script.now.events c.loop-n.n-index c.n-item.result c.events-n-items.ensures.events
    c.loop-n-test.true c.n-item.is c.loop-n.invariant in
    let fits : c.loop-n.total + c.in-Some.requests < 2 ^ 64 = fits_more c.in-Some.requests c.in_ok-requests.ensures c.in-Some.is at in
    omega (arith, fits)

pub loop-n-preserved : goal.loop-n-preserved
loop-n-preserved g c =
    let at =
    at_next c.events-n-items.result.now c.args.script.now.events c.loop-n.n-index c.n-item.result c.events-n-items.ensures.events
    c.loop-n-test.true c.n-item.is c.loop-n.invariant in
    elim c.if-is_kept.branch [
      | then-is_kept w ↦ rw (w.kept-is, w.sent-is)
          (goes_on_kept c.in-Some.requests c.in_ok-requests.ensures c.in-Some.is c.if-kept-most.false at
          (sym c.is_kept.ensures ∙ w.if-is_kept.true))
      | else-is_kept w ↦ rw (w.kept-is, w.sent-is)
          (goes_on_skipped c.in-Some.requests c.in_ok-requests.ensures c.in-Some.is c.if-kept-most.false at
          (sym c.is_kept.ensures ∙ w.if-is_kept.false))
    ]

pub returns-then-kept-most : goal.returns-then-kept-most
returns-then-kept-most g c = ends_full c.loop-n.invariant c.if-kept-most.true

pub returns-in_default : goal.returns-in_default
returns-in_default g c =
    let at =
    at_next c.events-n-items.result.now c.args.script.now.events c.loop-n.n-index c.n-item.result c.events-n-items.ensures.events
    c.loop-n-test.true c.n-item.is c.loop-n.invariant in
    ends_loud c.in_ok-requests.ensures c.in_default.is c.if-kept-most.false at

pub returns-after-loop-n : goal.returns-after-loop-n
returns-after-loop-n g c =
    ends_here
    (at_end c.events-n-items.result.now c.args.script.now.events c.loop-n.n-index c.events-n-items.ensures.events c.loop-n-test.false
    c.loop-n.invariant)
