use Rattle.std.proofs.Common.{sym, ap, subst, ◌∙◌}
use Rattle.fed_session.specs.Session.{Stands}
use Rattle.fed_trace.specs.Row.{with_event}
use Rattle.fed_audit.specs.declared.own.Rows.{Rows}
use Rattle.fed_audit.specs.Told.{told_after}
use Rattle.fed_audit.proofs.rows.Steps.{may_step, took}
use Rattle.fed_audit.proofs.own.Rows.take.Goals as goal

pub step-requires : goal.step-requires
step-requires g c =
    let may = may_step c.args.self.now c.requires.0 c.args.n.now c.args.after.now c.requires.1 c.requires.2 in
    record { few = may.few; fresh = may.fresh; providers = may.provider; status = may.status }

pub returns-clause-took : goal.returns-clause-took
returns-clause-took g c = λ at h.
    let row = c.in_ok-outs.ensures.row h.trace h.stands in
    let eq = c.in_ok-expect_all.ensures in
    took c.args.self.now c.expect_all.new.self at c.args.n.now c.args.after.now c.in_ok-outs.outs h c.requires.2 row.0
    (subst (λ (x : Rows). Stands x.session (with_event h.trace c.args.n.now.line c.args.n.now.event)) (sym eq) row.1)
    (ap (λ (x : Rows). x.line) eq) (ap (λ (x : Rows). x.events.now) eq)
    (ap (λ (x : Rows). x.left) eq ∙ ap (told_after c.in_ok-outs.outs) c.requires.3)

pub returns-clause-events : goal.returns-clause-events
returns-clause-events g c = ap (λ (x : Rows). x.events.now) c.in_ok-expect_all.ensures
