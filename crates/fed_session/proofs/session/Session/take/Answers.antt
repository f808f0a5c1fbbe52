use Rattle.std.proofs.Common.{◌∙◌, sym, subst, refl, true}
use Rattle.fed_script.specs.declared.event.Event.TheVariants as events
use Rattle.fed_trace.specs.Effect.{Login, Flag}
use Rattle.fed_session.specs.Session.{State, Stands}
use Rattle.fed_session.specs.StepParts.{revived}
use Rattle.fed_session.proofs.events.Event.{owes_at, owes_close, close_records-stand, owes_prevent, owes_status, says_records-stand}
use Rattle.fed_session.proofs.stands.Stands.{stands_after}
use Rattle.fed_session.proofs.session.Session.take.Goals as goal

pub returns-in-Have-clause-row : goal.returns-in-Have-clause-row
returns-in-Have-clause-row g c = rw c.in-Have.is (rw (sym c.get.ensures) (λ T h. c.have.ensures.row T c.args.line h))

pub returns-in-At-clause-row : goal.returns-in-At-clause-row
returns-in-At-clause-row g c =
    rw c.in-At.is
    (λ T h.
    let before = subst (λ (s : State). Stands (revived s) T) (sym c.self.view_is) h in (
      c.new.ensures,
      stands_after _ _ T c.args.line (events.At c.in-At.time) before tt refl refl
          (owes_at _ _ T c.args.line c.in-At.time before refl refl),
    ))

pub returns-in-Load-clause-row : goal.returns-in-Load-clause-row
returns-in-Load-clause-row g c = rw c.in-Load.is (λ T h. c.load.ensures.row T c.args.line h)

pub returns-in_ok-outs-in-ClosePage-clause-row : goal.returns-in_ok-outs-in-ClosePage-clause-row
returns-in_ok-outs-in-ClosePage-clause-row g c =
    rw c.in-ClosePage.is
    (λ T h.
    let before = subst (λ (s : State). Stands (revived s) T) (sym c.self-in-ClosePage.view_is) h in (
      c.in_ok-outs-in-ClosePage.ensures.outs ∙ close_records-stand _ T c.args.line c.in-ClosePage.page before,
      stands_after _ _ T c.args.line (events.ClosePage c.in-ClosePage.page) before tt refl refl
          (owes_close _ _ T c.args.line c.in-ClosePage.page before refl c.in_ok-outs-in-ClosePage.ensures.tabs),
    ))

pub returns-in_ok-outs-in-SetStatus-clause-row : goal.returns-in_ok-outs-in-SetStatus-clause-row
returns-in_ok-outs-in-SetStatus-clause-row g c =
    rw c.in-SetStatus.is
    (λ T h.
    let before = subst (λ (s : State). Stands (revived s) T) (sym c.self-in-SetStatus.view_is) h in (
      c.in_ok-outs-in-SetStatus.ensures.outs ∙ says_records-stand _ T c.args.line c.in-SetStatus.page (λ origin. Login origin
          c.in-SetStatus.status) before,
      stands_after _ _ T c.args.line (events.SetStatus c.in-SetStatus.page c.in-SetStatus.status) before tt refl refl
          (owes_status _ _ T c.args.line c.in-SetStatus.page c.in-SetStatus.status before refl c.in_ok-outs-in-SetStatus.ensures.login
          refl),
    ))

pub returns-in_ok-outs-in-Prevent-clause-row : goal.returns-in_ok-outs-in-Prevent-clause-row
returns-in_ok-outs-in-Prevent-clause-row g c =
    rw c.in-Prevent.is
    (λ T h.
    let before = subst (λ (s : State). Stands (revived s) T) (sym c.self-in-Prevent.view_is) h in (
      c.in_ok-outs-in-Prevent.ensures.outs ∙ says_records-stand _ T c.args.line c.in-Prevent.page (λ origin. Flag origin true) before,
      stands_after _ _ T c.args.line (events.Prevent c.in-Prevent.page) before tt refl refl
          (owes_prevent _ _ T c.args.line c.in-Prevent.page before refl c.in_ok-outs-in-Prevent.ensures.flags refl),
    ))
