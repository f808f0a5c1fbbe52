use Rattle.std.proofs.Common.{sym, subst, refl}
use Rattle.fed_script.specs.declared.event.Event.TheVariants as events
use Rattle.fed_session.specs.Session.{State, Stands}
use Rattle.fed_session.specs.StepParts.{revived}
use Rattle.fed_session.proofs.events.Resume.{owes_idpclose}
use Rattle.fed_session.proofs.stands.Stands.{stands_after}
use Rattle.fed_session.proofs.session.Session.idpclose.Goals as goal

pub returns-clause-row : goal.returns-clause-row
returns-clause-row g c = λ T h.
    let before = subst (λ (s : State). Stands (revived s) T) (sym c.self.view_is) h in
    let owed = owes_idpclose _ _ T c.args.line c.args.page before refl c.in_ok-outs.outs c.in_ok-outs.ensures.ok in
    (owed.0, stands_after _ _ T c.args.line (events.IdpClose c.args.page) before tt refl refl owed.1)
