use Rattle.std.proofs.Common.{◌≤◌, ◌<◌, ◌+◌, ◌*◌, ◌∙◌, sym, ap, subst, refl, arith}
use Rattle.fed_script.specs.declared.event.Event.TheVariants as events
use Rattle.fed_session.specs.declared.sight.Sight.{Sight}
use Rattle.fed_session.specs.Session.{State, Stands}
use Rattle.fed_session.specs.StepParts.{revived}
use Rattle.fed_trace.specs.Row.{have_cookies}
use Rattle.fed_session.proofs.clauses.Cookies.{room_after, few_have}
use Rattle.fed_session.proofs.events.Event.{owes_have}
use Rattle.fed_trace.proofs.events.Aside.{have_records}
use Rattle.fed_session.proofs.stands.Stands.{stands_after}
use Rattle.fed_session.proofs.session.Session.have.Goals as goal

pub returns-clause-row : goal.returns-clause-row
returns-clause-row c = λ T line h.
    let before = subst (λ (s : State). Stands (revived s) T) (sym c.self.view_is) h in (
      c.new.ensures ∙ have_records T line c.args.have.now,
      stands_after _ _ T line (events.Have c.args.have.now) before tt refl refl
          (owes_have _ _ T line c.args.have.now before c.in_ok-take_have.ensures refl),
    )

pub take_have-requires-clause-room : goal.take_have-requires-clause-room
take_have-requires-clause-room c =
    let low = subst (λ (s : State). s.entered ≤ 128 * s.steps) (sym c.self.view_is) c.requires.room in
    let few = subst (λ (s : State). s.steps < 1000000) (sym c.self.view_is) c.requires.few in
    omega (arith, low, few)

pub returns-clause-room : goal.returns-clause-room
returns-clause-room c =
    let sight = c.self.inside.sight in
    let more =
    room_after sight.time sight.cookies (have_cookies sight.cookies.rules sight.time c.args.have.now) c.take_have.new.sight.cookies.entered
    (ap (λ (s : Sight). s.cookies.entered) c.in_ok-take_have.ensures)
    (few_have sight.cookies.rules sight.time c.args.have.now) in
    subst (λ (s : State). c.take_have.new.sight.cookies.entered ≤ s.entered + 128) c.self.view_is more
