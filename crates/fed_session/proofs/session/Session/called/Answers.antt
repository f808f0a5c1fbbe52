use Rattle.std.proofs.Common.{◌≡◌, ◌∙◌, Some, sym, ap, subst, refl}
use Rattle.fed_trace.specs.Known.{input_of}
use Rattle.fed_session.specs.declared.sight.Sight.{Sight}
use Rattle.fed_session.specs.Session.{State, Stands}
use Rattle.fed_session.specs.StepParts.{revived}
use Rattle.fed_session.proofs.events.Input.{brings, owes_input, input_records}
use Rattle.fed_session.proofs.stands.Stands.{stands_after}
use Rattle.fed_session.proofs.session.Session.called.Goals as goal

pub returns-clause-row : goal.returns-clause-row
returns-clause-row g c = λ T h.
    let before = subst (λ (s : State). Stands (revived s) T) (sym c.self.view_is) h in
    let is : input_of c.args.event.now ≡ Some (c.in-Some.call, c.in-Some.input) = sym c.in_ok-call.ensures ∙ c.in-Some.is in
    let one = brings T c.args.event.now c.in-Some.call c.in-Some.input is in (
      c.in_ok-outs.ensures.outs ∙ input_records _ T c.args.line c.args.event.now c.in-Some.call c.in-Some.input before one,
      stands_after _ _ T c.args.line c.args.event.now before one.new refl refl
          (owes_input _ _ T c.args.line c.args.event.now c.in-Some.call c.in-Some.input before one c.in_ok-outs.ensures.sight
          c.in_ok-outs.ensures.tabs),
    )

pub returns-clause-stored : goal.returns-clause-stored
returns-clause-stored g c =
    ap (λ (s : Sight). s.cookies.entered) c.in_ok-outs.ensures.sight ∙ ap (λ (s : State). s.entered) c.self.view_is
