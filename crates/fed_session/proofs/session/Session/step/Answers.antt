use Rattle.std.proofs.Common.{◌≤◌, ◌+◌, ℕ, sym, subst}
use Rattle.fed_session.specs.Session.{State, Stands}
use Rattle.fed_session.proofs.linked.Linked.{steps_same}
use Rattle.fed_session.proofs.session.Session.step.Goals as goal

pub returns-in_err-outs-clause-link_steps : goal.returns-in_err-outs-clause-link_steps
returns-in_err-outs-clause-link_steps g c = λ T h.
    subst (λ (most : ℕ). c.take.new.steps ≤ c.args.steps.now + most)
    (steps_same _ T (subst (λ (s : State). Stands s T) (sym c.self.view_is) h) c.args.event.now) c.take.ensures.link_steps

pub returns-clause-link_steps : goal.returns-clause-link_steps
returns-clause-link_steps g c = λ T h.
    subst (λ (most : ℕ). c.take.new.steps ≤ c.args.steps.now + most)
    (steps_same _ T (subst (λ (s : State). Stands s T) (sym c.self.view_is) h) c.args.event.now) c.take.ensures.link_steps
