use Rattle.std.proofs.Common.{sym, ap, ◌∙◌, true}
use Rattle.std.specs.Prelude.{option_map}
use Rattle.fed_status.specs.Shared.{world_of}
use Rattle.fed_call.specs.State.{facts_of}
use Rattle.fed_trace.specs.Call.{OfGet}
use Rattle.fed_session.specs.StepParts.{known_of, kept_next, outcome_at}
use Rattle.fed_session.proofs.clauses.Outcome.{get_does, get_becomes}
use Rattle.fed_session.proofs.calls.Pending.advance.Goals as goal

pub returns-in_ok-state-in-Get-clause-effects : goal.returns-in_ok-state-in-Get-clause-effects
returns-in_ok-state-in-Get-clause-effects c =
    let world = world_of c.args.shared.now in
    c.in_ok-state-in-Get.ensures.effects ∙ get_does world (facts_of c.in-Get.state) c.args.input.now
    ∙ ap (λ p. (outcome_at world true (known_of p) c.args.input.now).effects) (sym c.in-Get.is)

pub returns-in_ok-state-in-Get-clause-kept : goal.returns-in_ok-state-in-Get-clause-kept
returns-in_ok-state-in-Get-clause-kept c =
    let world = world_of c.args.shared.now in
    c.of_get.ensures ∙ ap (option_map OfGet) c.in_ok-state-in-Get.ensures.state
    ∙ get_becomes world (facts_of c.in-Get.state) c.args.input.now
    ∙ ap (λ p. kept_next world (known_of p) c.args.input.now) (sym c.in-Get.is)
