use Rattle.std.proofs.Common.{◌≡◌, Some, subst}
use Rattle.std.specs.Prelude.{IfOk}
use Rattle.fed_status.specs.Shared.{world_of}
use Rattle.fed_call.specs.Facts.{stage_of, started}
use Rattle.fed_call.specs.Row.{start_row}
use Rattle.fed_call.specs.State.{facts_of}
use Rattle.fed_call.proofs.state.CallState.start.Goals as goal

pub returns-clause-effects : goal.returns-clause-effects
returns-clause-effects c =
    subst (λ o. IfOk c.start_several.result (λ r. r.1 ≡ (start_row (world_of c.args.shared.now) o c.args.options).effects))
    c.in_ok-origin.ensures c.start_several.ensures.effects

pub returns-clause-state : goal.returns-clause-state
returns-clause-state c =
    subst (λ o. IfOk c.start_several.result (λ r. facts_of r.0
    ≡ started (world_of c.args.shared.now) c.args.call c.args.page o c.args.options
    (start_row (world_of c.args.shared.now) o c.args.options)))
    c.in_ok-origin.ensures c.start_several.ensures.state

pub returns-clause-stage : goal.returns-clause-stage
returns-clause-stage c =
    subst (λ o. IfOk c.start_several.result (λ r. Some (stage_of (facts_of r.0))
    ≡ (start_row (world_of c.args.shared.now) o c.args.options).stage))
    c.in_ok-origin.ensures c.start_several.ensures.stage
