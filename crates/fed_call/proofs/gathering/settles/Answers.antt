use Rattle.std.proofs.Common.{◌∙◌}
use Rattle.fed_origin.specs.declared.stage.Stage.TheVariants.{Gathering}
use Rattle.fed_status.specs.Shared.{world_of}
use Rattle.fed_call.specs.Begun.{options_of}
use Rattle.fed_call.specs.Facts.{conclusion_of}
use Rattle.fed_call.proofs.table.Settles.{settled_state}
use Rattle.fed_call.proofs.gathering.settles.Goals as goal

pub returns-clause-state : goal.returns-clause-state
returns-clause-state c =
    c.in_ok-state.ensures.state
    ∙ settled_state (world_of c.args.shared.now) c.args.begun Gathering c.args.progress
    (conclusion_of (world_of c.args.shared.now) c.args.begun.origin (options_of c.args.begun) c.args.progress) c.in_ok-state.effect
    c.in_ok-state.ensures.effect
