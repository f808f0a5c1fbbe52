use Rattle.std.proofs.Common.{[], ◌++◌, Some}
use Rattle.fed_run.proofs.lives.Fed.{fed_bad}
use Rattle.fed_run.proofs.live.take.Goals as goal

pub returns-in-Ok-None-clause-none : goal.returns-in-Ok-None-clause-none
returns-in-Ok-None-clause-none g c =
    λ bytes at. (rw c.in-Ok-None.field-0-is at c.in-Ok-None.ensures.none) (Some []) bytes at

pub returns-clause-some : goal.returns-clause-some
returns-clause-some g c =
    let met = rw c.in-Ok-Some.field-0-is at c.in-Ok-Some.ensures.some in
    λ bytes more at few. fed_bad _ _ (bytes ++ c.args.piece.now) more _ _ (met (Some []) bytes at) few c.in-Ok.ensures.status c.in-Ok.ensures.ok
