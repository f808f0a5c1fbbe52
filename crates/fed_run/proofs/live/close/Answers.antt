use Rattle.std.proofs.Common.{[], Some}
use Rattle.fed_run.proofs.lives.Fed.{fed_end}
use Rattle.fed_run.proofs.live.close.Goals as goal

pub returns : goal.returns
returns g c = record {
  ok = λ bytes at few. fed_end _ _ _ _ bytes _ at few (c.in-Ok.ensures.ok (Some []) bytes at);
}
