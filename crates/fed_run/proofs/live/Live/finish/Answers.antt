use Rattle.fed_run.proofs.lives.Fed.{fed_ended}
use Rattle.fed_run.proofs.live.Live.finish.Goals as goal

pub returns-in-Ok-clause-fed : goal.returns-in-Ok-clause-fed
returns-in-Ok-clause-fed c = λ bytes none goes. fed_ended c.in-Ok.status _ bytes (c.in-Ok.ensures.ok bytes goes.at goes.few)
