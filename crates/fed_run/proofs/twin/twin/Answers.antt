use Rattle.fed_run.proofs.twins.Ends.{told_pair}
use Rattle.fed_run.proofs.twin.twin.Goals as goal

pub returns-in-Ok : goal.returns-in-Ok
returns-in-Ok c = told_pair c.args.bytes.now c.in-Ok.pair c.told.result c.in-Ok.ensures c.told.ensures
