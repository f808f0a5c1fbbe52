use Rattle.fed_run.proofs.halves.Alike.{halves_run_alike_lem}
use Rattle.fed_run.proofs.laws.halves_run_alike.Goals as goal

pub returns : goal.returns
returns c = halves_run_alike_lem
