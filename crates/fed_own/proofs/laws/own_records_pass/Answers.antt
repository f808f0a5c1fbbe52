use Rattle.fed_own.proofs.passes.Turns.{pass_lem}
use Rattle.fed_own.proofs.laws.own_records_pass.Goals as goal

pub returns : goal.returns
returns c = pass_lem
