use Rattle.fed_own.proofs.calls.Effects.{results_lem}
use Rattle.fed_own.proofs.laws.own_results_are_of_calls.Goals as goal

pub returns : goal.returns
returns c = results_lem
