use Rattle.fed_twin.proofs.twins.Origins.{numbers_decide_lem}
use Rattle.fed_twin.proofs.laws.numbers_decide.Goals as goal

pub returns : goal.returns
returns c = numbers_decide_lem
