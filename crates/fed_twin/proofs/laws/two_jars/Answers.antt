use Rattle.fed_twin.proofs.others.Jars.{two_jars_lem}
use Rattle.fed_twin.proofs.laws.two_jars.Goals as goal

pub returns : goal.returns
returns c = two_jars_lem
