use Rattle.fed_twin.proofs.twins.Named.{pages_in}
use Rattle.fed_twin.proofs.worlds.Worlds.{two_worlds_lem}
use Rattle.fed_twin.proofs.laws.two_worlds.Goals as goal

pub returns : goal.returns
returns c = let t = pages_in in two_worlds_lem
