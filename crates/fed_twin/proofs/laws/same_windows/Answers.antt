use Rattle.fed_twin.proofs.twins.Named.{pages_in}
use Rattle.fed_twin.proofs.worlds.Worlds.{same_windows_lem}
use Rattle.fed_twin.proofs.laws.same_windows.Goals as goal

pub returns : goal.returns
returns c = let t = pages_in in same_windows_lem
