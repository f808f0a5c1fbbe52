use Rattle.fed_profile.proofs.saved.Continues.{saved_continues_lem}
use Rattle.fed_profile.proofs.laws.saved_continues.Goals as goal

pub returns : goal.returns
returns c = saved_continues_lem
