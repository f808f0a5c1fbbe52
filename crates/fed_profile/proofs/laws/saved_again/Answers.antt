use Rattle.fed_profile.proofs.saved.Back.{saved_again_lem}
use Rattle.fed_profile.proofs.laws.saved_again.Goals as goal

pub returns : goal.returns
returns c = saved_again_lem
