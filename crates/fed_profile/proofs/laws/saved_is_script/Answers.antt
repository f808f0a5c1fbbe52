use Rattle.fed_profile.proofs.saved.Script.{saved_is_script_lem}
use Rattle.fed_profile.proofs.laws.saved_is_script.Goals as goal

pub returns : goal.returns
returns c = saved_is_script_lem
