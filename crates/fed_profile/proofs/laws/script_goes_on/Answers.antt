use Rattle.fed_profile.proofs.saved.Further.{script_goes_on_lem}
use Rattle.fed_profile.proofs.laws.script_goes_on.Goals as goal

pub returns : goal.returns
returns c = script_goes_on_lem
