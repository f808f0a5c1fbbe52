use Rattle.fed_script.proofs.scripts.Read.{readable}
use Rattle.fed_script.proofs.laws.scripts_are_readable.Goals as goal

pub returns : goal.returns
returns c = readable
