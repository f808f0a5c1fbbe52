use Rattle.fed_script.proofs.pieces.Scripts.{lines_are_the_script_lem}
use Rattle.fed_script.proofs.laws.lines_are_the_script.Goals as goal

pub returns : goal.returns
returns c = lines_are_the_script_lem
