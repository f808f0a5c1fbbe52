use Rattle.fed_script.specs.Said.{under}
use Rattle.fed_script.proofs.says.Names.{found-nothing}
use Rattle.fed_script.proofs.said.Said.nothing.Goals as goal

pub returns : goal.returns
unfolding under
returns c = λ name. found-nothing name
