use Rattle.fed_own.proofs.lines.Read.{read_lem}
use Rattle.fed_own.proofs.laws.own_lines_are_read.Goals as goal

pub returns : goal.returns
returns c = read_lem
