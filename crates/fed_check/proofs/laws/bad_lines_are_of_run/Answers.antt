use Rattle.fed_script.specs.Script.{lines_of}
use Rattle.fed_check.proofs.checks.Bad.{first_bad_line}
use Rattle.fed_check.proofs.laws.bad_lines_are_of_run.Goals as goal

pub returns : goal.returns
returns c = λ bytes. first_bad_line (lines_of bytes)
