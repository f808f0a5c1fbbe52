use Rattle.fed_script.specs.Plain.{go_on_text}
use Rattle.fed_script.proofs.plain.go_on_line.Goals as goal

pub returns : goal.returns
unfolding go_on_text
returns c = rw (c.in_ok-call.ensures, c.in_ok-end.ensures) at c.in_ok-rest.ensures
