use Rattle.fed_script.specs.Script.{lines_of}
use Rattle.fed_script.proofs.scripts.Read.{found_readable}
use Rattle.fed_script.proofs.script.read_lines.Goals as goal

pub invariant_of-result : goal.invariant_of-result
invariant_of-result c =
    found_readable c.args.header (lines_of c.args.lines.now) _ _ (rw c.in-Ok-None.field-0-is at c.in-Ok-None.ensures)
