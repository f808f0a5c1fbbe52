use Rattle.std.proofs.Common.{subst}
use Rattle.fed_io.specs.Fault.{Answers}
use Rattle.fed_script.proofs.says.Lines.{header_read}
use Rattle.fed_script.proofs.header.header_said.Goals as goal

pub returns : goal.returns
returns c =
    subst (Answers c.header_named.result) (header_read c.args.line.now c.read_said.new.said c.in_ok-read_said.ensures)
    c.header_named.ensures
