use Rattle.fed_print.proofs.printing.Tokens.{nothing}
use Rattle.fed_print.proofs.line_writer.LineWriter.text_if.Goals as goal

pub returns-in-None : goal.returns-in-None
returns-in-None c = rw c.in-None.is (record { tokens = nothing c.args.self.now })
