use Rattle.std.proofs.Common.{◌∙◌}
use Rattle.fed_print.proofs.printing.Tokens.{quotes}
use Rattle.fed_print.proofs.line_writer.LineWriter.put_quoted.Goals as goal

pub returns-clause-bytes : goal.returns-clause-bytes
returns-clause-bytes c = rw (c.put_escaped.ensures.bytes, c.put.ensures.bytes) at c.put-2.ensures.bytes ∙ quotes _ _
