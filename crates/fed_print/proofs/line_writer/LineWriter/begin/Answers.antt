use Rattle.std.proofs.Common.{refl}
use Rattle.json.specs.Token.{begin_object}
use Rattle.fed_print.proofs.printing.Tokens.{began}
use Rattle.fed_print.proofs.line_writer.LineWriter.begin.Goals as goal

pub returns : goal.returns
returns c = record { tokens = began begin_object refl c.in_ok-open.ensures.bytes c.in_ok-open.ensures.after_value }
