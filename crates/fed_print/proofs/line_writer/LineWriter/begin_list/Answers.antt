use Rattle.std.proofs.Common.{refl}
use Rattle.json.specs.Token.{begin_array}
use Rattle.fed_print.proofs.printing.Tokens.{began}
use Rattle.fed_print.proofs.line_writer.LineWriter.begin_list.Goals as goal

pub returns : goal.returns
returns c = record { tokens = began begin_array refl c.in_ok-open.ensures.bytes c.in_ok-open.ensures.after_value }
