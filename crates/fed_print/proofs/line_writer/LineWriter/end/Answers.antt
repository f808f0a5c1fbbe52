use Rattle.std.proofs.Common.{refl}
use Rattle.json.specs.Token.{end_object}
use Rattle.fed_print.proofs.printing.Tokens.{ended}
use Rattle.fed_print.proofs.line_writer.LineWriter.end.Goals as goal

pub returns : goal.returns
returns c = record { tokens = ended end_object refl c.in_ok-close.ensures.bytes c.in_ok-close.ensures.after_value }
