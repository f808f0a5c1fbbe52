use Rattle.json.specs.Token.{key}
use Rattle.fed_print.proofs.printing.Tokens.{alone}
use Rattle.fed_print.proofs.line_writer.LineWriter.name.Goals as goal

pub returns : goal.returns
returns c = record { tokens = alone (key c.args.name.now) c.in_ok-key.ensures.bytes c.in_ok-key.ensures.after_value }
