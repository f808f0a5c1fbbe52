use Rattle.std.proofs.Common.{refl, ◌∙◌}
use Rattle.json.specs.Token.{string}
use Rattle.fed_print.proofs.printing.Tokens.{named}
use Rattle.fed_print.proofs.line_writer.LineWriter.bytes.Goals as goal

pub returns : goal.returns
returns c = record {
  tokens = named c.key.new.self c.args.name.now (string c.args.bytes.now) c.in_ok-key.ensures.bytes c.in_ok-key.ensures.after_value
      (c.end_value.ensures.bytes ∙ c.put_quoted.ensures.bytes) c.end_value.ensures.after_value refl;
}
