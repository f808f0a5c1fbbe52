use Rattle.std.proofs.Common.{refl, sym, ap, ◌++◌, ◌∷◌, [], ◌∙◌}
use Rattle.json.specs.Token.{string}
use Rattle.fed_print.proofs.printing.Tokens.{named, quotes, plain_name}
use Rattle.fed_print.proofs.line_writer.LineWriter.word.Goals as goal

pub returns : goal.returns
returns c = record {
  tokens = named c.key.new.self c.args.name.now (string c.args.word.now) c.in_ok-key.ensures.bytes c.in_ok-key.ensures.after_value
      (c.end_value.ensures.bytes ∙ rw (c.put-2.ensures.bytes, c.as_bytes.ensures.value, c.put.ensures.bytes) at c.put-3.ensures.bytes
      ∙ quotes _ _
      ∙ ap (λ l. c.key.new.self.bytes ++ 34 ∷ (l ++ 34 ∷ [])) (sym (plain_name c.args.word.now c.requires.1)))
      c.end_value.ensures.after_value refl;
}
