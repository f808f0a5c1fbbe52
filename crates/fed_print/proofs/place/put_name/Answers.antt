use Rattle.std.proofs.Common.{◌∙◌}
use Rattle.fed_print.proofs.printing.Tokens.{keyed}
use Rattle.fed_print.proofs.place.put_name.Goals as goal

pub returns-clause-written : goal.returns-clause-written
returns-clause-written c =
    rw (
      c.put_byte-closed.ensures.written,
      c.put-named.ensures.written,
      c.put_byte-opened.ensures.written,
      c.put_comma-first.ensures.written,
    ) at c.put_byte.ensures.written
    ∙ keyed _ _ _ c.requires.plain
