use Rattle.std.proofs.Common.{◌++◌, take, sym, ap, ◌∙◌}
use Rattle.fed_escape.proofs.texts.Fronts.{control, itself}
use Rattle.fed_escape.proofs.escaping.put_other.Goals as goal

pub returns-then-b-lt32-clause-written : goal.returns-then-b-lt32-clause-written
returns-then-b-lt32-clause-written c =
    let digits = rw (c.hex.ensures, c.hex-then-b-lt32.ensures) at c.put.ensures.written in
    digits ∙ ap (λ l. take c.args.at c.args.room.now ++ l) (sym (control c.args.b c.requires.letter c.if-b-lt32.true))

pub returns-clause-written : goal.returns-clause-written
returns-clause-written c =
    c.put-2.ensures.written ∙ ap (λ l. take c.args.at c.args.room.now ++ l) (sym (itself c.args.b c.requires.letter c.if-b-lt32.false))
