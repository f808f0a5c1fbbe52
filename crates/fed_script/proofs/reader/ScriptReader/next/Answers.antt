use Rattle.std.proofs.Common.{◌∙◌, length, true, false, ap, sym, arith}
use Rattle.fed_script.specs.Reader.{ReaderParts}
use Rattle.fed_script.proofs.pieces.Feeds.{reads_line-alive, each_some, numbers_fit}
use Rattle.fed_script.proofs.reader.ScriptReader.next.Goals as goal

pub read-requires : goal.read-requires
read-requires c = record {
  few = λ going.
      let alive = sym (ap (λ (r : ReaderParts). r.alive) c.self.view_is) ∙ c.if-not-self.false in
      let few = numbers_fit c.args.self.now _ (length c.args.piece.now) c.requires.few alive c.set_alive.ensures going in
      omega (arith, few);
}

pub returns-clause-some : goal.returns-clause-some
returns-clause-some c =
    rw c.set_alive-2.ensures
    (each_some _ _ c.in_ok-found.found (λ cut h. reads_line-alive _ _ false true _ _ _ h)
    (rw c.set_alive.ensures at c.in_ok-found.ensures.some))
