use Rattle.std.proofs.Common.{◌∙◌, length, ap, sym}
use Rattle.fed_script.specs.Reader.{ReaderParts}
use Rattle.fed_script.proofs.pieces.Feeds.{numbers_fit}
use Rattle.fed_script.proofs.reader.ScriptReader.feed.Goals as goal

pub read_piece-requires : goal.read_piece-requires
read_piece-requires c = record {
  few =
      let alive = sym (ap (λ (r : ReaderParts). r.alive) c.self.view_is) ∙ c.if-not-self.false in
      numbers_fit c.args.self.now _ (length c.args.piece.now) c.requires.few alive c.set_alive.ensures;
}
