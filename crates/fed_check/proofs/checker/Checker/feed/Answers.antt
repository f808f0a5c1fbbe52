use Rattle.std.proofs.Common.{◌∙◌, ap, sym}
use Rattle.fed_check.specs.Stage.{CheckerParts}
use Rattle.fed_check.proofs.checker.Checker.feed.Goals as goal

pub take_piece-requires : goal.take_piece-requires
take_piece-requires c =
    let h = c.requires.few (sym (ap (λ (k : CheckerParts). k.alive) c.self.view_is) ∙ c.if-not-self.false) in
    record { few = λ is. (h.0, record { rest = h.1.rest; stage = h.1.stage }, h.2) }
