use Rattle.std.proofs.Common.{◌∙◌, ap, sym}
use Rattle.fed_check.specs.Stage.{CheckerParts}
use Rattle.fed_check.proofs.checks.Pieces.{few_at}
use Rattle.fed_check.proofs.checker.Checker.last.Goals as goal

pub take_last-requires : goal.take_last-requires
take_last-requires c =
    record { few = few_at _ 0 c.requires.few (sym (ap (λ (k : CheckerParts). k.alive) c.self.view_is) ∙ c.if-not-self.false) }
