use Rattle.std.proofs.Common.{refl}
use Rattle.fed_check.proofs.checks.Pieces.{takes_line, keeps_piece}
use Rattle.fed_check.proofs.checker.Checker.take.Goals as goal

pub returns-in_ok-check-in-Some-clause-some : goal.returns-in_ok-check-in-Some-clause-some
returns-in_ok-check-in-Some-clause-some c =
    takes_line _ _ _ c.in-Some.line.now _ _ _ c.in-Some.ensures.first c.in-Some.ensures.parts c.in_ok-check-in-Some.ensures.found
    c.in_ok-check-in-Some.ensures.stage

pub returns-in_ok-keep-in-None-clause-none : goal.returns-in_ok-keep-in-None-clause-none
returns-in_ok-keep-in-None-clause-none c = (refl, keeps_piece _ _ _ c.in-None.ensures.none c.in_ok-keep-in-None.ensures)
