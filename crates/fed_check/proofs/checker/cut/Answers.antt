-- A piece is cut at its first LF.
use Rattle.std.proofs.Common.{◌≡◌, ◌<◌, ℕ, Bool, true, false, cond, ltb, ltb-true, Some, None, refl}
use Rattle.std.proofs.lemmas.List.{take_rest}
use Rattle.fed_script.proofs.lines.Line.{place_is}
use Rattle.fed_script.proofs.pieces.Cuts.{parts_at, first_at, none_at}
use Rattle.fed_check.proofs.checker.cut.Goals as goal

within : (n len end : ℕ) (found : Bool) → ltb n len ≡ found → Some end ≡ cond found (Some n) None → end < len
within n len end true test at = rw (place_is n end true at) (ltb-true n len test)
within n len end false test at = absurd (cc)

pub returns-in-Some-clause-parts : goal.returns-in-Some-clause-parts
returns-in-Some-clause-parts c =
    rw take_rest (parts_at c.args.piece.now c.in-Some.end (within _ _ c.in-Some.end _ refl c.in-Some.ensures) c.in-Some.ensures)

pub returns-in-Some-clause-first : goal.returns-in-Some-clause-first
returns-in-Some-clause-first c = first_at c.args.piece.now c.in-Some.end c.in-Some.ensures

pub returns-in-None-clause-none : goal.returns-in-None-clause-none
returns-in-None-clause-none c = none_at c.args.piece.now c.in-None.ensures
