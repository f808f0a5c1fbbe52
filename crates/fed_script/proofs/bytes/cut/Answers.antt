-- A piece is cut at its first LF.
use Rattle.std.proofs.lemmas.List.{take_rest}
use Rattle.fed_script.proofs.pieces.Cuts.{parts_at, first_at, none_at}
use Rattle.fed_script.proofs.bytes.cut.Goals as goal

pub returns-in-Some-clause-parts : goal.returns-in-Some-clause-parts
returns-in-Some-clause-parts c = rw take_rest (parts_at c.args.piece.now c.in-Some.end c.in-Some.ensures.within c.in-Some.ensures.place)

pub returns-in-Some-clause-first : goal.returns-in-Some-clause-first
returns-in-Some-clause-first c = first_at c.args.piece.now c.in-Some.end c.in-Some.ensures.place

pub returns-in-None-clause-none : goal.returns-in-None-clause-none
returns-in-None-clause-none c = none_at c.args.piece.now c.in-None.ensures.place
