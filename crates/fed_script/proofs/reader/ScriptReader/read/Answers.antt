use Rattle.std.proofs.Common.{refl, sym, ◌∙◌}
use Rattle.fed_script.proofs.pieces.Feeds.{takes_line, keeps_piece, passes_piece}
use Rattle.fed_script.proofs.reader.ScriptReader.read.Goals as goal

pub returns-then-is_over-clause-none : goal.returns-then-is_over-clause-none
returns-then-is_over-clause-none c = passes_piece _ _ c.args.piece.now (sym c.is_over.ensures ∙ c.if-is_over.true) refl

pub returns-in_ok-found-in-Some-clause-some : goal.returns-in_ok-found-in-Some-clause-some
returns-in_ok-found-in-Some-clause-some c =
    takes_line _ _ _ c.in-Some.line.now _ _ c.in-Some.ensures.first c.in-Some.ensures.parts (sym c.is_over.ensures ∙ c.if-is_over.false)
    c.in_ok-found-in-Some.ensures.line c.in_ok-found-in-Some.ensures.phase c.in_ok-found-in-Some.ensures.rest

pub returns-in_ok-keep-in-None-clause-none : goal.returns-in_ok-keep-in-None-clause-none
returns-in_ok-keep-in-None-clause-none c =
    keeps_piece _ _ _ c.in-None.ensures.none (sym c.is_over.ensures ∙ c.if-is_over.false) c.in_ok-keep-in-None.ensures.phase
    c.in_ok-keep-in-None.ensures.rest
