use Rattle.std.proofs.Common.{refl, sym, ◌∙◌}
use Rattle.fed_script.proofs.pieces.Finishes.{finishes_over, finishes_line, finishes_empty, finishes_ended}
use Rattle.fed_script.proofs.reader.ScriptReader.read_last.Goals as goal

pub returns-then-is_over-clause-lines : goal.returns-then-is_over-clause-lines
returns-then-is_over-clause-lines c = finishes_over _ (sym c.is_over.ensures ∙ c.if-is_over.true)

pub returns-then-keeps_some-clause-lines : goal.returns-then-keeps_some-clause-lines
returns-then-keeps_some-clause-lines c =
    finishes_line _ _ _ refl (sym c.keeps_some.ensures ∙ c.if-keeps_some.true) (sym c.is_over.ensures ∙ c.if-is_over.false)
    c.in_ok-found.ensures.line

pub returns-then-is_fresh-clause-lines : goal.returns-then-is_fresh-clause-lines
returns-then-is_fresh-clause-lines c =
    finishes_empty _ (sym c.keeps_some.ensures ∙ c.if-keeps_some.false) (sym c.is_over.ensures ∙ c.if-is_over.false)
    (sym c.is_fresh.ensures ∙ c.if-is_fresh.true)

pub returns-clause-lines : goal.returns-clause-lines
returns-clause-lines c =
    finishes_ended _ (sym c.keeps_some.ensures ∙ c.if-keeps_some.false) (sym c.is_over.ensures ∙ c.if-is_over.false)
    (sym c.is_fresh.ensures ∙ c.if-is_fresh.false)
