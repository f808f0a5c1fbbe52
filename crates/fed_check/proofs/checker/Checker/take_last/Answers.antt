use Rattle.std.proofs.Common.{◌∙◌, sym}
use Rattle.fed_check.proofs.checks.Pieces.{last_line_found, no_line_found, no_last_line}
use Rattle.fed_check.proofs.checker.Checker.take_last.Goals as goal

pub returns-then-keeps_some : goal.returns-then-keeps_some
returns-then-keeps_some c =
    last_line_found _ _ (sym c.keeps_some.ensures ∙ c.if-keeps_some.true) (rw c.new-found.ensures at c.in_ok-check_rest.ensures.found)

pub returns-then-is_at_head : goal.returns-then-is_at_head
returns-then-is_at_head c =
    no_line_found _ _ (sym c.keeps_some.ensures ∙ c.if-keeps_some.false) (sym c.is_at_head.ensures ∙ c.if-is_at_head.true)
    (rw c.new-found.ensures at c.in_ok-note_bad.ensures)

pub returns : goal.returns
returns c =
    no_last_line _ _ (sym c.keeps_some.ensures ∙ c.if-keeps_some.false) (sym c.is_at_head.ensures ∙ c.if-is_at_head.false)
    c.new-found.ensures
