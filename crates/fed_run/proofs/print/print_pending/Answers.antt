-- The members, one put after the other.
use Rattle.fed_run.proofs.print.print_pending.Goals as goal

pub returns-clause-ok : goal.returns-clause-ok
returns-clause-ok c =
    rw (c.in_ok-text-2.ensures, c.in_ok-text.ensures, c.in_ok-count.ensures, c.new.ensures) at c.append_line.ensures.ok
