use Rattle.fed_run.proofs.transcripts.Within.{none_within, stop_is_within}
use Rattle.fed_run.proofs.recorded.bad_line_before.Goals as goal

pub returns-in_default : goal.returns-in_default
returns-in_default c = λ more some. none_within c.args.bytes.now more _ c.in_default.ensures

pub returns-in-Step : goal.returns-in-Step
returns-in-Step c =
    λ more some.
    stop_is_within c.args.bytes.now more _ c.in-Step.stop _ c.count_lines-lines.ensures (rw c.in-Step.is at c.in-Err.ensures)
    c.if_among.ensures
