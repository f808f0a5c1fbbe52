use Rattle.fed_run.proofs.transcripts.Alone.{none_alone, stop_is_alone}
use Rattle.fed_run.proofs.alone.bad_line_alone.Goals as goal

pub returns-in_default : goal.returns-in_default
returns-in_default c = λ more some. none_alone c.args.bytes.now more _ c.in_default.ensures

pub returns-in-Step : goal.returns-in-Step
returns-in-Step c =
    λ more some.
    stop_is_alone c.args.bytes.now more _ c.in-Step.stop _ c.count_lines-lines.ensures (rw c.in-Step.is at c.in-Err.ensures)
    c.if_among.ensures
