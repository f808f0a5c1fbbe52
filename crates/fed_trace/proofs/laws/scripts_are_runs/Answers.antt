use Rattle.fed_trace.proofs.runs.Scripts.{script_runs, before_stop, stop_is_read}
use Rattle.fed_trace.proofs.laws.scripts_are_runs.Goals as goal

pub returns-clause-scripts : goal.returns-clause-scripts
returns-clause-scripts c = script_runs

pub returns-clause-stops : goal.returns-clause-stops
returns-clause-stops c =
    λ bytes stop header is at. script_runs (before_stop header stop) (stop_is_read bytes stop header is at)
