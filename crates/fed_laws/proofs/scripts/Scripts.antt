-- A law of every run is one of the trace of every script.
use Rattle.fed_trace.specs.OfScript.{trace_of}
use Rattle.fed_trace.specs.Trace.{Trace}
use Rattle.fed_trace.proofs.runs.Scripts.{script_runs, before_stop, stop_is_read}
use Rattle.fed_laws.specs.Laws.{OfRuns, OfScripts}

pub of_scripts : (law : Trace → Type 0) → OfRuns law → OfScripts law
of_scripts law runs = (
  λ script read. runs (trace_of script) (script_runs script read),
  λ bytes stop header is at.
      let script = before_stop header stop in
      runs (trace_of script) (script_runs script (stop_is_read bytes stop header is at)),
)
