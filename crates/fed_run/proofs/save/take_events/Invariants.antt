use Rattle.std.proofs.Common.{drop}
use Rattle.fed_trace.specs.OfScript.{trace_of}
use Rattle.fed_run.proofs.saves.Steps.{GoesOn}
use Rattle.fed_run.proofs.save.take_events.Given as goal

-- the session goes on with the events that are left
abbrev pub invariant-loop-n : goal.invariant-loop-n
invariant-loop-n g l = GoesOn l.session (drop l.n-index l.events) (trace_of l.fn.script)
