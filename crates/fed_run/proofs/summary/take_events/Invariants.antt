use Rattle.std.proofs.Common.{drop}
use Rattle.fed_trace.specs.OfScript.{trace_of}
use Rattle.fed_run.proofs.makes.Tally.{Counts}
use Rattle.fed_run.proofs.summary.take_events.Given as goal

-- the records so far were counted
abbrev pub invariant-loop-numbered : goal.invariant-loop-numbered
invariant-loop-numbered g l = Counts l.session l.tally (drop l.numbered-index l.events) (trace_of l.fn.script)
