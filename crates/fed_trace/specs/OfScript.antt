-- The trace of a script: its events, one after the other.
use Rattle.std.specs.Prelude.{List, [], ◌∷◌}
use Rattle.fed_script.specs.declared.event.Header.{Header}
use Rattle.fed_script.specs.declared.event.Numbered.{Numbered}
use Rattle.fed_script.specs.Script.{Script}
use Rattle.fed_trace.specs.Row.{with_event}
use Rattle.fed_trace.specs.Trace.{Trace}

-- the trace with these events more
abbrev pub with_events : Trace → List Numbered → Trace
with_events T [] = T
with_events T (n ∷ ns) = with_events (with_event T n.line n.event) ns

-- nothing happened
abbrev pub start : Header → Trace
start header = record { header = header; rows = [] }

-- the whole trace of a script
abbrev pub trace_of : Script → Trace
trace_of script = with_events (start script.header) script.events
