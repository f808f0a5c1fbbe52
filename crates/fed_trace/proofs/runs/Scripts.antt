-- The trace of a readable script is a run.
use Rattle.std.proofs.Common.{◌≡◌, ℕ, List, [], ◌∷◌, Option, Some, None, refl, subst}
use Rattle.std.specs.Prelude.{Result, Ok, Err}
use Rattle.fed_script.specs.declared.cause.LineCause.{LineCause}
use Rattle.fed_script.specs.declared.event.Event.{Event}
use Rattle.fed_script.specs.declared.event.Event.TheVariants as events
use Rattle.fed_script.specs.declared.event.Event.TheVariants.{Get}
use Rattle.fed_script.specs.declared.event.Numbered.{Numbered}
use Rattle.fed_script.specs.declared.event.Header.{Header}
use Rattle.fed_script.specs.Line.{header_of}
use Rattle.fed_script.specs.Script.{Script, Stop, MayFollow, AreRead, IsRead, events_of, lines_of, script_of, script_of_lines, script_after}
use Rattle.fed_script.specs.Script.{ended_by}
use Rattle.fed_script.specs.Used.{UsedState, unused, used_after}
use Rattle.fed_script.proofs.scripts.Read.{are_read}
use Rattle.fed_trace.specs.OfScript.{start, with_events, trace_of}
use Rattle.fed_trace.specs.Row.{with_event, IsNew, IsRun}
use Rattle.fed_trace.specs.Trace.{Row, Trace, begun}
use Rattle.fed_trace.proofs.runs.Untaken.{IsUntaken, untaken_after}

-- an event that may follow is new, where what is unused began in no row
is_new : (rows : List Row) (used : UsedState) (event : Event) → IsUntaken used.calls (begun rows) → MayFollow used event
    → IsNew rows event
is_new rows used (Get page call options) untaken may = (untaken call may.once, may.provider.0)
is_new rows used (events.Have have) untaken may = tt
is_new rows used (events.At time) untaken may = tt
is_new rows used (events.Load page url raw) untaken may = tt
is_new rows used (events.ClosePage page) untaken may = tt
is_new rows used (events.Abort call) untaken may = tt
is_new rows used (events.Reply call provider kind raw) untaken may = tt
is_new rows used (events.Choose call provider account) untaken may = tt
is_new rows used (events.GoOn call) untaken may = tt
is_new rows used (events.Cancel call) untaken may = tt
is_new rows used (events.SignIn call) untaken may = tt
is_new rows used (events.ShutWindow call) untaken may = tt
is_new rows used (events.IdpClose page) untaken may = tt
is_new rows used (events.Prevent page) untaken may = tt
is_new rows used (events.SetStatus page status) untaken may = tt
is_new rows used (events.Disconnect page call config client hint) untaken may = untaken call may.once

-- a run goes on with events that may follow
runs_on : (T : Trace) (used : UsedState) (ns : List Numbered)
    → IsRun T.header T.rows → IsUntaken used.calls (begun T.rows) → AreRead used ns
    → IsRun (with_events T ns).header (with_events T ns).rows
runs_on T used [] run untaken read = run
runs_on T used (n ∷ ns) run untaken read =
    runs_on (with_event T n.line n.event) (used_after n.event used) ns
    (refl, is_new T.rows used n.event untaken read.0, run)
    (untaken_after T n.line n.event used untaken) read.1

-- the trace of a readable script is a run
pub script_runs : (script : Script) → IsRead script → IsRun (trace_of script).header (trace_of script).rows
script_runs script read = runs_on (start script.header) (unused script.header.now) script.events tt (λ call unused. refl) read

-- ---- the events before a bad line

-- the script of a header and the events before a bad line
abbrev pub before_stop : Header → Stop → Script
before_stop header stop = record { header = header; events = stop.events }

-- it is readable, where the events are
stop_read : (header : Header) (good : List Numbered) (bad : Option (ℕ × LineCause)) (stop : Stop) (found : Header)
    → AreRead (unused header.now) good → ended_by header good bad ≡ Err stop → stop.header ≡ Some found
    → IsRead (before_stop found stop)
stop_read header good None stop found read is at = absurd (cc)
stop_read header good (Some bad) stop found read is at =
    let events_are : good ≡ stop.events = cc in
    let header_is : header ≡ found = cc in
    subst (λ h. AreRead (unused h.now) stop.events) header_is (subst (AreRead (unused header.now)) events_are read)

lines_read : (lines : List (List ℕ)) (stop : Stop) (found : Header) → script_of_lines lines ≡ Err stop → stop.header ≡ Some found
    → IsRead (before_stop found stop)
lines_read [] stop found is at = absurd (cc)
lines_read (line ∷ lines) stop found is at = by_header (header_of line) is
  where
    by_header : (r : Result Header LineCause) → script_after r lines ≡ Err stop → IsRead (before_stop found stop)
    by_header (Err cause) is = absurd (cc)
    by_header (Ok header) is =
        let read = events_of (unused header.now) 2 lines in
        stop_read header read.good read.bad stop found (are_read (unused header.now) 2 lines) is at

-- the events before a bad line are those of a readable script
pub stop_is_read : (bytes : List ℕ) (stop : Stop) (header : Header) → script_of bytes ≡ Err stop → stop.header ≡ Some header
    → IsRead (before_stop header stop)
stop_is_read bytes stop header is at = lines_read (lines_of bytes) stop header is at
