-- A saved session goes on as the session itself.
use Rattle.std.specs.Prelude.{◌≡◌, List, []}
use Rattle.fed_script.specs.declared.event.Header.{Header}
use Rattle.fed_script.specs.declared.event.Numbered.{Numbered}
use Rattle.fed_trace.specs.Known.{is_begun}
use Rattle.fed_trace.specs.OfScript.{start, with_events}
use Rattle.fed_trace.specs.Row.{IsRun}
use Rattle.fed_trace.specs.Trace.{Trace, pending}
use Rattle.fed_profile.specs.Saved.{BringsBack, AreRestored, GoOn, does_after, events_of}

-- No call is pending, so what stands is all that further events look at, but for calls that they do not name. On which lines they stand
-- makes no difference.
abbrev pub SavedGoesOn : Type 0
SavedGoesOn =
    (T U : Trace) → IsRun T.header T.rows → pending T ≡ [] → BringsBack T U
    → (x y : List Numbered) → events_of x ≡ events_of y → GoOn (is_begun T) T x
    → does_after T x ≡ does_after U y

-- lines each of which restores its item bring back what stands
abbrev pub LinesRestore : Type 0
LinesRestore =
    (T : Trace) (header : Header) (events : List Numbered) → IsRun T.header T.rows → AreRestored T header (events_of events)
    → BringsBack T (with_events (start header) events)
