-- What the traces of scripts promise.
use Rattle.std.specs.Prelude.{◌≡◌, ◌≤◌, ℕ, List, length, Some, Err}
use Rattle.std.specs.List.{AllByRecursion}
use Rattle.url.specs.Parts.{Parts}
use Rattle.fed_origin.specs.WebUrl.{host_of}
use Rattle.fed_suffix.specs.Registrable.{party}
use Rattle.fed_jar.specs.Changes.{domain_of}
use Rattle.fed_jar.specs.Limit.{most_cookies}
use Rattle.fed_script.specs.declared.event.Header.{Header}
use Rattle.fed_script.specs.Script.{Script, Stop, script_of, IsRead}
use Rattle.fed_trace.specs.OfScript.{start, with_events, trace_of}
use Rattle.fed_trace.specs.Row.{IsRun, cookies_from, stored_in}
use Rattle.fed_trace.specs.Standing.{standing_at}
use Rattle.fed_trace.specs.Trace.{Row, Trace, now_at}

-- the trace of each readable script is a run
abbrev pub ScriptsAreRuns : Type 0
ScriptsAreRuns = (script : Script) → IsRead script → IsRun (trace_of script).header (trace_of script).rows

-- where bytes stop at a bad line after the header, the trace of the events before it is a run
abbrev pub StopsAreRuns : Type 0
StopsAreRuns =
    (bytes : List ℕ) (stop : Stop) (header : Header)
    → script_of bytes ≡ Err stop → stop.header ≡ Some header → let T = with_events (start header) stop.events in IsRun T.header T.rows

-- what Set-Cookie values from a URL store makes cookies of its host's party alone stand or go
abbrev pub OwnCookiesGo : Type 0
OwnCookiesGo = (T : Trace) (url : Parts) (fields : List (List ℕ))
    → AllByRecursion (λ change. party T.header.rules (domain_of change) ≡ party T.header.rules (host_of url))
    (stored_in T (cookies_from T.header.rules url (now_at T) fields))

-- of every party at most 180 cookies stand
abbrev pub MostCookiesStand : Type 0
MostCookiesStand = (header : Header) (rows : List Row) → IsRun header rows → (name : List ℕ)
    → length (standing_at (record { header = header; rows = rows }) name) ≤ most_cookies
