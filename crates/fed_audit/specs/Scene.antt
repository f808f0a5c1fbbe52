-- What a record is judged by: what happened up to its line, and the records before it.
use Rattle.std.specs.Prelude.{◌≡◌, ℕ, List, ◌∷◌, ◌++◌, length, Some}
use Rattle.fed_script.specs.declared.event.Header.{Header}
use Rattle.fed_script.specs.Script.{Script}
use Rattle.fed_trace.specs.Begun.{Begun, CallOptions, ToGet, ToDisconnect}
use Rattle.fed_trace.specs.OfCall.{call_at}
use Rattle.fed_trace.specs.OfScript.{trace_of}
use Rattle.fed_trace.specs.Trace.{Row, Trace}
use Rattle.fed_audit.specs.declared.record.Record.{Record}

pub record Scene : Type 0 where
  pub header : Header
  -- the row of the record's line, and the rows before it, the newest first
  pub row : Row
  pub before : List Row
  -- the records before it, the newest first
  pub earlier : List Record

-- what happened up to and with the event of the line
abbrev pub trace_through : Scene → Trace
trace_through s = record { header = s.header; rows = s.row ∷ s.before }

-- what happened before that event
abbrev pub trace_before : Scene → Trace
trace_before s = record { header = s.header; rows = s.before }

-- the scene of a line after these records: its row is that of the event at the line
pub record IsSceneOf (script : Script) (earlier : List Record) (line : ℕ) (s : Scene) : Type 0 where
  pub header : s.header ≡ script.header
  pub later : List Row
  pub rows : (trace_of script).rows ≡ later ++ s.row ∷ s.before
  pub is_line : s.row.line ≡ line
  pub records : s.earlier ≡ earlier

-- how many providers a call has
abbrev pub provider_count : CallOptions → ℕ
provider_count (ToGet options) = length options.providers
provider_count (ToDisconnect options) = 1

-- the call began so
abbrev pub Began : Scene → ℕ → Begun → Type 0
Began s call begun = call_at (s.row ∷ s.before) call ≡ Some begun
