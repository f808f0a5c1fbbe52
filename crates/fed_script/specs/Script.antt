-- What the bytes of a script are read as.
use Rattle.std.specs.Prelude.{ℕ, ◌+◌, ◌<◌, Bool, ◌||◌, ◌==◌, ⊤, List, [], ◌∷◌, Option, Some, None, Result, Ok, Err, if◌then◌else◌}
use Rattle.std.specs.List.{list_all, onto_first, before_first, after_first}
use Rattle.fed_script.specs.declared.cause.LineCause.{LineCause}
use Rattle.fed_script.specs.declared.cause.LineCause.TheVariants.{NotJson}
use Rattle.fed_script.specs.declared.event.Event.{Event}
use Rattle.fed_script.specs.declared.event.Header.{Header}
use Rattle.fed_script.specs.declared.event.Numbered.{Numbered}
use Rattle.fed_script.specs.declared.cause.BadLine.{BadLine}
use Rattle.fed_script.specs.Line.{header_of, event_of}
use Rattle.fed_script.specs.Used.{UsedState, unused, used_after, IsUnused, HasProviders, HasKnownStatus}

-- the lines of bytes, each up to its LF; a rest that is not empty is a line too
abbrev pub lines_of : List ℕ → List (List ℕ)
lines_of [] = []
lines_of (b ∷ bytes) = if b == 10 then [] ∷ lines_of bytes else onto_first b (lines_of bytes)

-- the first line without its LF, and the bytes that follow
abbrev pub first_line : List ℕ → Option (List ℕ × List ℕ)
first_line [] = None
first_line (b ∷ bytes) = Some (before_first (λ x. x == 10) (b ∷ bytes), after_first (λ x. x == 10) (b ∷ bytes))

-- space, tab or CR
abbrev pub is_margin : ℕ → Bool
is_margin b = b == 32 || b == 9 || b == 13

-- a line of space, tab and CR alone, or of nothing
abbrev pub is_blank : List ℕ → Bool
is_blank line = list_all is_margin line

-- the events of lines up to the first bad one, and that one's number and cause
pub record Events : Type 0 where
  pub good : List Numbered
  pub bad : Option (ℕ × LineCause)

-- no event, and perhaps a bad line
abbrev pub no_events : Option (ℕ × LineCause) → Events
no_events bad = record { good = []; bad = bad }

-- one event before others
abbrev pub with_first : ℕ → Event → Events → Events
with_first line event rest = record { good = record { line = line; event = event } ∷ rest.good; bad = rest.bad }

-- after line n: its event and those of the further lines, or the end where it is bad
abbrev pub after_line : ℕ → UsedState → Result Event LineCause → (UsedState → Events) → Events
after_line n used (Err cause) further = no_events (Some (n, cause))
after_line n used (Ok event) further = with_first n event (further (used_after event used))

-- the events of the lines from line n on, where a blank one is none
abbrev pub events_of : UsedState → ℕ → List (List ℕ) → Events
events_of used n [] = no_events None
events_of used n (line ∷ lines) =
    if is_blank line then events_of used (n + 1) lines
    else after_line n used (event_of line used) (λ after. events_of after (n + 1) lines)

-- a readable script: its header and its numbered events
pub record Script : Type 0 where
  pub header : Header
  pub events : List Numbered

-- where a script stops to be readable: the first bad line and its cause, and what was read before it
pub record Stop : Type 0 where
  pub header : Option Header
  pub events : List Numbered
  pub line : ℕ
  pub cause : LineCause

-- line 1 is bad
abbrev pub no_header : LineCause → Stop
no_header cause = record { header = None; events = []; line = 1; cause = cause }

-- a header and events: a script, unless a bad line follows
abbrev pub ended_by : Header → List Numbered → Option (ℕ × LineCause) → Result Script Stop
ended_by header events None = Ok (record { header = header; events = events })
ended_by header events (Some bad) = Err (record { header = Some header; events = events; line = bad.0; cause = bad.1 })

-- the script of a header and of what the further lines are read as
abbrev pub script_with : Header → Events → Result Script Stop
script_with header found = ended_by header found.good found.bad

-- the script of what line 1 is read as, and of the further lines
abbrev pub script_after : Result Header LineCause → List (List ℕ) → Result Script Stop
script_after (Err cause) lines = Err (no_header cause)
script_after (Ok header) lines = script_with header (events_of (unused header.now) 2 lines)

-- line 1 is the header; without a line it is no JSON
abbrev pub script_of_lines : List (List ℕ) → Result Script Stop
script_of_lines [] = Err (no_header NotJson)
script_of_lines (line ∷ lines) = script_after (header_of line) lines

-- the script of these bytes: its header and its numbered events, or the first bad line
abbrev pub script_of : List ℕ → Result Script Stop
script_of bytes = script_of_lines (lines_of bytes)

-- what a reader answers of a script that stops: the first bad line and its cause
abbrev pub bad_line : Stop → BadLine
bad_line stop = record { line = stop.line; cause = stop.cause }

abbrev pub or_bad_line : Result Script Stop → Result Script BadLine
or_bad_line (Ok script) = Ok script
or_bad_line (Err stop) = Err (bad_line stop)

-- ---- readable scripts

-- an event that a line names is so, by what the lines before it left
pub record MayFollow (used : UsedState) (event : Event) : Type 0 where
  pub few : used.events < 1000000
  pub once : IsUnused used event
  pub provider : HasProviders event
  pub status : HasKnownStatus event

-- each event may follow those before it
abbrev pub AreRead : UsedState → List Numbered → Type 0
AreRead used [] = ⊤
AreRead used (n ∷ ns) = MayFollow used n.event × AreRead (used_after n.event used) ns

-- A readable script has at most 1,000,000 events, no two gets or disconnects of one number, one to ten
-- providers for each get, and no unknown status.
abbrev pub IsRead : Script → Type 0
IsRead script = AreRead (unused script.header.now) script.events
