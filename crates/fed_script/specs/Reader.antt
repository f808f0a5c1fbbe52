-- What the lines of a script are read as, one after the other, and what contracts see of a reader that is fed them in pieces.
use Rattle.std.specs.Prelude.{◌≡◌, ℕ, ◌+◌, ◌≤◌, Bool, true, false, List, [], ◌∷◌, ◌++◌, length, Option, Some, None}
use Rattle.std.specs.Prelude.{option_map, Result, Ok, Err, ⊤, if◌then◌else◌}
use Rattle.fed_script.specs.declared.cause.LineCause.{LineCause}
use Rattle.fed_script.specs.declared.cause.LineCause.TheVariants.{NotJson}
use Rattle.fed_script.specs.declared.event.Event.{Event}
use Rattle.fed_script.specs.declared.event.Header.{Header}
use Rattle.fed_script.specs.declared.event.Line.{Line}
use Rattle.fed_script.specs.declared.event.Line.TheVariants as found
use Rattle.fed_script.specs.Line.{header_of, event_of}
use Rattle.fed_script.specs.Pieces.{whole_lines, rest_of}
use Rattle.fed_script.specs.Script.{is_blank, lines_of, MayFollow}
use Rattle.fed_script.specs.Script.{Script, Stop, Events, no_events, with_first, no_header, script_with}
use Rattle.fed_script.specs.Used.{UsedState, unused, used_after}

-- ---- lines one after the other

-- where the reading of lines stands
pub record Phase : Type 0 where
  -- the number of the next line, where the header's is 1
  pub number : ℕ
  -- what the lines before it used, once the header was read
  pub used : Option UsedState
  -- nothing more is read, since a line was bad
  pub over : Bool

-- before the first line
abbrev pub fresh : Phase
fresh = record { number = 1; used = None; over = false }

-- line n is the header, or bad
abbrev pub head_line : ℕ → Result Header LineCause → Line
head_line n (Ok header) = found.Head n header
head_line n (Err cause) = found.Bad n cause

-- line n is an event, or bad
abbrev pub event_line : ℕ → Result Event LineCause → Line
event_line n (Ok event) = found.Event n event
event_line n (Err cause) = found.Bad n cause

-- what line n is read as: as the header where none was read, else as blank or as an event
abbrev pub line_by : Option UsedState → ℕ → List ℕ → Line
line_by None n line = head_line n (header_of line)
line_by (Some used) n line = if is_blank line then found.Blank n else event_line n (event_of line used)

-- what the next line is read as
abbrev pub read_as : Phase → List ℕ → Line
read_as phase line = line_by phase.used phase.number line

-- what is used after a line
abbrev pub used_by : Line → Option UsedState → Option UsedState
used_by (found.Blank n) used = used
used_by (found.Head n header) used = Some (unused header.now)
used_by (found.Event n event) used = option_map (used_after event) used
used_by (found.Bad n cause) used = used

-- what is used after a last line, if there is one
abbrev pub used_past : Option Line → Option UsedState → Option UsedState
used_past None used = used
used_past (Some line) used = used_by line used

-- how many events were read
abbrev pub events_read : Option UsedState → ℕ
events_read None = 0
events_read (Some used) = used.events

-- the header, if a line is it
abbrev pub header_in : Line → Option Header
header_in (found.Head n header) = Some header
header_in _ = None

abbrev pub is_bad : Line → Bool
is_bad (found.Blank n) = false
is_bad (found.Head n header) = false
is_bad (found.Event n event) = false
is_bad (found.Bad n cause) = true

-- where the reading stands after the next line
abbrev pub phase_after : Phase → Line → Phase
phase_after phase line = record { number = phase.number + 1; used = used_by line phase.used; over = is_bad line }

-- what lines are read as, up to and with the first bad one
abbrev pub lines_read : Phase → List (List ℕ) → List Line
lines_read phase [] = []
lines_read phase (line ∷ lines) =
    if phase.over then [] else read_as phase line ∷ lines_read (phase_after phase (read_as phase line)) lines

-- where the reading stands after them
abbrev pub phase_past : Phase → List (List ℕ) → Phase
phase_past phase [] = phase
phase_past phase (line ∷ lines) =
    if phase.over then phase else phase_past (phase_after phase (read_as phase line)) lines

-- ---- the lines of bytes

-- the lines of bytes that end there with LF, up to and with the first bad one
abbrev pub ended_lines : List ℕ → List Line
ended_lines bytes = lines_read fresh (whole_lines bytes)

-- what all lines of a script are read as; without a line the first is no JSON
abbrev pub script_lines : List (List ℕ) → List Line
script_lines [] = found.Bad 1 NotJson ∷ []
script_lines (line ∷ lines) = lines_read fresh (line ∷ lines)

-- all lines of bytes, of which the last may lack its LF, up to and with the first bad one
abbrev pub all_lines : List ℕ → List Line
all_lines bytes = script_lines (lines_of bytes)

-- ---- the script that lines are

-- the events among lines, and the bad one
abbrev pub events_in : List Line → Events
events_in [] = no_events None
events_in (found.Blank n ∷ lines) = events_in lines
events_in (found.Head n header ∷ lines) = events_in lines
events_in (found.Event n event ∷ lines) = with_first n event (events_in lines)
events_in (found.Bad n cause ∷ lines) = no_events (Some (n, cause))

-- the header that comes first, with the events after it
abbrev pub script_in : List Line → Result Script Stop
script_in (found.Head n header ∷ lines) = script_with header (events_in lines)
script_in (found.Bad n cause ∷ lines) = Err (no_header cause)
script_in _ = Err (no_header NotJson)

-- ---- a reader

-- a header comes first and once, and each event may follow those before it
abbrev pub LineMayFollow : Option UsedState → Line → Type 0
LineMayFollow (Some used) (found.Event n event) = MayFollow used event
LineMayFollow None (found.Event n event) = ⊥
LineMayFollow (Some used) (found.Head n header) = ⊥
LineMayFollow None (found.Head n header) = ⊤
LineMayFollow (Some used) (found.Blank n) = ⊤
LineMayFollow None (found.Blank n) = ⊥
LineMayFollow used (found.Bad n cause) = ⊤

pub record ReaderParts : Type 0 where
  -- the bytes after the last LF
  pub rest : List ℕ
  pub phase : Phase
  -- no call found no memory
  pub alive : Bool

-- The pieces that the reader was fed are these bytes.
pub record HasRead (reader : ReaderParts) (bytes : List ℕ) : Type 0 where
  pub phase : reader.phase ≡ phase_past fresh (whole_lines bytes)
  -- after a bad line it is not said what is kept
  pub rest : reader.phase.over ≡ false → reader.rest ≡ rest_of bytes

-- So many bytes more are within what may be fed, unless nothing more is read.
abbrev pub HasRoom : ReaderParts → ℕ → Type 0
HasRoom reader count =
    reader.alive ≡ true → reader.phase.over ≡ false → (bytes : List ℕ) × HasRead reader bytes × (length bytes + count ≤ 67108865)

-- A piece was read, and these are the lines that end in it.
abbrev pub Feeds : ReaderParts → ReaderParts → List ℕ → List Line → Type 0
Feeds old new piece lines =
    (bytes : List ℕ) → HasRead old bytes
    → HasRead new (bytes ++ piece) × (ended_lines (bytes ++ piece) ≡ ended_lines bytes ++ lines)

-- A front of a piece was read, in which one line ends; the further bytes are left.
pub record ReadsLine (old new : ReaderParts) (piece further : List ℕ) (line : Line) : Type 0 where
  pub front : List ℕ
  pub cut : piece ≡ front ++ further
  pub phase : new.phase ≡ phase_after old.phase line
  pub feeds : Feeds old new front (line ∷ [])

-- A piece was read, in which no line ends, or nothing more is read.
pub record ReadsNoLine (old new : ReaderParts) (piece : List ℕ) : Type 0 where
  pub phase : new.phase ≡ old.phase
  pub feeds : Feeds old new piece []

-- The pieces are all, and these are the lines that did not end in them with LF.
abbrev pub Finishes : ReaderParts → List Line → Type 0
Finishes reader lines = (bytes : List ℕ) → HasRead reader bytes → all_lines bytes ≡ ended_lines bytes ++ lines
