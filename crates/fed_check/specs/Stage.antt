-- What contracts see of a checker that is given a script in pieces.
use Rattle.std.specs.Prelude.{◌≡◌, ℕ, ◌+◌, ◌-◌, ◌^◌, ◌<◌, ◌≤◌, ⊤, Bool, true, false, List, [], ◌∷◌, ◌++◌, length}
use Rattle.std.specs.Prelude.{Result, Ok, Err, if◌then◌else◌}
use Rattle.fed_script.specs.declared.cause.LineCause.{LineCause}
use Rattle.fed_script.specs.declared.event.Header.{Header}
use Rattle.fed_script.specs.Line.{header_of, event_of}
use Rattle.fed_script.specs.Pieces.{whole_lines, rest_of}
use Rattle.fed_script.specs.Script.{is_blank}
use Rattle.fed_script.specs.Used.{UsedState, unused}
use Rattle.fed_check.specs.declared.finding.Finding.{Finding}
use Rattle.fed_check.specs.declared.stage.Stage.{Stage}
use Rattle.fed_check.specs.declared.stage.Stage.TheVariants.{Head, Events, Over}
use Rattle.fed_check.specs.Check.{found_in_header, found_in_event, used_past, findings, ended_findings}

-- ---- lines one after the other

-- what is found in a next line
abbrev pub found_at : Stage → List ℕ → List Finding
found_at Head line = found_in_header line (header_of line)
found_at (Events n used) line = if is_blank line then [] else found_in_event n line (event_of line used)
found_at Over line = []

-- where the check stands after the first line
abbrev pub after_header : Result Header LineCause → Stage
after_header (Ok header) = Events 2 (unused header.now)
after_header (Err cause) = Over

-- what is used after a further line
abbrev pub used_by : List ℕ → UsedState → UsedState
used_by line used = if is_blank line then used else used_past (event_of line used) used

-- where the check stands after a next line
abbrev pub stage_after : Stage → List ℕ → Stage
stage_after Head line = after_header (header_of line)
stage_after (Events n used) line = Events (n + 1) (used_by line used)
stage_after Over line = Over

-- no line was read
abbrev pub is_head : Stage → Bool
is_head Head = true
is_head (Events n used) = false
is_head Over = false

-- the number of the next line is far from the greatest
abbrev pub IsFew : Stage → Type 0
IsFew Head = ⊤
IsFew (Events n used) = n < 2 ^ 32 - 1
IsFew Over = ⊤

-- where it stands after lines
abbrev pub stage_past : Stage → List (List ℕ) → Stage
stage_past stage [] = stage
stage_past stage (line ∷ lines) = stage_past (stage_after stage line) lines

-- ---- pieces

pub record CheckerParts : Type 0 where
  -- the bytes after the last LF
  pub rest : List ℕ
  pub stage : Stage
  -- no call found no memory
  pub alive : Bool

-- The pieces that the checker was given are these bytes.
pub record HasChecked (checker : CheckerParts) (bytes : List ℕ) : Type 0 where
  pub rest : checker.rest ≡ rest_of bytes
  pub stage : checker.stage ≡ stage_past Head (whole_lines bytes)

-- So many bytes more are within what may be given.
abbrev pub HasRoom : CheckerParts → ℕ → Type 0
HasRoom checker count =
    checker.alive ≡ true → (bytes : List ℕ) × HasChecked checker bytes × (length bytes + count ≤ 67108865)

-- A piece was taken, and this is found in the lines that end in it.
abbrev pub Checks : CheckerParts → CheckerParts → List ℕ → List Finding → Type 0
Checks old new piece found =
    (bytes : List ℕ) → HasChecked old bytes
    → HasChecked new (bytes ++ piece) × (ended_findings (bytes ++ piece) ≡ ended_findings bytes ++ found)

-- A front of a piece was taken, in which one line ends, and what is found there was noted; the further bytes are left.
pub record ChecksLine (old new : CheckerParts) (piece further : List ℕ) (before after : List Finding) : Type 0 where
  pub front : List ℕ
  pub cut : piece ≡ front ++ further
  pub found : List Finding
  pub noted : after ≡ before ++ found
  pub checks : Checks old new front found

-- The pieces are all, and this is found in what does not end in them with LF.
abbrev pub Finishes : CheckerParts → List Finding → Type 0
Finishes checker found = (bytes : List ℕ) → HasChecked checker bytes → findings bytes ≡ ended_findings bytes ++ found
