-- What is found in a script: the lines that are bad, and the members that are read over.
use Rattle.std.specs.Prelude.{ℕ, ◌+◌, Bool, true, false, List, [], ◌∷◌, ◌++◌, map, Result, Ok, Err, if◌then◌else◌}
use Rattle.std.specs.List.{list_any}
use Rattle.fed_script.specs.declared.cause.LineCause.{LineCause}
use Rattle.fed_script.specs.declared.cause.LineCause.TheVariants.{NotJson}
use Rattle.fed_script.specs.declared.event.Event.{Event}
use Rattle.fed_script.specs.declared.event.Header.{Header}
use Rattle.fed_script.specs.Line.{header_of, event_of}
use Rattle.fed_script.specs.Pieces.{whole_lines}
use Rattle.fed_script.specs.Script.{is_blank, lines_of}
use Rattle.fed_script.specs.Used.{UsedState, unused, used_after}
use Rattle.fed_check.specs.declared.finding.Finding.{Finding}
use Rattle.fed_check.specs.declared.finding.Finding.TheVariants.{Bad, Unread}
use Rattle.fed_check.specs.Members.{header_members, event_members, unread}

-- line n has members of these names that are read over
abbrev pub read_over : ℕ → List (List ℕ) → List Finding
read_over n names = map (Unread n) names

-- what is found in the first line, for what it is read as
abbrev pub found_in_header : List ℕ → Result Header LineCause → List Finding
found_in_header line (Ok header) = read_over 1 (unread header_members line)
found_in_header line (Err cause) = Bad 1 cause ∷ []

-- what is found in line n, for what it is read as
abbrev pub found_in_event : ℕ → List ℕ → Result Event LineCause → List Finding
found_in_event n line (Ok event) = read_over n (unread (event_members event) line)
found_in_event n line (Err cause) = Bad n cause ∷ []

-- what is used after a line: by a bad one nothing
abbrev pub used_past : Result Event LineCause → UsedState → UsedState
used_past (Ok event) used = used_after event used
used_past (Err cause) used = used

-- what is found in the lines from line n on, after lines that used this
abbrev pub found_from : UsedState → ℕ → List (List ℕ) → List Finding
found_from used n [] = []
found_from used n (line ∷ lines) =
    if is_blank line then found_from used (n + 1) lines
    else found_in_event n line (event_of line used) ++ found_from (used_past (event_of line used) used) (n + 1) lines

-- the same after the first line; after a bad header no line can be judged
abbrev pub found_after : Result Header LineCause → List (List ℕ) → List Finding
found_after (Ok header) lines = found_from (unused header.now) 2 lines
found_after (Err cause) lines = []

-- what is found in some lines
abbrev pub found_in_lines : List (List ℕ) → List Finding
found_in_lines [] = []
found_in_lines (line ∷ lines) = found_in_header line (header_of line) ++ found_after (header_of line) lines

-- what is found in all lines of a script; without a line the first is no JSON
abbrev pub found_in_script : List (List ℕ) → List Finding
found_in_script [] = Bad 1 NotJson ∷ []
found_in_script (line ∷ lines) = found_in_lines (line ∷ lines)

-- what is found in a script
abbrev pub findings : List ℕ → List Finding
findings bytes = found_in_script (lines_of bytes)

-- what is found in the lines that end in bytes with LF
abbrev pub ended_findings : List ℕ → List Finding
ended_findings bytes = found_in_lines (whole_lines bytes)

abbrev pub is_bad : Finding → Bool
is_bad (Bad n cause) = true
is_bad (Unread n name) = false

-- a line is bad
abbrev pub has_bad : List Finding → Bool
has_bad found = list_any is_bad found
