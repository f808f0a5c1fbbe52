-- What the bytes of a script and of a transcript that was written for it are read as, which a line divides.
use Rattle.std.specs.Prelude.{ℕ, ◌+◌, nat_eq, Bool, ◌&&◌, List, length, drop, codes, Option, Some, None, Result, Ok, Err}
use Rattle.std.specs.Prelude.{if◌then◌else◌}
use Rattle.std.specs.List.{list_any, prefix_len, starts_with, before_first, after_first}
use Rattle.fed_script.specs.declared.cause.PairStop.{PairStop}
use Rattle.fed_script.specs.Pair.{Halves, lines_within, stop_after, undivided}
use Rattle.fed_script.specs.Script.{Script, Stop, is_blank, is_margin, lines_of, script_of_lines}
use Rattle.fed_run.specs.Alone.{if_among}
use Rattle.fed_run.specs.declared.recorded.Recorded.{Recorded as RecordedBytes}

-- ---- the dividing line

abbrev pub divider : List ℕ
divider = codes "{\"next\":\"transcript\"}"

-- bytes begin with it, and space, tab and CR alone follow
abbrev pub is_divider_here : List ℕ → Bool
is_divider_here rest = starts_with nat_eq rest divider && is_blank (drop (length divider) rest)

-- a line is it, but for space, tab and CR at its ends
abbrev pub is_divider : List ℕ → Bool
is_divider line = is_divider_here (drop (prefix_len is_margin line) line)

-- where a line divides lines: those before the first such line, and those after it
abbrev pub halves_of : List (List ℕ) → Option Halves
halves_of lines =
    if list_any is_divider lines then Some (record { first = before_first is_divider lines; second = after_first is_divider lines })
    else None

-- ---- a script and a transcript

-- a script, and the lines of a transcript, of which the first has this number
pub record Recorded : Type 0 where
  pub script : Script
  pub first : ℕ
  pub lines : List (List ℕ)

-- the script as it is read alone, or its first bad line; the transcript's lines are not read, and stand after the dividing line
abbrev pub recorded_after : ℕ → Result Script Stop → List (List ℕ) → Result Recorded PairStop
recorded_after before (Ok script) lines = Ok (record { script = script; first = before + 2; lines = lines })
recorded_after before (Err stop) lines = Err (stop_after 0 stop)

-- where no line divides them: the first bad line of the script that all is, or else the line after the last
abbrev pub recorded_by : List (List ℕ) → Option Halves → Result Recorded PairStop
recorded_by lines (Some halves) = recorded_after (length halves.first) (script_of_lines halves.first) halves.second
recorded_by lines None = Err (undivided (length lines) (script_of_lines lines))

abbrev pub recorded_of_lines : List (List ℕ) → Result Recorded PairStop
recorded_of_lines lines = recorded_by lines (halves_of lines)

-- the script and the transcript of these bytes, or the first line that is bad or missing
abbrev pub recorded_of : List ℕ → Result Recorded PairStop
recorded_of bytes = recorded_of_lines (lines_of bytes)

-- ---- more bytes than are read

-- the line where both stop, unless it ends after the first so many lines
abbrev pub recorded_stop_within : ℕ → Result Recorded PairStop → Option PairStop
recorded_stop_within lines (Ok recorded) = None
recorded_stop_within lines (Err stop) = if_among lines stop

-- the first bad line, where it ends with LF within the first so many bytes
abbrev pub recorded_bad_within : ℕ → List ℕ → Option PairStop
recorded_bad_within limit bytes = recorded_stop_within (lines_within limit bytes) (recorded_of bytes)

-- ---- for private clauses

abbrev pub recorded_in : RecordedBytes → Recorded
recorded_in r = record { script = r.script; first = r.first; lines = lines_of r.text.now }
