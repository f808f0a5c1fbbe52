-- What the bytes of two scripts are read as, which a line divides.
use Rattle.std.specs.Prelude.{ℕ, ◌+◌, nat_eq, nat_le, ◌==◌, Bool, ◌&&◌, List, length, take, drop, count_by}
use Rattle.std.specs.Prelude.{codes, Option, Some, None, Result, Ok, Err, if◌then◌else◌}
use Rattle.std.specs.List.{list_any, prefix_len, starts_with, before_first, after_first}
use Rattle.fed_script.specs.declared.cause.PairCause.TheVariants.{Line, NoNext}
use Rattle.fed_script.specs.declared.pair.Pair.{Pair}
use Rattle.fed_script.specs.declared.cause.PairStop.{PairStop}
use Rattle.fed_script.specs.Script.{Script, Stop, is_blank, is_margin, lines_of, script_of_lines}

-- ---- the dividing line

abbrev pub divider : List ℕ
divider = codes "{\"next\":\"script\"}"

-- bytes begin with it, and space, tab and CR alone follow
abbrev pub is_divider_here : List ℕ → Bool
is_divider_here rest = starts_with nat_eq rest divider && is_blank (drop (length divider) rest)

-- a line is it, but for space, tab and CR at its ends
abbrev pub is_divider : List ℕ → Bool
is_divider line = is_divider_here (drop (prefix_len is_margin line) line)

-- the lines before the first dividing line, and those after it
pub record Halves : Type 0 where
  pub first : List (List ℕ)
  pub second : List (List ℕ)

-- where a line divides them
abbrev pub halves_of : List (List ℕ) → Option Halves
halves_of lines =
    if list_any is_divider lines then Some (record { first = before_first is_divider lines; second = after_first is_divider lines })
    else None

-- ---- two scripts

-- a script that stops at a line, after so many lines of the whole
abbrev pub stop_after : ℕ → Stop → PairStop
stop_after before stop = record { line = before + stop.line; cause = Line stop.cause }

-- both scripts, of which the first was read, and so many lines stand before the second
abbrev pub pair_with : ℕ → Script → Result Script Stop → Result Pair PairStop
pair_with before first (Ok second) = Ok (record { first = first; second = second })
pair_with before first (Err stop) = Err (stop_after before stop)

abbrev pub pair_after : ℕ → Result Script Stop → Result Script Stop → Result Pair PairStop
pair_after before (Ok first) second = pair_with before first second
pair_after before (Err stop) second = Err (stop_after 0 stop)

-- two scripts, each as it is read alone, or the first bad line; a half without a line lacks its header
abbrev pub pair_of_halves : Halves → Result Pair PairStop
pair_of_halves halves =
    pair_after (length halves.first + 1) (script_of_lines halves.first) (script_of_lines halves.second)

-- where no line divides them: the first bad line, or else the line after the last
abbrev pub undivided : ℕ → Result Script Stop → PairStop
undivided lines (Ok script) = record { line = lines + 1; cause = NoNext }
undivided lines (Err stop) = stop_after 0 stop

abbrev pub pair_by : List (List ℕ) → Option Halves → Result Pair PairStop
pair_by lines (Some halves) = pair_of_halves halves
pair_by lines None = Err (undivided (length lines) (script_of_lines lines))

abbrev pub pair_of_lines : List (List ℕ) → Result Pair PairStop
pair_of_lines lines = pair_by lines (halves_of lines)

-- the two scripts of these bytes, or the first line that is bad or missing
abbrev pub pair_of : List ℕ → Result Pair PairStop
pair_of bytes = pair_of_lines (lines_of bytes)

-- ---- more bytes than are read

-- how many lines of bytes end with LF within the first so many
abbrev pub lines_within : ℕ → List ℕ → ℕ
lines_within limit bytes = count_by (λ b. b == 10) (take limit bytes)

-- the line where two scripts stop, unless it ends after the first so many bytes
abbrev pub stop_within : ℕ → Result Pair PairStop → Option PairStop
stop_within lines (Ok pair) = None
stop_within lines (Err stop) = if nat_le stop.line lines then Some stop else None

-- the first bad line of two scripts, where it ends with LF within the first so many bytes
abbrev pub bad_within : ℕ → List ℕ → Option PairStop
bad_within limit bytes = stop_within (lines_within limit bytes) (pair_of bytes)
