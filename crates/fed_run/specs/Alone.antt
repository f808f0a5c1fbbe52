-- What the bytes of one script that is read whole are read as.
use Rattle.std.specs.Prelude.{ℕ, nat_le, List, Option, Some, None, Result, Ok, Err, if◌then◌else◌}
use Rattle.fed_script.specs.declared.cause.PairStop.{PairStop}
use Rattle.fed_script.specs.Half.{half_of}
use Rattle.fed_script.specs.Pair.{lines_within}
use Rattle.fed_script.specs.Script.{Script, script_of}

-- the script of these bytes, or its first bad line
abbrev pub alone_of : List ℕ → Result Script PairStop
alone_of bytes = half_of 0 (script_of bytes)

-- ---- more bytes than are read

-- a bad line, unless it stands after the first so many lines
abbrev pub if_among : ℕ → PairStop → Option PairStop
if_among lines stop = if nat_le stop.line lines then Some stop else None

-- the line where a script stops, unless it ends after the first so many lines
abbrev pub alone_stop_within : ℕ → Result Script PairStop → Option PairStop
alone_stop_within lines (Ok script) = None
alone_stop_within lines (Err stop) = if_among lines stop

-- the first bad line, where it ends with LF within the first so many bytes
abbrev pub alone_bad_within : ℕ → List ℕ → Option PairStop
alone_bad_within limit bytes = alone_stop_within (lines_within limit bytes) (alone_of bytes)
