-- One of two scripts, with its lines numbered among the lines of both.
use Rattle.std.specs.Prelude.{ℕ, List, Result, Ok, Err}
use Rattle.fed_script.specs.declared.cause.PairStop.{PairStop}
use Rattle.fed_script.specs.Pair.{Halves, stop_after}
use Rattle.fed_script.specs.Script.{Script, Stop, lines_of}

-- the lines of bytes before and after a dividing line
abbrev pub halves_by : List ℕ → List ℕ → Halves
halves_by first second = record { first = lines_of first; second = lines_of second }

-- a script that so many lines stand before
abbrev pub half_of : ℕ → Result Script Stop → Result Script PairStop
half_of before (Ok script) = Ok script
half_of before (Err stop) = Err (stop_after before stop)
