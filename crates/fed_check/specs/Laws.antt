-- What is so of all findings.
use Rattle.std.specs.Prelude.{◌≡◌, ℕ, List, [], ◌∷◌, Option, Some, None, Result, Ok, Err}
use Rattle.fed_script.specs.declared.cause.LineCause.{LineCause}
use Rattle.fed_script.specs.Script.{Script, Stop, script_of}
use Rattle.fed_check.specs.declared.finding.Finding.{Finding}
use Rattle.fed_check.specs.declared.finding.Finding.TheVariants.{Bad, Unread}
use Rattle.fed_check.specs.Check.{findings}

-- the first bad line among what is found, and its cause
abbrev pub first_bad : List Finding → Option (ℕ × LineCause)
first_bad [] = None
first_bad (Bad n cause ∷ more) = Some (n, cause)
first_bad (Unread n name ∷ more) = first_bad more

-- the line at which a script stops to be readable, and its cause
abbrev pub stops_at : Result Script Stop → Option (ℕ × LineCause)
stops_at (Ok script) = None
stops_at (Err stop) = Some (stop.line, stop.cause)

-- The first bad line that is found in a script is the one at which it stops to be readable; none is found in a readable one.
abbrev pub BadLinesAreOfRun : Type 0
BadLinesAreOfRun = (bytes : List ℕ) → first_bad (findings bytes) ≡ stops_at (script_of bytes)
