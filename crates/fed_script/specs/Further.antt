-- What was read of lines, and then what is left.
use Rattle.std.specs.Prelude.{ℕ, ◌+◌, List, ◌++◌, Option, Some, None}
use Rattle.fed_script.specs.declared.cause.LineCause.{LineCause}
use Rattle.fed_script.specs.declared.event.Numbered.{Numbered}
use Rattle.fed_script.specs.Script.{Events, no_events, events_of}
use Rattle.fed_script.specs.Used.{UsedState}

-- events before what the further lines are read as
abbrev pub with_events : List Numbered → Events → Events
with_events events further = record { good = events ++ further.good; bad = further.bad }

-- what follows line n: the further lines, or nothing where it is bad
abbrev pub goes_on : Option LineCause → ℕ → UsedState → List (List ℕ) → Events
goes_on None n used lines = events_of used (n + 1) lines
goes_on (Some cause) n used lines = no_events (Some (n, cause))
