-- A sink in memory that takes whatever is written.
use Rattle.std.specs.Prelude.{ℕ, ◌≤◌, List, length, Option}
use Rattle.fed_run.specs.declared.form.Form.{Form}
use Rattle.fed_run.specs.declared.status.Status.{Status}
use Rattle.fed_run.specs.Ends.{EndsAs}

-- there is room for the text, however the form ends for these bytes
abbrev pub HasRoomFor : ℕ → Option Form → List ℕ → ℕ → Type 0
HasRoomFor limit form bytes room = (status : Status) (ends : EndsAs limit form bytes status) → length ends.text ≤ room
