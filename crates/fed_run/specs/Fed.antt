-- What is so of a run that was fed its script in pieces.
use Rattle.std.specs.Prelude.{◌≡◌, ℕ, ◌≤◌, List, [], length, Option, Some, None, ⊤}
use Rattle.fed_run.specs.declared.live.Live.{Live}
use Rattle.fed_run.specs.declared.status.Status.{Status}
use Rattle.fed_run.specs.declared.status.Status.TheVariants.{NoRoom}
use Rattle.fed_run.specs.Ends.{EndsRun}
use Rattle.fed_run.specs.Run.{lines_text}
use Rattle.fed_run.specs.Streams.{IsAt}

-- The run was fed these bytes, no line that ends in them is bad, and its text is what these lines say.
pub record Goes (live : Live) (bytes : List ℕ) : Type 0 where
  pub at : IsAt live.reader live.session (Some []) (Some live.sink.text.items) bytes
  pub count : live.count ≡ length bytes
  pub few : length bytes ≤ 67108864
  pub says : live.sink.text.items ≡ lines_text bytes

-- What is so of a run with this end that was fed these bytes: it goes on, or it ended as a run of them does, with all that this writes, or
-- there was no memory.
abbrev pub FedBy : Option Status → Live → List ℕ → Type 0
FedBy None live bytes = Goes live bytes
FedBy (Some NoRoom) live bytes = ⊤
FedBy (Some status) live bytes = EndsRun 67108864 bytes status live.sink.text.items
