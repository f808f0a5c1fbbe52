-- What a line of the kind `setstatus` is read as.
use Rattle.std.specs.Prelude.{Result, Ok}
use Rattle.serde_json.specs.Data.{Data}
use Rattle.fed_origin.specs.Words.{status_of_word}
use Rattle.fed_script.specs.declared.cause.LineCause.{LineCause}
use Rattle.fed_script.specs.declared.cause.MemberName.TheVariants as names
use Rattle.fed_script.specs.declared.event.Event.{Event}
use Rattle.fed_script.specs.declared.event.Event.TheVariants.{SetStatus}
use Rattle.fed_script.specs.Member.{◌>>=◌, required, as_word, as_u32}

-- the status that a page sets
abbrev pub setstatus_of : Data → Result Event LineCause
setstatus_of d = do
  page ← required as_u32 names.Page d
  status ← required (as_word status_of_word) names.Status d
  Ok (SetStatus page status)
