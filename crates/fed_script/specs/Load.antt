-- What a line of the kind `load` is read as.
use Rattle.std.specs.Prelude.{ℕ, List, Option, Result, Ok}
use Rattle.serde_json.specs.Data.{Data}
use Rattle.serde_json.specs.Find.{as_str}
use Rattle.fed_script.specs.declared.cause.LineCause.{LineCause}
use Rattle.fed_script.specs.declared.cause.MemberName.TheVariants as names
use Rattle.fed_script.specs.declared.event.Event.{Event}
use Rattle.fed_script.specs.declared.event.Event.TheVariants.{Load}
use Rattle.fed_script.specs.Member.{◌>>=◌, required, as_u32, url_of}
use Rattle.fed_script.specs.Raw.{optional_bytes}

-- the load of a page whose URL is a text, with the bytes of a reply if there are any
abbrev pub load_by : ℕ → List ℕ → Option (List ℕ) → Result Event LineCause
load_by page text raw = do
  url ← url_of text
  Ok (Load page url raw)

-- the load that a line names
abbrev pub load_of : Data → Result Event LineCause
load_of d = do
  page ← required as_u32 names.Page d
  text ← required as_str names.Url d
  raw ← optional_bytes d
  load_by page text raw
