-- What a line of the kind `reply` is read as.
use Rattle.std.specs.Prelude.{unwrap_or, Result, Ok}
use Rattle.serde_json.specs.Data.{Data}
use Rattle.fed_origin.specs.Words.{kind_of_word}
use Rattle.fed_script.specs.declared.cause.LineCause.{LineCause}
use Rattle.fed_script.specs.declared.cause.MemberName.TheVariants as names
use Rattle.fed_script.specs.declared.event.Event.{Event}
use Rattle.fed_script.specs.declared.event.Event.TheVariants.{Reply}
use Rattle.fed_script.specs.Member.{◌>>=◌, required, optional, member_of, as_word, as_u32}
use Rattle.fed_script.specs.Raw.{required_bytes}

-- the reply that a line names; where it names no provider, it comes from the first
abbrev pub reply_of : Data → Result Event LineCause
reply_of d = do
  call ← required as_u32 names.Call d
  provider ← optional as_u32 names.Provider (member_of names.Provider d)
  kind ← required (as_word kind_of_word) names.To d
  raw ← required_bytes d
  Ok (Reply call (unwrap_or provider 0) kind raw)
