-- What a line of the kind `choose` is read as.
use Rattle.std.specs.Prelude.{unwrap_or, Result, Ok}
use Rattle.serde_json.specs.Data.{Data}
use Rattle.serde_json.specs.Find.{as_str}
use Rattle.fed_script.specs.declared.cause.LineCause.{LineCause}
use Rattle.fed_script.specs.declared.cause.MemberName.TheVariants as names
use Rattle.fed_script.specs.declared.event.Event.{Event}
use Rattle.fed_script.specs.declared.event.Event.TheVariants.{Choose}
use Rattle.fed_script.specs.Member.{◌>>=◌, required, optional, member_of, as_u32}

-- the choice that a line names; where it names no provider, the account is the first one's
abbrev pub choose_of : Data → Result Event LineCause
choose_of d = do
  call ← required as_u32 names.Call d
  provider ← optional as_u32 names.Provider (member_of names.Provider d)
  account ← required as_str names.Account d
  Ok (Choose call (unwrap_or provider 0) account)
