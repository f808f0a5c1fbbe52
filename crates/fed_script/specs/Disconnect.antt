-- What a line of the kind `disconnect` is read as.
use Rattle.std.specs.Prelude.{ℕ, List, Result, Ok}
use Rattle.serde_json.specs.Data.{Data}
use Rattle.serde_json.specs.Find.{as_str}
use Rattle.fed_script.specs.declared.cause.LineCause.{LineCause}
use Rattle.fed_script.specs.declared.cause.MemberName.TheVariants as names
use Rattle.fed_script.specs.declared.disconnect.DisconnectMembers as disconnect
use Rattle.fed_script.specs.declared.event.Event.{Event}
use Rattle.fed_script.specs.declared.event.Event.TheVariants.{Disconnect}
use Rattle.fed_script.specs.Member.{◌>>=◌, required, as_u32, url_of}

-- the members of a disconnect call, its URL as text
pub record DisconnectMembers : Type 0 where
  pub page : ℕ
  pub call : ℕ
  pub config : List ℕ
  pub client : List ℕ
  pub hint : List ℕ

-- what borrowed members point to
abbrev pub disconnect_seen : disconnect.DisconnectMembers → DisconnectMembers
disconnect_seen m =
    record { page = m.page; call = m.call; config = m.config.now; client = m.client.now; hint = m.hint.now }

-- the members, in their order
abbrev pub disconnect_members : Data → Result DisconnectMembers LineCause
disconnect_members d = do
  page ← required as_u32 names.Page d
  call ← required as_u32 names.Call d
  config ← required as_str names.Config d
  client ← required as_str names.Client d
  hint ← required as_str names.Hint d
  Ok (record { page = page; call = call; config = config; client = client; hint = hint })

-- the disconnect call with these members
abbrev pub disconnect_by : DisconnectMembers → Result Event LineCause
disconnect_by m = do
  config ← url_of m.config
  Ok (Disconnect m.page m.call config m.client m.hint)

-- the disconnect call that a line names
abbrev pub disconnect_of : Data → Result Event LineCause
disconnect_of d = disconnect_members d >>= disconnect_by
