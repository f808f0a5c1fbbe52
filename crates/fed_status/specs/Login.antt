-- Login statuses: a list of origins with their statuses in order of entering, no origin twice.
use Rattle.std.specs.Prelude.{ℕ, not, List, filter, Option, unwrap_or}
use Rattle.std.specs.List.{IsDistinct}
use Rattle.std.specs.Map.{lookup, keys_of}
use Rattle.indexmap.specs.IndexMap.{insert_entry}
use Rattle.fed_reply.specs.Json.{essence}
use Rattle.fed_origin.specs.declared.origin.Origin.{Origin}
use Rattle.fed_origin.specs.declared.status.LoginStatus.{LoginStatus}
use Rattle.fed_origin.specs.declared.status.LoginStatus.TheVariants.{Unknown}
use Rattle.fed_origin.specs.Origin.{same_origin}
use Rattle.fed_origin.specs.Words.{status_of_word}

abbrev pub Logins : Type 0
Logins = List (Origin × LoginStatus)

-- the status of an origin, unknown where it was never set
abbrev pub status_of : Logins → Origin → LoginStatus
status_of logins origin = unwrap_or (lookup (same_origin origin) logins) Unknown

-- the statuses with this one: an origin that is there keeps its place, and a new one goes last
abbrev pub with_status : Logins → Origin → LoginStatus → Logins
with_status logins origin status = insert_entry same_origin logins origin status

-- the statuses of the other origins
abbrev pub but_origin : Origin → Logins → Logins
but_origin origin logins = filter (λ login. not (same_origin origin login.0)) logins

-- no origin stands twice
abbrev pub HasDistinctOrigins : Logins → Type 0
HasDistinctOrigins logins = IsDistinct same_origin (keys_of logins)

-- what a Set-Login value says; none where it is ignored
abbrev pub set_login_of : List ℕ → Option LoginStatus
set_login_of value = status_of_word (essence value)
