-- What an event names.
use Rattle.std.specs.Prelude.{ℕ, Bool, true, false, List, Option, Some, None, option_map, slice_get}
use Rattle.fed_origin.specs.declared.status.LoginStatus.{LoginStatus}
use Rattle.fed_origin.specs.declared.status.LoginStatus.TheVariants.{Unknown, LoggedIn, LoggedOut}
use Rattle.fed_script.specs.declared.event.Event.{Event}
use Rattle.fed_script.specs.declared.event.Event.TheVariants as events

-- the client's id at the first provider of a get
abbrev pub client_in : Event → Option (List ℕ)
client_in (events.Get page call options) = option_map (λ provider. provider.client) (slice_get options.providers 0)
client_in _ = None

abbrev pub is_logged_in : LoginStatus → Bool
is_logged_in Unknown = false
is_logged_in LoggedIn = true
is_logged_in LoggedOut = false

-- the user is logged in by the status that a page sets
abbrev pub login_in : Event → Option Bool
login_in (events.SetStatus page status) = Some (is_logged_in status)
login_in _ = None
