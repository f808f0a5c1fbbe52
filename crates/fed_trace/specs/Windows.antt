-- Which calls wait for which provider, in their order; and what was ever loaded, and waited for.
use Rattle.std.specs.Prelude.{ℕ, Bool, true, false, nat_eq, List, filter, Option, Some, None, option_and_then, ⊤}
use Rattle.std.specs.Map.{keys_of}
use Rattle.fed_origin.specs.declared.origin.Origin.{Origin}
use Rattle.fed_origin.specs.Origin.{same_origin}
use Rattle.fed_consent.specs.Outcomes.{only_place}
use Rattle.fed_call.specs.WindowRows.{origin_at}
use Rattle.fed_trace.specs.Begun.{CallOptions, ToGet, ToDisconnect}
use Rattle.fed_trace.specs.Effect.{Effect, Move, loaded_change, is_window, window_change}
use Rattle.fed_trace.specs.Keyed.{Change}
use Rattle.fed_trace.specs.OfCall.{call_at}
use Rattle.fed_trace.specs.Trace.{Row, Trace, standing}

-- the pages that were ever loaded, in the order of their first loads
abbrev pub pages_loaded : Trace → List ℕ
pages_loaded T = keys_of (standing nat_eq loaded_change T.rows)

-- the calls in Window, in the order of their last moves there
abbrev pub open_windows : Trace → List ℕ
open_windows T = keys_of (standing nat_eq window_change T.rows)

-- the origin of the provider that a get asked, of several the first
abbrev pub provider_asked : CallOptions → Option Origin
provider_asked (ToGet options) = origin_at only_place options
provider_asked (ToDisconnect options) = None

-- the same of a get, where it began
abbrev pub provider_of : List Row → ℕ → Option Origin
provider_of rows call = option_and_then (λ begun. provider_asked begun.options) (call_at rows call)

-- it is this one
abbrev pub is_origin : Origin → Option Origin → Bool
is_origin origin None = false
is_origin origin (Some other) = same_origin origin other

-- the calls in Window whose provider is of this origin, in the order of their last moves there
abbrev pub windows_of : Trace → Origin → List ℕ
windows_of T origin = filter (λ call. is_origin origin (provider_of T.rows call)) (open_windows T)

-- the origin that a call waits for from a move on
abbrev pub waited_from : Bool → Option Origin → Option (Change Origin ⊤)
waited_from false origin = None
waited_from true None = None
waited_from true (Some origin) = Some (origin, Some tt)

-- what an effect says of the origins that calls of these rows ever waited for
abbrev pub waited_change : List Row → Effect → Option (Change Origin ⊤)
waited_change rows (Move kind call stage) = waited_from (is_window stage) (provider_of rows call)
waited_change rows _ = None

-- the origins that calls ever waited for, in the order of the first moves to Window
abbrev pub origins_waited : Trace → List Origin
origins_waited T = keys_of (standing same_origin (waited_change T.rows) T.rows)
