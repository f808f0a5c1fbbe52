-- The look-backs that a sign-in request hangs on, of two traces of which providers can tell the same.
use Rattle.std.specs.Prelude.{◌≡◌, ℕ, true, nat_eq, List, Option, Some, None, option_map, ⊤}
use Rattle.std.specs.Map.{keys_of}
use Rattle.url.specs.Parts.{Parts}
use Rattle.fed_origin.specs.declared.origin.Origin.{Origin}
use Rattle.fed_origin.specs.WebUrl.{host_of}
use Rattle.fed_jar.specs.Send.{jar_text}
use Rattle.fed_jar.specs.Store.{part_of}
use Rattle.fed_status.specs.Login.{status_of}
use Rattle.fed_suffix.specs.Registrable.{party}
use Rattle.fed_trace.specs.Begun.{of_get}
use Rattle.fed_trace.specs.Effect.{Effect, Move, get_begun, is_window, key_change}
use Rattle.fed_trace.specs.Keyed.{Change}
use Rattle.fed_trace.specs.Trace.{Row, Trace, all_said, standing, now_at, page_at, gets, cookies, logins}
use Rattle.fed_twin.specs.Providers.{Providers, is_provider}
use Rattle.fed_twin.specs.Script.{first_requests}
use Rattle.fed_twin.specs.Seen.{told, view}

-- the numbers of the gets that were taken, in order of beginning
abbrev pub gets_begun : List Row → List ℕ
gets_begun rows = all_said get_begun rows

-- what an effect says of the gets whose login window is open
abbrev pub get_window_change : Effect → Option (Change ℕ ⊤)
get_window_change (Move kind call stage) = of_get kind (Some (key_change call (is_window stage)))
get_window_change _ = None

-- the gets in Window, in the order of their last moves there
abbrev pub gets_in_window : List Row → List ℕ
gets_in_window rows = keys_of (standing nat_eq get_window_change rows)

pub record SameLooks (p : Providers) (T U : Trace) : Type 0 where
  pub now : now_at T ≡ now_at U
  -- of the origins of pages only what is told
  pub pages : (page : ℕ) → option_map (told p) (page_at T page) ≡ option_map (told p) (page_at U page)
  -- of gets alone
  pub gets : gets T ≡ gets U
  pub begun : gets_begun T.rows ≡ gets_begun U.rows
  pub windows : gets_in_window T.rows ≡ gets_in_window U.rows
  -- the cookies of a provider's party
  pub parts : (host : List ℕ) → is_provider p host ≡ true
      → part_of p.rules (party p.rules host) (cookies T) ≡ part_of p.rules (party p.rules host) (cookies U)
  -- the Cookie field of a request to a provider, at any time
  pub cookies : (to : Parts) (now : ℕ) → is_provider p (host_of to) ≡ true
      → jar_text p.rules to now (cookies T) ≡ jar_text p.rules to now (cookies U)
  pub statuses : (origin : Origin) → is_provider p origin.host ≡ true → status_of (logins T) origin ≡ status_of (logins U) origin
  pub requests : first_requests T.rows ≡ first_requests U.rows

-- they hang on what providers can tell alone
abbrev pub LooksAreSeen : Type 0
LooksAreSeen = (p : Providers) (T U : Trace) → T.header.now ≡ U.header.now → view p T.rows ≡ view p U.rows → SameLooks p T U
