-- Scripts that differ in cookies alone.
use Rattle.std.specs.Prelude.{◌≡◌, ℕ, List, [], map, Option, Some, None}
use Rattle.std.specs.List.{filter_map, AllZip}
use Rattle.url.specs.Parts.{Parts}
use Rattle.fed_consent.specs.declared.table.ask.Ask.{Ask}
use Rattle.fed_consent.specs.declared.table.ask.Ask.TheVariants as asks
use Rattle.fed_script.specs.declared.event.Event.{Event}
use Rattle.fed_script.specs.declared.event.Event.TheVariants as events
use Rattle.fed_script.specs.declared.event.Have.TheVariants as haves
use Rattle.fed_script.specs.declared.event.Numbered.{Numbered}
use Rattle.fed_script.specs.Script.{Script}
use Rattle.fed_trace.specs.Effect.{Effect, Cookie, Sent}
use Rattle.fed_trace.specs.Row.{load_values, set_login_name}
use Rattle.fed_trace.specs.Trace.{Row}
use Rattle.fed_trace.specs.OfScript.{trace_of}

-- two events that are equal but for the cookies that they bring
pub data BringCookies : Event → Event → Type 0 where
  Equal : (event : Event) → BringCookies event event
  Haves : (url url' : Parts) → (field field' : List ℕ)
      → BringCookies (events.Have (haves.Cookie url field)) (events.Have (haves.Cookie url' field'))
  Loads : (page : ℕ) → (url : Parts) → (raw raw' : Option (List ℕ))
      → load_values set_login_name raw ≡ load_values set_login_name raw'
      → BringCookies (events.Load page url raw) (events.Load page url raw')

pub record OnOneLine (n n' : Numbered) : Type 0 where
  pub line : n.line ≡ n'.line
  pub event : BringCookies n.event n'.event

pub record JarTwin (a b : Script) : Type 0 where
  pub header : a.header ≡ b.header
  pub events : AllZip OnOneLine a.events b.events

-- the cookies of a request that carries none by its kind; of others nothing is said
abbrev pub fixed_cookies : Ask → List ℕ → List ℕ
fixed_cookies (asks.WellKnown to) cookies = cookies
fixed_cookies (asks.Config to) cookies = cookies
fixed_cookies (asks.Accounts to) cookies = []
fixed_cookies (asks.Metadata to client origin) cookies = cookies
fixed_cookies (asks.Assertion ask) cookies = []
fixed_cookies (asks.Disconnect to client hint origin) cookies = []

-- an effect without the cookies that come, go or are sent
abbrev pub but_cookies : Effect → Option Effect
but_cookies (Cookie change) = None
but_cookies (Sent kind call provider ask cookies) = Some (Sent kind call provider ask (fixed_cookies ask cookies))
but_cookies effect = Some effect

-- a row's line and effects without cookies
abbrev pub but_cookies_of : Row → ℕ × List Effect
but_cookies_of row = (row.line, filter_map but_cookies row.effects)

-- scripts that differ in cookies alone do the same but for cookies
abbrev pub TwoJars : Type 0
TwoJars = (a b : Script) → JarTwin a b → map but_cookies_of (trace_of a).rows ≡ map but_cookies_of (trace_of b).rows
