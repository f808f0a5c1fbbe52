-- What providers can tell of what happened.
use Rattle.std.specs.Prelude.{ℕ, Bool, List, Option, Some, None, if◌then◌else◌}
use Rattle.fed_origin.specs.declared.origin.Origin.{Origin}
use Rattle.fed_origin.specs.declared.stage.Stage.{Stage}
use Rattle.fed_origin.specs.declared.status.LoginStatus.{LoginStatus}
use Rattle.fed_origin.specs.Origin.{is_trustworthy}
use Rattle.fed_jar.specs.Changes.{CookieChange, domain_of}
use Rattle.fed_consent.specs.declared.table.ask.Ask.{Ask}
use Rattle.fed_consent.specs.declared.table.ask.Ask.TheVariants as asks
use Rattle.fed_trace.specs.Begun.{kind_asked, of_get}
use Rattle.fed_trace.specs.Effect.{Effect}
use Rattle.fed_trace.specs.Effect as does
use Rattle.fed_trace.specs.Trace.{Row, all_said}
use Rattle.fed_twin.specs.Providers.{Providers, is_provider}

pub data Seen : Type 0 where
  Time : (time : ℕ) → Seen
  -- the page stands, is trustworthy or not, and its origin where a provider has its party
  Page : (page : ℕ) → (trusted : Bool) → (origin : Option Origin) → Seen
  Closed : (page : ℕ) → Seen
  Cookie : (change : CookieChange) → Seen
  Login : (origin : Origin) → (status : LoginStatus) → Seen
  Begin : (call page : ℕ) → Seen
  Move : (call : ℕ) → (stage : Stage) → Seen
  Sent : (call provider : ℕ) → (ask : Ask) → (cookies : List ℕ) → Seen

-- of an origin only whether it is trustworthy, unless a provider has its party
abbrev pub told_origin : Providers → Origin → Option Origin
told_origin p origin = if is_provider p origin.host then Some origin else None

-- what is told of a page's origin
pub record Told : Type 0 where
  pub trusted : Bool
  pub origin : Option Origin

abbrev pub told : Providers → Origin → Told
told p origin = record { trusted = is_trustworthy origin; origin = told_origin p origin }

abbrev pub seen_sent : ℕ → ℕ → Ask → List ℕ → Option Seen
seen_sent call provider (asks.WellKnown to) cookies = Some (Sent call provider (asks.WellKnown to) cookies)
seen_sent call provider (asks.Config to) cookies = Some (Sent call provider (asks.Config to) cookies)
seen_sent call provider (asks.Accounts to) cookies = Some (Sent call provider (asks.Accounts to) cookies)
seen_sent call provider _ cookies = None

-- what providers can tell of an effect; of disconnect calls nothing is said
abbrev pub seen : Providers → Effect → Option Seen
seen p (does.Time time) = Some (Time time)
seen p (does.Page page origin) = Some (Page page (is_trustworthy origin) (told_origin p origin))
seen p (does.Closed page) = Some (Closed page)
seen p (does.Cookie change) = if is_provider p (domain_of change) then Some (Cookie change) else None
seen p (does.Login origin status) = if is_provider p origin.host then Some (Login origin status) else None
seen p (does.Begin begun) = of_get (kind_asked begun.options) (Some (Begin begun.call begun.page))
seen p (does.Move kind call stage) = of_get kind (Some (Move call stage))
seen p (does.Sent kind call provider ask cookies) = of_get kind (seen_sent call provider ask cookies)
seen p (does.Dropped call provider failure) = None
seen p (does.Shown call dialog) = None
seen p (does.Window call provider url) = None
seen p (does.Kept triple stays) = None
seen p (does.Flag origin stays) = None
seen p (does.Result call page finish) = None
seen p (does.Ignored why) = None

-- what they can tell of rows, in their order
abbrev pub view : Providers → List Row → List Seen
view p rows = all_said (seen p) rows
