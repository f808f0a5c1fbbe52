-- For private clauses: whether an event brings an item back.
use Rattle.std.specs.Prelude.{◌≡◌, ℕ, Option, Some, None, if◌then◌else◌}
use Rattle.fed_origin.specs.declared.origin.Origin.{Origin}
use Rattle.fed_origin.specs.declared.status.LoginStatus.{LoginStatus}
use Rattle.fed_origin.specs.declared.status.Triple.{Triple}
use Rattle.fed_origin.specs.WebUrl.{origin_of}
use Rattle.fed_suffix.specs.Rule.{RuleSet}
use Rattle.fed_jar.specs.Cookie.{StoredCookie}
use Rattle.fed_jar.specs.Send.{is_fresh}
use Rattle.fed_script.specs.declared.event.Event.{Event}
use Rattle.fed_script.specs.declared.event.Event.TheVariants as events
use Rattle.fed_script.specs.declared.event.Have.{Have}
use Rattle.fed_script.specs.declared.event.Have.TheVariants as haves
use Rattle.fed_trace.specs.Row.{cookie_from}
use Rattle.fed_profile.specs.Item.{cookie_again}

-- what the event says of the time before a script
abbrev pub have_in : Option Event → Option Have
have_in (Some (events.Have have)) = Some have
have_in _ = None

abbrev pub IsLogin : Origin → LoginStatus → Option Have → Type 0
IsLogin origin status (Some (haves.Login at said)) = (at ≡ origin) × (said ≡ status)
IsLogin origin status _ = ⊥

abbrev pub IsKept : Triple → Option Have → Type 0
IsKept triple (Some (haves.Kept said)) = said ≡ triple
IsKept triple _ = ⊥

abbrev pub IsFlag : Origin → Option Have → Type 0
IsFlag origin (Some (haves.Silent at)) = at ≡ origin
IsFlag origin _ = ⊥

abbrev pub IsCookie : RuleSet → ℕ → StoredCookie → Option Have → Type 0
IsCookie rules now cookie (Some (haves.Cookie url field)) = cookie_from rules url now field ≡ Some (cookie_again now cookie)
IsCookie rules now cookie _ = ⊥

abbrev pub IsPage : ℕ → Origin → Option Event → Type 0
IsPage page origin (Some (events.Load at url None)) = (at ≡ page) × (origin_of url ≡ origin)
IsPage page origin _ = ⊥

-- the expiry of a cookie that is brought back at the time
abbrev pub expiry_again : ℕ → Option ℕ → Option ℕ
expiry_again now expiry = if is_fresh now expiry then expiry else Some 0

-- the cookie is the other one, as it is brought back at the time
abbrev pub IsAgain : ℕ → StoredCookie → StoredCookie → Type 0
IsAgain now stored cookie =
    (stored.name ≡ cookie.name) × (stored.value ≡ cookie.value) × (stored.domain ≡ cookie.domain)
    × (stored.host_only ≡ cookie.host_only) × (stored.path ≡ cookie.path) × (stored.expiry ≡ expiry_again now cookie.expiry)
    × (stored.secure ≡ cookie.secure) × (stored.same_site ≡ cookie.same_site)
