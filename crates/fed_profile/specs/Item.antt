-- What stands in a session, item by item, and the event that brings an item back.
use Rattle.std.specs.Prelude.{ℕ, List, ◌++◌, map, Option, Some, None, Result, Ok, Err, option_map, if◌then◌else◌}
use Rattle.fed_origin.specs.declared.origin.Origin.{Origin}
use Rattle.fed_origin.specs.declared.status.LoginStatus.{LoginStatus}
use Rattle.fed_origin.specs.declared.status.Triple.{Triple}
use Rattle.fed_origin.specs.WebUrl.{origin_of}
use Rattle.fed_suffix.specs.Rule.{RuleSet}
use Rattle.fed_jar.specs.Cookie.{StoredCookie}
use Rattle.fed_jar.specs.Send.{is_fresh}
use Rattle.fed_status.specs.Login.{Logins}
use Rattle.fed_script.specs.declared.cause.LineCause.{LineCause}
use Rattle.fed_script.specs.declared.event.Event.{Event}
use Rattle.fed_script.specs.declared.event.Event.TheVariants as events
use Rattle.fed_script.specs.declared.event.Have.{Have}
use Rattle.fed_script.specs.declared.event.Have.TheVariants as haves
use Rattle.fed_script.specs.Line.{event_named}
use Rattle.fed_trace.specs.Row.{cookie_from}

-- one of the things that stand
pub data Item : Type 0 where
  -- the login status of a provider
  LoginItem : (origin : Origin) → (status : LoginStatus) → Item
  -- a permission that is kept
  KeptItem : (triple : Triple) → Item
  -- an origin whose flag prevents silent access
  FlagItem : (origin : Origin) → Item
  CookieItem : (cookie : StoredCookie) → Item
  -- a page that stands
  PageItem : (page : ℕ) → (origin : Origin) → Item

-- all that stands, kind by kind, each kind in its order
abbrev pub all_items : Logins → List Triple → List Origin → List StoredCookie → List (ℕ × Origin) → List Item
all_items logins kept flags cookies pages =
    map (λ login. LoginItem login.0 login.1) logins ++ (map KeptItem kept ++ (map FlagItem flags ++ (map CookieItem cookies
    ++ map (λ page. PageItem page.0 page.1) pages)))

-- of a cookie that is expired at the time nobody can tell when it expired
abbrev pub cookie_again : ℕ → StoredCookie → StoredCookie
cookie_again now cookie = if is_fresh now cookie.expiry then cookie else record cookie { expiry = Some 0 }

-- an item as it is brought back at the time
abbrev pub item_again : ℕ → Item → Item
item_again now (CookieItem cookie) = CookieItem (cookie_again now cookie)
item_again now (LoginItem origin status) = LoginItem origin status
item_again now (KeptItem triple) = KeptItem triple
item_again now (FlagItem origin) = FlagItem origin
item_again now (PageItem page origin) = PageItem page origin

-- the item that a line of the kind `have` brings at the time, if it brings one
abbrev pub item_had : RuleSet → ℕ → Have → Option Item
item_had rules now (haves.Login origin status) = Some (LoginItem origin status)
item_had rules now (haves.Kept triple) = Some (KeptItem triple)
item_had rules now (haves.Silent origin) = Some (FlagItem origin)
item_had rules now (haves.Cookie url field) = option_map CookieItem (cookie_from rules url now field)

-- the item that an event brings at the time, if it brings one and does nothing else
abbrev pub item_of : RuleSet → ℕ → Event → Option Item
item_of rules now (events.Have have) = item_had rules now have
item_of rules now (events.Load page url None) = Some (PageItem page (origin_of url))
item_of rules now _ = None

abbrev pub item_read : RuleSet → ℕ → Result Event LineCause → Option Item
item_read rules now (Ok event) = item_of rules now event
item_read rules now (Err cause) = None

-- the item that a line brings at the time, if it can be read and brings one
abbrev pub item_in : RuleSet → ℕ → List ℕ → Option Item
item_in rules now line = item_read rules now (event_named line)
