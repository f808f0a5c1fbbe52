-- A script that brings back what stands in a session, and what further events do after it.
use Rattle.std.specs.Prelude.{◌≡◌, ℕ, ◌≤◌, Bool, true, false, List, [], ◌∷◌, map, Some, ⊤}
use Rattle.std.specs.List.{AllZip}
use Rattle.fed_script.specs.declared.event.Event.{Event}
use Rattle.fed_script.specs.declared.event.Event.TheVariants as events
use Rattle.fed_script.specs.declared.event.Header.{Header}
use Rattle.fed_script.specs.declared.event.Numbered.{Numbered}
use Rattle.fed_jar.specs.Changes.{Stored}
use Rattle.fed_trace.specs.Effect.{Effect, Page, Cookie, Login, Kept, Flag}
use Rattle.fed_trace.specs.Row.{effects_of, with_event}
use Rattle.fed_trace.specs.Trace.{Row, Trace, logins, kept, flags, cookies, pages, now_at, all_said}
use Rattle.fed_profile.specs.Item.{Item, LoginItem, KeptItem, FlagItem, CookieItem, PageItem, all_items, item_again, item_of}

-- all that stands after what happened
abbrev pub items_at : Trace → List Item
items_at T = all_items (logins T) (kept T) (flags T) (cookies T) (pages T)

-- the effect of an item
abbrev pub effect_of : Item → Effect
effect_of (LoginItem origin status) = Login origin status
effect_of (KeptItem triple) = Kept triple true
effect_of (FlagItem origin) = Flag origin true
effect_of (CookieItem cookie) = Cookie (Stored cookie)
effect_of (PageItem page origin) = Page page origin

-- what the rows do, in order
abbrev pub all_done : List Row → List Effect
all_done rows = all_said (λ effect. Some effect) rows

-- the second trace brings back what stands in the first, and does nothing else
pub record BringsBack (T U : Trace) : Type 0 where
  pub rules : U.header.rules ≡ T.header.rules
  pub now : U.header.now ≡ now_at T
  pub does : all_done U.rows ≡ map (λ item. effect_of (item_again (now_at T) item)) (items_at T)

abbrev pub events_of : List Numbered → List Event
events_of events = map (λ n. n.event) events

-- the header and the events that these lines are read as restore what stands
pub record AreRestored (T : Trace) (header : Header) (events : List Event) : Type 0 where
  pub rules : header.rules ≡ T.header.rules
  pub now : header.now ≡ now_at T
  pub items : AllZip (λ item event. item_of T.header.rules (now_at T) event ≡ Some (item_again (now_at T) item)) (items_at T) events

-- the event begins and names none of these calls
abbrev pub NamesNone : (ℕ → Bool) → Event → Type 0
NamesNone old (events.Get page call options) = old call ≡ false
NamesNone old (events.Disconnect page call config client hint) = old call ≡ false
NamesNone old (events.Abort call) = old call ≡ false
NamesNone old (events.GoOn call) = old call ≡ false
NamesNone old (events.Cancel call) = old call ≡ false
NamesNone old (events.SignIn call) = old call ≡ false
NamesNone old (events.ShutWindow call) = old call ≡ false
NamesNone old (events.Reply call provider kind raw) = old call ≡ false
NamesNone old (events.Choose call provider account) = old call ≡ false
NamesNone old _ = ⊤

-- the time does not go back
abbrev pub IsOnward : ℕ → Event → Type 0
IsOnward now (events.At time) = now ≤ time
IsOnward now _ = ⊤

-- further events name no call of these, and the time does not go back
abbrev pub GoOn : (ℕ → Bool) → Trace → List Numbered → Type 0
GoOn old T [] = ⊤
GoOn old T (n ∷ ns) = NamesNone old n.event × IsOnward (now_at T) n.event × GoOn old (with_event T n.line n.event) ns

-- what further events do, one after the other
abbrev pub does_after : Trace → List Numbered → List (List Effect)
does_after T [] = []
does_after T (n ∷ ns) = effects_of T n.event ∷ does_after (with_event T n.line n.event) ns
