-- Pairs of traces that grow together.
use Rattle.std.specs.Prelude.{◌≡◌, ℕ, false, List, Option}
use Rattle.url.specs.Parts.{Parts}
use Rattle.fed_origin.specs.declared.options.GetOptions.{GetOptions}
use Rattle.fed_origin.specs.declared.origin.Origin.{Origin}
use Rattle.fed_origin.specs.declared.stage.ReplyKind.TheVariants as kinds
use Rattle.fed_origin.specs.declared.status.LoginStatus.{LoginStatus}
use Rattle.fed_script.specs.declared.event.Event.{Event}
use Rattle.fed_script.specs.declared.event.Event.TheVariants as events
use Rattle.fed_script.specs.declared.event.Have.TheVariants as haves
use Rattle.fed_script.specs.declared.event.Header.{Header}
use Rattle.fed_script.specs.Used.{HasProviders}
use Rattle.fed_trace.specs.Row.{with_event}
use Rattle.fed_trace.specs.Trace.{Trace}
use Rattle.fed_trace.specs.OfScript.{start}
use Rattle.fed_twin.specs.Script.{is_kept}
use Rattle.fed_twin.specs.Providers.{Providers}
use Rattle.fed_twin.specs.Same.{SameOptions}
use Rattle.fed_twin.specs.Twin.{AreFar}

-- two events, one in each world, that providers cannot tell apart before a request names the page
pub data Alike (p : Providers) : Event → Event → Type 0 where
  -- what stands from before; flags of whatever origins
  Logins : (origin : Origin) → (status : LoginStatus)
      → Alike p (events.Have (haves.Login origin status)) (events.Have (haves.Login origin status))
  Cookies : (url : Parts) → (field : List ℕ) → Alike p (events.Have (haves.Cookie url field)) (events.Have (haves.Cookie url field))
  Silents : (origin origin' : Origin) → Alike p (events.Have (haves.Silent origin)) (events.Have (haves.Silent origin'))
  Times : (time : ℕ) → Alike p (events.At time) (events.At time)
  Loads : (page : ℕ) → (url : Parts) → (raw : Option (List ℕ)) → Alike p (events.Load page url raw) (events.Load page url raw)
  FarLoads : (page : ℕ) → (url url' : Parts) → (raw raw' : Option (List ℕ)) → AreFar p url url'
      → Alike p (events.Load page url raw) (events.Load page url' raw')
  Closes : (page : ℕ) → Alike p (events.ClosePage page) (events.ClosePage page)
  Prevents : (page : ℕ) → Alike p (events.Prevent page) (events.Prevent page)
  Statuses : (page : ℕ) → (status : LoginStatus) → Alike p (events.SetStatus page status) (events.SetStatus page status)
  Gets : (page call : ℕ) → (options options' : GetOptions) → SameOptions p options options'
      → HasProviders (events.Get page call options)
      → Alike p (events.Get page call options) (events.Get page call options')
  Disconnects : (page call : ℕ) → (config : Parts) → (client client' hint : List ℕ)
      → Alike p (events.Disconnect page call config client hint) (events.Disconnect page call config client' hint)
  Aborts : (call : ℕ) → Alike p (events.Abort call) (events.Abort call)
  Goings : (call : ℕ) → Alike p (events.GoOn call) (events.GoOn call)
  Cancels : (call : ℕ) → Alike p (events.Cancel call) (events.Cancel call)
  SignIns : (call : ℕ) → Alike p (events.SignIn call) (events.SignIn call)
  Shuts : (call : ℕ) → Alike p (events.ShutWindow call) (events.ShutWindow call)
  IdpCloses : (page : ℕ) → Alike p (events.IdpClose page) (events.IdpClose page)
  Choices : (call provider : ℕ) → (account : List ℕ)
      → Alike p (events.Choose call provider account) (events.Choose call provider account)
  WellKnowns : (call provider : ℕ) → (raw : List ℕ)
      → Alike p (events.Reply call provider kinds.WellKnown raw) (events.Reply call provider kinds.WellKnown raw)
  Configs : (call provider : ℕ) → (raw : List ℕ)
      → Alike p (events.Reply call provider kinds.Config raw) (events.Reply call provider kinds.Config raw)
  AccountLists : (call provider : ℕ) → (raw : List ℕ)
      → Alike p (events.Reply call provider kinds.Accounts raw) (events.Reply call provider kinds.Accounts raw)
  Assertions : (call provider : ℕ) → (raw raw' : List ℕ)
      → Alike p (events.Reply call provider kinds.Assertion raw) (events.Reply call provider kinds.Assertion raw')
  DisconnectReplies : (call provider : ℕ) → (raw raw' : List ℕ)
      → Alike p (events.Reply call provider kinds.Disconnect raw) (events.Reply call provider kinds.Disconnect raw')

-- Two traces by events that are so related, and by events of one world alone that are not compared.
pub data Pairs (p : Providers) (R : Event → Event → Type 0) : Trace → Trace → Type 0 where
  Start : (a b : Header) → a.rules ≡ p.rules → b.rules ≡ p.rules → a.now ≡ b.now → Pairs p R (start a) (start b)
  Both : (T U : Trace) → (line line' : ℕ) → (event event' : Event) → R event event' → Pairs p R T U
      → Pairs p R (with_event T line event) (with_event U line' event')
  Left : (T U : Trace) → (line : ℕ) → (event : Event) → is_kept event ≡ false → Pairs p R T U
      → Pairs p R (with_event T line event) U
  Right : (T U : Trace) → (line : ℕ) → (event : Event) → is_kept event ≡ false → Pairs p R T U
      → Pairs p R T (with_event U line event)
