-- What an event does.
use Rattle.std.specs.Prelude.{ℕ, Bool, true, false, nat_eq, List, [], ◌∷◌, Option, Some, None, if◌then◌else◌, ⊤}
use Rattle.std.specs.Option.{option_or}
use Rattle.url.specs.Parts.{Parts}
use Rattle.fed_origin.specs.declared.origin.Origin.{Origin}
use Rattle.fed_origin.specs.declared.stage.Stage.{Stage}
use Rattle.fed_origin.specs.declared.stage.Stage.TheVariants.{Ended}
use Rattle.fed_origin.specs.declared.stage.Stage.TheVariants as stages
use Rattle.fed_origin.specs.declared.status.LoginStatus.{LoginStatus}
use Rattle.fed_origin.specs.declared.status.Triple.{Triple}
use Rattle.fed_jar.specs.Changes.{CookieChange}
use Rattle.fed_consent.specs.declared.table.ask.Ask.{Ask}
use Rattle.fed_consent.specs.declared.table.dialog.Dialog.{Dialog}
use Rattle.fed_consent.specs.declared.table.failure.Failure.{Failure}
use Rattle.fed_consent.specs.declared.table.finish.Finish.{Finish}
use Rattle.fed_consent.specs.declared.table.why.Why.{Why}
use Rattle.fed_trace.specs.Begun.{Begun, CallKind, kind_asked, of_get}
use Rattle.fed_trace.specs.Keyed.{Change}

pub data Effect : Type 0 where
  -- the time is this, in seconds since 1970
  Time : (time : ℕ) → Effect
  -- the page stands with this origin
  Page : (page : ℕ) → (origin : Origin) → Effect
  -- the page no longer stands
  Closed : (page : ℕ) → Effect
  -- a cookie stands from now on, or one is gone
  Cookie : (change : CookieChange) → Effect
  -- the provider's origin has this status
  Login : (origin : Origin) → (status : LoginStatus) → Effect
  -- the call was taken
  Begin : (begun : Begun) → Effect
  -- the call, of this kind, moved
  Move : (kind : CallKind) → (call : ℕ) → (stage : Stage) → Effect
  -- a request of the call, of this kind, to a provider, with the text of its cookies
  Sent : (kind : CallKind) → (call : ℕ) → (provider : ℕ) → (ask : Ask) → (cookies : List ℕ) → Effect
  -- the provider at this place of the call drops out
  Dropped : (call : ℕ) → (provider : ℕ) → (failure : Failure) → Effect
  -- a dialog of the call is shown
  Shown : (call : ℕ) → (dialog : Dialog) → Effect
  -- the login window of a provider of the call opens at this URL
  Window : (call : ℕ) → (provider : ℕ) → (url : Parts) → Effect
  -- the permission is kept from now on, or goes
  Kept : (triple : Triple) → (stays : Bool) → Effect
  -- the flag of the origin that prevents silent access is set from now on, or cleared
  Flag : (origin : Origin) → (stays : Bool) → Effect
  -- what the call of the page gets
  Result : (call : ℕ) → (page : ℕ) → (finish : Finish) → Effect
  -- the event was not taken
  Ignored : (why : Why) → Effect

-- what an effect says of pages
abbrev pub page_change : Effect → Option (Change ℕ Origin)
page_change (Page page origin) = Some (page, Some origin)
page_change (Closed page) = Some (page, None)
page_change _ = None

-- what an effect says of the pages that were ever loaded
abbrev pub loaded_change : Effect → Option (Change ℕ ⊤)
loaded_change (Page page origin) = Some (page, Some tt)
loaded_change _ = None

-- what an effect says of login statuses
abbrev pub login_change : Effect → Option (Change Origin LoginStatus)
login_change (Login origin status) = Some (origin, Some status)
login_change _ = None

-- the key stands from now on, or goes
abbrev pub key_change : {K : Type 0} → K → Bool → Change K ⊤
key_change key true = (key, Some tt)
key_change key false = (key, None)

-- what an effect says of kept permissions
abbrev pub kept_change : Effect → Option (Change Triple ⊤)
kept_change (Kept triple stays) = Some (key_change triple stays)
kept_change _ = None

-- what an effect says of the flags that prevent silent access
abbrev pub flag_change : Effect → Option (Change Origin ⊤)
flag_change (Flag origin stays) = Some (key_change origin stays)
flag_change _ = None

-- of a pending call: its page, and of which kind it is
pub record PendingCall : Type 0 where
  pub page : ℕ
  pub kind : CallKind

-- a call is pending until it has ended
abbrev pub unless_ended : {V : Type 0} → ℕ → Stage → Option (Change ℕ V)
unless_ended call Ended = Some (call, None)
unless_ended call _ = None

-- what is said of a call that begins
abbrev pub pending_from : Begun → PendingCall
pending_from begun = record { page = begun.page; kind = kind_asked begun.options }

-- what an effect says of pending calls
abbrev pub call_change : Effect → Option (Change ℕ PendingCall)
call_change (Begin begun) = Some (begun.call, Some (pending_from begun))
call_change (Move kind call stage) = unless_ended call stage
call_change _ = None

-- what an effect says of pending gets, with the pages that they are of
abbrev pub get_change : Effect → Option (Change ℕ ℕ)
get_change (Begin begun) = of_get (kind_asked begun.options) (Some (begun.call, Some begun.page))
get_change (Move kind call stage) = of_get kind (unless_ended call stage)
get_change _ = None

-- the get that an effect begins
abbrev pub get_begun : Effect → Option ℕ
get_begun (Begin begun) = of_get (kind_asked begun.options) (Some begun.call)
get_begun _ = None

-- what an effect says of the stages of calls
abbrev pub stage_change : Effect → Option (Change ℕ Stage)
stage_change (Move kind call stage) = Some (call, Some stage)
stage_change _ = None

-- a call at this stage has its login window open
abbrev pub is_window : Stage → Bool
is_window stages.Window = true
is_window _ = false

-- what an effect says of the calls whose login window is open
abbrev pub window_change : Effect → Option (Change ℕ ⊤)
window_change (Move kind call stage) = Some (key_change call (is_window stage))
window_change _ = None

-- the time that an effect brings
abbrev pub time_of : Effect → Option ℕ
time_of (Time time) = Some time
time_of _ = None

-- what an effect says of cookies
abbrev pub cookie_change : Effect → Option CookieChange
cookie_change (Cookie change) = Some change
cookie_change _ = None

-- the call that an effect begins
abbrev pub begun_by : Effect → Option ℕ
begun_by (Begin begun) = Some begun.call
begun_by _ = None

-- how the call began, if an effect begins it
abbrev pub begins : ℕ → Effect → Option Begun
begins call (Begin begun) = if nat_eq call begun.call then Some begun else None
begins call _ = None

-- the event was not taken
abbrev pub is_ignored : Effect → Bool
is_ignored (Ignored why) = true
is_ignored _ = false

-- the last that effects say
abbrev pub last_of : {A : Type 0} → (Effect → Option A) → List Effect → Option A
last_of said [] = None
last_of said (e ∷ es) = option_or (last_of said es) (said e)
