-- What happened in a session, and the look-backs: the last thing of a kind.
use Rattle.std.specs.Prelude.{ℕ, Bool, nat_eq, ◌==◌, List, [], ◌∷◌, ◌++◌, filter, map, Option, None, unwrap_or}
use Rattle.std.specs.Option.{option_or}
use Rattle.std.specs.List.{filter_map}
use Rattle.std.specs.Map.{keys_of}
use Rattle.fed_origin.specs.declared.origin.Origin.{Origin}
use Rattle.fed_origin.specs.declared.stage.Stage.{Stage}
use Rattle.fed_origin.specs.declared.status.Triple.{Triple}
use Rattle.fed_origin.specs.Origin.{same_origin}
use Rattle.fed_origin.specs.Status.{same_triple}
use Rattle.fed_status.specs.Login.{Logins}
use Rattle.fed_script.specs.declared.event.Event.{Event}
use Rattle.fed_script.specs.declared.event.Header.{Header}
use Rattle.fed_trace.specs.Keyed.{Change, entries_after, last_said}
use Rattle.fed_jar.specs.Cookie.{StoredCookie}
use Rattle.fed_jar.specs.Changes.{CookieChange}
use Rattle.fed_jar.specs.Changes as jar
use Rattle.fed_trace.specs.Begun.{CallKind}
use Rattle.fed_trace.specs.Effect.{Effect, PendingCall, last_of, page_change, login_change, kept_change, flag_change, call_change}
use Rattle.fed_trace.specs.Effect.{get_change, stage_change, time_of, cookie_change, begun_by}

pub record Row : Type 0 where
  pub line : ℕ
  pub event : Event
  -- in their order
  pub effects : List Effect

-- the rows of a session with this header, the newest first
pub record Trace : Type 0 where
  pub header : Header
  pub rows : List Row

-- the entries that stand, in order of entering
abbrev pub standing : {K V : Type 0} → (K → K → Bool) → (Effect → Option (Change K V)) → List Row → List (K × V)
standing same change [] = []
standing same change (row ∷ rows) = entries_after same change row.effects (standing same change rows)

-- the last value under the key
abbrev pub last_value : {K V : Type 0} → (K → K → Bool) → (Effect → Option (Change K V)) → K → List Row → Option V
last_value same change k [] = None
last_value same change k (row ∷ rows) = unwrap_or (last_said same change k row.effects) (last_value same change k rows)

-- all that the rows say, in their order
abbrev pub all_said : {A : Type 0} → (Effect → Option A) → List Row → List A
all_said said [] = []
all_said said (row ∷ rows) = all_said said rows ++ filter_map said row.effects

-- the last that the rows say
abbrev pub last_in : {A : Type 0} → (Effect → Option A) → List Row → Option A
last_in said [] = None
last_in said (row ∷ rows) = option_or (last_of said row.effects) (last_in said rows)

-- the origin of a page, where it stands
abbrev pub page_at : Trace → ℕ → Option Origin
page_at T page = last_value nat_eq page_change page T.rows

-- the pages that stand
abbrev pub pages : Trace → List (ℕ × Origin)
pages T = standing nat_eq page_change T.rows

-- the login statuses that were set, in order of first setting
abbrev pub logins : Trace → Logins
logins T = standing same_origin login_change T.rows

-- the permissions that are kept, in order of entering
abbrev pub kept : Trace → List Triple
kept T = keys_of (standing same_triple kept_change T.rows)

-- the origins whose flag prevents silent access, in order of entering
abbrev pub flags : Trace → List Origin
flags T = keys_of (standing same_origin flag_change T.rows)

-- the pending calls, in order of beginning
abbrev pub pending : Trace → List (ℕ × PendingCall)
pending T = standing nat_eq call_change T.rows

-- the pending gets and their pages, in order of beginning
abbrev pub gets : Trace → List (ℕ × ℕ)
gets T = standing nat_eq get_change T.rows

-- a pending call by its number and its kind
abbrev pub by_kind : ℕ × PendingCall → ℕ × CallKind
by_kind call = (call.0, call.1.kind)

-- the calls of a page among pending calls, with their kinds, in their order
abbrev pub calls_of : ℕ → List (ℕ × PendingCall) → List (ℕ × CallKind)
calls_of page calls = map by_kind (filter (λ call. call.1.page == page) calls)

-- the pending calls of a page with their kinds, in order of beginning
abbrev pub pending_of : Trace → ℕ → List (ℕ × CallKind)
pending_of T page = calls_of page (pending T)

-- the stage of a call, where it began
abbrev pub stage_at : Trace → ℕ → Option Stage
stage_at T call = last_value nat_eq stage_change call T.rows

-- a call with its page and its stage
abbrev pub staged_by : (ℕ → Option Stage) → ℕ × PendingCall → ℕ × ℕ × Option Stage
staged_by stage call = (call.0, call.1.page, stage call.0)

-- the pending calls with their pages and stages, in order of beginning
abbrev pub staged : Trace → List (ℕ × ℕ × Option Stage)
staged T = map (staged_by (stage_at T)) (pending T)

-- the numbers of the calls that were taken, in order of beginning
abbrev pub begun : List Row → List ℕ
begun rows = all_said begun_by rows

-- the time: the last that was said, or else the header's
abbrev pub now_at : Trace → ℕ
now_at T = unwrap_or (last_in time_of T.rows) T.header.now

-- all that happened to cookies, in its order
abbrev pub cookie_changes : Trace → List CookieChange
cookie_changes T = all_said cookie_change T.rows

-- the cookies that stand, in the order of the first storing since their key last went
abbrev pub cookies : Trace → List StoredCookie
cookies T = jar.standing (cookie_changes T)
