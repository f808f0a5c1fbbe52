-- What contracts see of a session, and which traces it stands for.
use Rattle.std.specs.Prelude.{◌≡◌, ℕ, Bool, true, false, nat_eq, List, [], length, map, filter, Option, Some, option_map}
use Rattle.std.specs.Prelude.{option_and_then, ⊤}
use Rattle.std.specs.Option.{option_to_list}
use Rattle.std.specs.List.{filter_map, list_any}
use Rattle.std.specs.Map.{lookup, keys_of}
use Rattle.fed_origin.specs.declared.origin.Origin.{Origin}
use Rattle.fed_origin.specs.declared.stage.Stage.{Stage}
use Rattle.fed_origin.specs.declared.status.Triple.{Triple}
use Rattle.fed_suffix.specs.Rule.{RuleSet}
use Rattle.fed_jar.specs.Cookie.{StoredCookie}
use Rattle.fed_status.specs.Login.{Logins}
use Rattle.fed_script.specs.declared.event.Event.{Event}
use Rattle.fed_script.specs.declared.event.Event.TheVariants.{Get, Disconnect}
use Rattle.fed_session.specs.declared.view.View.{View}
use Rattle.fed_table.specs.Table.{TableParts, page_calls, present_item}
use Rattle.fed_trace.specs.Begun.{CallKind, is_get}
use Rattle.fed_trace.specs.Call.{Known, kind_of, page_of}
use Rattle.fed_trace.specs.Effect.{PendingCall}
use Rattle.fed_trace.specs.Known.{known_at}
use Rattle.fed_trace.specs.Row.{IsRun}
use Rattle.fed_trace.specs.Trace.{Trace, pages, pending, pending_of, staged, begun, now_at, cookies, logins, kept, flags}
use Rattle.fed_trace.specs.Windows.{pages_loaded, origins_waited, windows_of}

-- the pages that stand, and the calls that were taken
pub record TabsParts : Type 0 where
  -- the pages that stand with their origins, in order of entering
  pub pages : List (ℕ × Origin)
  -- the pending get of each page that has one; their order says nothing
  pub gets : List (ℕ × ℕ)
  -- the numbers of all calls that were taken, in order of beginning
  pub taken : List ℕ
  -- the pages that were ever loaded, in order of first loading, each with its pending calls, and what is known of each pending call
  pub table : TableParts (Option Known)

-- before a page is loaded
abbrev pub no_table : TableParts (Option Known)
no_table = record { pages = []; waits = []; items = []; links = record { pages = []; waits = []; free = []; spare = 0 }; nodes = [] }

pub record State : Type 0 where
  -- no step found no memory
  pub alive : Bool
  -- how many steps were taken
  pub steps : ℕ
  -- seconds since 1970
  pub time : ℕ
  -- the public suffix rules
  pub rules : RuleSet
  -- the cookies that stand, in the order of the first storing since their key last went
  pub cookies : List StoredCookie
  -- how many new keys of cookies ever entered
  pub entered : ℕ
  -- the login statuses that were set, in order of first setting
  pub login : Logins
  -- the kept permissions, and the origins whose prevent-silent flag is set
  pub kept : List Triple
  pub flags : List Origin
  -- the pages that stand, and the calls that were taken
  pub tabs : TabsParts

-- the provider origins that calls ever waited for, in the order of first waiting, each with the calls whose login window is open
abbrev pub windows : Trace → List (Origin × List ℕ)
windows T = map (λ origin. (origin, windows_of T origin)) (origins_waited T)

-- the numbers of calls with their kinds, and of the gets among them
abbrev pub numbers_in : List (ℕ × CallKind) → List ℕ
numbers_in calls = map (λ c. c.0) calls

abbrev pub is_get_in : ℕ × CallKind → Bool
is_get_in call = is_get call.1

abbrev pub gets_in : List (ℕ × CallKind) → List ℕ
gets_in calls = numbers_in (filter is_get_in calls)

-- what is known of a call, where it is pending
abbrev pub item_known : List (ℕ × Option (Option Known)) → ℕ → Option Known
item_known items call = option_and_then (λ known. known) (present_item items call)

-- of a pending call its page and its kind
abbrev pub pending_as : Known → PendingCall
pending_as known = record { page = page_of known; kind = kind_of known }

-- a call, where it is pending, by what is known of it
abbrev pub pending_call : ℕ → Option Known → Option (ℕ × PendingCall)
pending_call call known = option_map (λ k. (call, pending_as k)) known

-- those of the calls that are pending, by what is known of each
abbrev pub pending_calls : (ℕ → Option Known) → List ℕ → List (ℕ × PendingCall)
pending_calls known calls = filter_map (λ call. pending_call call (known call)) calls

-- the session stands for what happened
pub record Stands (s : State) (T : Trace) : Type 0 where
  pub alive : s.alive ≡ true
  pub run : IsRun T.header T.rows
  pub steps : s.steps ≡ length T.rows
  pub time : s.time ≡ now_at T
  pub rules : s.rules ≡ T.header.rules
  pub cookies : s.cookies ≡ cookies T
  pub login : s.login ≡ logins T
  pub kept : s.kept ≡ kept T
  pub flags : s.flags ≡ flags T
  pub pages : s.tabs.pages ≡ pages T
  pub loaded : keys_of s.tabs.table.pages ≡ pages_loaded T
  -- each page has its pending calls, and at most one of them is a get
  pub held : (page : ℕ) → page_calls s.tabs.table.pages page ≡ numbers_in (pending_of T page)
  pub gets : (page : ℕ) → option_to_list (lookup (nat_eq page) s.tabs.gets) ≡ gets_in (pending_of T page)
  -- the calls that wait for each provider origin, in the order of the last moves there
  pub waits : s.tabs.table.waits ≡ windows T
  pub taken : s.tabs.taken ≡ begun T.rows
  pub pending : pending_calls (item_known s.tabs.table.items) s.tabs.taken ≡ pending T
  pub known : (call : ℕ) → item_known s.tabs.table.items call ≡ known_at T call

-- no earlier event of the session took the call
abbrev pub IsFresh : State → Event → Type 0
IsFresh s (Get page call options) = list_any (nat_eq call) s.tabs.taken ≡ false
IsFresh s (Disconnect page call config client hint) = list_any (nat_eq call) s.tabs.taken ≡ false
IsFresh s _ = ⊤

-- a call with its page and its stage, which it has
abbrev pub with_stage : ℕ × ℕ × Stage → ℕ × ℕ × Option Stage
with_stage c = (c.0, c.1, Some c.2)

-- a view shows what stands after what happened
pub record Shows (view : View) (T : Trace) : Type 0 where
  pub now : view.now ≡ now_at T
  pub login : view.login ≡ logins T
  pub kept : view.kept ≡ kept T
  pub silent : view.silent ≡ flags T
  pub cookies : view.cookies ≡ cookies T
  pub pages : view.pages ≡ pages T
  pub calls : map with_stage view.calls ≡ staged T
