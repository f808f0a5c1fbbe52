-- What the private clauses of a step speak of: what each part of a session is after an event.
use Rattle.std.specs.Prelude.{ℕ, ◌+◌, Bool, true, false, nat_eq, List, [], ◌∷◌, Option, Some, None, option_map}
use Rattle.std.specs.Prelude.{if◌then◌else◌, option_and_then, ⊤}
use Rattle.std.specs.List.{filter_map, AllByRecursion}
use Rattle.fed_origin.specs.declared.origin.Origin.{Origin}
use Rattle.fed_origin.specs.declared.stage.Stage.{Stage}
use Rattle.fed_origin.specs.declared.stage.Stage.TheVariants.{Ended}
use Rattle.fed_origin.specs.declared.status.LoginStatus.{LoginStatus}
use Rattle.fed_origin.specs.Origin.{is_trustworthy}
use Rattle.fed_jar.specs.Send.{jar_text}
use Rattle.fed_status.specs.Login.{Logins, with_status, set_login_of}
use Rattle.fed_status.specs.Shared.{World}
use Rattle.fed_consent.specs.declared.table.ask.Ask.{Ask}
use Rattle.fed_consent.specs.declared.table.ask.Ask.TheVariants as asks
use Rattle.fed_consent.specs.declared.table.effect.Effect.{Effect as CallEffect}
use Rattle.fed_consent.specs.declared.table.effect.Effect.TheVariants as does
use Rattle.fed_consent.specs.declared.table.input.Input.{Input}
use Rattle.fed_consent.specs.declared.table.why.Why.TheVariants.{NoPage, NoCall, CallEnded}
use Rattle.fed_consent.specs.Outcomes.{Outcome, ignored}
use Rattle.fed_status.specs.Flags.{with_flag, without_flag}
use Rattle.fed_status.specs.Kept.{with_triple, without_triple, without_pair}
use Rattle.fed_origin.specs.declared.status.Triple.{Triple}
use Rattle.fed_trace.specs.Begun.{GetCall, CallOptions, Begun}
use Rattle.fed_call.specs.State.{facts_of}
use Rattle.fed_call.specs.WindowRows.{awaited}
use Rattle.fed_disconnect.specs.State.{disconnect_facts_of}
use Rattle.fed_session.specs.declared.calls.Pending.{Pending}
use Rattle.fed_session.specs.declared.calls.Pending.TheVariants.{Get, Disconnect}
use Rattle.fed_trace.specs.Call.{Known, OfGet, OfDisconnect, page_of, stage_of, first_row, started, input_row, known_after}
use Rattle.fed_script.specs.declared.event.Have.{Have}
use Rattle.fed_script.specs.declared.event.Have.TheVariants as haves
use Rattle.fed_script.specs.Used.{IsKnown}
use Rattle.fed_trace.specs.declared.out.Out.{Out}
use Rattle.fed_session.specs.declared.sight.Sight.{Sight}
use Rattle.fed_trace.specs.Effect.{Sent, Dropped, Shown, Window, Result, Ignored}
use Rattle.fed_trace.specs.Records.{record_of, records_of}
use Rattle.fed_session.specs.Cookies.{CookieParts}
use Rattle.fed_session.specs.Session.{State}

-- the session as it was before a step began, and as it is after the step is counted
abbrev pub revived : State → State
revived s = record s { alive = true }

abbrev pub stepped : State → State
stepped s = record s { alive = true; steps = s.steps + 1 }

-- the rules and the jar of a session
abbrev pub cookies_kept : State → CookieParts
cookies_kept s = record { rules = s.rules; list = s.cookies; entered = s.entered }

-- what all calls look at in a session
abbrev pub sight_of : State → Sight
sight_of s = record { time = s.time; cookies = cookies_kept s; login = s.login; kept = s.kept; flags = s.flags }

-- the part of it that is lent to a call
abbrev pub world_in : Sight → World
world_in sight = record { rules = sight.cookies.rules; login = sight.login; kept = sight.kept; flags = sight.flags }

-- the Cookie field of a request by what is seen
abbrev pub cookies_of : Sight → Ask → List ℕ
cookies_of sight (asks.Accounts to) = jar_text sight.cookies.rules to sight.time sight.cookies.list
cookies_of sight (asks.Disconnect to client hint origin) = jar_text sight.cookies.rules to sight.time sight.cookies.list
cookies_of sight (asks.Assertion ask) = jar_text sight.cookies.rules ask.to sight.time sight.cookies.list
cookies_of sight _ = []

-- The session can do it: a status that is set was said.
abbrev pub CanApply : CallEffect → Type 0
CanApply (does.SetLogin origin status) = IsKnown status
CanApply _ = ⊤

-- the same of all that a call does
abbrev pub CanApplyAll : List CallEffect → Type 0
CanApplyAll effects = AllByRecursion CanApply effects

-- the login statuses after what a call does
abbrev pub login_by : CallEffect → Logins → Logins
login_by (does.SetLogin origin status) logins = with_status logins origin status
login_by _ logins = logins

abbrev pub login_after : List CallEffect → Logins → Logins
login_after [] logins = logins
login_after (effect ∷ effects) logins = login_after effects (login_by effect logins)

-- the kept permissions after what a call does
abbrev pub kept_by : CallEffect → List Triple → List Triple
kept_by (does.Keep triple) kept = with_triple kept triple
kept_by (does.Forget triple) kept = without_triple kept triple
kept_by (does.ForgetPair origin provider) kept = without_pair kept origin provider
kept_by _ kept = kept

abbrev pub kept_after : List CallEffect → List Triple → List Triple
kept_after [] kept = kept
kept_after (effect ∷ effects) kept = kept_after effects (kept_by effect kept)

-- the flags after what a call does
abbrev pub flags_by : CallEffect → List Origin → List Origin
flags_by (does.ClearFlag origin) flags = without_flag flags origin
flags_by _ flags = flags

abbrev pub flags_after : List CallEffect → List Origin → List Origin
flags_after [] flags = flags
flags_after (effect ∷ effects) flags = flags_after effects (flags_by effect flags)

-- what all calls look at, after what a call does
abbrev pub sight_by : CallEffect → Sight → Sight
sight_by effect sight =
    record sight { login = login_by effect sight.login; kept = kept_by effect sight.kept; flags = flags_by effect sight.flags }

abbrev pub sight_after : List CallEffect → Sight → Sight
sight_after effects sight =
    record sight { login = login_after effects sight.login; kept = kept_after effects sight.kept; flags = flags_after effects sight.flags }

-- the record of what a call of the page does, if it is written; the kind of the call is in none
abbrev pub call_record : ℕ → (Ask → List ℕ) → ℕ → ℕ → CallEffect → Option Out
call_record line cookies call page (does.Send provider ask) = record_of line (Sent GetCall call provider ask (cookies ask))
call_record line cookies call page (does.Dialog dialog) = record_of line (Shown call dialog)
call_record line cookies call page (does.Dropped provider failure) = record_of line (Dropped call provider failure)
call_record line cookies call page (does.Window provider url) = record_of line (Window call provider url)
call_record line cookies call page (does.Finish finish) = record_of line (Result call page finish)
call_record line cookies call page (does.Ignored why) = record_of line (Ignored why)
call_record line cookies call page _ = None

-- the records of all that it does, in their order
abbrev pub call_records : ℕ → (Ask → List ℕ) → ℕ → ℕ → List CallEffect → List Out
call_records line cookies call page effects = filter_map (call_record line cookies call page) effects

-- what is kept of a call that is taken, by whether its page has a pending get
abbrev pub begun_as : World → Bool → Begun → Option Known
begun_as world busy b = started world b (first_row world busy b.origin b.options)

-- what is kept of a call of a page that stands, by whether it is trustworthy; none where it is not taken
abbrev pub standing_kept : World → Bool → Bool → Begun → Option (Option Known)
standing_kept world false busy b = None
standing_kept world true busy b = Some (begun_as world busy b)

abbrev pub begin_kept : World → Option Origin → Bool → ℕ → ℕ → CallOptions → Option (Option Known)
begin_kept world None busy page call options = None
begin_kept world (Some origin) busy page call options =
    standing_kept world (is_trustworthy origin) busy (record { call = call; page = page; origin = origin; options = options })

-- the page's pending get, unless it is this call
abbrev pub get_but : ℕ → Option ℕ → Option ℕ
get_but call None = None
get_but call (Some get) = if nat_eq call get then None else Some get

-- what is known of a call in this state
abbrev pub known_of : Pending → Option Known
known_of (Get state) = option_map OfGet (facts_of state)
known_of (Disconnect state) = option_map OfDisconnect (disconnect_facts_of state)

-- the origin of the provider whose login window is open
abbrev pub awaits : Known → Option Origin
awaits (OfGet facts) = awaited facts.options facts.stage
awaits (OfDisconnect facts) = None

-- the same of a call that may be over
abbrev pub awaited_in : Option Known → Option Origin
awaited_in known = option_and_then awaits known

-- the stage of a call that may be over
abbrev pub stage_in : Option Known → Stage
stage_in None = Ended
stage_in (Some known) = stage_of known

-- the records of a page that closes, by its origin, if it stands
abbrev pub close_records : ℕ → Option Origin → List Out
close_records line None = records_of line (Ignored NoPage ∷ [])
close_records line (Some origin) = []

-- the flags after a page of this origin set its own, by whether it is trustworthy
abbrev pub standing_flags : Bool → Origin → List Origin → List Origin
standing_flags true origin flags = with_flag flags origin
standing_flags false origin flags = flags

-- the same of a page, if it stands
abbrev pub flags_set : Option Origin → List Origin → List Origin
flags_set None flags = flags
flags_set (Some origin) flags = standing_flags (is_trustworthy origin) origin flags

-- what is kept of a call after an input
abbrev pub kept_next : World → Option Known → Input → Option Known
kept_next world None input = None
kept_next world (Some known) input = known_after world known input (input_row world known input)

-- what an input does, by whether its call was taken and by what is known of it where it is pending
abbrev pub outcome_at : World → Bool → Option Known → Input → Outcome
outcome_at world false known input = ignored NoCall
outcome_at world true None input = ignored CallEnded
outcome_at world true (Some known) input = input_row world known input

-- statuses that Set-Login values say
abbrev pub logins_in : List (List ℕ) → List LoginStatus
logins_in fields = filter_map set_login_of fields

-- the statuses after those of an origin were set, one after the other
abbrev pub with_statuses : Origin → List LoginStatus → Logins → Logins
with_statuses origin [] logins = logins
with_statuses origin (status ∷ statuses) logins = with_statuses origin statuses (with_status logins origin status)

-- the statuses after a line of the kind `have`
abbrev pub have_statuses : Have → Logins → Logins
have_statuses (haves.Login origin status) logins = with_status logins origin status
have_statuses _ logins = logins

-- the permissions after it
abbrev pub have_kept : Have → List Triple → List Triple
have_kept (haves.Kept triple) kept = with_triple kept triple
have_kept _ kept = kept

-- the flags after it
abbrev pub have_flags : Have → List Origin → List Origin
have_flags (haves.Silent origin) flags = with_flag flags origin
have_flags _ flags = flags

-- a call with its page and its stage, where it is pending, by what is known of it
abbrev pub shown_call : ℕ → Option Known → Option (ℕ × ℕ × Stage)
shown_call call known = option_map (λ k. (call, page_of k, stage_of k)) known

-- those of the calls that are pending, by what is known of each
abbrev pub shown_calls : (ℕ → Option Known) → List ℕ → List (ℕ × ℕ × Stage)
shown_calls known calls = filter_map (λ call. shown_call call (known call)) calls
