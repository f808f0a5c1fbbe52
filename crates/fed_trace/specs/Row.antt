-- What each event does, by what is looked up: the tables, row by row.
use Rattle.std.specs.Prelude.{◌≡◌, ◌≤◌, ℕ, Bool, true, false, nat_eq, ◌==◌, List, [], ◌∷◌, ◌++◌, length, map, codes}
use Rattle.std.specs.Prelude.{Option, Some, None}
use Rattle.std.specs.Prelude.{option_and_then, Result as Answer, Ok, Err, ⊤}
use Rattle.std.specs.List.{list_any, filter_map, flat_map}
use Rattle.url.specs.Parts.{Parts}
use Rattle.fed_origin.specs.declared.origin.Origin.{Origin}
use Rattle.fed_origin.specs.declared.stage.Stage.{Stage}
use Rattle.fed_origin.specs.declared.stage.Stage.TheVariants.{Ended}
use Rattle.fed_origin.specs.declared.status.LoginStatus.{LoginStatus}
use Rattle.fed_origin.specs.Origin.{is_trustworthy}
use Rattle.fed_origin.specs.WebUrl.{origin_of}
use Rattle.fed_suffix.specs.Rule.{RuleSet}
use Rattle.fed_cookie.specs.Fields.{set_cookie_of}
use Rattle.fed_jar.specs.Cookie.{StoredCookie}
use Rattle.fed_jar.specs.Store.{cookie_of}
use Rattle.fed_jar.specs.Changes.{CookieChange}
use Rattle.fed_jar.specs.Limit.{changes_from}
use Rattle.fed_jar.specs.Send.{jar_text}
use Rattle.fed_reply.specs.declared.step.ReplyStep.{ReplyStep}
use Rattle.fed_reply.specs.Fields.{values}
use Rattle.fed_reply.specs.Parts.{ReplyParts}
use Rattle.fed_reply.specs.Reply.{HeadOf}
use Rattle.fed_status.specs.Kept.{triples_of_pair}
use Rattle.fed_status.specs.Login.{set_login_of}
use Rattle.fed_status.specs.Shared.{World}
use Rattle.fed_consent.specs.declared.table.ask.Ask.{Ask}
use Rattle.fed_consent.specs.declared.table.ask.Ask.TheVariants as asks
use Rattle.fed_consent.specs.declared.table.effect.Effect.{Effect as CallEffect}
use Rattle.fed_consent.specs.declared.table.effect.Effect.TheVariants as does
use Rattle.fed_consent.specs.declared.table.input.Input.{Input}
use Rattle.fed_consent.specs.declared.table.input.Input.TheVariants.{Resume}
use Rattle.fed_consent.specs.declared.table.why.Why.TheVariants.{NoPage, PageInsecure, NoCall, CallEnded, NobodyWaits}
use Rattle.fed_consent.specs.Outcomes.{Outcome}
use Rattle.fed_disconnect.specs.Facts.{disconnect_options}
use Rattle.fed_trace.specs.Begun.{Begun, CallKind, CallOptions, ToGet, ToDisconnect, kind_asked}
use Rattle.fed_trace.specs.Call.{Known, kind_of, page_of, first_row, input_row}
use Rattle.fed_script.specs.declared.event.Event.{Event}
use Rattle.fed_script.specs.declared.event.Event.TheVariants as events
use Rattle.fed_script.specs.declared.event.Event.TheVariants.{At, Load, ClosePage, Get, IdpClose, Prevent, SetStatus, Disconnect}
use Rattle.fed_script.specs.declared.event.Have.{Have}
use Rattle.fed_script.specs.declared.event.Have.TheVariants as haves
use Rattle.fed_script.specs.declared.event.Header.{Header}
use Rattle.fed_trace.specs.Effect.{Effect, Time, Page, Closed, Cookie, Login, Begin, Move, Sent, Dropped, Shown, Window, Kept, Flag}
use Rattle.fed_trace.specs.Effect.{Result, Ignored}
use Rattle.fed_trace.specs.Known.{world_at, is_begun, input_of, known_at}
use Rattle.fed_trace.specs.Trace.{Row, Trace, page_at, gets, pending_of, now_at, cookies, begun}
use Rattle.fed_trace.specs.Windows.{windows_of}

-- ---- what a call does

-- the Cookie field of a request: the first two requests and that for links carry none
abbrev pub cookies_with : Trace → Ask → List ℕ
cookies_with T (asks.Accounts to) = jar_text T.header.rules to (now_at T) (cookies T)
cookies_with T (asks.Disconnect to client hint origin) = jar_text T.header.rules to (now_at T) (cookies T)
cookies_with T (asks.Assertion ask) = jar_text T.header.rules ask.to (now_at T) (cookies T)
cookies_with T _ = []

-- what a call of this kind, of the page, does, among what all calls look at, with the cookies of its requests; where a pair loses its
-- permissions, each of them goes, in their order
abbrev pub call_effects : World → (Ask → List ℕ) → CallKind → ℕ → ℕ → CallEffect → List Effect
call_effects world cookies kind call page (does.Send provider ask) = Sent kind call provider ask (cookies ask) ∷ []
call_effects world cookies kind call page (does.Dropped provider failure) = Dropped call provider failure ∷ []
call_effects world cookies kind call page (does.Dialog dialog) = Shown call dialog ∷ []
call_effects world cookies kind call page (does.Window provider url) = Window call provider url ∷ []
call_effects world cookies kind call page (does.SetLogin origin status) = Login origin status ∷ []
call_effects world cookies kind call page (does.Keep triple) = Kept triple true ∷ []
call_effects world cookies kind call page (does.Forget triple) = Kept triple false ∷ []
call_effects world cookies kind call page (does.ForgetPair origin provider) =
    map (λ triple. Kept triple false) (triples_of_pair world.kept origin provider)
call_effects world cookies kind call page (does.ClearFlag origin) = Flag origin false ∷ []
call_effects world cookies kind call page (does.Finish finish) = Result call page finish ∷ []
call_effects world cookies kind call page (does.Ignored why) = Ignored why ∷ []

-- the call moves, or stays
abbrev pub moves : CallKind → ℕ → Option Stage → List Effect
moves kind call None = []
moves kind call (Some stage) = Move kind call stage ∷ []

-- an outcome of a call of the page
abbrev pub outcome_effects : World → (Ask → List ℕ) → CallKind → ℕ → ℕ → Outcome → List Effect
outcome_effects world cookies kind call page outcome =
    flat_map (call_effects world cookies kind call page) outcome.effects ++ moves kind call outcome.stage

-- ---- a call that begins

-- some pending get is of the page
abbrev pub is_busy : ℕ → List (ℕ × ℕ) → Bool
is_busy page gets = list_any (λ get. get.1 == page) gets

-- a call of a page that stands, by whether the page is trustworthy
abbrev pub standing_call : World → (Ask → List ℕ) → Bool → Bool → Begun → List Effect
standing_call world cookies false busy b = Ignored PageInsecure ∷ []
standing_call world cookies true busy b =
    Begin b ∷ outcome_effects world cookies (kind_asked b.options) b.call b.page (first_row world busy b.origin b.options)

-- a call with these options, by the origin of its page, if it stands, and by whether that page has a pending get
abbrev pub begin_effects : World → (Ask → List ℕ) → Option Origin → Bool → ℕ → ℕ → CallOptions → List Effect
begin_effects world cookies None busy page call options = Ignored NoPage ∷ []
begin_effects world cookies (Some origin) busy page call options =
    standing_call world cookies (is_trustworthy origin) busy (record { call = call; page = page; origin = origin; options = options })

-- ---- an event that names a call

-- an input of a call, by whether it was taken and by what is known of it where it is not over
abbrev pub input_effects : World → (Ask → List ℕ) → Bool → ℕ → Option Known → Input → List Effect
input_effects world cookies false call known input = Ignored NoCall ∷ []
input_effects world cookies true call None input = Ignored CallEnded ∷ []
input_effects world cookies true call (Some known) input =
    outcome_effects world cookies (kind_of known) call (page_of known) (input_row world known input)

-- an event by the call that it names and the input that it brings, if it brings one
abbrev pub brought_effects : Trace → Option (ℕ × Input) → List Effect
brought_effects T None = []
brought_effects T (Some brought) =
    input_effects (world_at T) (cookies_with T) (is_begun T brought.0) brought.0 (known_at T brought.0) brought.1

-- ---- loads

-- the calls end without a result, in their order (row C35)
abbrev pub ends_of : List (ℕ × CallKind) → List Effect
ends_of calls = map (λ call. Move call.1 call.0 Ended) calls

-- the cookie that a Set-Cookie value from this URL stores at this time, unless it is ignored
abbrev pub cookie_from : RuleSet → Parts → ℕ → List ℕ → Option StoredCookie
cookie_from rules url now field = option_and_then (cookie_of rules url now) (set_cookie_of field)

-- the cookies that Set-Cookie values store, in their order
abbrev pub cookies_from : RuleSet → Parts → ℕ → List (List ℕ) → List StoredCookie
cookies_from rules url now fields = filter_map (cookie_from rules url now) fields

-- the values of the fields of this name in a head; an unreadable one has none
abbrev pub values_in : List ℕ → Answer ReplyParts ReplyStep → List (List ℕ)
values_in name (Ok head) = values name head.fields
values_in name (Err step) = []

-- the values of the fields of this name in a load's reply, if it has one
abbrev pub load_values : List ℕ → Option (List ℕ) → List (List ℕ)
load_values name None = []
load_values name (Some raw) = values_in name (HeadOf raw)

-- the Set-Cookie values of a load's reply
abbrev pub set_cookie_name : List ℕ
set_cookie_name = codes "set-cookie"

abbrev pub set_cookies : Option (List ℕ) → List (List ℕ)
set_cookies raw = load_values set_cookie_name raw

-- the statuses that the Set-Login values of a load's reply say, in their order
abbrev pub set_login_name : List ℕ
set_login_name = codes "set-login"

abbrev pub set_logins : Option (List ℕ) → List LoginStatus
set_logins raw = filter_map set_login_of (load_values set_login_name raw)

-- cookies are stored after what happened: each stands, and may make another of its party go, of which the next takes note
abbrev pub stored_in : Trace → List StoredCookie → List CookieChange
stored_in T new = changes_from T.header.rules (now_at T) (cookies T) new

-- cookies come and go
abbrev pub cookie_effects : List CookieChange → List Effect
cookie_effects changes = map Cookie changes

-- statuses of an origin are set
abbrev pub login_effects : Origin → List LoginStatus → List Effect
login_effects origin statuses = map (Login origin) statuses

-- a load: the page's pending calls end, then the page stands with its URL's origin, then cookies come and go and statuses are set
abbrev pub load_effects : List (ℕ × CallKind) → ℕ → Parts → List CookieChange → List LoginStatus → List Effect
load_effects calls page url changes statuses =
    ends_of calls ++ (Page page (origin_of url) ∷ (cookie_effects changes ++ login_effects (origin_of url) statuses))

-- ---- a page that says that the user has signed in at its origin

-- a call in Window asks for its accounts again (row C29), by what is known of it
abbrev pub resume_effects : World → (Ask → List ℕ) → (ℕ → Option Known) → ℕ → List Effect
resume_effects world cookies known call = input_effects world cookies true call (known call) Resume

-- the calls that wait for it, one after the other; at least one has to
abbrev pub waiting_effects : World → (Ask → List ℕ) → (ℕ → Option Known) → List ℕ → List Effect
waiting_effects world cookies known [] = Ignored NobodyWaits ∷ []
waiting_effects world cookies known (call ∷ calls) = flat_map (resume_effects world cookies known) (call ∷ calls)

-- a page that stands, by whether it is trustworthy
abbrev pub standing_resumes : World → (Ask → List ℕ) → (ℕ → Option Known) → List ℕ → Bool → List Effect
standing_resumes world cookies known calls true = waiting_effects world cookies known calls
standing_resumes world cookies known calls false = Ignored PageInsecure ∷ []

-- by the origin of the page, if it stands, and by the calls that wait for each origin
abbrev pub idpclose_effects : World → (Ask → List ℕ) → (ℕ → Option Known) → (Origin → List ℕ) → Option Origin → List Effect
idpclose_effects world cookies known waiting None = Ignored NoPage ∷ []
idpclose_effects world cookies known waiting (Some origin) =
    standing_resumes world cookies known (waiting origin) (is_trustworthy origin)

-- ---- other events

-- a page is closed: its pending calls end, and it no longer stands
abbrev pub close_effects : List (ℕ × CallKind) → ℕ → Option Origin → List Effect
close_effects calls page None = Ignored NoPage ∷ []
close_effects calls page (Some origin) = ends_of calls ++ Closed page ∷ []

-- what a page that stands says of its origin, by whether it is trustworthy
abbrev pub standing_says : Bool → Effect → List Effect
standing_says true said = said ∷ []
standing_says false said = Ignored PageInsecure ∷ []

-- what a page says of its origin, if it stands
abbrev pub page_says : Option Origin → (Origin → Effect) → List Effect
page_says None said = Ignored NoPage ∷ []
page_says (Some origin) said = standing_says (is_trustworthy origin) (said origin)

-- the cookies that a line of the kind `have` says
abbrev pub have_cookies : RuleSet → ℕ → Have → List StoredCookie
have_cookies rules now (haves.Cookie url field) = cookies_from rules url now (field ∷ [])
have_cookies rules now _ = []

-- what a load does to cookies
abbrev pub load_changes : Trace → Parts → Option (List ℕ) → List CookieChange
load_changes T url raw = stored_in T (cookies_from T.header.rules url (now_at T) (set_cookies raw))

-- what a line of the kind `have` does to them
abbrev pub have_changes : Trace → Have → List CookieChange
have_changes T have = stored_in T (have_cookies T.header.rules (now_at T) have)

-- the status, the permission or the flag that it says
abbrev pub have_states : Have → List Effect
have_states (haves.Cookie url field) = []
have_states (haves.Login origin status) = Login origin status ∷ []
have_states (haves.Kept triple) = Kept triple true ∷ []
have_states (haves.Silent origin) = Flag origin true ∷ []

-- the effects of an event after what happened
abbrev pub effects_of : Trace → Event → List Effect
effects_of T (events.Have have) = cookie_effects (have_changes T have) ++ have_states have
effects_of T (At time) = Time time ∷ []
effects_of T (Load page url raw) =
    load_effects (pending_of T page) page url (load_changes T url raw) (set_logins raw)
effects_of T (ClosePage page) = close_effects (pending_of T page) page (page_at T page)
effects_of T (Get page call options) =
    begin_effects (world_at T) (cookies_with T) (page_at T page) (is_busy page (gets T)) page call (ToGet options)
effects_of T (Disconnect page call config client hint) =
    begin_effects (world_at T) (cookies_with T) (page_at T page) (is_busy page (gets T)) page call
    (ToDisconnect (disconnect_options config client hint))
effects_of T (IdpClose page) = idpclose_effects (world_at T) (cookies_with T) (known_at T) (windows_of T) (page_at T page)
effects_of T (Prevent page) = page_says (page_at T page) (λ origin. Flag origin true)
effects_of T (SetStatus page status) = page_says (page_at T page) (λ origin. Login origin status)
effects_of T event = brought_effects T (input_of event)

-- the row of an event at this line after what happened
abbrev pub row_of : Trace → ℕ → Event → Row
row_of T line event = record { line = line; event = event; effects = effects_of T event }

-- the trace with one event more
abbrev pub with_event : Trace → ℕ → Event → Trace
with_event T line event = record { header = T.header; rows = row_of T line event ∷ T.rows }

-- the call of a get or of a disconnect never began before, and a get has a provider
abbrev pub IsNew : List Row → Event → Type 0
IsNew rows (Get page call options) = (list_any (nat_eq call) (begun rows) ≡ false) × (1 ≤ length options.providers)
IsNew rows (Disconnect page call config client hint) = list_any (nat_eq call) (begun rows) ≡ false
IsNew rows _ = ⊤

-- each row is that of its event after the rows before it
abbrev pub IsRun : Header → List Row → Type 0
IsRun header [] = ⊤
IsRun header (row ∷ rows) =
    (row.effects ≡ effects_of (record { header = header; rows = rows }) row.event) × IsNew rows row.event × IsRun header rows
