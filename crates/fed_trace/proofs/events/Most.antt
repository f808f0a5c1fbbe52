-- At most 180 cookies of a party stand.
use Rattle.std.proofs.Common.{◌≡◌, ◌≤◌, ℕ, Bool, true, false, List, [], ◌∷◌, length, Option, Some, None, refl, sym, ap, subst}
use Rattle.std.proofs.Common.{◌∙◌, lit≤}
use Rattle.std.specs.List.{filter_map}
use Rattle.fed_origin.specs.declared.origin.Origin.{Origin}
use Rattle.fed_origin.specs.Origin.{is_trustworthy}
use Rattle.fed_jar.specs.Cookie.{StoredCookie}
use Rattle.fed_jar.specs.Changes.{changed_by}
use Rattle.fed_jar.specs.Changes as jar
use Rattle.fed_jar.specs.Limit as limit
use Rattle.fed_jar.specs.Store.{part_of}
use Rattle.fed_jar.proofs.changes.Changes.{changed_in_turn}
use Rattle.fed_jar.proofs.limit.Most.{most_stay}
use Rattle.fed_status.specs.Shared.{World}
use Rattle.fed_consent.specs.declared.table.ask.Ask.{Ask}
use Rattle.fed_consent.specs.declared.table.input.Input.{Input}
use Rattle.fed_consent.specs.declared.table.input.Input.TheVariants as inputs
use Rattle.fed_consent.specs.Outcomes.{Outcome}
use Rattle.fed_disconnect.specs.Facts.{disconnect_options}
use Rattle.fed_script.specs.declared.event.Event.{Event}
use Rattle.fed_script.specs.declared.event.Event.TheVariants as events
use Rattle.fed_script.specs.declared.event.Header.{Header}
use Rattle.fed_trace.specs.Begun.{Begun, CallKind, CallOptions, ToGet, ToDisconnect, kind_asked}
use Rattle.fed_trace.specs.Call.{Known, kind_of, page_of, first_row, input_row}
use Rattle.fed_trace.specs.Effect.{Login, Flag, cookie_change}
use Rattle.fed_trace.specs.Known.{world_at, is_begun, known_at}
use Rattle.fed_trace.specs.Laws.{MostCookiesStand}
use Rattle.fed_trace.specs.Row.{effects_of, outcome_effects, standing_call, begin_effects, input_effects, close_effects, is_busy}
use Rattle.fed_trace.specs.Row.{cookies_with, cookies_from, have_cookies, stored_in, load_changes, have_changes, have_states, set_cookies}
use Rattle.fed_trace.specs.Row.{set_logins}
use Rattle.fed_trace.specs.Trace.{Row, Trace, pending_of, page_at, gets, now_at, cookies, all_said}
use Rattle.fed_trace.specs.Windows.{windows_of}
use Rattle.fed_trace.proofs.calls.Pending.{outcome_silent, changed_then, load_changed}
use Rattle.fed_trace.proofs.calls.Resumed.{idpclose_silent}
use Rattle.fed_trace.proofs.effects.Silent.{AllSilent, said_silent}
use Rattle.fed_trace.proofs.events.Aside.{states_change_none, says_silent, close_silent}

-- ---- calls and closed pages leave the cookies as they are

no_outcome : (world : World) (cookies : Ask → List ℕ) (kind : CallKind) (call page : ℕ) (outcome : Outcome)
    → AllSilent cookie_change (outcome_effects world cookies kind call page outcome)
no_outcome world cookies kind call page outcome =
    outcome_silent cookie_change (λ n c p a k. refl) (λ c d. refl) (λ c p f. refl) (λ c p u. refl) (λ o s. refl) (λ t k. refl)
    (λ o k. refl) (λ c p f. refl) (λ w. refl) (λ n c s. refl) world cookies kind call page outcome

no_standing : (world : World) (cookies : Ask → List ℕ) (trusted busy : Bool) (b : Begun)
    → AllSilent cookie_change (standing_call world cookies trusted busy b)
no_standing world cookies false busy b = (refl, tt)
no_standing world cookies true busy b =
    (refl, no_outcome world cookies (kind_asked b.options) b.call b.page (first_row world busy b.origin b.options))

no_begin : (world : World) (cookies : Ask → List ℕ) (o : Option Origin) (busy : Bool) (page call : ℕ) (options : CallOptions)
    → AllSilent cookie_change (begin_effects world cookies o busy page call options)
no_begin world cookies None busy page call options = (refl, tt)
no_begin world cookies (Some origin) busy page call options =
    no_standing world cookies (is_trustworthy origin) busy (record { call = call; page = page; origin = origin; options = options })

no_input : (world : World) (cookies : Ask → List ℕ) (begun : Bool) (call : ℕ) (known : Option Known) (input : Input)
    → AllSilent cookie_change (input_effects world cookies begun call known input)
no_input world cookies false call known input = (refl, tt)
no_input world cookies true call None input = (refl, tt)
no_input world cookies true call (Some known) input =
    no_outcome world cookies (kind_of known) call (page_of known) (input_row world known input)

no_close : (calls : List (ℕ × CallKind)) (page : ℕ) (o : Option Origin) → AllSilent cookie_change (close_effects calls page o)
no_close calls page None = (refl, tt)
no_close calls page (Some origin) = close_silent cookie_change (λ n c. refl) (λ p. refl) calls page

-- ---- what an event stores

-- what happens to cookies at an event is that some are stored, or none
abbrev Stores : Trace → Event → Type 0
Stores T event = (new : List StoredCookie) × (filter_map cookie_change (effects_of T event) ≡ stored_in T new)

stores_none : (T : Trace) (event : Event) → AllSilent cookie_change (effects_of T event) → Stores T event
stores_none T event silent = ([], said_silent cookie_change (effects_of T event) silent)

stores_by : (T : Trace) (event : Event) (call : ℕ) (input : Input)
    → effects_of T event ≡ input_effects (world_at T) (cookies_with T) (is_begun T call) call (known_at T call) input
    → Stores T event
stores_by T event call input effects =
    stores_none T event (subst (AllSilent cookie_change) (sym effects)
    (no_input (world_at T) (cookies_with T) (is_begun T call) call (known_at T call) input))

pub event_stores : (T : Trace) (event : Event) → Stores T event
event_stores T (events.Have have) =
    (have_cookies T.header.rules (now_at T) have, changed_then (have_changes T have) (have_states have) (states_change_none have))
event_stores T (events.Load page url raw) = (
  cookies_from T.header.rules url (now_at T) (set_cookies raw),
  load_changed (pending_of T page) page url (load_changes T url raw) (set_logins raw),
)
event_stores T (events.At time) = stores_none T (events.At time) (refl, tt)
event_stores T (events.ClosePage page) = stores_none T (events.ClosePage page) (no_close (pending_of T page) page (page_at T page))
event_stores T (events.Get page call options) =
    stores_none T (events.Get page call options)
    (no_begin (world_at T) (cookies_with T) (page_at T page) (is_busy page (gets T)) page call (ToGet options))
event_stores T (events.Disconnect page call config client hint) =
    stores_none T (events.Disconnect page call config client hint)
    (no_begin (world_at T) (cookies_with T) (page_at T page) (is_busy page (gets T)) page call
    (ToDisconnect (disconnect_options config client hint)))
event_stores T (events.IdpClose page) =
    stores_none T (events.IdpClose page)
    (idpclose_silent cookie_change (record { ignored = λ w. refl; sent = λ n c p t k. refl; move = λ n c. refl }) (world_at T)
    (cookies_with T) (known_at T) (windows_of T) (page_at T page))
event_stores T (events.Prevent page) =
    stores_none T (events.Prevent page)
    (says_silent cookie_change (λ origin. Flag origin true) (λ o. refl) (λ w. refl) (page_at T page))
event_stores T (events.SetStatus page status) =
    stores_none T (events.SetStatus page status)
    (says_silent cookie_change (λ origin. Login origin status) (λ o. refl) (λ w. refl) (page_at T page))
event_stores T (events.Abort call) = stores_by T (events.Abort call) call inputs.Abort refl
event_stores T (events.Reply call provider kind raw) =
    stores_by T (events.Reply call provider kind raw) call (inputs.Reply provider kind raw) refl
event_stores T (events.Choose call provider account) =
    stores_by T (events.Choose call provider account) call (inputs.Choose provider account) refl
event_stores T (events.GoOn call) = stores_by T (events.GoOn call) call inputs.GoOn refl
event_stores T (events.Cancel call) = stores_by T (events.Cancel call) call inputs.Cancel refl
event_stores T (events.SignIn call) = stores_by T (events.SignIn call) call inputs.SignIn refl
event_stores T (events.ShutWindow call) = stores_by T (events.ShutWindow call) call inputs.Shut refl

-- ---- the law

-- the cookies after a row
cookies_then : (header : Header) (row : Row) (rows : List Row)
    → cookies (record { header = header; rows = row ∷ rows })
    ≡ changed_by (cookies (record { header = header; rows = rows })) (filter_map cookie_change row.effects)
unfolding jar.standing
cookies_then header row rows = changed_in_turn [] (all_said cookie_change rows) (filter_map cookie_change row.effects)

pub most_cookies : MostCookiesStand
unfolding jar.standing
most_cookies header [] run name = lit≤ tt
most_cookies header (row ∷ rows) run name =
    let T : Trace = record { header = header; rows = rows } in
    let found = event_stores T row.event in
    subst (λ cs. length (part_of header.rules name cs) ≤ limit.most_cookies)
    (sym (cookies_then header row rows ∙ ap (λ es. changed_by (cookies T) (filter_map cookie_change es)) run.0
    ∙ ap (changed_by (cookies T)) found.1))
    (most_stay header.rules (now_at T) name (cookies T) found.0 (most_cookies header rows run.2 name))
