-- So is what each event does, in each row of a run of good events.
use Rattle.std.proofs.Common.{ℕ, Bool, true, false, cond, nat_eq, List, [], ◌∷◌, map, Option, Some, None, refl, sym, subst}
use Rattle.std.specs.Prelude.{⊤, unwrap_or}
use Rattle.std.specs.List.{AllByRecursion, filter_map, flat_map}
use Rattle.std.specs.Option.{option_or}
use Rattle.fed_origin.specs.declared.origin.Origin.{Origin}
use Rattle.fed_origin.specs.declared.stage.Stage.{Stage}
use Rattle.fed_origin.specs.declared.status.LoginStatus.{LoginStatus}
use Rattle.fed_origin.specs.declared.status.Triple.{Triple}
use Rattle.fed_origin.specs.Origin.{is_trustworthy}
use Rattle.fed_origin.specs.WebUrl.{origin_of}
use Rattle.fed_suffix.specs.Rule.{RuleSet}
use Rattle.fed_jar.specs.Changes.{CookieChange}
use Rattle.fed_jar.specs.Cookie.{StoredCookie}
use Rattle.fed_status.specs.Kept.{triples_of_pair}
use Rattle.fed_status.specs.Shared.{World}
use Rattle.fed_consent.specs.declared.table.ask.Ask.{Ask}
use Rattle.fed_consent.specs.declared.table.ask.Ask.TheVariants as asks
use Rattle.fed_consent.specs.declared.table.effect.Effect.{Effect as CallEffect}
use Rattle.fed_consent.specs.declared.table.effect.Effect.TheVariants as does
use Rattle.fed_consent.specs.declared.table.input.Input.{Input}
use Rattle.fed_consent.specs.declared.table.input.Input.TheVariants as inputs
use Rattle.fed_consent.specs.Outcomes.{Outcome}
use Rattle.fed_call.specs.Row as get_rows
use Rattle.fed_disconnect.specs.Facts.{disconnect_options}
use Rattle.fed_disconnect.specs.Rows as disconnect_rows
use Rattle.fed_script.specs.declared.event.Event.{Event}
use Rattle.fed_script.specs.declared.event.Event.TheVariants as events
use Rattle.fed_script.specs.declared.event.Event.TheVariants.{At, ClosePage, Disconnect, Get, Load, Prevent, SetStatus}
use Rattle.fed_script.specs.declared.event.Have.{Have}
use Rattle.fed_script.specs.declared.event.Have.TheVariants as haves
use Rattle.fed_script.specs.declared.event.Header.{Header}
use Rattle.fed_script.specs.declared.event.Numbered.{Numbered}
use Rattle.fed_trace.specs.Begun.{Begun, CallKind, CallOptions, DisconnectCall, GetCall, ToDisconnect, ToGet, kind_asked}
use Rattle.fed_trace.specs.Call.{Known, OfDisconnect, OfGet, first_row}
use Rattle.fed_trace.specs.Effect.{Effect, Begin, Closed, Cookie, Dropped, Flag, Ignored, Kept, Login, Move, Page, Result, Sent, Shown}
use Rattle.fed_trace.specs.Effect.{Time}
use Rattle.fed_trace.specs.Effect.{Window, cookie_change, page_change}
use Rattle.fed_trace.specs.Keyed.{last_said, says}
use Rattle.fed_trace.specs.Known.{is_begun, known_at, world_at}
use Rattle.fed_trace.specs.OfScript.{with_events}
use Rattle.fed_trace.specs.Row.{IsRun, begin_effects, call_effects, close_effects, cookie_effects, cookies_with, effects_of, ends_of}
use Rattle.fed_trace.specs.Row.{have_changes, have_cookies, have_states, set_cookie_name, set_cookies, stored_in, idpclose_effects}
use Rattle.fed_trace.specs.Row.{input_effects, is_busy, load_changes, login_effects, moves}
use Rattle.fed_trace.specs.Row.{outcome_effects, page_says, resume_effects, set_logins, standing_call, standing_resumes, standing_says}
use Rattle.fed_trace.specs.Row.{waiting_effects, with_event}
use Rattle.fed_trace.specs.Trace.{Row, Trace, all_said, cookie_changes, cookies, gets, last_value, now_at, page_at, pending_of}
use Rattle.fed_trace.specs.Windows.{windows_of}
use Rattle.fed_own.proofs.json.Values.{IfSo}
use Rattle.fed_own.proofs.plain.Lists.{AreBytes, IsField}
use Rattle.fed_own.proofs.plain.Results.{all_both}
use Rattle.fed_own.proofs.plain.Web.{IsWeb}
use Rattle.fed_own.proofs.walk.Begins.{begins_does, disconnect_does}
use Rattle.fed_own.proofs.walk.Does.{AllGood, GoodCall, GoodDoes, GoodEffect, GoodGet, IsPage, IsSmall}
use Rattle.fed_own.proofs.walk.Fields.{load_bytes}
use Rattle.fed_own.proofs.walk.Jar.{GoodChange, GoodCookie, changes_good, fields_read, part_field, sent_part, standing_good}
use Rattle.fed_own.proofs.walk.Known.{GoodKnown, GoodRows, known_good, known_small}
use Rattle.fed_own.proofs.walk.Rows.{GoodInput, input_does}

-- what is said of the time before is good
abbrev pub GoodHave : Have → Type 0
GoodHave (haves.Cookie url field) = AreBytes field
GoodHave (haves.Login origin status) = ⊤
GoodHave (haves.Kept triple) = ⊤
GoodHave (haves.Silent origin) = ⊤

-- what is read of a line is good
abbrev pub GoodEvent : Event → Type 0
GoodEvent (Get page call options) = IsSmall page × IsSmall call × GoodGet options.providers
GoodEvent (Disconnect page call config client hint) = IsSmall page × IsSmall call × IsWeb config
GoodEvent (events.Reply call place kind raw) = IsSmall place
GoodEvent (Load page url raw) = IsWeb url × IfSo AreBytes raw
GoodEvent (events.Have have) = GoodHave have
GoodEvent _ = ⊤

abbrev All : List Effect → Type 0
All = AllByRecursion GoodEffect

-- ---- the pages that stand

said_page : (page : ℕ) (e : Effect) → GoodEffect e → IfSo (IfSo IsPage) (says nat_eq page (page_change e))
said_page page (Page q origin) g = go (nat_eq page q)
  where
    go : (b : Bool) → IfSo (IfSo IsPage) (cond b (Some (Some origin)) None)
    go true = g
    go false = tt
said_page page (Closed q) g = go (nat_eq page q)
  where
    go : (b : Bool) → IfSo (IfSo IsPage) (cond {A = Option (Option Origin)} b (Some None) None)
    go true = tt
    go false = tt
said_page page (Begin begun) g = tt
said_page page (Sent kind c provider ask cookies) g = tt
said_page page (Shown c dialog) g = tt
said_page page (Window c provider url) g = tt
said_page page (Result c q finish) g = tt
said_page page (Time time) g = tt
said_page page (Cookie change) g = tt
said_page page (Login origin status) g = tt
said_page page (Move kind c stage) g = tt
said_page page (Dropped c provider failure) g = tt
said_page page (Kept triple stays) g = tt
said_page page (Flag origin stays) g = tt
said_page page (Ignored why) g = tt

or_page : (a b : Option (Option Origin)) → IfSo (IfSo IsPage) a → IfSo (IfSo IsPage) b → IfSo (IfSo IsPage) (option_or a b)
or_page None b g h = h
or_page (Some a) b g h = g

last_page : (page : ℕ) (effects : List Effect) → All effects → IfSo (IfSo IsPage) (last_said nat_eq page_change page effects)
last_page page [] g = tt
last_page page (e ∷ es) g =
    or_page (last_said nat_eq page_change page es) (says nat_eq page (page_change e)) (last_page page es g.1) (said_page page e g.0)

unwrapped : (a : Option (Option Origin)) (b : Option Origin) → IfSo (IfSo IsPage) a → IfSo IsPage b → IfSo IsPage (unwrap_or a b)
unwrapped None b g h = h
unwrapped (Some a) b g h = g

value_page : (page : ℕ) (rows : List Row) → GoodRows rows → IfSo IsPage (last_value nat_eq page_change page rows)
value_page page [] g = tt
value_page page (row ∷ rows) g =
    unwrapped (last_said nat_eq page_change page row.effects) (last_value nat_eq page_change page rows)
    (last_page page row.effects g.0) (value_page page rows g.1)

-- ---- the cookies that stand

effect_changes : (effects : List Effect) → All effects → AllByRecursion GoodChange (filter_map cookie_change effects)
effect_changes [] g = tt
effect_changes (Cookie change ∷ es) g = (g.0, effect_changes es g.1)
effect_changes (Page page origin ∷ es) g = effect_changes es g.1
effect_changes (Closed page ∷ es) g = effect_changes es g.1
effect_changes (Begin begun ∷ es) g = effect_changes es g.1
effect_changes (Sent kind c provider ask cookies ∷ es) g = effect_changes es g.1
effect_changes (Shown c dialog ∷ es) g = effect_changes es g.1
effect_changes (Window c provider url ∷ es) g = effect_changes es g.1
effect_changes (Result c page finish ∷ es) g = effect_changes es g.1
effect_changes (Time time ∷ es) g = effect_changes es g.1
effect_changes (Login origin status ∷ es) g = effect_changes es g.1
effect_changes (Move kind c stage ∷ es) g = effect_changes es g.1
effect_changes (Dropped c provider failure ∷ es) g = effect_changes es g.1
effect_changes (Kept triple stays ∷ es) g = effect_changes es g.1
effect_changes (Flag origin stays ∷ es) g = effect_changes es g.1
effect_changes (Ignored why ∷ es) g = effect_changes es g.1

said_changes : (rows : List Row) → GoodRows rows → AllByRecursion GoodChange (all_said cookie_change rows)
said_changes [] g = tt
said_changes (row ∷ rows) g =
    all_both GoodChange (all_said cookie_change rows) (filter_map cookie_change row.effects) (said_changes rows g.1)
    (effect_changes row.effects g.0)

jar_good : (T : Trace) → GoodRows T.rows → AllByRecursion GoodCookie (cookies T)
jar_good T g = standing_good (cookie_changes T) (said_changes T.rows g)

no_cookies : IsField []
no_cookies = part_field [] (record { pen = tt; front = tt; back = tt })

sent_field : (T : Trace) → GoodRows T.rows → (ask : Ask) → IsField (cookies_with T ask)
sent_field T g (asks.WellKnown to) = no_cookies
sent_field T g (asks.Config to) = no_cookies
sent_field T g (asks.Metadata to client origin) = no_cookies
sent_field T g (asks.Accounts to) =
    part_field _ (sent_part T.header.rules to (now_at T) (cookies T) (jar_good T g))
sent_field T g (asks.Assertion ask) =
    part_field _ (sent_part T.header.rules ask.to (now_at T) (cookies T) (jar_good T g))
sent_field T g (asks.Disconnect to client hint origin) =
    part_field _ (sent_part T.header.rules to (now_at T) (cookies T) (jar_good T g))

-- ---- what a call does

module _ (world : World) (cookies : Ask → List ℕ) (kind : CallKind) (call page : ℕ) (one : IsSmall call) (two : IsSmall page)
    (jar : (ask : Ask) → IsField (cookies ask)) where
  does_good : (effects : List CallEffect) → AllByRecursion GoodDoes effects
      → All (flat_map (call_effects world cookies kind call page) effects)
  does_good [] g = tt
  does_good (does.Send provider ask ∷ effects) g = ((one, g.0.0, g.0.1, jar ask), does_good effects g.1)
  does_good (does.Finish finish ∷ effects) g = ((one, two, g.0), does_good effects g.1)
  does_good (does.Dialog dialog ∷ effects) g = ((one, g.0), does_good effects g.1)
  does_good (does.Window place url ∷ effects) g = ((one, g.0.0, g.0.1), does_good effects g.1)
  does_good (does.Ignored why ∷ effects) g = (tt, does_good effects g.1)
  does_good (does.Dropped place failure ∷ effects) g = ((one, g.0), does_good effects g.1)
  does_good (does.SetLogin origin status ∷ effects) g = (tt, does_good effects g.1)
  does_good (does.Keep triple ∷ effects) g = (tt, does_good effects g.1)
  does_good (does.Forget triple ∷ effects) g = (tt, does_good effects g.1)
  does_good (does.ClearFlag origin ∷ effects) g = (tt, does_good effects g.1)
  does_good (does.ForgetPair p q ∷ effects) g =
      all_both GoodEffect (map (λ triple. Kept triple false) (triples_of_pair world.kept p q))
      (flat_map (call_effects world cookies kind call page) effects) (go (triples_of_pair world.kept p q)) (does_good effects g.1)
    where
      go : (triples : List Triple) → All (map (λ triple. Kept triple false) triples)
      go [] = tt
      go (triple ∷ triples) = (tt, go triples)

  outcome_good : (o : Outcome) → AllGood o → All (outcome_effects world cookies kind call page o)
  outcome_good o g =
      all_both GoodEffect (flat_map (call_effects world cookies kind call page) o.effects) (moves kind call o.stage)
      (does_good o.effects g) (go o.stage)
    where
      go : (stage : Option Stage) → All (moves kind call stage)
      go None = tt
      go (Some stage) = (tt, tt)

-- ---- an event

module _ (T : Trace) (good : GoodRows T.rows) where
  begin_good : (o : Option Origin) (busy : Bool) (page call : ℕ) (options : CallOptions) → IsSmall page → IsSmall call → IfSo IsPage o
      → GoodCall options → All (begin_effects (world_at T) (cookies_with T) o busy page call options)
  begin_good None busy page call options two one p g = (tt, tt)
  begin_good (Some origin) busy page call options two one p g = go (is_trustworthy origin)
    where
      b : Begun
      b = record { call = call; page = page; origin = origin; options = options }

      go : (trusted : Bool) → All (standing_call (world_at T) (cookies_with T) trusted busy b)
      go false = (tt, tt)
      go true = (
        record { call = one; page = two; origin = p; options = g },
        outcome_good (world_at T) (cookies_with T) (kind_asked options) call page one two (sent_field T good)
            (first_row (world_at T) busy origin options)
            (begins_does (world_at T) origin busy options g),
      )

  known_input : (call : ℕ) (input : Input) (k : Option Known) → GoodInput input → IfSo (λ x. IsSmall call) k → IfSo GoodKnown k
      → All (input_effects (world_at T) (cookies_with T) true call k input)
  known_input call input None i one g = (tt, tt)
  known_input call input (Some (OfGet f)) i one g =
      outcome_good (world_at T) (cookies_with T) GetCall call f.page one g.page (sent_field T good)
      (get_rows.input_row (world_at T) f input)
      (input_does (world_at T) f input i g)
  known_input call input (Some (OfDisconnect f)) i one g =
      outcome_good (world_at T) (cookies_with T) DisconnectCall call f.page one g.page (sent_field T good)
      (disconnect_rows.input_row (world_at T) f input)
      (disconnect_does (world_at T) f g input)

  input_good : (call : ℕ) (input : Input) (begun : Bool) → GoodInput input
      → All (input_effects (world_at T) (cookies_with T) begun call (known_at T call) input)
  input_good call input false i = (tt, tt)
  input_good call input true i = known_input call input (known_at T call) i (known_small T call good) (known_good T call good)

  resumes_good : (calls : List ℕ) → All (flat_map (resume_effects (world_at T) (cookies_with T) (known_at T)) calls)
  resumes_good [] = tt
  resumes_good (call ∷ calls) =
      all_both GoodEffect (resume_effects (world_at T) (cookies_with T) (known_at T) call)
      (flat_map (resume_effects (world_at T) (cookies_with T) (known_at T)) calls)
      (known_input call inputs.Resume (known_at T call) tt (known_small T call good) (known_good T call good)) (resumes_good calls)

  waiting_good : (calls : List ℕ) → All (waiting_effects (world_at T) (cookies_with T) (known_at T) calls)
  waiting_good [] = (tt, tt)
  waiting_good (call ∷ calls) = resumes_good (call ∷ calls)

  closes_good : (waiting : Origin → List ℕ) (o : Option Origin)
      → All (idpclose_effects (world_at T) (cookies_with T) (known_at T) waiting o)
  closes_good waiting None = (tt, tt)
  closes_good waiting (Some origin) = go (is_trustworthy origin)
    where
      go : (trusted : Bool) → All (standing_resumes (world_at T) (cookies_with T) (known_at T) (waiting origin) trusted)
      go true = waiting_good (waiting origin)
      go false = (tt, tt)

-- ---- events that are of no call

ends_good : (calls : List (ℕ × CallKind)) → All (ends_of calls)
ends_good [] = tt
ends_good (call ∷ calls) = (tt, ends_good calls)

cookies_good : (changes : List CookieChange) → AllByRecursion GoodChange changes → All (cookie_effects changes)
cookies_good [] g = tt
cookies_good (change ∷ changes) g = (g.0, cookies_good changes g.1)

have_good : (rules : RuleSet) (now : ℕ) (have : Have) → GoodHave have → AllByRecursion GoodCookie (have_cookies rules now have)
have_good rules now (haves.Cookie url field) g = fields_read rules url now (field ∷ []) (g, tt)
have_good rules now (haves.Login origin status) g = tt
have_good rules now (haves.Kept triple) g = tt
have_good rules now (haves.Silent origin) g = tt

stored_good : (T : Trace) (new : List StoredCookie) → AllByRecursion GoodCookie new → AllByRecursion GoodChange (stored_in T new)
stored_good T new g = changes_good T.header.rules (now_at T) (cookies T) new g

logins_good : (origin : Origin) (statuses : List LoginStatus) → All (login_effects origin statuses)
logins_good origin [] = tt
logins_good origin (status ∷ statuses) = (tt, logins_good origin statuses)

states_good : (have : Have) → All (have_states have)
states_good (haves.Cookie url field) = tt
states_good (haves.Login origin status) = (tt, tt)
states_good (haves.Kept triple) = (tt, tt)
states_good (haves.Silent origin) = (tt, tt)

close_good : (calls : List (ℕ × CallKind)) (page : ℕ) (o : Option Origin) → All (close_effects calls page o)
close_good calls page None = (tt, tt)
close_good calls page (Some origin) = all_both GoodEffect (ends_of calls) (Closed page ∷ []) (ends_good calls) (tt, tt)

says_good : (o : Option Origin) (said : Origin → Effect) → ((origin : Origin) → GoodEffect (said origin)) → All (page_says o said)
says_good None said g = (tt, tt)
says_good (Some origin) said g = go (is_trustworthy origin)
  where
    go : (b : Bool) → All (standing_says b (said origin))
    go true = (g origin, tt)
    go false = (tt, tt)

pub event_good : (T : Trace) (event : Event) → GoodRows T.rows → GoodEvent event → All (effects_of T event)
event_good T (events.Have have) good g =
    all_both GoodEffect (cookie_effects (have_changes T have)) (have_states have)
    (cookies_good (have_changes T have) (stored_good T _ (have_good T.header.rules (now_at T) have g))) (states_good have)
event_good T (At time) good g = (tt, tt)
event_good T (Load page url raw) good g =
    all_both GoodEffect (ends_of (pending_of T page)) _ (ends_good (pending_of T page)) (
      record { url = url; web = g.0; is = refl },
      all_both GoodEffect (cookie_effects (load_changes T url raw)) (login_effects (origin_of url) (set_logins raw))
          (cookies_good (load_changes T url raw)
          (stored_good T _ (fields_read T.header.rules url (now_at T) (set_cookies raw) (load_bytes set_cookie_name raw g.1))))
          (logins_good (origin_of url) (set_logins raw)),
    )
event_good T (ClosePage page) good g = close_good (pending_of T page) page (page_at T page)
event_good T (Get page call options) good g =
    begin_good T good (page_at T page) (is_busy page (gets T)) page call (ToGet options) g.0 g.1
    (value_page page T.rows good) g.2
event_good T (Disconnect page call config client hint) good g =
    begin_good T good (page_at T page) (is_busy page (gets T)) page call (ToDisconnect (disconnect_options config client hint))
    g.0 g.1 (value_page page T.rows good) (record { config = g.2 })
event_good T (events.IdpClose page) good g = closes_good T good (windows_of T) (page_at T page)
event_good T (Prevent page) good g = says_good (page_at T page) (λ origin. Flag origin true) (λ origin. tt)
event_good T (SetStatus page status) good g = says_good (page_at T page) (λ origin. Login origin status) (λ origin. tt)
event_good T (events.Abort call) good g = input_good T good call inputs.Abort (is_begun T call) tt
event_good T (events.Reply call place kind raw) good g = input_good T good call (inputs.Reply place kind raw) (is_begun T call) g
event_good T (events.Choose call place account) good g = input_good T good call (inputs.Choose place account) (is_begun T call) tt
event_good T (events.GoOn call) good g = input_good T good call inputs.GoOn (is_begun T call) tt
event_good T (events.Cancel call) good g = input_good T good call inputs.Cancel (is_begun T call) tt
event_good T (events.SignIn call) good g = input_good T good call inputs.SignIn (is_begun T call) tt
event_good T (events.ShutWindow call) good g = input_good T good call inputs.Shut (is_begun T call) tt

-- ---- rows

pub rows_good : (header : Header) (rows : List Row) → IsRun header rows → AllByRecursion (λ row. GoodEvent row.event) rows → GoodRows rows
rows_good header [] run g = tt
rows_good header (row ∷ rows) run g =
    let before = rows_good header rows run.2 g.1 in (
      subst All (sym run.0) (event_good (record { header = header; rows = rows }) row.event before g.0),
      before,
    )

pub events_rows : (T : Trace) (ns : List Numbered) → AllByRecursion (λ row. GoodEvent row.event) T.rows
    → AllByRecursion (λ n. GoodEvent n.event) ns → AllByRecursion (λ row. GoodEvent row.event) (with_events T ns).rows
events_rows T [] g h = g
events_rows T (n ∷ ns) g h = events_rows (with_event T n.line n.event) ns (h.0, g) h.1
