-- What an event does to a call that it does not name.
use Rattle.std.proofs.Common.{◌≡◌, ℕ, Bool, true, false, nat_eq, ◌⊎◌, inl, inr, List, [], ◌∷◌, ◌++◌, Option, Some}
use Rattle.std.proofs.Common.{None, refl, sym, ap}
use Rattle.std.proofs.Common.{subst, ◌∙◌, arith, cond}
use Rattle.std.proofs.lemmas.Bool.Decides.{nat_tests}
use Rattle.std.specs.Prelude.{option_map}
use Rattle.std.specs.Option.{option_or}
use Rattle.std.specs.List.{filter_map, list_any}
use Rattle.url.specs.Parts.{Parts}
use Rattle.fed_origin.specs.declared.origin.Origin.{Origin}
use Rattle.fed_origin.specs.declared.stage.Stage.TheVariants.{Window, Ended}
use Rattle.fed_origin.specs.WebUrl.{origin_of}
use Rattle.fed_call.specs.Facts.{Facts}
use Rattle.fed_call.specs.WindowRows.{resumed}
use Rattle.fed_consent.specs.declared.table.input.Input.{Input}
use Rattle.fed_consent.specs.declared.table.input.Input.TheVariants as inputs
use Rattle.fed_consent.specs.declared.table.why.Why.{Why}
use Rattle.fed_consent.specs.declared.table.why.Why.TheVariants.{NoCall}
use Rattle.fed_script.specs.declared.event.Event.{Event}
use Rattle.fed_script.specs.declared.event.Event.TheVariants as events
use Rattle.fed_script.specs.declared.event.Event.TheVariants.{Load, ClosePage, Get, Disconnect, IdpClose}
use Rattle.fed_trace.specs.Begun.{Begun, CallKind, CallOptions, ToGet, ToDisconnect, kind_asked}
use Rattle.fed_trace.specs.Call.{Known, OfGet, first_row}
use Rattle.fed_trace.specs.OfCall.{asked, given, dropped, replaces}
use Rattle.fed_trace.specs.Effect.{Effect, Time, Page, Closed, Begin, Move, Ignored, last_of, page_change, call_change}
use Rattle.fed_trace.specs.Effect.{stage_change, begins}
use Rattle.fed_trace.specs.Keyed.{Change, last_said, says}
use Rattle.fed_trace.specs.Known.{world_at, is_begun, input_to, known_at}
use Rattle.fed_trace.specs.Row.{effects_of, cookies_with, load_changes, outcome_effects, input_effects, ends_of, close_effects}
use Rattle.fed_trace.specs.Row.{cookie_effects, login_effects, set_logins}
use Rattle.fed_trace.specs.Trace.{Trace, page_at, pending, pending_of}
use Rattle.fed_trace.specs.Windows.{windows_of}
use Rattle.fed_trace.proofs.calls.Pending.{is_among, ends_silent, load_rest_silent}
use Rattle.fed_trace.proofs.events.Aside.{IsPlain}
use Rattle.fed_trace.proofs.effects.Silent.{AllSilent, said_silent, last_silent, last_said_silent, silent_append}
use Rattle.fed_trace.proofs.known.Known.{said_of}
use Rattle.fed_trace.proofs.happens.Says.{Quiet, own}

-- the event that brings an input to the call; none brings a Resume
abbrev pub event_for : ℕ → Input → Option Event
event_for call (inputs.Reply provider kind raw) = Some (events.Reply call provider kind raw)
event_for call (inputs.Choose provider account) = Some (events.Choose call provider account)
event_for call inputs.GoOn = Some (events.GoOn call)
event_for call inputs.Cancel = Some (events.Cancel call)
event_for call inputs.Abort = Some (events.Abort call)
event_for call inputs.SignIn = Some (events.SignIn call)
event_for call inputs.Shut = Some (events.ShutWindow call)
event_for call inputs.Resume = None

-- the event takes an input to the call
pub record Takes (T : Trace) (event : Event) (call : ℕ) : Type 0 where
  pub begun : is_begun T call ≡ true
  pub input : Input
  pub is_event : Some event ≡ event_for call input
  pub input_is : input_to call event ≡ Some input
  pub effects : effects_of T event ≡ input_effects (world_at T) (cookies_with T) true call (known_at T call) input

-- the event by which a call with these options begins
abbrev pub beginning : ℕ → ℕ → CallOptions → Event
beginning page call (ToGet options) = Get page call options
beginning page call (ToDisconnect options) = Disconnect page call options.config options.client options.hint

-- the call begins by the event
pub record Starts (T : Trace) (event : Event) (call : ℕ) : Type 0 where
  pub begun : Begun
  pub is_call : begun.call ≡ call
  pub stands : page_at T begun.page ≡ Some begun.origin
  pub is_event : event ≡ beginning begun.page begun.call begun.options
  pub busy : Bool
  pub effects : effects_of T event
      ≡ Begin begun ∷ outcome_effects (world_at T) (cookies_with T) (kind_asked begun.options) begun.call begun.page
      (first_row (world_at T) busy begun.origin begun.options)

-- the event leaves the call as it was
pub record Leaves (T : Trace) (event : Event) (call : ℕ) : Type 0 where
  pub quiet : Quiet call (effects_of T event)
  pub same : (k : Known) → said_of T event call k ≡ k
  -- it brings no input to the call, or one that is ignored since the call never began
  pub untaken : (input_to call event ≡ None) ⊎ ((effects_of T event ≡ Ignored NoCall ∷ []) × (is_begun T call ≡ false))
  -- where it loads or closes a page, the call is not pending there
  pub apart : (page : ℕ) → replaces page event ≡ true → (is_among call (pending_of T page) ≡ false) ⊎ (page_at T page ≡ None)

-- the call ends with its page
pub record EndsWithPage (T : Trace) (event : Event) (call : ℕ) : Type 0 where
  pub stage : last_said nat_eq stage_change call (effects_of T event) ≡ Some (Some Ended)
  pub begins_none : last_of (begins call) (effects_of T event) ≡ None
  pub asks : filter_map (asked call) (effects_of T event) ≡ []
  pub gives : filter_map (given call) (effects_of T event) ≡ []
  pub drops : filter_map (dropped call) (effects_of T event) ≡ []
  pub unsaid : input_to call event ≡ None
  -- the page that the event loads or closes, where the call is pending
  pub page : ℕ
  pub replaced : replaces page event ≡ true
  pub there : is_among call (pending_of T page) ≡ true

-- the call waits for the origin of the event's page, and goes on
pub record Resumes (T : Trace) (event : Event) (call : ℕ) : Type 0 where
  pub page : ℕ
  pub is_event : event ≡ IdpClose page
  pub origin : Origin
  pub stands : page_at T page ≡ Some origin
  pub waits : list_any (nat_eq call) (windows_of T origin) ≡ true
  pub facts : Facts
  pub found : known_at T call ≡ Some (OfGet facts)
  pub at_window : facts.stage ≡ Window
  pub stage : last_said nat_eq stage_change call (effects_of T event) ≡ option_map Some (resumed facts Window).stage
  pub pending : last_said nat_eq call_change call (effects_of T event) ≡ None
  pub begins_none : last_of (begins call) (effects_of T event) ≡ None
  pub asks : filter_map (asked call) (effects_of T event) ≡ []
  pub gives : filter_map (given call) (effects_of T event) ≡ []
  pub drops : filter_map (dropped call) (effects_of T event) ≡ []

pub data Happens (T : Trace) (event : Event) (call : ℕ) : Type 0 where
  Left : Leaves T event call → Happens T event call
  Ends : EndsWithPage T event call → Happens T event call
  Started : Starts T event call → Happens T event call
  Took : Takes T event call → Happens T event call
  Resumed : Resumes T event call → Happens T event call

-- ---- events of no call

-- a reading of effects that the world's own effects do not say
pub record IsDull {A : Type 0} (said : Effect → Option A) : Type 0 where
  pub plain : IsPlain said
  pub time : (time : ℕ) → said (Time time) ≡ None
  pub ignored : (why : Why) → said (Ignored why) ≡ None

pub dull_stage : IsDull stage_change
dull_stage =
    record {
      plain = record { cookie = λ c. refl; login = λ o s. refl; kept = λ t k. refl; flag = λ o k. refl };
      time = λ t. refl;
      ignored = λ w. refl;
    }

pub dull_call : IsDull call_change
dull_call =
    record {
      plain = record { cookie = λ c. refl; login = λ o s. refl; kept = λ t k. refl; flag = λ o k. refl };
      time = λ t. refl;
      ignored = λ w. refl;
    }

pub dull_page : IsDull page_change
dull_page =
    record {
      plain = record { cookie = λ c. refl; login = λ o s. refl; kept = λ t k. refl; flag = λ o k. refl };
      time = λ t. refl;
      ignored = λ w. refl;
    }

pub dull_begins : (call : ℕ) → IsDull (begins call)
dull_begins call =
    record {
      plain = record { cookie = λ c. refl; login = λ o s. refl; kept = λ t k. refl; flag = λ o k. refl };
      time = λ t. refl;
      ignored = λ w. refl;
    }

pub dull_asked : (call : ℕ) → IsDull (asked call)
dull_asked call =
    record {
      plain = record { cookie = λ c. refl; login = λ o s. refl; kept = λ t k. refl; flag = λ o k. refl };
      time = λ t. refl;
      ignored = λ w. refl;
    }

pub dull_given : (call : ℕ) → IsDull (given call)
dull_given call =
    record {
      plain = record { cookie = λ c. refl; login = λ o s. refl; kept = λ t k. refl; flag = λ o k. refl };
      time = λ t. refl;
      ignored = λ w. refl;
    }

pub dull_dropped : (call : ℕ) → IsDull (dropped call)
dull_dropped call =
    record {
      plain = record { cookie = λ c. refl; login = λ o s. refl; kept = λ t k. refl; flag = λ o k. refl };
      time = λ t. refl;
      ignored = λ w. refl;
    }

-- effects that say nothing
pub quiet_silent : (call : ℕ) (effects : List Effect) → AllSilent stage_change effects → AllSilent call_change effects
    → AllSilent (begins call) effects
    → AllSilent (asked call) effects → AllSilent (given call) effects → AllSilent (dropped call) effects → Quiet call effects
quiet_silent call effects stage pending begins_none asks gives drops =
    record {
      stage = last_said_silent nat_eq stage_change call effects stage;
      pending = last_said_silent nat_eq call_change call effects pending;
      begins_none = last_silent (begins call) effects begins_none;
      asks = said_silent (asked call) effects asks;
      gives = said_silent (given call) effects gives;
      drops = said_silent (dropped call) effects drops;
    }

pub quiet_ignored : (call : ℕ) (why : Why) → Quiet call (Ignored why ∷ [])
quiet_ignored call why = record { stage = refl; pending = refl; begins_none = refl; asks = refl; gives = refl; drops = refl }

-- an event that loads and closes no page, brings no input, and says nothing
pub left : (T : Trace) (event : Event) (call : ℕ) → Quiet call (effects_of T event) → ((k : Known) → said_of T event call k ≡ k)
    → (input_to call event ≡ None) ⊎ ((effects_of T event ≡ Ignored NoCall ∷ []) × (is_begun T call ≡ false))
    → ((page : ℕ) → replaces page event ≡ false) → Happens T event call
left T event call quiet same untaken none =
    Left (record {
      quiet = quiet;
      same = same;
      untaken = untaken;
      apart = λ page h. let no : false ≡ true = sym (none page) ∙ h in
          absurd (cc);
    })

-- ---- pages

-- before silence, what was said is said
pub last_said_front : {V : Type 0} (change : Effect → Option (Change ℕ V)) (q : ℕ) (xs ys : List Effect) → AllSilent change ys
    → last_said nat_eq change q (xs ++ ys) ≡ last_said nat_eq change q xs
last_said_front change q [] ys h = last_said_silent nat_eq change q ys h
last_said_front change q (x ∷ xs) ys h = ap (λ o. option_or o (says nat_eq q (change x))) (last_said_front change q xs ys h)

-- ends of other calls
pub ends_apart : {V : Type 0} (change : Effect → Option (Change ℕ V)) (v : Option V)
    → ((kind : CallKind) (call : ℕ) → change (Move kind call Ended) ≡ Some (call, v))
    → (q : ℕ) (calls : List (ℕ × CallKind)) → is_among q calls ≡ false → last_said nat_eq change q (ends_of calls) ≡ None
ends_apart change v is q [] h = refl
ends_apart change v is q (c ∷ calls) h =
    let here : nat_eq q c.0 ≡ false = grind (arith, nat_tests, h) in
    let more : is_among q calls ≡ false = grind (arith, nat_tests, h) in
    ap (λ o. option_or o (says nat_eq q (change (Move c.1 c.0 Ended)))) (ends_apart change v is q calls more)
    ∙ ap (says nat_eq q) (is c.1 c.0) ∙ ap (λ b. cond b (Some v) None) here

-- ends that are of the call too
pub ends_hit : (q : ℕ) (calls : List (ℕ × CallKind)) → is_among q calls ≡ true
    → last_said nat_eq stage_change q (ends_of calls) ≡ Some (Some Ended)
ends_hit q [] h = absurd (cc)
ends_hit q (c ∷ calls) h = go (is_among q calls) refl (ends_hit q calls)
  where
    go : (more : Bool) → is_among q calls ≡ more → (is_among q calls ≡ true
        → last_said nat_eq stage_change q (ends_of calls) ≡ Some (Some Ended))
        → last_said nat_eq stage_change q (ends_of (c ∷ calls)) ≡ Some (Some Ended)
    go true is rest = ap (λ o. option_or o (says nat_eq q (Some (c.0, Some Ended)))) (rest is)
    go false is rest =
        let here : nat_eq q c.0 ≡ true = grind (arith, nat_tests, h, is) in
        ap (λ o. option_or o (says nat_eq q (Some (c.0, Some Ended)))) (ends_apart stage_change (Some Ended) (λ n c. refl) q calls is)
        ∙ ap (λ b. cond b (Some (Some Ended)) None) here

-- where the calls of a page end, and what comes after says nothing of calls
happens_ends : (T : Trace) (event : Event) (q page : ℕ) (rest : List Effect) → effects_of T event ≡ ends_of (pending_of T page) ++ rest
    → AllSilent stage_change rest → AllSilent call_change rest → AllSilent (begins q) rest → AllSilent (asked q) rest
    → AllSilent (given q) rest → AllSilent (dropped q) rest
    → ((other : ℕ) → replaces other event ≡ nat_eq other page) → ((k : Known) → said_of T event q k ≡ k)
    → input_to q event ≡ None
    → Happens T event q
happens_ends T event q page rest effects stage pending begins_none asks gives drops replaced same unsaid =
    go (is_among q (pending_of T page)) refl
  where
    silent : {A : Type 0} (said : Effect → Option A) → ((kind : CallKind) (call : ℕ) → said (Move kind call Ended) ≡ None)
        → AllSilent said rest → AllSilent said (effects_of T event)
    silent said move h =
        subst (AllSilent said) (sym effects) (silent_append said (ends_of (pending_of T page)) rest
        (ends_silent said move (pending_of T page)) h)

    go : (there : Bool) → is_among q (pending_of T page) ≡ there → Happens T event q
    go true is =
        Ends (record {
          stage =
              ap (last_said nat_eq stage_change q) effects ∙ last_said_front stage_change q (ends_of (pending_of T page)) rest stage
              ∙ ends_hit q (pending_of T page) is;
          begins_none = last_silent (begins q) (effects_of T event) (silent (begins q) (λ n c. refl) begins_none);
          asks = said_silent (asked q) (effects_of T event) (silent (asked q) (λ n c. refl) asks);
          gives = said_silent (given q) (effects_of T event) (silent (given q) (λ n c. refl) gives);
          drops = said_silent (dropped q) (effects_of T event) (silent (dropped q) (λ n c. refl) drops);
          unsaid = unsaid;
          page = page;
          replaced = replaced page ∙ own page;
          there = is;
        })
    go false is =
        Left (record {
          quiet = record {
            stage = ap (last_said nat_eq stage_change q) effects ∙ last_said_front stage_change q (ends_of (pending_of T page)) rest stage
                ∙ ends_apart stage_change (Some Ended) (λ n c. refl) q (pending_of T page) is;
            pending = ap (last_said nat_eq call_change q) effects ∙ last_said_front call_change q (ends_of (pending_of T page)) rest pending
                ∙ ends_apart call_change None (λ n c. refl) q (pending_of T page) is;
            begins_none = last_silent (begins q) (effects_of T event) (silent (begins q) (λ n c. refl) begins_none);
            asks = said_silent (asked q) (effects_of T event) (silent (asked q) (λ n c. refl) asks);
            gives = said_silent (given q) (effects_of T event) (silent (given q) (λ n c. refl) gives);
            drops = said_silent (dropped q) (effects_of T event) (silent (dropped q) (λ n c. refl) drops);
          };
          same = same;
          untaken = inl unsaid;
          apart = λ other h.
              let key : other ≡ page = let hit : nat_eq other page ≡ true = sym (replaced other) ∙ h in grind (arith, nat_tests, hit) in
              inl (subst (λ p. is_among q (pending_of T p) ≡ false) (sym key) is);
        })

pub happens_load : (T : Trace) (page : ℕ) (url : Parts) (raw : Option (List ℕ)) (q : ℕ) → Happens T (Load page url raw) q
happens_load T page url raw q =
    let found = load_changes T url raw in
    let statuses = set_logins raw in
    let origin = origin_of url in
    happens_ends T (Load page url raw) q page (Page page origin ∷ (cookie_effects found ++ login_effects origin statuses)) refl
    (refl, load_rest_silent stage_change (λ c. refl) (λ o s. refl) found origin statuses)
    (refl, load_rest_silent call_change (λ c. refl) (λ o s. refl) found origin statuses)
    (refl, load_rest_silent (begins q) (λ c. refl) (λ o s. refl) found origin statuses)
    (refl, load_rest_silent (asked q) (λ c. refl) (λ o s. refl) found origin statuses)
    (refl, load_rest_silent (given q) (λ c. refl) (λ o s. refl) found origin statuses)
    (refl, load_rest_silent (dropped q) (λ c. refl) (λ o s. refl) found origin statuses)
    (λ other. refl) (λ k. refl) refl

pub happens_close : (T : Trace) (page q : ℕ) (o : Option Origin) → page_at T page ≡ o → Happens T (ClosePage page) q
happens_close T page q (Some origin) is =
    happens_ends T (ClosePage page) q page (Closed page ∷ []) (ap (close_effects (pending_of T page) page) is)
    (refl, tt) (refl, tt) (refl, tt) (refl, tt) (refl, tt) (refl, tt) (λ other. refl) (λ k. refl) refl
happens_close T page q None is =
    Left (record {
      quiet = subst (Quiet q) (sym (ap (close_effects (pending_of T page) page) is)) (quiet_ignored q _);
      same = λ k. refl;
      untaken = inl refl;
      apart = λ other h.
          let key : other ≡ page = let hit : nat_eq other page ≡ true = h in grind (arith, nat_tests, hit) in
          inr (subst (λ p. page_at T p ≡ None) (sym key) is);
    })
