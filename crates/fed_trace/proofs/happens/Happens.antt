-- What an event does to a call.
use Rattle.std.proofs.Common.{◌≡◌, ℕ, Bool, true, false, nat_eq, ◌⊎◌, inl, inr, List, [], ◌∷◌, ◌++◌, Option, Some}
use Rattle.std.proofs.Common.{None, refl, sym, ap}
use Rattle.std.proofs.Common.{subst, ◌∙◌, arith, cond}
use Rattle.std.proofs.lemmas.Bool.Decides.{nat_tests}
use Rattle.std.specs.Option.{option_or}
use Rattle.std.specs.List.{list_any}
use Rattle.fed_origin.specs.declared.origin.Origin.{Origin}
use Rattle.fed_origin.specs.Origin.{is_trustworthy}
use Rattle.fed_origin.specs.WebUrl.{origin_of}
use Rattle.fed_status.specs.Shared.{World}
use Rattle.fed_consent.specs.declared.table.ask.Ask.{Ask}
use Rattle.fed_consent.specs.declared.table.input.Input.{Input}
use Rattle.fed_consent.specs.declared.table.input.Input.TheVariants as inputs
use Rattle.fed_consent.specs.Outcomes.{Outcome}
use Rattle.fed_consent.specs.declared.table.why.Why.TheVariants.{NoCall}
use Rattle.fed_script.specs.declared.event.Event.{Event}
use Rattle.fed_script.specs.declared.event.Event.TheVariants as events
use Rattle.fed_script.specs.declared.event.Event.TheVariants.{At, Load, ClosePage, Get, IdpClose, Prevent, SetStatus, Disconnect}
use Rattle.fed_disconnect.specs.Facts.{disconnect_options}
use Rattle.fed_trace.specs.Begun.{Begun, CallKind, CallOptions, ToGet, ToDisconnect, kind_asked}
use Rattle.fed_trace.specs.Call.{Known, kind_of, page_of, first_row, input_row}
use Rattle.fed_trace.specs.OfCall.{asked, given, dropped, replaces}
use Rattle.fed_trace.specs.Effect.{Effect, pending_from, Page, Closed, Login, Flag, Begin, Ignored, page_change, call_change}
use Rattle.fed_trace.specs.Effect.{stage_change, begins}
use Rattle.fed_trace.specs.Effect.{is_ignored}
use Rattle.fed_trace.specs.Keyed.{last_said, says}
use Rattle.fed_trace.specs.Known.{world_at, is_begun, input_to, with_said, known_at}
use Rattle.fed_trace.specs.Row.{effects_of, cookies_with, load_changes, outcome_effects, standing_call, begin_effects, input_effects}
use Rattle.fed_trace.specs.Row.{is_busy, ends_of, close_effects, cookie_effects, login_effects, have_changes, have_states, page_says}
use Rattle.fed_trace.specs.Row.{set_logins}
use Rattle.fed_trace.specs.Trace.{Trace, page_at, pending_of, gets}
use Rattle.fed_trace.specs.Windows.{windows_of}
use Rattle.fed_trace.proofs.calls.Resumed.{idpclose_silent}
use Rattle.fed_trace.proofs.effects.Outcome.{last_said_after}
use Rattle.fed_trace.proofs.calls.Pending.{ends_silent, load_rest_silent}
use Rattle.fed_trace.proofs.effects.Silent.{last_said_silent}
use Rattle.fed_trace.proofs.events.Aside.{have_silent, says_silent}
use Rattle.fed_trace.proofs.known.Known.{ignored_says, said_of}
use Rattle.fed_trace.proofs.happens.Says.{Quiet, own, outcome_pages, quiet_other}
use Rattle.fed_trace.proofs.happens.Ends.{Takes, Happens, beginning, event_for, dull_stage, dull_call, dull_page, dull_begins}
use Rattle.fed_trace.proofs.happens.Ends.{dull_asked, dull_given, dull_dropped, quiet_silent, quiet_ignored, left, happens_load}
use Rattle.fed_trace.proofs.happens.Ends.{happens_close, Started}
use Rattle.fed_trace.proofs.happens.Ends.{Took}
use Rattle.fed_trace.proofs.happens.Resumed.{happens_idpclose}

-- ---- a call that begins

quiet_begin : (world : World) (cookies : Ask → List ℕ) (q : ℕ) (b : Begun) → nat_eq q b.call ≡ false → (outcome : Outcome)
    → Quiet q (Begin b ∷ outcome_effects world cookies (kind_asked b.options) b.call b.page outcome)
quiet_begin world cookies q b ne outcome =
    let rest = quiet_other world cookies q (kind_asked b.options) b.call b.page ne outcome in
    record {
      stage = ap (λ o. option_or o None) rest.stage;
      pending =
          ap (λ o. option_or o (cond (nat_eq q b.call) (Some (Some (pending_from b))) None)) rest.pending
          ∙ ap (λ t. cond t (Some (Some (pending_from b))) None) ne;
      begins_none = ap (λ o. option_or o (cond (nat_eq q b.call) (Some b) None)) rest.begins_none ∙ ap (λ t. cond t (Some b) None) ne;
      asks = rest.asks;
      gives = rest.gives;
      drops = rest.drops;
    }

happens_begin : (T : Trace) (event : Event) (page call : ℕ) (options : CallOptions) (q : ℕ) (o : Option Origin) → page_at T page ≡ o
    → event ≡ beginning page call options
    → effects_of T event ≡ begin_effects (world_at T) (cookies_with T) (page_at T page) (is_busy page (gets T)) page call options
    → ((k : Known) → said_of T event q k ≡ k) → input_to q event ≡ None → ((other : ℕ) → replaces other event ≡ false)
    → Happens T event q
happens_begin T event page call options q None is is_event effects same unsaid none =
    left T event q
    (subst (Quiet q) (sym (effects ∙ ap (λ o. begin_effects (world_at T) (cookies_with T) o (is_busy page (gets T)) page call
    options) is))
    (quiet_ignored q _))
    same (inl unsaid) none
happens_begin T event page call options q (Some origin) is is_event effects same unsaid none = go (is_trustworthy origin) refl
  where
    b : Begun
    b = record { call = call; page = page; origin = origin; options = options }

    standing : (trusted : Bool) → is_trustworthy origin ≡ trusted
        → effects_of T event ≡ standing_call (world_at T) (cookies_with T) trusted (is_busy page (gets T)) b
    standing trusted trust =
        effects ∙ ap (λ o. begin_effects (world_at T) (cookies_with T) o (is_busy page (gets T)) page call options) is
        ∙ ap (λ t. standing_call (world_at T) (cookies_with T) t (is_busy page (gets T)) b) trust

    taken : (own : Bool) → nat_eq q call ≡ own → is_trustworthy origin ≡ true → Happens T event q
    taken true key trust =
        let same_call : call ≡ q = grind (arith, nat_tests, key) in
        Started (record {
          begun = b;
          is_call = same_call;
          stands = is;
          is_event = is_event;
          busy = is_busy page (gets T);
          effects = standing true trust;
        })
    taken false key trust =
        left T event q
        (subst (Quiet q) (sym (standing true trust)) (quiet_begin (world_at T) (cookies_with T) q b key
        (first_row (world_at T) (is_busy page (gets T)) origin options)))
        same (inl unsaid) none

    go : (trusted : Bool) → is_trustworthy origin ≡ trusted → Happens T event q
    go false trust =
        left T event q (subst (Quiet q) (sym (standing false trust)) (quiet_ignored q _)) same (inl unsaid) none
    go true trust = taken (nat_eq q call) refl trust

-- ---- an input

happens_input : (T : Trace) (event : Event) (call : ℕ) (input : Input) (q : ℕ)
    → effects_of T event ≡ input_effects (world_at T) (cookies_with T) (is_begun T call) call (known_at T call) input
    → ((other : ℕ) → input_to other event ≡ cond (nat_eq other call) (Some input) None) → Some event ≡ event_for call input
    → ((other : ℕ) → replaces other event ≡ false) → Happens T event q
happens_input T event call input q effects said is_event none = go (is_begun T call) refl
  where
    by : (begun : Bool) → is_begun T call ≡ begun
        → effects_of T event ≡ input_effects (world_at T) (cookies_with T) begun call (known_at T call) input
    by begun is = effects ∙ ap (λ b. input_effects (world_at T) (cookies_with T) b call (known_at T call) input) is

    quiet_input : (known : Option Known) → nat_eq q call ≡ false
        → Quiet q (input_effects (world_at T) (cookies_with T) true call known input)
    quiet_input None key = quiet_ignored q _
    quiet_input (Some k) key = quiet_other (world_at T) (cookies_with T) q (kind_of k) call (page_of k) key (input_row (world_at T) k input)

    taken : (own : Bool) → nat_eq q call ≡ own → is_begun T call ≡ true → Happens T event q
    taken true key is =
        let same : call ≡ q = grind (arith, nat_tests, key) in
        let for_call : Takes T event call =
        record {
          begun = is;
          input = input;
          is_event = is_event;
          input_is =
              said call ∙ ap (λ b. cond b (Some input) None) (own call);
          effects = by true is;
        } in
        Took (subst (Takes T event) same for_call)
    taken false key is =
        left T event q
        (subst (Quiet q) (sym (by true is)) (quiet_input (known_at T call) key))
        (λ k. ap (λ i. with_said (world_at T) (list_any is_ignored (effects_of T event)) i k) (said q
        ∙ ap (λ b. cond b (Some input) None) key))
        (inl (said q ∙ ap (λ b. cond b (Some input) None) key)) none

    refused : (own : Bool) → nat_eq q call ≡ own → is_begun T call ≡ false
        → (input_to q event ≡ None) ⊎ ((effects_of T event ≡ Ignored NoCall ∷ []) × (is_begun T q ≡ false))
    refused true key is =
        let same : call ≡ q = grind (arith, nat_tests, key) in
        inr (by false is, subst (λ c. is_begun T c ≡ false) same is)
    refused false key is = inl (said q ∙ ap (λ b. cond b (Some input) None) key)

    go : (begun : Bool) → is_begun T call ≡ begun → Happens T event q
    go false is =
        left T event q (subst (Quiet q) (sym (by false is)) (quiet_ignored q _))
        (λ k. ap (λ effects. with_said (world_at T) (list_any is_ignored effects) (input_to q event) k) (by false is)
        ∙ ignored_says (world_at T) (input_to q event) k)
        (refused (nat_eq q call) refl is) none
    go true is = taken (nat_eq q call) refl is

-- ---- a page that says something of its origin

happens_says : (T : Trace) (event : Event) (q page : ℕ) (says : Origin → Effect)
    → effects_of T event ≡ page_says (page_at T page) says
    → ((o : Origin) → stage_change (says o) ≡ None) → ((o : Origin) → call_change (says o) ≡ None)
    → ((o : Origin) → begins q (says o) ≡ None)
    → ((o : Origin) → asked q (says o) ≡ None) → ((o : Origin) → given q (says o) ≡ None)
    → ((o : Origin) → dropped q (says o) ≡ None)
    → ((k : Known) → said_of T event q k ≡ k) → input_to q event ≡ None → ((other : ℕ) → replaces other event ≡ false)
    → Happens T event q
happens_says T event q page says effects stage pending begins_none asks gives drops same unsaid none =
    left T event q (subst (Quiet q) (sym effects)
    (quiet_silent q (page_says (page_at T page) says)
    (says_silent stage_change says stage dull_stage.ignored (page_at T page))
    (says_silent call_change says pending dull_call.ignored (page_at T page))
    (says_silent (begins q) says begins_none (dull_begins q).ignored (page_at T page))
    (says_silent (asked q) says asks (dull_asked q).ignored (page_at T page))
    (says_silent (given q) says gives (dull_given q).ignored (page_at T page))
    (says_silent (dropped q) says drops (dull_dropped q).ignored (page_at T page))))
    same (inl unsaid) none

pub happens : (T : Trace) (event : Event) (q : ℕ) → Happens T event q
happens T (events.Have have) q =
    let found = have_changes T have in
    left T (events.Have have) q
    (quiet_silent q (cookie_effects found
    ++ have_states have) (have_silent stage_change dull_stage.plain found have) (have_silent call_change dull_call.plain found have)
    (have_silent (begins q) (dull_begins q).plain found have) (have_silent (asked q) (dull_asked q).plain found have)
    (have_silent (given q) (dull_given q).plain found have)
    (have_silent (dropped q) (dull_dropped q).plain found have))
    (λ k. refl) (inl refl) (λ other. refl)
happens T (At time) q =
    left T (At time) q (record {
      stage = refl;
      pending = refl;
      begins_none = refl;
      asks = refl;
      gives = refl;
      drops =
          refl;
    }) (λ k. refl) (inl
    refl) (λ other. refl)
happens T (Prevent page) q = happens_says T (Prevent page) q page (λ origin. Flag origin true) refl
    (λ o. refl) (λ o. refl) (λ o. refl) (λ o. refl) (λ o. refl) (λ o. refl) (λ k. refl) refl (λ other. refl)
happens T (SetStatus page status) q = happens_says T (SetStatus page status) q page (λ origin. Login origin status) refl
    (λ o. refl) (λ o. refl) (λ o. refl) (λ o. refl) (λ o. refl) (λ o. refl) (λ k. refl) refl (λ other. refl)
happens T (Load page url raw) q = happens_load T page url raw q
happens T (ClosePage page) q = happens_close T page q (page_at T page) refl
happens T (Get page call options) q =
    happens_begin T (Get page call options) page call (ToGet options) q (page_at T page) refl refl refl (λ k. refl) refl (λ other. refl)
happens T (Disconnect page call config client hint) q =
    happens_begin T (Disconnect page call config client hint) page call
    (ToDisconnect (disconnect_options config client hint)) q (page_at T page) refl refl refl (λ k. refl) refl
    (λ other. refl)
happens T (events.Abort call) q = happens_input T (events.Abort call) call inputs.Abort q refl (λ other. refl) refl (λ other. refl)
happens T (events.Reply call provider kind raw) q =
    happens_input T (events.Reply call provider kind raw) call (inputs.Reply provider kind raw) q refl (λ other. refl) refl (λ other. refl)
happens T (events.Choose call provider account) q =
    happens_input T (events.Choose call provider account) call (inputs.Choose provider account) q refl (λ other. refl) refl (λ other. refl)
happens T (events.GoOn call) q = happens_input T (events.GoOn call) call inputs.GoOn q refl (λ other. refl) refl (λ other. refl)
happens T (events.Cancel call) q = happens_input T (events.Cancel call) call inputs.Cancel q refl (λ other. refl) refl (λ other. refl)
happens T (events.SignIn call) q = happens_input T (events.SignIn call) call inputs.SignIn q refl (λ other. refl) refl (λ other. refl)
happens T (events.ShutWindow call) q =
    happens_input T (events.ShutWindow call) call inputs.Shut q refl (λ other. refl) refl (λ other. refl)
happens T (IdpClose page) q = happens_idpclose T page q (page_at T page) refl

-- ---- pages that an event leaves

other_page : (q page : ℕ) (said : Option (Option Origin)) (v : Option Origin) → nat_eq q page ≡ false → said ≡ None
    → option_or said (says nat_eq q (Some (page, v))) ≡ None
other_page q page said v ne none = ap (λ o. option_or o (cond (nat_eq q page) (Some v) None)) none ∙ ap (λ b. cond b (Some v) None) ne

input_pages : (T : Trace) (event : Event) (call : ℕ) (input : Input) (q : ℕ)
    → effects_of T event ≡ input_effects (world_at T) (cookies_with T) (is_begun T call) call (known_at T call) input
    → last_said nat_eq page_change q (effects_of T event) ≡ None
input_pages T event call input q effects = ap (last_said nat_eq page_change q) effects ∙ go (is_begun T call)
  where
    go : (begun : Bool) → last_said nat_eq page_change q (input_effects (world_at T) (cookies_with T) begun call (known_at T call) input)
        ≡ None
    go false = refl
    go true = taken (known_at T call)
      where
        taken : (known : Option Known) → last_said nat_eq page_change q (input_effects (world_at T) (cookies_with T) true call known
            input)
            ≡ None
        taken None = refl
        taken (Some k) = outcome_pages (world_at T) (cookies_with T) (kind_of k) call (page_of k) q (input_row (world_at T) k input)

begin_pages : (world : World) (cookies : Ask → List ℕ) (o : Option Origin) (busy : Bool) (page call q : ℕ) (options : CallOptions)
    → last_said nat_eq page_change q (begin_effects world cookies o busy page call options) ≡ None
begin_pages world cookies None busy page call q options = refl
begin_pages world cookies (Some origin) busy page call q options = go (is_trustworthy origin)
  where
    go : (trusted : Bool) → last_said nat_eq page_change q
        (standing_call world cookies trusted busy (record { call = call; page = page; origin = origin; options = options })) ≡ None
    go false = refl
    go true =
        ap (λ o. option_or o None) (outcome_pages world cookies (kind_asked options) call page q (first_row world busy origin options))

close_pages : (calls : List (ℕ × CallKind)) (page q : ℕ) (o : Option Origin) → nat_eq q page ≡ false
    → last_said nat_eq page_change q (close_effects calls page o) ≡ None
close_pages calls page q None ne = refl
close_pages calls page q (Some origin) ne =
    last_said_after nat_eq page_change q (ends_of calls) (Closed page ∷ []) (ends_silent page_change (λ n c. refl) calls)
    ∙ other_page q page None None ne refl

pub pages_left : (T : Trace) (event : Event) (q : ℕ) → replaces q event ≡ false → last_said nat_eq page_change q (effects_of T event) ≡ None
pages_left T (events.Have have) q h =
    let found = have_changes T have in
    last_said_silent nat_eq page_change q (cookie_effects found ++ have_states have) (have_silent page_change dull_page.plain found have)
pages_left T (At time) q h = refl
pages_left T (Prevent page) q h =
    last_said_silent nat_eq page_change q (page_says (page_at T page) (λ origin. Flag origin true))
    (says_silent page_change (λ origin. Flag origin true) (λ o. refl) dull_page.ignored (page_at T page))
pages_left T (SetStatus page status) q h =
    last_said_silent nat_eq page_change q (page_says (page_at T page) (λ origin. Login origin status))
    (says_silent page_change (λ origin. Login origin status) (λ o. refl) dull_page.ignored (page_at T page))
pages_left T (Load page url raw) q h =
    let found = load_changes T url raw in
    let rest = cookie_effects found ++ login_effects (origin_of url) (set_logins raw) in
    last_said_after nat_eq page_change q (ends_of (pending_of T page)) (Page page (origin_of url)
    ∷ rest) (ends_silent page_change (λ n c. refl) (pending_of T page))
    ∙ other_page q page (last_said nat_eq page_change q rest) (Some (origin_of url)) h
    (last_said_silent nat_eq page_change q rest (load_rest_silent page_change (λ c. refl) (λ o s. refl) found (origin_of url)
    (set_logins raw)))
pages_left T (ClosePage page) q h = close_pages (pending_of T page) page q (page_at T page) h
pages_left T (Get page call options) q h =
    begin_pages (world_at T) (cookies_with T) (page_at T page) (is_busy page (gets T)) page call q (ToGet options)
pages_left T (Disconnect page call config client hint) q h =
    begin_pages (world_at T) (cookies_with T) (page_at T page) (is_busy page (gets T)) page call q
    (ToDisconnect (disconnect_options config client hint))
pages_left T (events.Abort call) q h = input_pages T (events.Abort call) call inputs.Abort q refl
pages_left T (events.Reply call provider kind raw) q h =
    input_pages T (events.Reply call provider kind raw) call (inputs.Reply provider kind raw) q refl
pages_left T (events.Choose call provider account) q h =
    input_pages T (events.Choose call provider account) call (inputs.Choose provider account) q refl
pages_left T (events.GoOn call) q h = input_pages T (events.GoOn call) call inputs.GoOn q refl
pages_left T (events.Cancel call) q h = input_pages T (events.Cancel call) call inputs.Cancel q refl
pages_left T (events.SignIn call) q h = input_pages T (events.SignIn call) call inputs.SignIn q refl
pages_left T (events.ShutWindow call) q h = input_pages T (events.ShutWindow call) call inputs.Shut q refl
pages_left T (IdpClose page) q h =
    last_said_silent nat_eq page_change q (effects_of T (IdpClose page))
    (idpclose_silent page_change (record { ignored = λ w. refl; sent = λ n c p t k. refl; move = λ n c. refl }) (world_at T)
    (cookies_with T) (known_at T) (windows_of T) (page_at T page))
