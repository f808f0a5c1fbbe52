-- The sign-in requests of an event are those of gets, but of an event that begins a disconnect, which sends none.
use Rattle.std.proofs.Common.{◌≡◌, ℕ, Bool, true, false, List, [], ◌∷◌, ◌++◌, Option, Some, None, refl, sym, ap, ap₂}
use Rattle.std.proofs.Common.{◌∙◌}
use Rattle.std.proofs.lemmas.List.Elements.{filter_map-append}
use Rattle.std.specs.List.{filter_map, flat_map, cons_option}
use Rattle.fed_origin.specs.declared.options.GetOptions.{GetOptions}
use Rattle.fed_origin.specs.declared.origin.Origin.{Origin}
use Rattle.fed_origin.specs.declared.stage.Stage.{Stage}
use Rattle.fed_origin.specs.Origin.{is_trustworthy}
use Rattle.fed_status.specs.Kept.{triples_of_pair}
use Rattle.fed_status.specs.Shared.{World}
use Rattle.fed_consent.specs.declared.table.ask.Ask.{Ask}
use Rattle.fed_consent.specs.declared.table.ask.Ask.TheVariants as asks
use Rattle.fed_consent.specs.declared.table.effect.Effect.{Effect as CallEffect}
use Rattle.fed_consent.specs.declared.table.effect.Effect.TheVariants as does
use Rattle.fed_consent.specs.declared.table.input.Input.{Input}
use Rattle.fed_consent.specs.declared.table.input.Input.TheVariants as inputs
use Rattle.fed_consent.specs.declared.table.input.Input.TheVariants.{Resume}
use Rattle.fed_consent.specs.Outcomes.{Outcome}
use Rattle.fed_disconnect.specs.Facts.{DisconnectOptions}
use Rattle.fed_disconnect.specs.Rows.{disconnect_start_row}
use Rattle.fed_script.specs.declared.event.Event.{Event}
use Rattle.fed_script.specs.declared.event.Event.TheVariants as events
use Rattle.fed_trace.specs.Begun.{CallKind, GetCall, DisconnectCall, ToGet, ToDisconnect}
use Rattle.fed_trace.specs.Call.{Known, OfGet, OfDisconnect, get_outcome, input_row}
use Rattle.fed_trace.specs.Effect.{Effect, Login, Sent, Flag}
use Rattle.fed_trace.specs.Known.{world_at, is_begun, known_at}
use Rattle.fed_trace.specs.Row.{effects_of, call_effects, moves, outcome_effects, begin_effects, standing_call, is_busy, input_effects}
use Rattle.fed_trace.specs.Row.{close_effects, cookies_with, load_changes, cookie_effects, have_changes, have_states, page_says}
use Rattle.fed_trace.specs.Row.{set_logins, resume_effects, waiting_effects, standing_resumes, idpclose_effects}
use Rattle.fed_trace.specs.Windows.{windows_of}
use Rattle.fed_trace.specs.Trace.{Trace, page_at, gets, pending_of}
use Rattle.fed_trace.proofs.calls.Pending.{load_silent}
use Rattle.fed_trace.proofs.effects.Silent.{AllSilent, said_silent, goes_silent}
use Rattle.fed_trace.proofs.events.Aside.{IsPlain, have_silent, says_silent, close_silent}
use Rattle.fed_twin.specs.Script.{is_disconnect, first_bytes, first_sent}
use Rattle.fed_twin.proofs.calls.Disconnect.{first_asked, disconnect_later}
use Rattle.fed_twin.proofs.compared.Requests.{disconnect_sent}

-- the bytes of one of the first three requests, of a call of either kind
abbrev pub first_any : Effect → Option (List ℕ)
first_any (Sent kind call provider ask cookies) = first_bytes ask cookies
first_any _ = None

-- the effects send first requests for gets alone
abbrev OfGets : List Effect → Type 0
OfGets effects = filter_map first_sent effects ≡ filter_map first_any effects

plain_sent : IsPlain first_sent
plain_sent = record { cookie = λ c. refl; login = λ o s. refl; kept = λ t k. refl; flag = λ o k. refl }

plain_any : IsPlain first_any
plain_any = record { cookie = λ c. refl; login = λ o s. refl; kept = λ t k. refl; flag = λ o k. refl }

both_silent : (effects : List Effect) → AllSilent first_sent effects → AllSilent first_any effects → OfGets effects
both_silent effects h k = said_silent first_sent effects h ∙ sym (said_silent first_any effects k)

sends_done : (w : World) (ck : Ask → List ℕ) (call page : ℕ) (es : List CallEffect)
    → OfGets (flat_map (call_effects w ck GetCall call page) es)
sends_done w ck call page [] = refl
sends_done w ck call page (does.Send place ask ∷ es) = ap (cons_option (first_bytes ask (ck ask))) (sends_done w ck call page es)
sends_done w ck call page (does.Finish finish ∷ es) = sends_done w ck call page es
sends_done w ck call page (does.Ignored why ∷ es) = sends_done w ck call page es
sends_done w ck call page (does.Dialog dialog ∷ es) = sends_done w ck call page es
sends_done w ck call page (does.Dropped place failure ∷ es) = sends_done w ck call page es
sends_done w ck call page (does.Window place url ∷ es) = sends_done w ck call page es
sends_done w ck call page (does.SetLogin origin status ∷ es) = sends_done w ck call page es
sends_done w ck call page (does.Keep triple ∷ es) = sends_done w ck call page es
sends_done w ck call page (does.Forget triple ∷ es) = sends_done w ck call page es
sends_done w ck call page (does.ForgetPair o u ∷ es) =
    goes_silent first_sent (λ t. refl) (triples_of_pair w.kept o u) (flat_map (call_effects w ck GetCall call page) es)
    ∙ sends_done w ck call page es
    ∙ sym (goes_silent first_any (λ t. refl) (triples_of_pair w.kept o u) (flat_map (call_effects w ck GetCall call page) es))
sends_done w ck call page (does.ClearFlag origin ∷ es) = sends_done w ck call page es

sends_moved : (call : ℕ) (stage : Option Stage) → OfGets (moves GetCall call stage)
sends_moved call None = refl
sends_moved call (Some stage) = refl

sends_outcome : (w : World) (ck : Ask → List ℕ) (call page : ℕ) (o : Outcome) → OfGets (outcome_effects w ck GetCall call page o)
sends_outcome w ck call page o =
    let done = flat_map (call_effects w ck GetCall call page) o.effects in
    filter_map-append first_sent done (moves GetCall call o.stage)
    ∙ ap₂ (λ xs ys. xs ++ ys) (sends_done w ck call page o.effects) (sends_moved call o.stage)
    ∙ sym (filter_map-append first_any done (moves GetCall call o.stage))

sends_begin : (w : World) (ck : Ask → List ℕ) (origin : Option Origin) (busy : Bool) (page call : ℕ) (options : GetOptions)
    → OfGets (begin_effects w ck origin busy page call (ToGet options))
sends_begin w ck None busy page call options = refl
sends_begin w ck (Some origin) busy page call options = go (is_trustworthy origin)
  where
    go : (trusted : Bool) → OfGets (standing_call w ck trusted busy
        (record { call = call; page = page; origin = origin; options = ToGet options }))
    go false = refl
    go true = sends_outcome w ck call page (get_outcome w busy origin options)

-- ---- a disconnect

any_ask : (place : ℕ) (ask : Ask) (cookies : List ℕ) (rest : List (List ℕ)) (later : List Ask)
    → cons_option (first_asked (does.Send place ask)) later ≡ [] → (later ≡ [] → rest ≡ [])
    → cons_option (first_bytes ask cookies) rest ≡ []
any_ask place (asks.WellKnown to) cookies rest later none more = absurd (cc)
any_ask place (asks.Config to) cookies rest later none more = absurd (cc)
any_ask place (asks.Accounts to) cookies rest later none more = absurd (cc)
any_ask place (asks.Metadata to client origin) cookies rest later none more = more none
any_ask place (asks.Assertion ask) cookies rest later none more = more none
any_ask place (asks.Disconnect to client hint origin) cookies rest later none more = more none

any_done : (w : World) (ck : Ask → List ℕ) (call page : ℕ) (es : List CallEffect) → filter_map first_asked es ≡ []
    → filter_map first_any (flat_map (call_effects w ck DisconnectCall call page) es) ≡ []
any_done w ck call page [] none = refl
any_done w ck call page (does.Send place ask ∷ es) none =
    any_ask place ask (ck ask) (filter_map first_any (flat_map (call_effects w ck DisconnectCall call page) es))
    (filter_map first_asked es) none (any_done w ck call page es)
any_done w ck call page (does.Finish finish ∷ es) none = any_done w ck call page es none
any_done w ck call page (does.Ignored why ∷ es) none = any_done w ck call page es none
any_done w ck call page (does.Dialog dialog ∷ es) none = any_done w ck call page es none
any_done w ck call page (does.Dropped place failure ∷ es) none = any_done w ck call page es none
any_done w ck call page (does.Window place url ∷ es) none = any_done w ck call page es none
any_done w ck call page (does.SetLogin origin status ∷ es) none = any_done w ck call page es none
any_done w ck call page (does.Keep triple ∷ es) none = any_done w ck call page es none
any_done w ck call page (does.Forget triple ∷ es) none = any_done w ck call page es none
any_done w ck call page (does.ForgetPair o u ∷ es) none =
    goes_silent first_any (λ t. refl) (triples_of_pair w.kept o u) (flat_map (call_effects w ck DisconnectCall call page) es)
    ∙ any_done w ck call page es none
any_done w ck call page (does.ClearFlag origin ∷ es) none = any_done w ck call page es none

any_moved : (call : ℕ) (stage : Option Stage) → filter_map first_any (moves DisconnectCall call stage) ≡ []
any_moved call None = refl
any_moved call (Some stage) = refl

any_outcome : (w : World) (ck : Ask → List ℕ) (call page : ℕ) (o : Outcome) → filter_map first_asked o.effects ≡ []
    → filter_map first_any (outcome_effects w ck DisconnectCall call page o) ≡ []
any_outcome w ck call page o none =
    filter_map-append first_any (flat_map (call_effects w ck DisconnectCall call page) o.effects) (moves DisconnectCall call o.stage)
    ∙ ap₂ (λ xs ys. xs ++ ys) (any_done w ck call page o.effects none) (any_moved call o.stage)

begins_none : (w : World) (ck : Ask → List ℕ) (origin : Option Origin) (busy : Bool) (page call : ℕ) (options : DisconnectOptions)
    → filter_map first_sent (begin_effects w ck origin busy page call (ToDisconnect options)) ≡ []
begins_none w ck None busy page call options = refl
begins_none w ck (Some origin) busy page call options = go (is_trustworthy origin)
  where
    go : (trusted : Bool) → filter_map first_sent (standing_call w ck trusted busy
        (record { call = call; page = page; origin = origin; options = ToDisconnect options })) ≡ []
    go false = refl
    go true = disconnect_sent w ck call page (disconnect_start_row w origin options)

-- ---- inputs, and all events

sends_taken : (T : Trace) (taken : Bool) (call : ℕ) (i : Input)
    → OfGets (input_effects (world_at T) (cookies_with T) taken call (known_at T call) i)
sends_taken T taken call i = go taken (known_at T call)
  where
    go : (begun : Bool) (known : Option Known) → OfGets (input_effects (world_at T) (cookies_with T) begun call known i)
    go false known = refl
    go true None = refl
    go true (Some (OfGet f)) = sends_outcome (world_at T) (cookies_with T) call f.page (input_row (world_at T) (OfGet f) i)
    go true (Some (OfDisconnect f)) =
        let o = input_row (world_at T) (OfDisconnect f) i in
        disconnect_sent (world_at T) (cookies_with T) call f.page o
        ∙ sym (any_outcome (world_at T) (cookies_with T) call f.page o (disconnect_later (world_at T) f i).firsts)

sends_input : (T : Trace) (call : ℕ) (i : Input)
    → OfGets (input_effects (world_at T) (cookies_with T) (is_begun T call) call (known_at T call) i)
sends_input T call i = sends_taken T (is_begun T call) call i

sends_closed : (calls : List (ℕ × CallKind)) (page : ℕ) (origin : Option Origin) → OfGets (close_effects calls page origin)
sends_closed calls page None = refl
sends_closed calls page (Some origin) =
    both_silent (close_effects calls page (Some origin)) (close_silent first_sent (λ n c. refl) (λ p. refl) calls page)
    (close_silent first_any (λ n c. refl) (λ p. refl) calls page)

-- of a page that says that the user has signed in
sends_resumed : (T : Trace) (calls : List ℕ)
    → OfGets (flat_map (resume_effects (world_at T) (cookies_with T) (known_at T)) calls)
sends_resumed T [] = refl
sends_resumed T (call ∷ calls) =
    let own = resume_effects (world_at T) (cookies_with T) (known_at T) call in
    let more = flat_map (resume_effects (world_at T) (cookies_with T) (known_at T)) calls in
    filter_map-append first_sent own more ∙ ap₂ (λ xs ys. xs ++ ys) (sends_taken T true call Resume) (sends_resumed T calls)
    ∙ sym (filter_map-append first_any own more)

sends_idpclose : (T : Trace) (o : Option Origin)
    → OfGets (idpclose_effects (world_at T) (cookies_with T) (known_at T) (windows_of T) o)
sends_idpclose T None = refl
sends_idpclose T (Some origin) = go (is_trustworthy origin)
  where
    waiting : (calls : List ℕ) → OfGets (waiting_effects (world_at T) (cookies_with T) (known_at T) calls)
    waiting [] = refl
    waiting (call ∷ calls) = sends_resumed T (call ∷ calls)

    go : (trusted : Bool) → OfGets (standing_resumes (world_at T) (cookies_with T) (known_at T) (windows_of T origin) trusted)
    go true = waiting (windows_of T origin)
    go false = refl

pub sends_gets : (T : Trace) (event : Event) → is_disconnect event ≡ false → OfGets (effects_of T event)
sends_gets T (events.Disconnect page call config client hint) other = absurd (cc)
sends_gets T (events.Have have) other =
    let found = have_changes T have in
    both_silent (cookie_effects found ++ have_states have) (have_silent first_sent plain_sent found have)
    (have_silent first_any plain_any found have)
sends_gets T (events.At time) other = refl
sends_gets T (events.Load page url raw) other =
    let found = load_changes T url raw in
    both_silent (effects_of T (events.Load page url raw))
    (load_silent first_sent (λ n c. refl) (λ p o. refl) (λ c. refl) (λ o s. refl) (pending_of T page) page url found (set_logins raw))
    (load_silent first_any (λ n c. refl) (λ p o. refl) (λ c. refl) (λ o s. refl) (pending_of T page) page url found (set_logins raw))
sends_gets T (events.ClosePage page) other = sends_closed (pending_of T page) page (page_at T page)
sends_gets T (events.Prevent page) other =
    both_silent (page_says (page_at T page) (λ origin. Flag origin true))
    (says_silent first_sent (λ origin. Flag origin true) (λ o. refl) (λ w. refl) (page_at T page))
    (says_silent first_any (λ origin. Flag origin true) (λ o. refl) (λ w. refl) (page_at T page))
sends_gets T (events.SetStatus page status) other =
    both_silent (page_says (page_at T page) (λ origin. Login origin status))
    (says_silent first_sent (λ origin. Login origin status) (λ o. refl) (λ w. refl) (page_at T page))
    (says_silent first_any (λ origin. Login origin status) (λ o. refl) (λ w. refl) (page_at T page))
sends_gets T (events.Get page call options) other =
    sends_begin (world_at T) (cookies_with T) (page_at T page) (is_busy page (gets T)) page call options
sends_gets T (events.Abort call) other = sends_input T call inputs.Abort
sends_gets T (events.GoOn call) other = sends_input T call inputs.GoOn
sends_gets T (events.Cancel call) other = sends_input T call inputs.Cancel
sends_gets T (events.SignIn call) other = sends_input T call inputs.SignIn
sends_gets T (events.ShutWindow call) other = sends_input T call inputs.Shut
sends_gets T (events.IdpClose page) other = sends_idpclose T (page_at T page)
sends_gets T (events.Reply call place kind raw) other = sends_input T call (inputs.Reply place kind raw)
sends_gets T (events.Choose call place id) other = sends_input T call (inputs.Choose place id)

-- an event that begins a disconnect sends none of gets
pub sends_none : (T : Trace) (event : Event) → is_disconnect event ≡ true → filter_map first_sent (effects_of T event) ≡ []
sends_none T (events.Disconnect page call config client hint) is =
    begins_none (world_at T) (cookies_with T) (page_at T page) (is_busy page (gets T)) page call
    (record { config = config; client = client; hint = hint })
sends_none T event is = absurd (cc)
