-- An event has at most twenty records, or one for each call that waits.
use Rattle.std.proofs.Common.{◌≡◌, ℕ, suc, ◌+◌, ◌≤◌, Bool, true, false, cond, List, [], ◌∷◌, ◌++◌, length, Option, Some, None, Result, Ok, Err}
use Rattle.std.proofs.Common.{refl, sym, ap, subst, ◌∙◌, length-append, append-nil, arith, lit≤}
use Rattle.std.proofs.lemmas.List.Elements.{filter_map-append}
use Rattle.std.specs.List.{flat_map}
use Rattle.std.specs.Prelude.{filter, nat_eq, ⊤}
use Rattle.url.specs.Parts.{Parts}
use Rattle.fed_origin.specs.declared.origin.Origin.{Origin}
use Rattle.fed_origin.specs.declared.scheme.Scheme.{Scheme}
use Rattle.fed_origin.specs.declared.scheme.Scheme.TheVariants.{Http, Https}
use Rattle.fed_origin.specs.declared.stage.ReplyKind.{ReplyKind}
use Rattle.fed_origin.specs.declared.stage.ReplyKind.TheVariants as kinds
use Rattle.fed_origin.specs.declared.stage.Stage.{Stage}
use Rattle.fed_origin.specs.declared.stage.Stage.TheVariants as stages
use Rattle.fed_origin.specs.Origin.{is_trustworthy}
use Rattle.fed_origin.specs.WebUrl.{scheme_of}
use Rattle.fed_provider.specs.declared.first_replies.Heard.{Heard}
use Rattle.fed_provider.specs.declared.first_replies.Heard.TheVariants as heard
use Rattle.fed_provider.specs.declared.step.ProviderStep.{ProviderStep}
use Rattle.fed_provider.specs.FirstReplies.{reply_heard}
use Rattle.fed_provider.specs.WellKnown.{WellKnownUrlOf}
use Rattle.fed_status.specs.Kept.{has_pair, triples_of_pair}
use Rattle.fed_status.specs.Shared.{World}
use Rattle.fed_consent.specs.declared.table.ask.Ask.{Ask}
use Rattle.fed_consent.specs.declared.table.effect.Effect.{Effect as CallEffect}
use Rattle.fed_consent.specs.declared.table.effect.Effect.TheVariants as does
use Rattle.fed_consent.specs.declared.table.input.Input.{Input}
use Rattle.fed_consent.specs.declared.table.input.Input.TheVariants as inputs
use Rattle.fed_consent.specs.Outcomes.{Outcome, only_place}
use Rattle.fed_disconnect.specs.Facts.{DisconnectFacts, DisconnectOptions, provider_origin}
use Rattle.fed_disconnect.specs.Rows as disconnect
use Rattle.fed_script.specs.declared.event.Event.{Event}
use Rattle.fed_script.specs.declared.event.Event.TheVariants as events
use Rattle.fed_script.specs.Used.{HasProviders}
use Rattle.fed_trace.specs.Begun.{CallKind, CallOptions, ToGet, ToDisconnect, kind_asked}
use Rattle.fed_trace.specs.Call.{Known, OfGet, OfDisconnect, kind_of, page_of, first_row, input_row}
use Rattle.fed_trace.specs.Effect.{Effect, Login, Flag}
use Rattle.fed_trace.specs.Known.{world_at, is_begun, known_at}
use Rattle.fed_trace.specs.Records.{record_of, records_of, records}
use Rattle.fed_trace.specs.Row.{call_effects, moves, outcome_effects, standing_call, begin_effects, is_busy, input_effects, effects_of, row_of}
use Rattle.fed_trace.specs.Row.{close_effects, ends_of, cookies_with, have_changes, load_changes, set_logins, resume_effects}
use Rattle.fed_trace.specs.Row.{waiting_effects, standing_resumes, idpclose_effects, page_says, standing_says}
use Rattle.fed_trace.specs.Trace.{Trace, page_at, gets, pending_of}
use Rattle.fed_trace.specs.Windows.{is_origin, open_windows, provider_of, windows_of}
use Rattle.fed_trace.proofs.calls.Pending.{ends_silent, load_silent}
use Rattle.fed_trace.proofs.calls.Resumed.{Resuming, Rests, Refuses, AsksAgain, resuming}
use Rattle.fed_trace.proofs.effects.Silent.{AllSilent, said_silent, silent_append, goes_silent}
use Rattle.fed_trace.proofs.events.Aside.{have_silent}
use Rattle.fed_twin.proofs.calls.Few.{small_get, few_input}

-- how many records effects have
abbrev count_of : ℕ → List Effect → ℕ
count_of line effects = length (records_of line effects)

few_of_silent : (line : ℕ) (effects : List Effect) → AllSilent (record_of line) effects → count_of line effects ≤ 20
few_of_silent line effects silent = rw (said_silent (record_of line) effects silent) (lit≤ tt)

-- ---- what a call does

-- at most one for each thing that it does
few_done : (line : ℕ) (world : World) (cookies : Ask → List ℕ) (kind : CallKind) (call page : ℕ) (effects : List CallEffect)
    → count_of line (flat_map (call_effects world cookies kind call page) effects) ≤ length effects
few_done line world cookies kind call page effects = all effects
  where
    none : (n : ℕ) (e : CallEffect) (es : List CallEffect) → n ≤ length es → n ≤ length (e ∷ es)
    none n e es le = omega (arith, le)

    one : (n : ℕ) (e : CallEffect) (es : List CallEffect) → n ≤ length es → suc n ≤ length (e ∷ es)
    one n e es le = omega (arith, le)

    all : (effects : List CallEffect) → count_of line (flat_map (call_effects world cookies kind call page) effects) ≤ length effects
    all [] = lit≤ tt
    all (does.Send provider ask ∷ es) = one _ (does.Send provider ask) es (all es)
    all (does.Finish finish ∷ es) = one _ (does.Finish finish) es (all es)
    all (does.Ignored why ∷ es) = one _ (does.Ignored why) es (all es)
    all (does.Dialog dialog ∷ es) = one _ (does.Dialog dialog) es (all es)
    all (does.Dropped place failure ∷ es) = one _ (does.Dropped place failure) es (all es)
    all (does.Window place url ∷ es) = one _ (does.Window place url) es (all es)
    all (does.SetLogin origin status ∷ es) = none _ (does.SetLogin origin status) es (all es)
    all (does.Keep triple ∷ es) = none _ (does.Keep triple) es (all es)
    all (does.Forget triple ∷ es) = none _ (does.Forget triple) es (all es)
    all (does.ForgetPair p q ∷ es) =
        rw (goes_silent (record_of line) (λ t. refl) (triples_of_pair world.kept p q)
        (flat_map (call_effects world cookies kind call page) es))
        (none _ (does.ForgetPair p q) es (all es))
    all (does.ClearFlag origin ∷ es) = none _ (does.ClearFlag origin) es (all es)

few_outcome : (line : ℕ) (world : World) (cookies : Ask → List ℕ) (kind : CallKind) (call page : ℕ) (outcome : Outcome)
    → length outcome.effects ≤ 20 → count_of line (outcome_effects world cookies kind call page outcome) ≤ 20
few_outcome line world cookies kind call page outcome short =
    let done = flat_map (call_effects world cookies kind call page) outcome.effects in
    let few = few_done line world cookies kind call page outcome.effects in
    let same : records_of line (outcome_effects world cookies kind call page outcome) ≡ records_of line done =
    filter_map-append (record_of line) done (moves kind call outcome.stage)
    ∙ ap (λ xs. records_of line done ++ xs) (unmoved outcome.stage) ∙ append-nil (records_of line done) in
    rw same (omega (arith, few, short))
  where
    unmoved : (stage : Option Stage) → records_of line (moves kind call stage) ≡ []
    unmoved None = refl
    unmoved (Some stage) = refl

-- ---- a disconnect

few_start : (world : World) (origin : Origin) (options : DisconnectOptions)
    → length (disconnect.disconnect_start_row world origin options).effects ≤ 20
few_start world origin options =
    scheme (scheme_of options.config) (WellKnownUrlOf world.rules options.config) (has_pair world.kept origin (provider_origin options))
  where
    scheme : (s : Scheme) (wellknown : Result Parts ProviderStep) (kept : Bool)
        → length (disconnect.by_scheme s options.config wellknown kept).effects ≤ 20
    scheme Http wellknown kept = lit≤ tt
    scheme Https (Err step) kept = lit≤ tt
    scheme Https (Ok wellknown) false = lit≤ tt
    scheme Https (Ok wellknown) true = lit≤ tt

few_heard : (origin : Origin) (options : DisconnectOptions) (found : Heard)
    → length (disconnect.by_heard origin options found).effects ≤ 20
few_heard origin options (heard.Refused step) = lit≤ tt
few_heard origin options (heard.Waits replies) = lit≤ tt
few_heard origin options (heard.Both config) = by config.disconnect
  where
    by : (to : Option Parts) → length (disconnect.asks_disconnect origin options to).effects ≤ 20
    by None = lit≤ tt
    by (Some to) = lit≤ tt
few_heard origin options (heard.NotWaited replies) = lit≤ tt

few_asserting : (world : World) (facts : DisconnectFacts) (kind : ReplyKind) (raw : List ℕ)
    → length (disconnect.asserting_reply world.kept facts.origin (provider_origin facts.options) kind raw).effects ≤ 20
few_asserting world facts kinds.WellKnown raw = lit≤ tt
few_asserting world facts kinds.Config raw = lit≤ tt
few_asserting world facts kinds.Accounts raw = lit≤ tt
few_asserting world facts kinds.Metadata raw = lit≤ tt
few_asserting world facts kinds.Assertion raw = lit≤ tt
few_asserting world facts kinds.Disconnect raw = lit≤ tt

few_reply : (world : World) (facts : DisconnectFacts) (ours : Bool) (kind : ReplyKind) (raw : List ℕ)
    → length (disconnect.provider_reply world facts ours kind raw).effects ≤ 20
few_reply world facts false kind raw = lit≤ tt
few_reply world facts true kind raw = by facts.stage
  where
    by : (stage : Stage) → length (disconnect.stage_reply world facts stage kind raw).effects ≤ 20
    by stages.Reading = few_heard facts.origin facts.options (reply_heard world.rules facts.replies facts.options.config kind raw)
    by stages.Asserting = few_asserting world facts kind raw
    by stages.Listing = lit≤ tt
    by stages.Gathering = lit≤ tt
    by stages.Mismatch = lit≤ tt
    by stages.Window = lit≤ tt
    by stages.Choosing = lit≤ tt
    by stages.Prompting = lit≤ tt
    by stages.Ended = lit≤ tt

few_disconnect : (world : World) (facts : DisconnectFacts) (input : Input)
    → length (disconnect.input_row world facts input).effects ≤ 20
few_disconnect world facts (inputs.Reply place kind raw) = few_reply world facts (nat_eq place only_place) kind raw
few_disconnect world facts (inputs.Choose place id) = lit≤ tt
few_disconnect world facts inputs.GoOn = lit≤ tt
few_disconnect world facts inputs.Cancel = lit≤ tt
few_disconnect world facts inputs.SignIn = lit≤ tt
few_disconnect world facts inputs.Shut = lit≤ tt
few_disconnect world facts inputs.Resume = lit≤ tt
few_disconnect world facts inputs.Abort = lit≤ tt

-- ---- a call

-- a get has one to ten providers
abbrev IsFew : CallOptions → Type 0
IsFew (ToGet options) = (1 ≤ length options.providers) × (length options.providers ≤ 10)
IsFew (ToDisconnect options) = ⊤

few_first : (world : World) (busy : Bool) (origin : Origin) (options : CallOptions) → IsFew options
    → length (first_row world busy origin options).effects ≤ 20
few_first world busy origin (ToGet options) few =
    let most = few.1 in
    let done = (small_get world busy origin options few.0).few in
    omega (arith, done, most)
few_first world busy origin (ToDisconnect options) few = few_start world origin options

few_begun : (line : ℕ) (world : World) (cookies : Ask → List ℕ) (origin : Option Origin) (busy : Bool) (page call : ℕ)
    (options : CallOptions)
    → IsFew options → count_of line (begin_effects world cookies origin busy page call options) ≤ 20
few_begun line world cookies None busy page call options few = lit≤ tt
few_begun line world cookies (Some origin) busy page call options few = by (is_trustworthy origin)
  where
    by : (trusted : Bool) → count_of line (standing_call world cookies trusted busy
        (record { call = call; page = page; origin = origin; options = options })) ≤ 20
    by false = lit≤ tt
    by true =
        few_outcome line world cookies (kind_asked options) call page (first_row world busy origin options)
        (few_first world busy origin options few)

few_taken : (line : ℕ) (world : World) (cookies : Ask → List ℕ) (taken : Bool) (call : ℕ) (known : Option Known) (input : Input)
    → count_of line (input_effects world cookies taken call known input) ≤ 20
few_taken line world cookies false call known input = lit≤ tt
few_taken line world cookies true call None input = lit≤ tt
few_taken line world cookies true call (Some known) input =
    few_outcome line world cookies (kind_of known) call (page_of known) (input_row world known input) (by known)
  where
    by : (known : Known) → length (input_row world known input).effects ≤ 20
    by (OfGet facts) = let few = few_input world facts input in omega (arith, few)
    by (OfDisconnect facts) = few_disconnect world facts input

-- ---- pages

few_closed : (line : ℕ) (calls : List (ℕ × CallKind)) (page : ℕ) (origin : Option Origin)
    → count_of line (close_effects calls page origin) ≤ 20
few_closed line calls page None = lit≤ tt
few_closed line calls page (Some origin) =
    few_of_silent line _ (silent_append (record_of line) (ends_of calls) _ (ends_silent (record_of line) (λ n c. refl) calls) (refl, tt))

few_said : (line : ℕ) (said : Origin → Effect) → ((origin : Origin) → record_of line (said origin) ≡ None) → (origin : Option Origin)
    → count_of line (page_says origin said) ≤ 20
few_said line said silent None = lit≤ tt
few_said line said silent (Some origin) = by (is_trustworthy origin)
  where
    by : (trusted : Bool) → count_of line (standing_says trusted (said origin)) ≤ 20
    by false = lit≤ tt
    by true = few_of_silent line (said origin ∷ []) (silent origin, tt)

-- ---- calls that wait

one_each : (line : ℕ) (world : World) (cookies : Ask → List ℕ) (known : ℕ → Option Known) (calls : List ℕ)
    → count_of line (flat_map (resume_effects world cookies known) calls) ≤ length calls
one_each line world cookies known [] = lit≤ tt
one_each line world cookies known (call ∷ calls) =
    let own = resume_effects world cookies known call in
    let more = flat_map (resume_effects world cookies known) calls in
    let first = one own (resuming world cookies call (known call)) in
    let rest = one_each line world cookies known calls in
    rw (filter_map-append (record_of line) own more)
    (rw (length-append (records_of line own) (records_of line more)) (omega (arith, first, rest)))
  where
    one : (effects : List Effect) → Resuming call effects → count_of line effects ≤ 1
    one effects (Rests is) = subst (λ es. count_of line es ≤ 1) (sym is) (lit≤ tt)
    one effects (Refuses why is) = subst (λ es. count_of line es ≤ 1) (sym is) (lit≤ tt)
    one effects (AsksAgain kind place to ck is) = subst (λ es. count_of line es ≤ 1) (sym is) (lit≤ tt)

pub length-filter : {A : Type 0} (p : A → Bool) (xs : List A) → length (filter p xs) ≤ length xs
length-filter p [] = lit≤ tt
length-filter p (x ∷ xs) = by (p x) (length-filter p xs)
  where
    by : (b : Bool) → length (filter p xs) ≤ length xs → length (cond b (x ∷ filter p xs) (filter p xs)) ≤ length (x ∷ xs)
    by true le = omega (arith, le)
    by false le = omega (arith, le)

few_resumed : (line : ℕ) (T : Trace) (origin : Option Origin)
    → count_of line (idpclose_effects (world_at T) (cookies_with T) (known_at T) (windows_of T) origin) ≤ 20 + length (open_windows T)
few_resumed line T None = omega arith
few_resumed line T (Some origin) = by (is_trustworthy origin)
  where
    waiting : (calls : List ℕ) → windows_of T origin ≡ calls
        → count_of line (waiting_effects (world_at T) (cookies_with T) (known_at T) calls) ≤ 20 + length (open_windows T)
    waiting [] is = omega arith
    waiting (call ∷ calls) is =
        let some = one_each line (world_at T) (cookies_with T) (known_at T) (call ∷ calls) in
        let among = length-filter (λ c. is_origin origin (provider_of T.rows c)) (open_windows T) in
        let many = ap length is in
        omega (arith, some, among, many)

    by : (trusted : Bool)
        → count_of line (standing_resumes (world_at T) (cookies_with T) (known_at T) (windows_of T origin) trusted)
        ≤ 20 + length (open_windows T)
    by true = waiting (windows_of T origin) refl
    by false = omega arith

-- ---- every event

few : (n more : ℕ) → n ≤ 20 → n ≤ 20 + more
few n more le = omega (arith, le)

pub few_records : (T : Trace) (line : ℕ) (event : Event) → HasProviders event
    → length (records (row_of T line event)) ≤ 20 + length (open_windows T)
few_records T line event named = go event named
  where
    many : ℕ
    many = length (open_windows T)

    brings : (call : ℕ) (input : Input)
        → count_of line (input_effects (world_at T) (cookies_with T) (is_begun T call) call (known_at T call) input) ≤ 20 + many
    brings call input = few _ many (few_taken line (world_at T) (cookies_with T) (is_begun T call) call (known_at T call) input)

    go : (event : Event) → HasProviders event → count_of line (effects_of T event) ≤ 20 + many
    go (events.Have have) named =
        few _ many (few_of_silent line _ (have_silent (record_of line)
        (record { cookie = λ c. refl; login = λ o s. refl; kept = λ t k. refl; flag = λ o k. refl })
        (have_changes T have) have))
    go (events.At time) named = few _ many (lit≤ tt)
    go (events.Load page url raw) named =
        few _ many (few_of_silent line _ (load_silent (record_of line) (λ n c. refl) (λ p o. refl) (λ c. refl) (λ o s. refl)
        (pending_of T page) page url (load_changes T url raw) (set_logins raw)))
    go (events.ClosePage page) named = few _ many (few_closed line (pending_of T page) page (page_at T page))
    go (events.Get page call options) named =
        few _ many (few_begun line (world_at T) (cookies_with T) (page_at T page) (is_busy page (gets T)) page call (ToGet options) named)
    go (events.Disconnect page call config client hint) named =
        few _ many (few_begun line (world_at T) (cookies_with T) (page_at T page) (is_busy page (gets T)) page call
        (ToDisconnect (record { config = config; client = client; hint = hint })) tt)
    go (events.Abort call) named = brings call inputs.Abort
    go (events.GoOn call) named = brings call inputs.GoOn
    go (events.Cancel call) named = brings call inputs.Cancel
    go (events.SignIn call) named = brings call inputs.SignIn
    go (events.ShutWindow call) named = brings call inputs.Shut
    go (events.Reply call place kind raw) named = brings call (inputs.Reply place kind raw)
    go (events.Choose call place id) named = brings call (inputs.Choose place id)
    go (events.IdpClose page) named = few_resumed line T (page_at T page)
    go (events.Prevent page) named = few _ many (few_said line (λ origin. Flag origin true) (λ o. refl) (page_at T page))
    go (events.SetStatus page status) named = few _ many (few_said line (λ origin. Login origin status) (λ o. refl) (page_at T page))
