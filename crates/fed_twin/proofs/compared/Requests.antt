-- An event sends at most three sign-in requests, or one for each call that waits, and lets at most one call more wait.
use Rattle.std.proofs.Common.{◌≡◌, ℕ, suc, ◌+◌, ◌≤◌, Bool, true, false, cond, nat_eq, List, [], ◌∷◌, ◌++◌, length, Option, Some, None}
use Rattle.std.proofs.Common.{refl, sym, ap, subst, ◌∙◌, length-append}
use Rattle.std.proofs.Common.{append-nil, arith, lit≤}
use Rattle.std.proofs.lemmas.List.Elements.{filter_map-append}
use Rattle.std.specs.List.{filter_map, cons_option, flat_map}
use Rattle.std.specs.Map.{keys_of}
use Rattle.std.specs.Prelude.{filter, if◌then◌else◌, ⊤}
use Rattle.indexmap.specs.IndexMap.{insert_entry, shift_remove_entry}
use Rattle.fed_origin.specs.declared.origin.Origin.{Origin}
use Rattle.fed_origin.specs.declared.stage.Stage.{Stage}
use Rattle.fed_origin.specs.declared.stage.Stage.TheVariants.{Listing}
use Rattle.fed_origin.specs.Origin.{is_trustworthy}
use Rattle.fed_status.specs.Kept.{triples_of_pair}
use Rattle.fed_status.specs.Shared.{World}
use Rattle.fed_consent.specs.declared.table.ask.Ask.{Ask}
use Rattle.fed_consent.specs.declared.table.ask.Ask.TheVariants.{Accounts}
use Rattle.fed_consent.specs.declared.table.effect.Effect.{Effect as CallEffect}
use Rattle.fed_consent.specs.declared.table.effect.Effect.TheVariants as does
use Rattle.fed_consent.specs.declared.table.input.Input.{Input}
use Rattle.fed_consent.specs.declared.table.input.Input.TheVariants as inputs
use Rattle.fed_consent.specs.Outcomes.{Outcome}
use Rattle.fed_call.specs.Row.{input_row}
use Rattle.fed_script.specs.declared.event.Event.{Event}
use Rattle.fed_script.specs.declared.event.Event.TheVariants as events
use Rattle.fed_script.specs.Used.{HasProviders}
use Rattle.fed_disconnect.specs.Rows as disconnect_rows
use Rattle.fed_trace.specs.Begun.{CallKind, GetCall, DisconnectCall, CallOptions, ToGet, ToDisconnect, kind_asked}
use Rattle.fed_trace.specs.Call.{Known, OfGet, OfDisconnect, kind_of, page_of, get_outcome, first_row}
use Rattle.fed_trace.specs.Call.{input_row as any_row}
use Rattle.fed_trace.specs.Effect.{Effect, Time, Page, Closed, Cookie, Login, Begin, Move, Sent, Dropped, Shown, Window, Kept, Flag}
use Rattle.fed_trace.specs.Effect.{Result, Ignored}
use Rattle.fed_trace.specs.Effect.{is_window, key_change, window_change}
use Rattle.fed_trace.specs.Keyed.{changed, entries_after}
use Rattle.fed_trace.specs.Known.{world_at, is_begun, known_at}
use Rattle.fed_trace.specs.Row.{effects_of, call_effects, moves, outcome_effects, standing_call, begin_effects, is_busy, input_effects}
use Rattle.fed_trace.specs.Row.{ends_of, cookies_with, load_changes, have_changes, close_effects, set_logins, with_event}
use Rattle.fed_trace.specs.Row.{resume_effects, waiting_effects, standing_resumes, idpclose_effects}
use Rattle.fed_trace.specs.Trace.{Trace, standing, page_at, gets, pending_of}
use Rattle.fed_trace.specs.Windows.{is_origin, open_windows, provider_of, windows_of}
use Rattle.fed_trace.proofs.calls.Pending.{ends_silent, load_silent}
use Rattle.fed_trace.proofs.calls.Resumed.{Resuming, Rests, Refuses, AsksAgain, idpclose_silent, resuming}
use Rattle.fed_trace.proofs.effects.Silent.{AllSilent, entries_silent, said_silent, silent_append, silent_call, goes_silent}
use Rattle.fed_trace.proofs.keyed.Keyed.{entries_after-append}
use Rattle.fed_trace.proofs.events.Aside.{have_silent, says_silent}
use Rattle.fed_twin.specs.Script.{first_sent}
use Rattle.fed_twin.proofs.calls.Few.{small_get, few_input}

-- ---- what a call does

moves_send_none : (kind : CallKind) (call : ℕ) (stage : Option Stage) → filter_map first_sent (moves kind call stage) ≡ []
moves_send_none kind call None = refl
moves_send_none kind call (Some stage) = refl

-- what a get does sends at most one for each thing that it does
few_sent : (world : World) (cookies : Ask → List ℕ) (call page : ℕ) (effects : List CallEffect)
    → length (filter_map first_sent (flat_map (call_effects world cookies GetCall call page) effects)) ≤ length effects
few_sent world cookies call page effects = all effects
  where
    one : {X : Type 0} (o : Option X) (xs : List X) (e : CallEffect) (es : List CallEffect) → length xs ≤ length es
        → length (cons_option o xs) ≤ length (e ∷ es)
    one None xs e es le = omega (arith, le)
    one (Some x) xs e es le = omega (arith, le)

    more : (n : ℕ) (e : CallEffect) (es : List CallEffect) → n ≤ length es → n ≤ length (e ∷ es)
    more n e es le = omega (arith, le)

    all : (effects : List CallEffect) → length (filter_map first_sent
        (flat_map (call_effects world cookies GetCall call page) effects)) ≤ length effects
    all [] = lit≤ tt
    all (does.Send provider ask ∷ es) =
        one (first_sent (Sent GetCall call provider ask (cookies ask)))
        (filter_map first_sent (flat_map (call_effects world cookies GetCall call page) es)) (does.Send provider ask) es (all es)
    all (does.Finish finish ∷ es) = more _ (does.Finish finish) es (all es)
    all (does.Ignored why ∷ es) = more _ (does.Ignored why) es (all es)
    all (does.Dialog dialog ∷ es) = more _ (does.Dialog dialog) es (all es)
    all (does.Dropped place failure ∷ es) = more _ (does.Dropped place failure) es (all es)
    all (does.Window place url ∷ es) = more _ (does.Window place url) es (all es)
    all (does.SetLogin origin status ∷ es) = more _ (does.SetLogin origin status) es (all es)
    all (does.Keep triple ∷ es) = more _ (does.Keep triple) es (all es)
    all (does.Forget triple ∷ es) = more _ (does.Forget triple) es (all es)
    all (does.ForgetPair p q ∷ es) =
        rw (goes_silent first_sent (λ t. refl) (triples_of_pair world.kept p q)
        (flat_map (call_effects world cookies GetCall call page) es))
        (more _ (does.ForgetPair p q) es (all es))
    all (does.ClearFlag origin ∷ es) = more _ (does.ClearFlag origin) es (all es)

-- a disconnect sends none
disconnect_sends_none : (world : World) (cookies : Ask → List ℕ) (call page : ℕ) (effects : List CallEffect)
    → filter_map first_sent (flat_map (call_effects world cookies DisconnectCall call page) effects) ≡ []
disconnect_sends_none world cookies call page [] = refl
disconnect_sends_none world cookies call page (does.Send provider ask ∷ es) = disconnect_sends_none world cookies call page es
disconnect_sends_none world cookies call page (does.Finish finish ∷ es) = disconnect_sends_none world cookies call page es
disconnect_sends_none world cookies call page (does.Ignored why ∷ es) = disconnect_sends_none world cookies call page es
disconnect_sends_none world cookies call page (does.Dialog dialog ∷ es) = disconnect_sends_none world cookies call page es
disconnect_sends_none world cookies call page (does.Dropped place failure ∷ es) = disconnect_sends_none world cookies call page es
disconnect_sends_none world cookies call page (does.Window place url ∷ es) = disconnect_sends_none world cookies call page es
disconnect_sends_none world cookies call page (does.SetLogin origin status ∷ es) = disconnect_sends_none world cookies call page es
disconnect_sends_none world cookies call page (does.Keep triple ∷ es) = disconnect_sends_none world cookies call page es
disconnect_sends_none world cookies call page (does.Forget triple ∷ es) = disconnect_sends_none world cookies call page es
disconnect_sends_none world cookies call page (does.ForgetPair p q ∷ es) =
    goes_silent first_sent (λ t. refl) (triples_of_pair world.kept p q) (flat_map (call_effects world cookies DisconnectCall call page) es)
    ∙ disconnect_sends_none world cookies call page es
disconnect_sends_none world cookies call page (does.ClearFlag origin ∷ es) = disconnect_sends_none world cookies call page es

-- the first requests of an outcome are those of what is done
sent_done : (world : World) (cookies : Ask → List ℕ) (kind : CallKind) (call page : ℕ) (outcome : Outcome)
    → filter_map first_sent (outcome_effects world cookies kind call page outcome)
    ≡ filter_map first_sent (flat_map (call_effects world cookies kind call page) outcome.effects)
sent_done world cookies kind call page outcome =
    let done = flat_map (call_effects world cookies kind call page) outcome.effects in
    filter_map-append first_sent done (moves kind call outcome.stage)
    ∙ ap (λ xs. filter_map first_sent done ++ xs) (moves_send_none kind call outcome.stage)
    ∙ append-nil (filter_map first_sent done)

-- of a disconnect none
pub disconnect_sent : (world : World) (cookies : Ask → List ℕ) (call page : ℕ) (outcome : Outcome)
    → filter_map first_sent (outcome_effects world cookies DisconnectCall call page outcome) ≡ []
disconnect_sent world cookies call page outcome =
    sent_done world cookies DisconnectCall call page outcome ∙ disconnect_sends_none world cookies call page outcome.effects

few_of_get : (world : World) (cookies : Ask → List ℕ) (call page : ℕ) (outcome : Outcome) → length outcome.effects ≤ 20
    → length (filter_map first_sent (outcome_effects world cookies GetCall call page outcome)) ≤ 20
few_of_get world cookies call page outcome short =
    let few = few_sent world cookies call page outcome.effects in
    rw (sent_done world cookies GetCall call page outcome) (omega (arith, few, short))

few_of_disconnect : (world : World) (cookies : Ask → List ℕ) (call page : ℕ) (outcome : Outcome)
    → length (filter_map first_sent (outcome_effects world cookies DisconnectCall call page outcome)) ≤ 20
few_of_disconnect world cookies call page outcome =
    rw (disconnect_sent world cookies call page outcome) (lit≤ tt)

few_of_silent : (effects : List Effect) → AllSilent first_sent effects → length (filter_map first_sent effects) ≤ 20
few_of_silent effects silent = rw (said_silent first_sent effects silent) (lit≤ tt)

-- a get has one to ten providers
abbrev IsFew : CallOptions → Type 0
IsFew (ToGet options) = (1 ≤ length options.providers) × (length options.providers ≤ 10)
IsFew (ToDisconnect options) = ⊤

few_of_standing : (world : World) (cookies : Ask
    → List ℕ) (trusted busy : Bool) (call page : ℕ) (origin : Origin) (options : CallOptions)
    → IsFew options → length (filter_map first_sent (standing_call world cookies trusted busy
    (record { call = call; page = page; origin = origin; options = options }))) ≤ 20
few_of_standing world cookies false busy call page origin options few = lit≤ tt
few_of_standing world cookies true busy call page origin (ToGet options) few =
    let most = few.1 in
    let does = (small_get world busy origin options few.0).few in
    few_of_get world cookies call page (get_outcome world busy origin options) (omega (arith, does, most))
few_of_standing world cookies true busy call page origin (ToDisconnect options) few =
    few_of_disconnect world cookies call page (first_row world busy origin (ToDisconnect options))

few_of_begin : (world : World) (cookies : Ask → List ℕ) (origin : Option Origin) (busy : Bool) (page call : ℕ) (options : CallOptions)
    → IsFew options → length (filter_map first_sent (begin_effects world cookies origin busy page call options)) ≤ 20
few_of_begin world cookies None busy page call options few = lit≤ tt
few_of_begin world cookies (Some origin) busy page call options few =
    few_of_standing world cookies (is_trustworthy origin) busy call page origin options few

few_of_input : (world : World) (cookies : Ask → List ℕ) (taken : Bool) (call : ℕ) (known : Option Known) (input : Input)
    → length (filter_map first_sent (input_effects world cookies taken call known input)) ≤ 20
few_of_input world cookies false call known input = lit≤ tt
few_of_input world cookies true call None input = lit≤ tt
few_of_input world cookies true call (Some (OfGet facts)) input =
    let few = few_input world facts input in
    few_of_get world cookies call facts.page (input_row world facts input) (omega (arith, few))
few_of_input world cookies true call (Some (OfDisconnect facts)) input =
    few_of_disconnect world cookies call facts.page (disconnect_rows.input_row world facts input)

silent_close : (calls : List (ℕ × CallKind)) (page : ℕ) (origin : Option Origin)
    → AllSilent first_sent (close_effects calls page origin)
silent_close calls page None = (refl, tt)
silent_close calls page (Some origin) =
    silent_append first_sent (ends_of calls) (Closed page ∷ []) (ends_silent first_sent (λ n c. refl) calls) (refl, tt)

-- ---- calls that wait

-- the call whose login window an effect opens
abbrev opened_by : Effect → Option ℕ
opened_by (Move kind call stage) = if is_window stage then Some call else None
opened_by _ = None

length_insert : (k : ℕ) (es : List (ℕ × ⊤)) → length (insert_entry nat_eq es k tt) ≤ 1 + length es
length_insert k [] = lit≤ tt
length_insert k (e ∷ es) = go (nat_eq k e.0) (length_insert k es)
  where
    go : (b : Bool) → length (insert_entry nat_eq es k tt) ≤ 1 + length es
        → length (cond b ((e.0, tt) ∷ es) (e ∷ insert_entry nat_eq es k tt)) ≤ 1 + length (e ∷ es)
    go true le = omega arith
    go false le = omega (arith, le)

length_remove : (k : ℕ) (es : List (ℕ × ⊤)) → length (shift_remove_entry (nat_eq k) es) ≤ length es
length_remove k [] = lit≤ tt
length_remove k (e ∷ es) = go (nat_eq k e.0) (length_remove k es)
  where
    go : (b : Bool) → length (shift_remove_entry (nat_eq k) es) ≤ length es
        → length (cond b es (e ∷ shift_remove_entry (nat_eq k) es)) ≤ length (e ∷ es)
    go true le = omega arith
    go false le = omega (arith, le)

-- a move lets at most one call more wait
move_waits : (call : ℕ) (opened : Bool) (ws : List (ℕ × ⊤))
    → length (changed nat_eq (Some (key_change call opened)) ws) ≤ 1 + length ws
move_waits call true ws = length_insert call ws
move_waits call false ws = let le = length_remove call ws in omega (arith, le)

-- effects that open no window let none more wait
none_more : (does : List Effect) → AllSilent opened_by does → (ws : List (ℕ × ⊤))
    → length (entries_after nat_eq window_change does ws) ≤ length ws
none_more [] h ws = omega arith
none_more (Move kind call stage ∷ does) h ws = go (is_window stage) h.0 (λ ws'. none_more does h.1 ws')
  where
    go : (opened : Bool) → cond opened (Some call) None ≡ None
        → ((ws' : List (ℕ × ⊤)) → length (entries_after nat_eq window_change does ws') ≤ length ws')
        → length (entries_after nat_eq window_change does (changed nat_eq (Some (key_change call opened)) ws)) ≤ length ws
    go true none more = absurd (let no : Some call ≡ None = none in cc)
    go false none more =
        let after = more (shift_remove_entry (nat_eq call) ws) in
        let le = length_remove call ws in
        omega (arith, after, le)
none_more (Time time ∷ does) h ws = none_more does h.1 ws
none_more (Page page origin ∷ does) h ws = none_more does h.1 ws
none_more (Closed page ∷ does) h ws = none_more does h.1 ws
none_more (Cookie cookie ∷ does) h ws = none_more does h.1 ws
none_more (Login origin status ∷ does) h ws = none_more does h.1 ws
none_more (Begin b ∷ does) h ws = none_more does h.1 ws
none_more (Sent kind call provider ask cookies ∷ does) h ws = none_more does h.1 ws
none_more (Shown call dialog ∷ does) h ws = none_more does h.1 ws
none_more (Dropped call provider failure ∷ does) h ws = none_more does h.1 ws
none_more (Window call provider url ∷ does) h ws = none_more does h.1 ws
none_more (Kept triple stays ∷ does) h ws = none_more does h.1 ws
none_more (Flag origin stays ∷ does) h ws = none_more does h.1 ws
none_more (Result call page finish ∷ does) h ws = none_more does h.1 ws
none_more (Ignored why ∷ does) h ws = none_more does h.1 ws

-- at most one call more waits after these effects
abbrev FewWait : List (ℕ × ⊤) → List Effect → Type 0
FewWait ws does = length (entries_after nat_eq window_change does ws) ≤ 1 + length ws

none_wait : (does : List Effect) → AllSilent opened_by does → (ws : List (ℕ × ⊤)) → FewWait ws does
none_wait does h ws = let le = none_more does h ws in omega (arith, le)

few_moved : (kind : CallKind) (call : ℕ) (stage : Option Stage) (ws : List (ℕ × ⊤)) → FewWait ws (moves kind call stage)
few_moved kind call None ws = omega arith
few_moved kind call (Some stage) ws = move_waits call (is_window stage) ws

few_outcome : (world : World) (cookies : Ask → List ℕ) (kind : CallKind) (call page : ℕ) (outcome : Outcome) (ws : List (ℕ × ⊤))
    → FewWait ws (outcome_effects world cookies kind call page outcome)
few_outcome world cookies kind call page outcome ws =
    let does = flat_map (call_effects world cookies kind call page) outcome.effects in
    subst (λ es. length es ≤ 1 + length ws)
    (sym (entries_after-append nat_eq window_change does (moves kind call outcome.stage) ws
    ∙ ap (entries_after nat_eq window_change (moves kind call outcome.stage)) (entries_silent nat_eq window_change does ws
    (silent_call window_change (λ n c p a k. refl) (λ c d. refl) (λ c p f. refl) (λ c p u. refl) (λ o s. refl) (λ t k. refl) (λ o k. refl)
    (λ c p f. refl) (λ w. refl) world cookies kind call page outcome.effects))))
    (few_moved kind call outcome.stage ws)

few_begun : (world : World) (cookies : Ask → List ℕ) (o : Option Origin) (busy : Bool) (page call : ℕ) (options : CallOptions)
    (ws : List (ℕ × ⊤)) → FewWait ws (begin_effects world cookies o busy page call options)
few_begun world cookies None busy page call options ws = omega arith
few_begun world cookies (Some origin) busy page call options ws = go (is_trustworthy origin)
  where
    go : (trusted : Bool) → FewWait ws (standing_call world cookies trusted busy
        (record { call = call; page = page; origin = origin; options = options }))
    go false = omega arith
    go true = few_outcome world cookies (kind_asked options) call page (first_row world busy origin options) ws

few_taken : (world : World) (cookies : Ask → List ℕ) (taken : Bool) (call : ℕ) (known : Option Known) (input : Input)
    (ws : List (ℕ × ⊤)) → FewWait ws (input_effects world cookies taken call known input)
few_taken world cookies false call known input ws = omega arith
few_taken world cookies true call None input ws = omega arith
few_taken world cookies true call (Some known) input ws =
    few_outcome world cookies (kind_of known) call (page_of known) (any_row world known input) ws

silent_closed : (calls : List (ℕ × CallKind)) (page : ℕ) (origin : Option Origin)
    → AllSilent opened_by (close_effects calls page origin)
silent_closed calls page None = (refl, tt)
silent_closed calls page (Some origin) =
    silent_append opened_by (ends_of calls) (Closed page ∷ []) (ends_silent opened_by (λ n c. refl) calls) (refl, tt)

few_wait : (T : Trace) (event : Event) (ws : List (ℕ × ⊤)) → FewWait ws (effects_of T event)
few_wait T (events.Have have) ws =
    none_wait (effects_of T (events.Have have))
    (have_silent opened_by (record { cookie = λ c. refl; login = λ o s. refl; kept = λ t k. refl; flag = λ o k. refl })
    (have_changes T have) have) ws
few_wait T (events.At time) ws = omega arith
few_wait T (events.Load page url raw) ws =
    none_wait (effects_of T (events.Load page url raw))
    (load_silent opened_by (λ n c. refl) (λ p o. refl) (λ c. refl) (λ o s. refl) (pending_of T page) page url
    (load_changes T url raw) (set_logins raw)) ws
few_wait T (events.ClosePage page) ws =
    none_wait (effects_of T (events.ClosePage page)) (silent_closed (pending_of T page) page (page_at T page)) ws
few_wait T (events.Get page call options) ws =
    few_begun (world_at T) (cookies_with T) (page_at T page) (is_busy page (gets T)) page call (ToGet options) ws
few_wait T (events.Disconnect page call config client hint) ws =
    few_begun (world_at T) (cookies_with T) (page_at T page) (is_busy page (gets T)) page call
    (ToDisconnect (record { config = config; client = client; hint = hint })) ws
few_wait T (events.Abort call) ws = few_taken (world_at T) (cookies_with T) (is_begun T call) call (known_at T call) inputs.Abort ws
few_wait T (events.GoOn call) ws = few_taken (world_at T) (cookies_with T) (is_begun T call) call (known_at T call) inputs.GoOn ws
few_wait T (events.Cancel call) ws = few_taken (world_at T) (cookies_with T) (is_begun T call) call (known_at T call) inputs.Cancel ws
few_wait T (events.SignIn call) ws = few_taken (world_at T) (cookies_with T) (is_begun T call) call (known_at T call) inputs.SignIn ws
few_wait T (events.ShutWindow call) ws = few_taken (world_at T) (cookies_with T) (is_begun T call) call (known_at T call) inputs.Shut ws
few_wait T (events.Reply call place kind raw) ws =
    few_taken (world_at T) (cookies_with T) (is_begun T call) call (known_at T call) (inputs.Reply place kind raw) ws
few_wait T (events.Choose call place id) ws =
    few_taken (world_at T) (cookies_with T) (is_begun T call) call (known_at T call) (inputs.Choose place id) ws
few_wait T (events.IdpClose page) ws =
    none_wait (effects_of T (events.IdpClose page))
    (idpclose_silent opened_by (record { ignored = λ w. refl; sent = λ n c p t k. refl; move = λ n c. refl }) (world_at T)
    (cookies_with T) (known_at T) (windows_of T) (page_at T page)) ws
few_wait T (events.Prevent page) ws =
    none_wait (effects_of T (events.Prevent page))
    (says_silent opened_by (λ origin. Flag origin true) (λ o. refl) (λ w. refl) (page_at T page)) ws
few_wait T (events.SetStatus page status) ws =
    none_wait (effects_of T (events.SetStatus page status))
    (says_silent opened_by (λ origin. Login origin status) (λ o. refl) (λ w. refl) (page_at T page)) ws

keys_length : (es : List (ℕ × ⊤)) → length (keys_of es) ≡ length es
keys_length [] = refl
keys_length (e ∷ es) = ap suc (keys_length es)

-- after an event at most one call more is in Window
pub few_windows : (T : Trace) (line : ℕ) (event : Event)
    → length (open_windows (with_event T line event)) ≤ 1 + length (open_windows T)
few_windows T line event =
    let ws = standing nat_eq window_change T.rows in
    let le = few_wait T event ws in
    let before = keys_length ws in
    let after = keys_length (entries_after nat_eq window_change (effects_of T event) ws) in
    omega (arith, le, before, after)

-- ---- calls that go on

length_filter : (p : ℕ → Bool) (xs : List ℕ) → length (filter p xs) ≤ length xs
length_filter p [] = lit≤ tt
length_filter p (x ∷ xs) = go (p x) (length_filter p xs)
  where
    go : (b : Bool) → length (filter p xs) ≤ length xs → length (cond b (x ∷ filter p xs) (filter p xs)) ≤ length (x ∷ xs)
    go true le = omega (arith, le)
    go false le = omega (arith, le)

one_asks : (call : ℕ) (does : List Effect) → Resuming call does → length (filter_map first_sent does) ≤ 1
one_asks call does (Rests is) = subst (λ es. length (filter_map first_sent es) ≤ 1) (sym is) (lit≤ tt)
one_asks call does (Refuses why is) = subst (λ es. length (filter_map first_sent es) ≤ 1) (sym is) (lit≤ tt)
one_asks call does (AsksAgain kind place to ck is) = subst (λ es. length (filter_map first_sent es) ≤ 1) (sym is) (go kind)
  where
    go : (kind : CallKind)
        → length (filter_map first_sent (Sent kind call place (Accounts to) ck ∷ Move kind call Listing ∷ [])) ≤ 1
    go GetCall = lit≤ tt
    go DisconnectCall = lit≤ tt

all_ask : (world : World) (cookies : Ask → List ℕ) (known : ℕ → Option Known) (calls : List ℕ)
    → length (filter_map first_sent (flat_map (resume_effects world cookies known) calls)) ≤ length calls
all_ask world cookies known [] = lit≤ tt
all_ask world cookies known (call ∷ calls) =
    let own = resume_effects world cookies known call in
    let more = flat_map (resume_effects world cookies known) calls in
    let first = one_asks call own (resuming world cookies call (known call)) in
    let rest = all_ask world cookies known calls in
    rw (filter_map-append first_sent own more)
    (rw (length-append (filter_map first_sent own) (filter_map first_sent more)) (omega (arith, first, rest)))

few_resumed : (T : Trace) (o : Option Origin)
    → length (filter_map first_sent (idpclose_effects (world_at T) (cookies_with T) (known_at T) (windows_of T) o))
    ≤ 20 + length (open_windows T)
few_resumed T None = omega arith
few_resumed T (Some origin) = go (is_trustworthy origin)
  where
    waiting : (calls : List ℕ) → windows_of T origin ≡ calls
        → length (filter_map first_sent (waiting_effects (world_at T) (cookies_with T) (known_at T) calls)) ≤ 20 + length (open_windows T)
    waiting [] is = omega arith
    waiting (call ∷ calls) is =
        let some = all_ask (world_at T) (cookies_with T) (known_at T) (call ∷ calls) in
        let among = length_filter (λ c. is_origin origin (provider_of T.rows c)) (open_windows T) in
        let many = ap length is in
        omega (arith, some, among, many)

    go : (trusted : Bool)
        → length (filter_map first_sent (standing_resumes (world_at T) (cookies_with T) (known_at T) (windows_of T origin) trusted))
        ≤ 20 + length (open_windows T)
    go true = waiting (windows_of T origin) refl
    go false = omega arith

-- ---- every event

-- the event lets calls that wait go on
abbrev is_idpclose : Event → Bool
is_idpclose (events.IdpClose page) = true
is_idpclose _ = false

few_sent_by : (T : Trace) (event : Event) → HasProviders event → is_idpclose event ≡ false → length (filter_map first_sent (effects_of T event)) ≤ 20
few_sent_by T (events.Have have) few other =
    few_of_silent _ (have_silent first_sent (record { cookie = λ c. refl; login = λ o s. refl; kept = λ t k. refl; flag = λ o k. refl })
    (have_changes T have) have)
few_sent_by T (events.At time) few other = lit≤ tt
few_sent_by T (events.Load page url raw) few other =
    few_of_silent _
    (load_silent first_sent (λ n c. refl) (λ p o. refl) (λ c. refl) (λ o s. refl) (pending_of T page) page url
    (load_changes T url raw) (set_logins raw))
few_sent_by T (events.ClosePage page) few other = few_of_silent _ (silent_close (pending_of T page) page (page_at T page))
few_sent_by T (events.Get page call options) few other =
    few_of_begin (world_at T) (cookies_with T) (page_at T page) (is_busy page (gets T)) page call (ToGet options) few
few_sent_by T (events.Abort call) few other = few_of_input (world_at T) (cookies_with T) (is_begun T call) call (known_at T call) inputs.Abort
few_sent_by T (events.GoOn call) few other = few_of_input (world_at T) (cookies_with T) (is_begun T call) call (known_at T call) inputs.GoOn
few_sent_by T (events.Cancel call) few other =
    few_of_input (world_at T) (cookies_with T) (is_begun T call) call (known_at T call) inputs.Cancel
few_sent_by T (events.SignIn call) few other =
    few_of_input (world_at T) (cookies_with T) (is_begun T call) call (known_at T call) inputs.SignIn
few_sent_by T (events.ShutWindow call) few other =
    few_of_input (world_at T) (cookies_with T) (is_begun T call) call (known_at T call) inputs.Shut
few_sent_by T (events.IdpClose page) few other = absurd (cc)
few_sent_by T (events.Reply call place kind raw) few other =
    few_of_input (world_at T) (cookies_with T) (is_begun T call) call (known_at T call) (inputs.Reply place kind raw)
few_sent_by T (events.Choose call place id) few other =
    few_of_input (world_at T) (cookies_with T) (is_begun T call) call (known_at T call) (inputs.Choose place id)
few_sent_by T (events.Prevent page) few other =
    few_of_silent _ (says_silent first_sent (λ origin. Flag origin true) (λ o. refl) (λ w. refl) (page_at T page))
few_sent_by T (events.SetStatus page status) few other =
    few_of_silent _ (says_silent first_sent (λ origin. Login origin status) (λ o. refl) (λ w. refl) (page_at T page))
few_sent_by T (events.Disconnect page call config client hint) few other =
    few_of_begin (world_at T) (cookies_with T) (page_at T page) (is_busy page (gets T)) page call
    (ToDisconnect (record { config = config; client = client; hint = hint })) tt

pub few_requests : (T : Trace) (event : Event) → HasProviders event
    → length (filter_map first_sent (effects_of T event)) ≤ 20 + length (open_windows T)
few_requests T event few = go event few (is_idpclose event) refl
  where
    go : (e : Event) → HasProviders e → (b : Bool) → is_idpclose e ≡ b
        → length (filter_map first_sent (effects_of T e)) ≤ 20 + length (open_windows T)
    go (events.IdpClose page) few b is = few_resumed T (page_at T page)
    go e few false is = let le = few_sent_by T e few is in omega (arith, le)
    go e few true is = absurd (cc)
