-- In a run the pending gets are the gets among the pending calls.
use Rattle.std.proofs.Common.{◌≡◌, ℕ, Bool, true, false, nat_eq, List, [], ◌∷◌, ◌++◌, Some, None, refl, sym, ap, subst}
use Rattle.std.proofs.Common.{◌∙◌, arith, cond}
use Rattle.std.proofs.lemmas.Bool.Decides.{nat_tests}
use Rattle.std.specs.Prelude.{Option, option_map, unwrap_or}
use Rattle.std.specs.Option.{option_or}
use Rattle.std.specs.List.{filter_map, flat_map, list_any}
use Rattle.std.specs.Map.{lookup}
use Rattle.indexmap.specs.IndexMap.{insert_entry}
use Rattle.fed_origin.specs.declared.origin.Origin.{Origin}
use Rattle.fed_origin.specs.declared.stage.Stage.{Stage}
use Rattle.fed_origin.specs.declared.stage.Stage.TheVariants.{Listing}
use Rattle.fed_origin.specs.Origin.{is_trustworthy}
use Rattle.fed_origin.specs.WebUrl.{origin_of}
use Rattle.fed_status.specs.Shared.{World}
use Rattle.fed_consent.specs.declared.table.ask.Ask.{Ask}
use Rattle.fed_consent.specs.declared.table.input.Input.{Input}
use Rattle.fed_consent.specs.declared.table.input.Input.TheVariants as inputs
use Rattle.fed_consent.specs.Outcomes.{Outcome}
use Rattle.fed_script.specs.declared.event.Event.{Event}
use Rattle.fed_script.specs.declared.event.Event.TheVariants as events
use Rattle.fed_script.specs.declared.event.Header.{Header}
use Rattle.fed_disconnect.specs.Facts.{disconnect_options}
use Rattle.fed_trace.specs.Begun.{Begun, CallKind, GetCall, DisconnectCall, CallOptions, ToGet, ToDisconnect, kind_asked}
use Rattle.fed_trace.specs.Call.{Known, OfGet, OfDisconnect, kind_of, page_of, stage_of, known_first, first_row, input_row}
use Rattle.fed_trace.specs.Effect.{Effect, PendingCall, pending_from, Time, Page, Closed, Cookie, Login, Begin, Move, Sent, Dropped}
use Rattle.fed_trace.specs.Effect.{Shown, Window}
use Rattle.fed_trace.specs.Effect.{Kept, Flag, Result, Ignored, is_ignored, last_of, begins, call_change, get_change, begun_by}
use Rattle.fed_trace.specs.Keyed.{entries_after}
use Rattle.fed_trace.specs.Known.{world_at, is_begun, input_to, with_said, known_in, known_at}
use Rattle.fed_trace.specs.Row.{effects_of, cookies_with, outcome_effects, call_effects, moves, input_effects, begin_effects, standing_call}
use Rattle.fed_trace.specs.Row.{is_busy, ends_of, cookie_effects, login_effects, have_changes, have_states, load_changes}
use Rattle.fed_trace.specs.Row.{set_logins, page_says, close_effects, IsNew, IsRun}
use Rattle.fed_trace.specs.Trace.{Row, Trace, calls_of, begun, pending, pending_of, gets, page_at, stage_at, last_value, standing}
use Rattle.fed_trace.specs.Windows.{windows_of}
use Rattle.fed_trace.proofs.keyed.Keyed.{IsAbsent, AreDistinct, entries_after-append, distinct_standing, lookup-standing}
use Rattle.fed_trace.proofs.keyed.Keyed.{lookup-insert_entry}
use Rattle.fed_trace.proofs.effects.Silent.{AllSilent, entries_silent, silent_call}
use Rattle.fed_trace.proofs.calls.Pending.{others, ended, any_append, load_rest_silent}
use Rattle.fed_trace.proofs.calls.Resumed.{idpclose_silent}
use Rattle.fed_trace.proofs.calls.Gets.{gets_among, IsOfKind, gets_insert, gets_moved, gets_ended}
use Rattle.fed_trace.proofs.known.Known.{found_by}
use Rattle.fed_trace.proofs.known.Facts.{staged}
use Rattle.fed_trace.proofs.known.Kinds.{Says, Begun_last, Over_last, Nothing, says_of, kinds_agree}
use Rattle.fed_trace.proofs.events.Aside.{have_silent, says_silent}

-- what effects leave of gets is what they leave of the gets among pending calls
abbrev Keeps : List (ℕ × PendingCall) → List Effect → Type 0
Keeps es effects = gets_among (entries_after nat_eq call_change effects es) ≡ entries_after nat_eq get_change effects (gets_among es)

-- effects that say nothing of calls
keeps_silent : (es : List (ℕ × PendingCall)) (effects : List Effect) → AllSilent call_change effects → AllSilent get_change effects
    → Keeps es effects
keeps_silent es effects calls gets_none =
    ap gets_among (entries_silent nat_eq call_change effects es calls)
    ∙ sym (entries_silent nat_eq get_change effects (gets_among es) gets_none)

keeps_is : (es : List (ℕ × PendingCall)) (effects others : List Effect) → effects ≡ others → Keeps es others → Keeps es effects
keeps_is es effects others is h = subst (Keeps es) (sym is) h

-- an outcome of a call
keeps_outcome : (world : World) (cookies : Ask
    → List ℕ) (kind : CallKind) (call page : ℕ) (outcome : Outcome) (es : List (ℕ × PendingCall))
    → IsOfKind kind call es
    → Keeps es (outcome_effects world cookies kind call page outcome)
keeps_outcome world cookies kind call page outcome es of_kind =
    let does = flat_map (call_effects world cookies kind call page) outcome.effects in
    ap gets_among (entries_after-append nat_eq call_change does (moves kind call outcome.stage) es
    ∙ ap (entries_after nat_eq call_change (moves kind call outcome.stage))
    (entries_silent nat_eq call_change does es (silent_call call_change (λ n c p a k. refl) (λ c d. refl) (λ c p f. refl)
    (λ c p u. refl) (λ o s. refl)
    (λ t k. refl) (λ o k. refl) (λ c p f. refl) (λ w. refl) world cookies kind call page outcome.effects)))
    ∙ gets_moved kind call outcome.stage es of_kind
    ∙ sym (entries_after-append nat_eq get_change does (moves kind call outcome.stage) (gets_among es)
    ∙ ap (entries_after nat_eq get_change (moves kind call outcome.stage))
    (entries_silent nat_eq get_change does (gets_among es)
    (silent_call get_change (λ n c p a k. refl) (λ c d. refl) (λ c p f. refl) (λ c p u. refl) (λ o s. refl) (λ t k. refl) (λ o k. refl)
    (λ c p f. refl)
    (λ w. refl) world cookies kind call page outcome.effects)))

-- a call that begins
keeps_begin : (world : World) (cookies : Ask → List ℕ) (b : Begun) (outcome : Outcome) (es : List (ℕ × PendingCall))
    → IsAbsent b.call es
    → Keeps es (Begin b ∷ outcome_effects world cookies (kind_asked b.options) b.call b.page outcome)
keeps_begin world cookies b outcome es absent =
    let does = outcome_effects world cookies (kind_asked b.options) b.call b.page outcome in
    keeps_outcome world cookies (kind_asked b.options) b.call b.page outcome (insert_entry nat_eq es b.call (pending_from b)) own
    ∙ ap (entries_after nat_eq get_change does) (gets_insert b.call (pending_from b) es absent)
  where
    own : IsOfKind (kind_asked b.options) b.call (insert_entry nat_eq es b.call (pending_from b))
    own v found =
        let same : nat_eq b.call b.call ≡ true = grind (arith, nat_tests) in
        let is : Some (pending_from b) ≡ Some v =
        sym (lookup-insert_entry b.call b.call (pending_from b) es
        ∙ ap (λ t. cond t (Some (pending_from b)) (lookup (nat_eq b.call) es)) same) ∙ found in
        let v_is : pending_from b ≡ v = cc in
        ap (λ (x : PendingCall). x.kind) (sym v_is)

keeps_ends : (page : ℕ) (es : List (ℕ × PendingCall)) (rest : List Effect) → AreDistinct es → AllSilent call_change rest
    → AllSilent get_change rest
    → (ends : List Effect) → ends ≡ ends_of (calls_of page es) → Keeps es (ends ++ rest)
keeps_ends page es rest distinct calls gets_none ends is =
    keeps_is es (ends ++ rest) (ends_of (calls_of page es) ++ rest) (ap (λ xs. xs ++ rest) is)
    (ap gets_among (entries_after-append nat_eq call_change (ends_of (calls_of page es)) rest es
    ∙ entries_silent nat_eq call_change rest (entries_after nat_eq call_change (ends_of (calls_of page es)) es) calls
    ∙ ended page es distinct)
    ∙ gets_ended page es distinct
    ∙ sym (entries_after-append nat_eq get_change (ends_of (calls_of page es)) rest (gets_among es)
    ∙ entries_silent nat_eq get_change rest (entries_after nat_eq get_change (ends_of (calls_of page es)) (gets_among es)) gets_none))

-- ---- a call that never began is not pending

others_begin : {A : Type 0} (o : Option A) → o ≡ None → option_or o None ≡ None
others_begin o none = ap (λ x. option_or x None) none

unbegun_last : (call : ℕ) (effects : List Effect) → list_any (nat_eq call) (filter_map begun_by effects) ≡ false
    → last_of (begins call) effects ≡ None
unbegun_last call [] h = refl
unbegun_last call (Begin b ∷ effects) h =
    let here : nat_eq call b.call ≡ false = grind (arith, h) in
    let more : list_any (nat_eq call) (filter_map begun_by effects) ≡ false = grind (arith, h) in
    ap (λ o. option_or o (cond (nat_eq call b.call) (Some b) None)) (unbegun_last call effects more)
    ∙ ap (λ t. cond t (Some b) None) here
unbegun_last call (Time time ∷ effects) h = others_begin _ (unbegun_last call effects h)
unbegun_last call (Page page origin ∷ effects) h = others_begin _ (unbegun_last call effects h)
unbegun_last call (Closed page ∷ effects) h = others_begin _ (unbegun_last call effects h)
unbegun_last call (Cookie cookie ∷ effects) h = others_begin _ (unbegun_last call effects h)
unbegun_last call (Login origin status ∷ effects) h = others_begin _ (unbegun_last call effects h)
unbegun_last call (Move kind c stage ∷ effects) h = others_begin _ (unbegun_last call effects h)
unbegun_last call (Sent kind c provider ask cookies ∷ effects) h = others_begin _ (unbegun_last call effects h)
unbegun_last call (Shown c dialog ∷ effects) h = others_begin _ (unbegun_last call effects h)
unbegun_last call (Dropped c provider failure ∷ effects) h = others_begin _ (unbegun_last call effects h)
unbegun_last call (Window c provider url ∷ effects) h = others_begin _ (unbegun_last call effects h)
unbegun_last call (Kept triple stays ∷ effects) h = others_begin _ (unbegun_last call effects h)
unbegun_last call (Flag origin stays ∷ effects) h = others_begin _ (unbegun_last call effects h)
unbegun_last call (Result c page finish ∷ effects) h = others_begin _ (unbegun_last call effects h)
unbegun_last call (Ignored why ∷ effects) h = others_begin _ (unbegun_last call effects h)

pub unbegun_absent : (rows : List Row) (call : ℕ) → list_any (nat_eq call) (begun rows) ≡ false
    → last_value nat_eq call_change call rows ≡ None
unbegun_absent [] call new = refl
unbegun_absent (row ∷ rows) call new =
    go (unbegun_absent rows call (any_append call (begun rows) (filter_map begun_by row.effects) new).0) (says_of call row.effects)
  where
    go : last_value nat_eq call_change call rows ≡ None → Says call row.effects
        → last_value nat_eq call_change call (row ∷ rows) ≡ None
    go before (Begun_last b last began) =
        let no : None ≡ Some b =
        sym (unbegun_last call row.effects (any_append call (begun rows) (filter_map begun_by row.effects) new).1) ∙ began in
        absurd (cc)
    go before (Over_last last) = ap (λ o. unwrap_or o (last_value nat_eq call_change call rows)) last
    go before (Nothing last began) = ap (λ o. unwrap_or o (last_value nat_eq call_change call rows)) last ∙ before

-- and nothing is known of it
pub unbegun_unknown : (header : Header) (rows : List Row) (call : ℕ) → list_any (nat_eq call) (begun rows) ≡ false
    → known_in header rows call ≡ None
unbegun_unknown header [] call new = refl
unbegun_unknown header (row ∷ rows) call new =
    let apart = any_append call (begun rows) (filter_map begun_by row.effects) new in
    let said = with_said (world_at (record { header = header; rows = rows })) (list_any is_ignored row.effects) (input_to call row.event) in
    ap (λ o. option_or (option_map (known_first (world_at (record {
      header = header;
      rows =
          rows;
    }))) o) (option_map said (known_in header rows call))) (unbegun_last call row.effects apart.1)
    ∙ ap (option_map said) (unbegun_unknown header rows call apart.0)

-- a call that is not over is pending as of its kind
pub known_kind : (T : Trace) (call : ℕ) (k : Known) → known_at T call ≡ Some k → IsOfKind (kind_of k) call (pending T)
known_kind T call k is v found =
    let about = found_by k (stage_at T call) (known_in T.header T.rows call) is in
    kinds_agree T.header T.rows call about.before v about.found_is (sym (lookup-standing call_change call T.rows) ∙ found)
    ∙ same_as about.before about.is
  where
    staged_kind : (stage : Stage) (known : Known) → kind_of (staged stage known) ≡ kind_of known
    staged_kind stage (OfGet facts) = refl
    staged_kind stage (OfDisconnect facts) = refl

    same_as : (before : Known) → k ≡ staged (stage_of k) before → kind_of before ≡ kind_of k
    same_as before whole = sym (staged_kind (stage_of k) before) ∙ ap kind_of (sym whole)

-- ---- each event

keeps_input : (T : Trace) (event : Event) (call : ℕ) (input : Input)
    → effects_of T event ≡ input_effects (world_at T) (cookies_with T) (is_begun T call) call (known_at T call) input
    → Keeps (pending T) (effects_of T event)
keeps_input T event call input effects = keeps_is (pending T) (effects_of T event) _ effects (go (is_begun T call))
  where
    taken : (known : Option Known) → known_at T call ≡ known
        → Keeps (pending T) (input_effects (world_at T) (cookies_with T) true call known input)
    taken None is = refl
    taken (Some k) is =
        keeps_outcome (world_at T) (cookies_with T) (kind_of k) call (page_of k) (input_row (world_at T) k input) (pending T)
        (known_kind T call k is)

    go : (begun : Bool) → Keeps (pending T) (input_effects (world_at T) (cookies_with T) begun call (known_at T call) input)
    go false = refl
    go true = taken (known_at T call) refl

keeps_begun : (T : Trace) (o : Option Origin) (page call : ℕ) (options : CallOptions) → list_any (nat_eq call) (begun T.rows) ≡ false
    → Keeps (pending T) (begin_effects (world_at T) (cookies_with T) o (is_busy page (gets T)) page call options)
keeps_begun T None page call options new = refl
keeps_begun T (Some origin) page call options new = go (is_trustworthy origin)
  where
    go : (trusted : Bool)
        → Keeps (pending T) (standing_call (world_at T) (cookies_with T) trusted (is_busy page (gets T)) (record
        { call = call; page = page; origin = origin; options = options }))
    go false = refl
    go true =
        keeps_begin (world_at T) (cookies_with T) (record { call = call; page = page; origin = origin; options = options })
        (first_row (world_at T) (is_busy page (gets T)) origin options) (pending T)
        (lookup-standing call_change call T.rows ∙ unbegun_absent T.rows call new)

keeps_close : (T : Trace) (page : ℕ) (o : Option Origin) → Keeps (pending T) (close_effects (pending_of T page) page o)
keeps_close T page None = refl
keeps_close T page (Some origin) =
    keeps_ends page (pending T) (Closed page ∷ []) (distinct_standing call_change T.rows) (refl, tt) (
      refl,
      tt,
    ) (ends_of (pending_of T page)) refl

keeps_row : (T : Trace) (event : Event) → IsNew T.rows event → Keeps (pending T) (effects_of T event)
keeps_row T (events.Have have) new =
    let found = have_changes T have in
    keeps_silent (pending T) (cookie_effects found ++ have_states have)
    (have_silent call_change (record { cookie = λ c. refl; login = λ o s. refl; kept = λ t k. refl; flag = λ o k. refl }) found have)
    (have_silent get_change (record { cookie = λ c. refl; login = λ o s. refl; kept = λ t k. refl; flag = λ o k. refl }) found have)
keeps_row T (events.At time) new = refl
keeps_row T (events.Prevent page) new =
    keeps_silent (pending T) (page_says (page_at T page) (λ origin. Flag origin true))
    (says_silent call_change (λ origin. Flag origin true) (λ o. refl) (λ w. refl) (page_at T page))
    (says_silent get_change (λ origin. Flag origin true) (λ o. refl) (λ w. refl) (page_at T page))
keeps_row T (events.SetStatus page status) new =
    keeps_silent (pending T) (page_says (page_at T page) (λ origin. Login origin status))
    (says_silent call_change (λ origin. Login origin status) (λ o. refl) (λ w. refl) (page_at T page))
    (says_silent get_change (λ origin. Login origin status) (λ o. refl) (λ w. refl) (page_at T page))
keeps_row T (events.Load page url raw) new =
    let found = load_changes T url raw in
    let origin = origin_of url in
    keeps_ends page (pending T) (Page page origin
    ∷ (cookie_effects found ++ login_effects origin (set_logins raw))) (distinct_standing call_change T.rows)
    (refl, load_rest_silent call_change (λ c. refl) (λ o s. refl) found origin (set_logins raw))
    (refl, load_rest_silent get_change (λ c. refl) (λ o s. refl) found origin (set_logins raw)) (ends_of (pending_of T page)) refl
keeps_row T (events.ClosePage page) new = keeps_close T page (page_at T page)
keeps_row T (events.Get page call options) new = keeps_begun T (page_at T page) page call (ToGet options) new.0
keeps_row T (events.Disconnect page call config client hint) new =
    keeps_begun T (page_at T page) page call (ToDisconnect (disconnect_options config client hint)) new
keeps_row T (events.Abort call) new = keeps_input T (events.Abort call) call inputs.Abort refl
keeps_row T (events.Reply call provider kind raw) new =
    keeps_input T (events.Reply call provider kind raw) call (inputs.Reply provider kind raw) refl
keeps_row T (events.Choose call provider account) new =
    keeps_input T (events.Choose call provider account) call (inputs.Choose provider account) refl
keeps_row T (events.GoOn call) new = keeps_input T (events.GoOn call) call inputs.GoOn refl
keeps_row T (events.Cancel call) new = keeps_input T (events.Cancel call) call inputs.Cancel refl
keeps_row T (events.SignIn call) new = keeps_input T (events.SignIn call) call inputs.SignIn refl
keeps_row T (events.ShutWindow call) new = keeps_input T (events.ShutWindow call) call inputs.Shut refl
keeps_row T (events.IdpClose page) new =
    keeps_silent (pending T) (effects_of T (events.IdpClose page))
    (idpclose_silent call_change (record { ignored = λ w. refl; sent = λ n c p t k. refl; move = λ n c. refl }) (world_at T)
    (cookies_with T) (known_at T) (windows_of T) (page_at T page))
    (idpclose_silent get_change (record { ignored = λ w. refl; sent = λ n c p t k. refl; move = still }) (world_at T)
    (cookies_with T) (known_at T) (windows_of T) (page_at T page))
  where
    still : (kind : CallKind) (call : ℕ) → get_change (Move kind call Listing) ≡ None
    still GetCall call = refl
    still DisconnectCall call = refl

pub gets_are : (header : Header) (rows : List Row) → IsRun header rows
    → gets_among (standing nat_eq call_change rows) ≡ standing nat_eq get_change rows
gets_are header [] run = refl
gets_are header (row ∷ rows) run =
    keeps_is (standing nat_eq call_change rows) row.effects (effects_of (record { header = header; rows = rows }) row.event) run.0
    (keeps_row (record { header = header; rows = rows }) row.event run.1)
    ∙ ap (entries_after nat_eq get_change row.effects) (gets_are header rows run.2)
