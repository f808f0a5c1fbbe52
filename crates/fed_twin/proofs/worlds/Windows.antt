-- In a run only gets have a login window open, and in both worlds the same calls wait for each origin.
use Rattle.std.proofs.Common.{◌≡◌, ℕ, Bool, true, false, ◌||◌, nat_eq, cond, List, [], ◌∷◌, ◌++◌, map, Option, Some, None, refl, sym, ap}
use Rattle.std.proofs.Common.{ap₂, ◌∙◌, arith}
use Rattle.std.proofs.lemmas.Bool.Decides.{nat_tests}
use Rattle.std.proofs.lemmas.Map.Made.{is_some-lookup}
use Rattle.std.specs.Prelude.{◌==◌, filter, option_and_then, option_map, unwrap_or, is_some, ⊤}
use Rattle.std.specs.Option.{option_or}
use Rattle.std.specs.List.{flat_map, list_any, AllByRecursion}
use Rattle.std.specs.Map.{keys_of, lookup}
use Rattle.indexmap.specs.IndexMap.{shift_remove_entry}
use Rattle.fed_origin.specs.declared.options.GetOptions.{GetOptions}
use Rattle.fed_origin.specs.declared.origin.Origin.{Origin}
use Rattle.fed_origin.specs.declared.stage.Stage.{Stage}
use Rattle.fed_origin.specs.declared.stage.Stage.TheVariants.{Reading, Gathering, Listing, Window, Ended}
use Rattle.fed_origin.specs.declared.options.ProviderOptions.{ProviderOptions}
use Rattle.fed_origin.specs.Origin.{is_trustworthy}
use Rattle.fed_origin.specs.WebUrl.{origin_of}
use Rattle.fed_provider.specs.declared.config.Config.{Config}
use Rattle.fed_status.specs.Shared.{World}
use Rattle.fed_consent.specs.declared.table.ask.Ask.{Ask}
use Rattle.fed_consent.specs.declared.table.input.Input.{Input}
use Rattle.fed_consent.specs.declared.table.input.Input.TheVariants as inputs
use Rattle.fed_consent.specs.Outcomes as outcomes
use Rattle.fed_consent.specs.Outcomes.{Outcome, only_place}
use Rattle.fed_call.specs.Facts.{Facts, config_at, provider_at}
use Rattle.fed_call.specs.Facts as get
use Rattle.fed_call.specs.WindowRows.{asks_again, origin_at, resumed}
use Rattle.fed_disconnect.specs.Facts.{DisconnectFacts, DisconnectOptions, disconnect_options}
use Rattle.fed_disconnect.specs.Rows.{disconnect_start_row}
use Rattle.fed_script.specs.declared.event.Event.{Event}
use Rattle.fed_script.specs.declared.event.Event.TheVariants as events
use Rattle.fed_script.specs.declared.event.Header.{Header}
use Rattle.fed_trace.specs.Begun.{Begun, CallKind, GetCall, DisconnectCall, ToGet, ToDisconnect, kind_asked}
use Rattle.fed_trace.specs.Call.{Known, OfGet, OfDisconnect, kind_of, page_of, stage_of, get_facts, get_outcome, first_row, input_row}
use Rattle.fed_trace.specs.Effect.{Effect, PendingCall, Time, Page, Closed, Cookie, Login, Begin, Move, Sent, Dropped, Shown, Kept, Flag}
use Rattle.fed_trace.specs.Effect.{Result}
use Rattle.fed_trace.specs.Effect.{Ignored, call_change, is_window, key_change, stage_change, window_change}
use Rattle.fed_trace.specs.Effect as effects
use Rattle.fed_trace.specs.Keyed.{entries_after, last_said}
use Rattle.fed_trace.specs.Known.{world_at, is_begun, known_by, known_in, known_at, facts_at}
use Rattle.fed_trace.specs.Row.{effects_of, row_of, with_event, cookies_with, call_effects, moves, outcome_effects, input_effects}
use Rattle.fed_trace.specs.Row.{begin_effects, standing_call, is_busy, ends_of, close_effects, load_changes, cookie_effects, login_effects}
use Rattle.fed_trace.specs.Row.{have_changes, set_logins, resume_effects, waiting_effects, standing_resumes, idpclose_effects}
use Rattle.fed_trace.specs.Row.{IsNew, IsRun}
use Rattle.fed_trace.specs.Trace.{Row, Trace, standing, stage_at, begun, pending, pending_of, calls_of, by_kind, page_at, gets}
use Rattle.fed_trace.specs.Windows.{provider_asked, provider_of, is_origin, open_windows, windows_of}
use Rattle.fed_trace.proofs.calls.Pending.{load_rest_silent}
use Rattle.fed_trace.proofs.calls.Windows.{in_window}
use Rattle.fed_trace.proofs.effects.Outcome.{moves_call}
use Rattle.fed_trace.proofs.effects.Silent.{AllSilent, entries_silent, silent_append, silent_call}
use Rattle.fed_trace.proofs.events.Aside.{have_silent, says_silent}
use Rattle.fed_trace.proofs.happens.Ends.{Happens, Left, Ends, Started, Took, Resumed, Resumes, Starts}
use Rattle.fed_trace.proofs.happens.First.{FirstTurn, FailsFirst, ReadsFirst, GathersFirst, first_turn, is_first}
use Rattle.fed_trace.proofs.happens.Gets.{Taking, ByGet, ByDisconnect, ByNone, taking}
use Rattle.fed_trace.proofs.happens.Happens.{happens}
use Rattle.fed_trace.proofs.happens.Over.{over_quiet}
use Rattle.fed_trace.proofs.happens.Resumed.{known_resumed}
use Rattle.fed_trace.proofs.happens.Says.{own}
use Rattle.fed_trace.proofs.happens.Taken.{Knows, Meets, does_it, knows, known_taken}
use Rattle.fed_trace.proofs.keyed.Entries.{remove_absent}
use Rattle.fed_trace.proofs.keyed.Keyed.{IsAbsent, AreDistinct, absent_after_remove, distinct_standing, entries_after-append}
use Rattle.fed_trace.proofs.known.Asked as known
use Rattle.fed_trace.proofs.known.Known.{found_by, known_same}
use Rattle.fed_trace.proofs.runs.Gets.{known_kind, unbegun_unknown}
use Rattle.fed_twin.specs.Looks.{get_window_change}
use Rattle.fed_twin.specs.Providers.{Providers}
use Rattle.fed_twin.specs.Same.{IfBoth, SameProvider, SameCall, SameWorlds}
use Rattle.fed_twin.proofs.calls.Call.{providers_both}
use Rattle.fed_twin.proofs.calls.Disconnect.{disconnect_begun, disconnect_later}
use Rattle.fed_twin.proofs.seen.Look.{gets_in_window_same}
use Rattle.fed_twin.proofs.worlds.Pages.{AreRuns}

-- ---- a call in Window is a get

-- a call that is in Window is a get, of which something is known
abbrev pub AreGets : Trace → Type 0
AreGets T = (q : ℕ) → stage_at T q ≡ Some Window → (f : Facts) × (known_at T q ≡ Some (OfGet f))

some_or : (moved : Option Stage) (stage : Stage) → unwrap_or (option_map Some moved) (Some stage) ≡ Some (unwrap_or moved stage)
some_or None stage = refl
some_or (Some next) stage = refl

-- the stage of a call after an input
stage_taken : (T : Trace) (line : ℕ) (event : Event) (q : ℕ) (k : Known) → (m : Knows T event q k)
    → stage_at (with_event T line event) q ≡ Some (unwrap_or (input_row (world_at T) k m.takes.input).stage (stage_of k))
stage_taken T line event q k m =
    let o = input_row (world_at T) k m.takes.input in
    let about = found_by k (stage_at T q) (known_in T.header T.rows q) m.found in
    ap (λ s. unwrap_or s (stage_at T q)) (ap (last_said nat_eq stage_change q) (does_it T event q k m)
    ∙ moves_call (world_at T) (cookies_with T) (kind_of k) q (page_of k) o q (own q))
    ∙ ap (unwrap_or (option_map Some o.stage)) about.stage_is ∙ some_or o.stage (stage_of k)

-- and of a call that begins
stage_begun : (T : Trace) (event : Event) (b : Begun) (o : Outcome) (stage : Stage)
    → effects_of T event ≡ Begin b ∷ outcome_effects (world_at T) (cookies_with T) (kind_asked b.options) b.call b.page o
    → o.stage ≡ Some stage → last_said nat_eq stage_change b.call (effects_of T event) ≡ Some (Some stage)
stage_begun T event b o stage does is =
    ap (last_said nat_eq stage_change b.call) does
    ∙ ap (λ x. option_or x None) (moves_call (world_at T) (cookies_with T) (kind_asked b.options) b.call b.page o b.call (own b.call)
    ∙ ap (option_map Some) is)

gets_on : (T : Trace) (line : ℕ) (event : Event) → IsNew T.rows event → AreGets T → AreGets (with_event T line event)
gets_on T line event new earlier q at = go (happens T event q)
  where
    Is : Type 0
    Is = (f : Facts) × (known_at (with_event T line event) q ≡ Some (OfGet f))

    -- what the row says of its stage is that it is in Window
    moved : (m : Option (Option Stage)) → last_said nat_eq stage_change q (effects_of T event) ≡ m
        → unwrap_or m (stage_at T q) ≡ Some Window
    moved m is = sym (ap (λ o. unwrap_or o (stage_at T q)) is) ∙ at

    started : (s : Starts T event q) → FirstTurn (first_row (world_at T) s.busy s.begun.origin s.begun.options) → Is
    started s turn = by turn
      where
        said : (stage : Stage) → (first_row (world_at T) s.busy s.begun.origin s.begun.options).stage ≡ Some stage
            → last_said nat_eq stage_change q (effects_of T event) ≡ Some (Some stage)
        said stage is =
            ap (λ c. last_said nat_eq stage_change c (effects_of T event)) (sym s.is_call)
            ∙ stage_begun T event s.begun (first_row (world_at T) s.busy s.begun.origin s.begun.options) stage s.effects is

        by : FirstTurn (first_row (world_at T) s.busy s.begun.origin s.begun.options) → Is
        by (FailsFirst failure ended asks gives) =
            absurd (let no : Some Ended ≡ Some Window = moved (Some (Some Ended)) (said Ended ended) in cc)
        by (ReadsFirst reading asks gives) =
            absurd (let no : Some Reading ≡ Some Window = moved (Some (Some Reading)) (said Reading reading) in cc)
        by (GathersFirst gathering asks gives) =
            absurd (let no : Some Gathering ≡ Some Window = moved (Some (Some Gathering)) (said Gathering gathering) in cc)

    by_get : (f : Facts) → Meets T event q f → Is
    by_get f m =
        let k = knows T event q f m in
        let o = input_row (world_at T) (OfGet f) m.takes.input in
        let both : Some (unwrap_or o.stage f.stage) ≡ Some Window = sym (stage_taken T line event q (OfGet f) k) ∙ at in
        let to : unwrap_or o.stage f.stage ≡ Window = cc in
        let w = get.with_input (world_at T) (list_any outcomes.is_ignored o.effects) m.takes.input f in (
          record w { stage = Window },
          known_taken T line event q (OfGet f) k ∙ ap (λ st. option_map OfGet (get.at_stage st w)) to,
        )

    by_disconnect : (f : DisconnectFacts) → (m : Knows T event q (OfDisconnect f)) → Is
    by_disconnect f m = by (input_row (world_at T) (OfDisconnect f) m.takes.input).stage refl
      where
        to : (moved_to : Option Stage) → (input_row (world_at T) (OfDisconnect f) m.takes.input).stage ≡ moved_to
            → Some (unwrap_or moved_to f.stage) ≡ Some Window
        to moved_to is =
            ap (λ s. Some (unwrap_or s f.stage)) (sym is) ∙ sym (stage_taken T line event q (OfDisconnect f) m) ∙ at

        by : (moved_to : Option Stage) → (input_row (world_at T) (OfDisconnect f) m.takes.input).stage ≡ moved_to → Is
        by (Some stage) is =
            let both = to (Some stage) is in
            let here : stage ≡ Window = cc in
            let no : true ≡ false =
            ap is_window (sym here) ∙ sym (ap (λ s. unwrap_or (option_map is_window s) false) is)
            ∙ (disconnect_later (world_at T) f m.takes.input).shut in
            absurd (cc)
        by None is =
            let about = found_by (OfDisconnect f) (stage_at T q) (known_in T.header T.rows q) m.found in
            let g = earlier q (about.stage_is ∙ to None is) in
            let no : Some (OfDisconnect f) ≡ Some (OfGet g.0) = sym m.found ∙ g.1 in
            absurd (cc)

    taken : Taking T event q → Is
    taken (ByGet f m) = by_get f m
    taken (ByDisconnect f m) = by_disconnect f m
    taken (ByNone t none) =
        let g = earlier q (moved None (over_quiet T event q t none).stage) in
        let no : None ≡ Some (OfGet g.0) = sym none ∙ g.1 in
        absurd (cc)

    resumes : (r : Resumes T event q) → (config : Option Config) → config_at only_place r.facts ≡ config → Is
    resumes r None is = (
      record r.facts { stage = Window },
      known_resumed T line event q r
          ∙ ap (λ c. option_map OfGet (get.at_stage (unwrap_or (asks_again only_place c).stage Window) r.facts)) is,
    )
    resumes r (Some config) is =
        absurd (let no : Some Listing ≡ Some Window =
        moved (Some (Some Listing)) (r.stage ∙ ap (λ c. option_map Some (asks_again only_place c).stage) is) in cc)

    go : Happens T event q → Is
    go (Left l) =
        let g = earlier q (moved None l.quiet.stage) in
        (g.0, known_same T line event q l.quiet.stage l.quiet.begins_none l.same ∙ g.1)
    go (Ends e) = absurd (let no : Some Ended ≡ Some Window = moved (Some (Some Ended)) e.stage in cc)
    go (Started s) =
        started s (first_turn (world_at T) s.busy s.begun.origin s.begun.options
        (is_first T event s.begun.page s.begun.call s.begun.options new s.is_event).some)
    go (Took t) = taken (taking T event q t)
    go (Resumed r) = resumes r (config_at only_place r.facts) refl

-- a row of a run is that of its event
row_is : (T : Trace) (row : Row) → row.effects ≡ effects_of T row.event → row ≡ row_of T row.line row.event
row_is T row h = ap (λ es. let r : Row = record { line = row.line; event = row.event; effects = es } in r) h

pub are_gets : (header : Header) (rows : List Row) → IsRun header rows → AreGets (record { header = header; rows = rows })
are_gets header [] run q at = absurd (cc)
are_gets header (row ∷ rows) run q at =
    let T : Trace = record { header = header; rows = rows } in
    let same = row_is T row run.0 in
    let g =
    gets_on T row.line row.event run.1 (are_gets header rows run.2) q
    (ap (λ r. stage_at (record { header = header; rows = r ∷ rows }) q) (sym same) ∙ at) in
    (g.0, ap (λ r. known_at (record { header = header; rows = r ∷ rows }) q) same ∙ g.1)

-- ---- the calls in Window are the gets in Window

-- the disconnect that an effect moves
abbrev moved_disconnect : CallKind → ℕ → Option ℕ
moved_disconnect GetCall call = None
moved_disconnect DisconnectCall call = Some call

abbrev moves_disconnect : Effect → Option ℕ
moves_disconnect (Move kind call stage) = moved_disconnect kind call
moves_disconnect _ = None

-- effects leave the same of the calls in Window, whether or not disconnects are looked at
abbrev Agrees : List (ℕ × ⊤) → List Effect → Type 0
Agrees ws does = entries_after nat_eq window_change does ws ≡ entries_after nat_eq get_window_change does ws

agrees_is : (ws : List (ℕ × ⊤)) (does others : List Effect) → does ≡ others → Agrees ws others → Agrees ws does
agrees_is ws does others is h =
    ap (λ es. entries_after nat_eq window_change es ws) is ∙ h ∙ sym (ap (λ es. entries_after nat_eq get_window_change es ws) is)

-- effects that move no disconnect
agrees_silent : (does : List Effect) → AllSilent moves_disconnect does → (ws : List (ℕ × ⊤)) → Agrees ws does
agrees_silent [] h ws = refl
agrees_silent (Move GetCall call stage ∷ does) h ws = agrees_silent does h.1 _
agrees_silent (Move DisconnectCall call stage ∷ does) h ws = absurd (let no : Some call ≡ None = h.0 in cc)
agrees_silent (Time time ∷ does) h ws = agrees_silent does h.1 ws
agrees_silent (Page page origin ∷ does) h ws = agrees_silent does h.1 ws
agrees_silent (Closed page ∷ does) h ws = agrees_silent does h.1 ws
agrees_silent (Cookie cookie ∷ does) h ws = agrees_silent does h.1 ws
agrees_silent (Login origin status ∷ does) h ws = agrees_silent does h.1 ws
agrees_silent (Begin b ∷ does) h ws = agrees_silent does h.1 ws
agrees_silent (Sent kind call provider ask cookies ∷ does) h ws = agrees_silent does h.1 ws
agrees_silent (Shown call dialog ∷ does) h ws = agrees_silent does h.1 ws
agrees_silent (Dropped call provider failure ∷ does) h ws = agrees_silent does h.1 ws
agrees_silent (effects.Window call provider url ∷ does) h ws = agrees_silent does h.1 ws
agrees_silent (Kept triple stays ∷ does) h ws = agrees_silent does h.1 ws
agrees_silent (Flag origin stays ∷ does) h ws = agrees_silent does h.1 ws
agrees_silent (Result call page finish ∷ does) h ws = agrees_silent does h.1 ws
agrees_silent (Ignored why ∷ does) h ws = agrees_silent does h.1 ws

-- an outcome of a get
silent_get : (w : World) (ck : Ask → List ℕ) (call page : ℕ) (o : Outcome)
    → AllSilent moves_disconnect (outcome_effects w ck GetCall call page o)
silent_get w ck call page o =
    silent_append moves_disconnect (flat_map (call_effects w ck GetCall call page) o.effects) (moves GetCall call o.stage)
    (silent_call moves_disconnect (λ n c p a k. refl) (λ c d. refl) (λ c p f. refl) (λ c p u. refl) (λ i s. refl) (λ t k. refl)
    (λ i k. refl)
    (λ c p f. refl) (λ why. refl) w ck GetCall call page o.effects) (moved o.stage)
  where
    moved : (stage : Option Stage) → AllSilent moves_disconnect (moves GetCall call stage)
    moved None = tt
    moved (Some stage) = (refl, tt)

-- an outcome of a disconnect, whose call is not in Window and does not come there
agrees_disconnect : (w : World) (ck : Ask → List ℕ) (call page : ℕ) (o : Outcome) (ws : List (ℕ × ⊤)) → IsAbsent call ws
    → unwrap_or (option_map is_window o.stage) false ≡ false → Agrees ws (outcome_effects w ck DisconnectCall call page o)
agrees_disconnect w ck call page o ws absent shut =
    let does = flat_map (call_effects w ck DisconnectCall call page) o.effects in
    entries_after-append nat_eq window_change does (moves DisconnectCall call o.stage) ws
    ∙ ap (entries_after nat_eq window_change (moves DisconnectCall call o.stage)) (entries_silent nat_eq window_change does ws
    (silent_call window_change (λ n c p a k. refl) (λ c d. refl) (λ c p f. refl) (λ c p u. refl) (λ i s. refl) (λ t k. refl) (λ i k. refl)
    (λ c p f. refl) (λ why. refl) w ck DisconnectCall call page o.effects))
    ∙ by o.stage shut
    ∙ sym (entries_after-append nat_eq get_window_change does (moves DisconnectCall call o.stage) ws
    ∙ ap (entries_after nat_eq get_window_change (moves DisconnectCall call o.stage)) (entries_silent nat_eq get_window_change does ws
    (silent_call get_window_change (λ n c p a k. refl) (λ c d. refl) (λ c p f. refl) (λ c p u. refl) (λ i s. refl) (λ t k. refl)
    (λ i k. refl)
    (λ c p f. refl) (λ why. refl) w ck DisconnectCall call page o.effects)))
  where
    by : (stage : Option Stage) → unwrap_or (option_map is_window stage) false ≡ false → Agrees ws (moves DisconnectCall call stage)
    by None is = refl
    by (Some stage) is =
        ap (λ b. entries_after nat_eq (λ (e : Effect). Some (key_change call b)) (Move DisconnectCall call stage ∷ []) ws) is
        ∙ remove_absent call ws absent

-- no disconnect among these calls is in Window
abbrev AllApart : List (ℕ × ⊤) → List (ℕ × CallKind) → Type 0
AllApart ws calls = AllByRecursion (λ c. c.1 ≡ DisconnectCall → IsAbsent c.0 ws) calls

apart_after : (k : ℕ) (ws : List (ℕ × ⊤)) (calls : List (ℕ × CallKind)) → AllApart ws calls
    → AllApart (shift_remove_entry (nat_eq k) ws) calls
apart_after k ws [] h = tt
apart_after k ws (c ∷ calls) h = ((λ is. absent_after_remove c.0 k ws (h.0 is)), apart_after k ws calls h.1)

agrees_ends : (calls : List (ℕ × CallKind)) (ws : List (ℕ × ⊤)) → AllApart ws calls → (rest : List Effect)
    → AllSilent moves_disconnect rest → Agrees ws (ends_of calls ++ rest)
agrees_ends [] ws h rest silent = agrees_silent rest silent ws
agrees_ends (c ∷ calls) ws h rest silent = go c.1 h.0 (λ ws' h'. agrees_ends calls ws' h' rest silent)
  where
    go : (kind : CallKind) → (kind ≡ DisconnectCall → IsAbsent c.0 ws)
        → ((ws' : List (ℕ × ⊤)) → AllApart ws' calls → Agrees ws' (ends_of calls ++ rest))
        → Agrees ws (Move kind c.0 Ended ∷ (ends_of calls ++ rest))
    go GetCall apart more = more (shift_remove_entry (nat_eq c.0) ws) (apart_after c.0 ws calls h.1)
    go DisconnectCall apart more =
        ap (entries_after nat_eq window_change (ends_of calls ++ rest)) (remove_absent c.0 ws (apart refl)) ∙ more ws h.1

all_apart : (ws : List (ℕ × ⊤)) (page : ℕ) (es : List (ℕ × PendingCall)) → AreDistinct es
    → ((c : ℕ) (v : PendingCall) → lookup (nat_eq c) es ≡ Some v → v.kind ≡ DisconnectCall → IsAbsent c ws)
    → AllApart ws (calls_of page es)
all_apart ws page [] distinct h = tt
all_apart ws page (e ∷ es) distinct h = go (e.1.page == page) (all_apart ws page es distinct.1 later)
  where
    later : (c : ℕ) (v : PendingCall) → lookup (nat_eq c) es ≡ Some v → v.kind ≡ DisconnectCall → IsAbsent c ws
    later c v found kind = by (nat_eq c e.0) refl
      where
        by : (b : Bool) → nat_eq c e.0 ≡ b → IsAbsent c ws
        by true is =
            let key : c ≡ e.0 = grind (arith, nat_tests, is) in
            let no : None ≡ Some v = sym distinct.0 ∙ ap (λ k. lookup (nat_eq k) es) (sym key) ∙ found in
            absurd (cc)
        by false is = h c v (ap (λ b. cond b (Some e.1) (lookup (nat_eq c) es)) is ∙ found) kind

    go : (b : Bool) → AllApart ws (calls_of page es)
        → AllApart ws (map by_kind (cond b (e ∷ filter (λ c. c.1.page == page) es) (filter (λ c. c.1.page == page) es)))
    go true rest = ((λ kind. h e.0 e.1 (ap (λ b. cond b (Some e.1) (lookup (nat_eq e.0) es)) (own e.0)) kind), rest)
    go false rest = rest

-- a call of which no get is known is not in Window
absent_by : (T : Trace) → AreGets T → (c : ℕ) → ((f : Facts) → known_at T c ≡ Some (OfGet f) → ⊥)
    → IsAbsent c (standing nat_eq window_change T.rows)
absent_by T are c no_get = go (lookup (nat_eq c) (standing nat_eq window_change T.rows)) refl
  where
    go : (o : Option ⊤) → lookup (nat_eq c) (standing nat_eq window_change T.rows) ≡ o
        → IsAbsent c (standing nat_eq window_change T.rows)
    go None is = is
    go (Some x) is =
        let g =
        are c (in_window T c (sym (is_some-lookup (nat_eq c) (standing nat_eq window_change T.rows)) ∙ ap is_some is)) in
        absurd (no_get g.0 g.1)

pending_apart : (T : Trace) → AreGets T → (c : ℕ) (v : PendingCall) → lookup (nat_eq c) (pending T) ≡ Some v
    → v.kind ≡ DisconnectCall → IsAbsent c (standing nat_eq window_change T.rows)
pending_apart T are c v found kind =
    absent_by T are c (λ f is. let no : GetCall ≡ DisconnectCall = sym (known_kind T c (OfGet f) is v found) ∙ kind in cc)

-- ---- each event

agrees_input : (T : Trace) → AreGets T → (event : Event) (call : ℕ) (input : Input)
    → effects_of T event ≡ input_effects (world_at T) (cookies_with T) (is_begun T call) call (known_at T call) input
    → Agrees (standing nat_eq window_change T.rows) (effects_of T event)
agrees_input T are event call input does =
    agrees_is (standing nat_eq window_change T.rows) (effects_of T event) _ does (go (is_begun T call))
  where
    taken : (k : Option Known) → known_at T call ≡ k
        → Agrees (standing nat_eq window_change T.rows) (input_effects (world_at T) (cookies_with T) true call k input)
    taken None is = refl
    taken (Some (OfGet f)) is =
        agrees_silent _ (silent_get (world_at T) (cookies_with T) call f.page (input_row (world_at T) (OfGet f) input)) _
    taken (Some (OfDisconnect f)) is =
        agrees_disconnect (world_at T) (cookies_with T) call f.page (input_row (world_at T) (OfDisconnect f) input)
        (standing nat_eq window_change T.rows)
        (absent_by T are call (λ g found. let no : Some (OfDisconnect f) ≡ Some (OfGet g) = sym is ∙ found in cc))
        (disconnect_later (world_at T) f input).shut

    go : (begun : Bool)
        → Agrees (standing nat_eq window_change T.rows)
        (input_effects (world_at T) (cookies_with T) begun call (known_at T call) input)
    go false = refl
    go true = taken (known_at T call) refl

unknown : (T : Trace) (call : ℕ) → list_any (nat_eq call) (begun T.rows) ≡ false → (f : Facts) → known_at T call ≡ Some (OfGet f) → ⊥
unknown T call new f is =
    let no : None ≡ Some (OfGet f) =
    sym (ap (known_by (stage_at T call)) (unbegun_unknown T.header T.rows call new) ∙ by (stage_at T call)) ∙ is in
    cc
  where
    by : (stage : Option Stage) → known_by stage None ≡ None
    by None = refl
    by (Some stage) = refl

agrees_get : (T : Trace) (o : Option Origin) (page call : ℕ) (options : GetOptions) (ws : List (ℕ × ⊤))
    → Agrees ws (begin_effects (world_at T) (cookies_with T) o (is_busy page (gets T)) page call (ToGet options))
agrees_get T None page call options ws = refl
agrees_get T (Some origin) page call options ws = go (is_trustworthy origin)
  where
    go : (trusted : Bool)
        → Agrees ws (standing_call (world_at T) (cookies_with T) trusted (is_busy page (gets T))
        (record { call = call; page = page; origin = origin; options = ToGet options }))
    go false = refl
    go true =
        agrees_silent _ (silent_get (world_at T) (cookies_with T) call page
        (get_outcome (world_at T) (is_busy page (gets T)) origin options)) ws

agrees_begun : (T : Trace) → AreGets T → (o : Option Origin) (page call : ℕ) (options : DisconnectOptions)
    → list_any (nat_eq call) (begun T.rows) ≡ false
    → Agrees (standing nat_eq window_change T.rows)
    (begin_effects (world_at T) (cookies_with T) o (is_busy page (gets T)) page call (ToDisconnect options))
agrees_begun T are None page call options new = refl
agrees_begun T are (Some origin) page call options new = go (is_trustworthy origin)
  where
    go : (trusted : Bool)
        → Agrees (standing nat_eq window_change T.rows) (standing_call (world_at T) (cookies_with T) trusted (is_busy page (gets T))
        (record { call = call; page = page; origin = origin; options = ToDisconnect options }))
    go false = refl
    go true =
        agrees_disconnect (world_at T) (cookies_with T) call page (disconnect_start_row (world_at T) origin options)
        (standing nat_eq window_change T.rows) (absent_by T are call (unknown T call new))
        (disconnect_begun (world_at T) origin options).shut

silent_resumed : (T : Trace) (calls : List ℕ)
    → AllSilent moves_disconnect (flat_map (resume_effects (world_at T) (cookies_with T) (known_at T)) calls)
silent_resumed T [] = tt
silent_resumed T (call ∷ calls) =
    silent_append moves_disconnect (resume_effects (world_at T) (cookies_with T) (known_at T) call)
    (flat_map (resume_effects (world_at T) (cookies_with T) (known_at T)) calls) (go (known_at T call)) (silent_resumed T calls)
  where
    go : (k : Option Known)
        → AllSilent moves_disconnect (input_effects (world_at T) (cookies_with T) true call k inputs.Resume)
    go None = (refl, tt)
    go (Some (OfGet f)) = silent_get (world_at T) (cookies_with T) call f.page (resumed f f.stage)
    go (Some (OfDisconnect f)) = (refl, tt)

silent_idpclose : (T : Trace) (o : Option Origin)
    → AllSilent moves_disconnect (idpclose_effects (world_at T) (cookies_with T) (known_at T) (windows_of T) o)
silent_idpclose T None = (refl, tt)
silent_idpclose T (Some origin) = go (is_trustworthy origin)
  where
    waiting : (calls : List ℕ) → AllSilent moves_disconnect (waiting_effects (world_at T) (cookies_with T) (known_at T) calls)
    waiting [] = (refl, tt)
    waiting (call ∷ calls) = silent_resumed T (call ∷ calls)

    go : (trusted : Bool)
        → AllSilent moves_disconnect (standing_resumes (world_at T) (cookies_with T) (known_at T) (windows_of T origin) trusted)
    go true = waiting (windows_of T origin)
    go false = (refl, tt)

agrees_close : (T : Trace) → AreGets T → (page : ℕ) (o : Option Origin)
    → Agrees (standing nat_eq window_change T.rows) (close_effects (pending_of T page) page o)
agrees_close T are page None = refl
agrees_close T are page (Some origin) =
    agrees_ends (pending_of T page) (standing nat_eq window_change T.rows)
    (all_apart (standing nat_eq window_change T.rows) page (pending T) (distinct_standing call_change T.rows) (pending_apart T are))
    (Closed page ∷ []) (refl, tt)

agrees_row : (T : Trace) → AreGets T → (event : Event) → IsNew T.rows event
    → Agrees (standing nat_eq window_change T.rows) (effects_of T event)
agrees_row T are (events.Have have) new =
    let found = have_changes T have in
    agrees_silent (effects_of T (events.Have have))
    (have_silent moves_disconnect (record { cookie = λ c. refl; login = λ o s. refl; kept = λ t k. refl; flag = λ o k. refl }) found have)
    (standing nat_eq window_change T.rows)
agrees_row T are (events.At time) new = refl
agrees_row T are (events.Prevent page) new =
    agrees_silent (effects_of T (events.Prevent page))
    (says_silent moves_disconnect (λ origin. Flag origin true) (λ o. refl) (λ w. refl) (page_at T page))
    (standing nat_eq window_change T.rows)
agrees_row T are (events.SetStatus page status) new =
    agrees_silent (effects_of T (events.SetStatus page status))
    (says_silent moves_disconnect (λ origin. Login origin status) (λ o. refl) (λ w. refl) (page_at T page))
    (standing nat_eq window_change T.rows)
agrees_row T are (events.Load page url raw) new =
    let found = load_changes T url raw in
    agrees_ends (pending_of T page) (standing nat_eq window_change T.rows)
    (all_apart (standing nat_eq window_change T.rows) page (pending T) (distinct_standing call_change T.rows) (pending_apart T are))
    (Page page (origin_of url) ∷ (cookie_effects found ++ login_effects (origin_of url) (set_logins raw)))
    (refl, load_rest_silent moves_disconnect (λ c. refl) (λ o s. refl) found (origin_of url) (set_logins raw))
agrees_row T are (events.ClosePage page) new = agrees_close T are page (page_at T page)
agrees_row T are (events.Get page call options) new = agrees_get T (page_at T page) page call options _
agrees_row T are (events.Disconnect page call config client hint) new =
    agrees_begun T are (page_at T page) page call (disconnect_options config client hint) new
agrees_row T are (events.Abort call) new = agrees_input T are (events.Abort call) call inputs.Abort refl
agrees_row T are (events.Reply call provider kind raw) new =
    agrees_input T are (events.Reply call provider kind raw) call (inputs.Reply provider kind raw) refl
agrees_row T are (events.Choose call provider account) new =
    agrees_input T are (events.Choose call provider account) call (inputs.Choose provider account) refl
agrees_row T are (events.GoOn call) new = agrees_input T are (events.GoOn call) call inputs.GoOn refl
agrees_row T are (events.Cancel call) new = agrees_input T are (events.Cancel call) call inputs.Cancel refl
agrees_row T are (events.SignIn call) new = agrees_input T are (events.SignIn call) call inputs.SignIn refl
agrees_row T are (events.ShutWindow call) new = agrees_input T are (events.ShutWindow call) call inputs.Shut refl
agrees_row T are (events.IdpClose page) new =
    agrees_silent (effects_of T (events.IdpClose page)) (silent_idpclose T (page_at T page)) (standing nat_eq window_change T.rows)

windows_are : (header : Header) (rows : List Row) → IsRun header rows
    → standing nat_eq window_change rows ≡ standing nat_eq get_window_change rows
windows_are header [] run = refl
windows_are header (row ∷ rows) run =
    let T : Trace = record { header = header; rows = rows } in
    agrees_is (standing nat_eq window_change rows) row.effects (effects_of T row.event) run.0
    (agrees_row T (are_gets header rows run.2) row.event run.1)
    ∙ ap (entries_after nat_eq get_window_change row.effects) (windows_are header rows run.2)

-- ---- the provider of a call in Window

-- the origin of the provider of a get
abbrev pub provider_known : Option Facts → Option Origin
provider_known facts = option_and_then (λ f. origin_at only_place f.options) facts

-- is read of what is known of the call
pub provided : (T : Trace) (q : ℕ) → stage_at T q ≡ Some Window → provider_of T.rows q ≡ provider_known (facts_at T q)
provided T q at =
    sym (known.provider_known T.header T.rows q) ∙ by (known_in T.header T.rows q)
    ∙ sym (ap (λ stage. provider_known (option_and_then get_facts (known_by stage (known_in T.header T.rows q)))) at)
  where
    by : (k : Option Known) → option_and_then (λ x. provider_asked (known.asked x)) k
        ≡ provider_known (option_and_then get_facts (known_by (Some Window) k))
    by None = refl
    by (Some (OfGet f)) = refl
    by (Some (OfDisconnect f)) = refl

provider_same : (p : Providers) (f f' : Option Facts) → SameCall p f f' → provider_known f ≡ provider_known f'
provider_same p None None h = refl
provider_same p None (Some f') h = absurd h
provider_same p (Some f) None h = absurd h
provider_same p (Some f) (Some f') h =
    go (provider_at only_place f.options) (provider_at only_place f'.options)
    (providers_both p f.options f'.options h.said.options only_place)
  where
    go : (q q' : Option ProviderOptions) → IfBoth (SameProvider p) q q'
        → option_map (λ x. origin_of x.config) q ≡ option_map (λ x. origin_of x.config) q'
    go None None k = refl
    go (Some q) (Some q') k = ap (λ c. Some (origin_of c)) k.shares.config
    go None (Some q') k = absurd k
    go (Some q) None k = absurd k

-- ---- in both worlds

or_right : (a b : Bool) → b ≡ true → a || b ≡ true
or_right true b h = refl
or_right false b h = h

-- tests that agree on what is in a list leave the same of it
filter_agree : (f g : ℕ → Bool) (xs : List ℕ) → ((q : ℕ) → list_any (nat_eq q) xs ≡ true → f q ≡ g q) → filter f xs ≡ filter g xs
filter_agree f g [] h = refl
filter_agree f g (x ∷ xs) h =
    ap₂ (λ b l. cond b (x ∷ l) l) (h x (ap (λ b. b || list_any (nat_eq x) xs) (own x)))
    (filter_agree f g xs (λ q among. h q (or_right (nat_eq q x) (list_any (nat_eq q) xs) among)))

pub windows_same : (p : Providers) (T U : Trace) → SameWorlds p T U → AreRuns T U → (origin : Origin)
    → windows_of T origin ≡ windows_of U origin
windows_same p T U h runs origin =
    filter_agree (λ call. is_origin origin (provider_of T.rows call)) (λ call. is_origin origin (provider_of U.rows call))
    (open_windows T) (λ q among. ap (is_origin origin) (asked q among))
    ∙ ap (filter (λ call. is_origin origin (provider_of U.rows call))) opened
  where
    opened : open_windows T ≡ open_windows U
    opened =
        ap keys_of (windows_are T.header T.rows runs.first) ∙ gets_in_window_same p T U h.seen
        ∙ sym (ap keys_of (windows_are U.header U.rows runs.second))

    asked : (q : ℕ) → list_any (nat_eq q) (open_windows T) ≡ true → provider_of T.rows q ≡ provider_of U.rows q
    asked q among =
        provided T q (in_window T q among) ∙ provider_same p (facts_at T q) (facts_at U q) (h.calls q)
        ∙ sym (provided U q (in_window U q (ap (list_any (nat_eq q)) (sym opened) ∙ among)))
