-- An event that names no old call and does not turn the time back keeps the same standing.
use Rattle.std.proofs.Common.{◌≡◌, ℕ, ◌≤◌, Bool, true, false, nat_eq, cond, List, [], ◌∷◌, ◌++◌, map, Option, Some, None, refl, sym, ap}
use Rattle.std.proofs.Common.{ap₂, subst, ◌∙◌}
use Rattle.std.proofs.Common.{arith, ◌||◌}
use Rattle.std.proofs.lemmas.List.Folds.{list_any-append}
use Rattle.std.proofs.lemmas.Bool.Decides.{nat_tests}
use Rattle.std.specs.Prelude.{option_map, unwrap_or, IfSome, ⊤}
use Rattle.std.specs.Option.{option_or}
use Rattle.std.specs.List.{filter_map, flat_map, list_any, AllByRecursion}
use Rattle.indexmap.specs.IndexMap.{insert_entry, shift_remove_entry}
use Rattle.fed_origin.specs.declared.origin.Origin.{Origin}
use Rattle.fed_origin.specs.declared.stage.Stage.{Stage}
use Rattle.fed_origin.specs.declared.status.LoginStatus.{LoginStatus}
use Rattle.fed_origin.specs.Origin.{is_trustworthy, same_origin}
use Rattle.fed_origin.specs.Status.{same_triple}
use Rattle.fed_origin.specs.WebUrl.{origin_of}
use Rattle.fed_jar.specs.Changes.{CookieChange, changed_by, standing as jar_standing}
use Rattle.fed_jar.proofs.changes.Changes.{changed_in_turn}
use Rattle.fed_status.specs.Kept as kept_of
use Rattle.fed_status.specs.Shared.{World}
use Rattle.fed_consent.specs.declared.table.ask.Ask.{Ask}
use Rattle.fed_consent.specs.declared.table.effect.Effect.{Effect as CallEffect}
use Rattle.fed_consent.specs.declared.table.effect.Effect.TheVariants as acts
use Rattle.fed_consent.specs.declared.table.input.Input.{Input}
use Rattle.fed_consent.specs.declared.table.input.Input.TheVariants as inputs
use Rattle.fed_consent.specs.Outcomes.{Outcome}
use Rattle.fed_disconnect.specs.Facts.{disconnect_options}
use Rattle.fed_script.specs.declared.event.Event.{Event}
use Rattle.fed_script.specs.declared.event.Event.TheVariants as events
use Rattle.fed_script.specs.declared.event.Have.{Have}
use Rattle.fed_script.specs.declared.event.Have.TheVariants as haves
use Rattle.fed_trace.specs.Begun.{Begun, CallKind, CallOptions, ToGet, ToDisconnect, kind_asked}
use Rattle.fed_trace.specs.Call.{Known, kind_of, page_of, first_row, input_row, known_first}
use Rattle.fed_trace.specs.Effect.{Effect, page_change, login_change, kept_change, flag_change, call_change, get_change, stage_change}
use Rattle.fed_trace.specs.Effect.{window_change, is_window, key_change, time_of, cookie_change, begun_by, begins, last_of, is_ignored}
use Rattle.fed_trace.specs.Effect as does
use Rattle.fed_trace.specs.Keyed.{changed, entries_after, last_said}
use Rattle.fed_trace.specs.Known.{world_at, is_begun, input_to, with_said, known_in, known_at}
use Rattle.fed_trace.specs.Row.{effects_of, with_event, cookies_with, call_effects, moves, outcome_effects, begin_effects, standing_call}
use Rattle.fed_trace.specs.Row.{input_effects, is_busy, close_effects, page_says, standing_says, have_changes, have_states, cookie_effects}
use Rattle.fed_trace.specs.Row.{login_effects, ends_of, load_changes, set_logins, resume_effects, waiting_effects}
use Rattle.fed_trace.specs.Row.{standing_resumes, idpclose_effects}
use Rattle.fed_trace.specs.Trace.{Trace, page_at, gets, pending_of, now_at, cookies, cookie_changes, standing, last_in}
use Rattle.fed_trace.specs.Trace.{begun}
use Rattle.fed_trace.specs.Windows.{windows_of}
use Rattle.fed_profile.specs.Saved.{NamesNone, IsOnward}
use Rattle.fed_profile.proofs.saved.Jar.{SameJar, jar_later, jar_changed}
use Rattle.fed_profile.proofs.saved.Same.{SameState, world_same, waiting, effects_same}

-- an effect brings no earlier time, and puts no old call in Window
abbrev pub Steps : (ℕ → Bool) → ℕ → Effect → Type 0
Steps old now (does.Time time) = now ≤ time
Steps old now (does.Move kind call stage) = is_window stage ≡ true → old call ≡ false
Steps old now _ = ⊤

module _ (old : ℕ → Bool) (now : ℕ) where
  abbrev All : List Effect → Type 0
  All es = AllByRecursion (Steps old now) es

  append : (xs ys : List Effect) → All xs → All ys → All (xs ++ ys)
  append [] ys h k = k
  append (x ∷ xs) ys h k = (h.0, append xs ys h.1 k)

  goes : (triples : List _) → All (map (λ triple. does.Kept triple false) triples)
  goes [] = tt
  goes (t ∷ ts) = (tt, goes ts)

  module _ (w : World) (ck : Ask → List ℕ) (kind : CallKind) (call page : ℕ) (new : old call ≡ false) where
    one : (e : CallEffect) → All (call_effects w ck kind call page e)
    one (acts.Send place ask) = (tt, tt)
    one (acts.Dropped place failure) = (tt, tt)
    one (acts.Dialog dialog) = (tt, tt)
    one (acts.Window place url) = (tt, tt)
    one (acts.SetLogin origin status) = (tt, tt)
    one (acts.Keep triple) = (tt, tt)
    one (acts.Forget triple) = (tt, tt)
    one (acts.ForgetPair o u) = goes (kept_of.triples_of_pair w.kept o u)
    one (acts.ClearFlag origin) = (tt, tt)
    one (acts.Finish finish) = (tt, tt)
    one (acts.Ignored why) = (tt, tt)

    all : (es : List CallEffect) → All (flat_map (call_effects w ck kind call page) es)
    all [] = tt
    all (e ∷ es) = append (call_effects w ck kind call page e) (flat_map (call_effects w ck kind call page) es) (one e) (all es)

    moved : (stage : Option Stage) → All (moves kind call stage)
    moved None = tt
    moved (Some stage) = ((λ opens. new), tt)

    outcome : (o : Outcome) → All (outcome_effects w ck kind call page o)
    outcome o = append (flat_map (call_effects w ck kind call page) o.effects) (moves kind call o.stage) (all o.effects) (moved o.stage)

  ends : (calls : List (ℕ × CallKind)) → All (ends_of calls)
  ends [] = tt
  ends (c ∷ calls) = ((λ opens. absurd (let no : false ≡ true = opens in cc)), ends calls)

  written : (changes : List CookieChange) → All (cookie_effects changes)
  written [] = tt
  written (c ∷ changes) = (tt, written changes)

  set : (origin : Origin) (statuses : List LoginStatus) → All (login_effects origin statuses)
  set origin [] = tt
  set origin (s ∷ statuses) = (tt, set origin statuses)

  states : (have : Have) → All (have_states have)
  states (haves.Cookie url field) = tt
  states (haves.Login origin status) = (tt, tt)
  states (haves.Kept triple) = (tt, tt)
  states (haves.Silent origin) = (tt, tt)

  closes : (calls : List (ℕ × CallKind)) (page : ℕ) (o : Option Origin) → All (close_effects calls page o)
  closes calls page None = (tt, tt)
  closes calls page (Some origin) = append (ends_of calls) (does.Closed page ∷ []) (ends calls) (tt, tt)

  says : (o : Option Origin) (said : Origin → Effect) → ((origin : Origin) → Steps old now (said origin)) → All (page_says o said)
  says None said h = (tt, tt)
  says (Some origin) said h = go (is_trustworthy origin)
    where
      go : (trusted : Bool) → All (standing_says trusted (said origin))
      go true = (h origin, tt)
      go false = (tt, tt)

  input : (w : World) (ck : Ask → List ℕ) (taken : Bool) (call : ℕ) (k : Option Known) (i : Input) → old call ≡ false
      → All (input_effects w ck taken call k i)
  input w ck false call k i new = (tt, tt)
  input w ck true call None i new = (tt, tt)
  input w ck true call (Some k) i new = outcome w ck (kind_of k) call (page_of k) new (input_row w k i)

  resumes : (w : World) (ck : Ask → List ℕ) (known : ℕ → Option Known) (calls : List ℕ) → AllByRecursion (λ q. old q ≡ false) calls
      → All (flat_map (resume_effects w ck known) calls)
  resumes w ck known [] new = tt
  resumes w ck known (call ∷ calls) new =
      append (resume_effects w ck known call) (flat_map (resume_effects w ck known) calls)
      (input w ck true call (known call) inputs.Resume new.0) (resumes w ck known calls new.1)

  waits : (w : World) (ck : Ask → List ℕ) (known : ℕ → Option Known) (calls : List ℕ) → AllByRecursion (λ q. old q ≡ false) calls
      → All (waiting_effects w ck known calls)
  waits w ck known [] new = (tt, tt)
  waits w ck known (call ∷ calls) new = resumes w ck known (call ∷ calls) new

  idpclose : (w : World) (ck : Ask → List ℕ) (known : ℕ → Option Known) (windows : Origin → List ℕ) (o : Option Origin)
      → ((origin : Origin) → AllByRecursion (λ q. old q ≡ false) (windows origin)) → All (idpclose_effects w ck known windows o)
  idpclose w ck known windows None new = (tt, tt)
  idpclose w ck known windows (Some origin) new = go (is_trustworthy origin)
    where
      go : (trusted : Bool) → All (standing_resumes w ck known (windows origin) trusted)
      go true = waits w ck known (windows origin) (new origin)
      go false = (tt, tt)

  begin : (w : World) (ck : Ask → List ℕ) (page call : ℕ) (options : CallOptions) (o : Option Origin) (busy : Bool) → old call ≡ false
      → All (begin_effects w ck o busy page call options)
  begin w ck page call options None busy new = (tt, tt)
  begin w ck page call options (Some origin) busy new = go (is_trustworthy origin)
    where
      b : Begun
      b = record { call = call; page = page; origin = origin; options = options }

      go : (trusted : Bool) → All (standing_call w ck trusted busy b)
      go false = (tt, tt)
      go true = (tt, outcome w ck (kind_asked options) call page new (first_row w busy origin options))

-- the effects of such an event
pub steps : (old : ℕ → Bool) (now : ℕ) (T : Trace) → ((origin : Origin) → AllByRecursion (λ q. old q ≡ false) (windows_of T origin))
    → (e : Event)
    → NamesNone old e → IsOnward now e → AllByRecursion (Steps old now) (effects_of T e)
steps old now T waits (events.Have have) new on =
    append old now (cookie_effects (have_changes T have)) (have_states have) (written old now (have_changes T have)) (states old now have)
steps old now T waits (events.At time) new on = (on, tt)
steps old now T waits (events.Load page url raw) new on =
    let changes = load_changes T url raw in
    append old now (ends_of (pending_of T page))
    (does.Page page (origin_of url) ∷ (cookie_effects changes ++ login_effects (origin_of url) (set_logins raw)))
    (ends old now (pending_of T page)) (
      tt,
      append old now (cookie_effects changes) (login_effects (origin_of url) (set_logins raw)) (written old now changes)
          (set old now (origin_of url) (set_logins raw)),
    )
steps old now T waits (events.ClosePage page) new on = closes old now (pending_of T page) page (page_at T page)
steps old now T waits (events.Get page call options) new on =
    begin old now (world_at T) (cookies_with T) page call (ToGet options) (page_at T page) (is_busy page (gets T)) new
steps old now T waits (events.Disconnect page call config client hint) new on =
    begin old now (world_at T) (cookies_with T) page call (ToDisconnect (disconnect_options config client hint)) (page_at T page)
    (is_busy page (gets T)) new
steps old now T waits (events.IdpClose page) new on =
    idpclose old now (world_at T) (cookies_with T) (known_at T) (windows_of T) (page_at T page) waits
steps old now T waits (events.Prevent page) new on = says old now (page_at T page) (λ origin. does.Flag origin true) (λ o. tt)
steps old now T waits (events.SetStatus page status) new on = says old now (page_at T page) (λ origin. does.Login origin status) (λ o. tt)
steps old now T waits (events.Abort call) new on =
    input old now (world_at T) (cookies_with T) (is_begun T call) call (known_at T call) inputs.Abort new
steps old now T waits (events.GoOn call) new on =
    input old now (world_at T) (cookies_with T) (is_begun T call) call (known_at T call) inputs.GoOn new
steps old now T waits (events.Cancel call) new on =
    input old now (world_at T) (cookies_with T) (is_begun T call) call (known_at T call) inputs.Cancel new
steps old now T waits (events.SignIn call) new on =
    input old now (world_at T) (cookies_with T) (is_begun T call) call (known_at T call) inputs.SignIn new
steps old now T waits (events.ShutWindow call) new on =
    input old now (world_at T) (cookies_with T) (is_begun T call) call (known_at T call) inputs.Shut new
steps old now T waits (events.Reply call provider kind raw) new on =
    input old now (world_at T) (cookies_with T) (is_begun T call) call (known_at T call) (inputs.Reply provider kind raw) new
steps old now T waits (events.Choose call provider account) new on =
    input old now (world_at T) (cookies_with T) (is_begun T call) call (known_at T call) (inputs.Choose provider account) new

-- ---- what such effects leave

-- the time that they bring is no earlier one
pub later : (old : ℕ → Bool) (now : ℕ) (es : List Effect) → AllByRecursion (Steps old now) es → IfSome (last_of time_of es) (λ t. now ≤ t)
later old now [] h = tt
later old now (e ∷ es) h = go e h.0 (last_of time_of es) (later old now es h.1)
  where
    go : (e : Effect) → Steps old now e → (o : Option ℕ) → IfSome o (λ t. now ≤ t) → IfSome (option_or o (time_of e)) (λ t. now ≤ t)
    go e s (Some t) k = k
    go (does.Time time) s None k = s
    go (does.Page page origin) s None k = tt
    go (does.Closed page) s None k = tt
    go (does.Cookie change) s None k = tt
    go (does.Login origin status) s None k = tt
    go (does.Begin b) s None k = tt
    go (does.Move kind call stage) s None k = tt
    go (does.Sent kind call provider ask cookies) s None k = tt
    go (does.Dropped call provider failure) s None k = tt
    go (does.Shown call dialog) s None k = tt
    go (does.Window call provider url) s None k = tt
    go (does.Kept triple stays) s None k = tt
    go (does.Flag origin stays) s None k = tt
    go (does.Result call page finish) s None k = tt
    go (does.Ignored why) s None k = tt

now_later : (T : Trace) (o : Option ℕ) → IfSome o (λ t. now_at T ≤ t)
    → now_at T ≤ unwrap_or (option_or o (last_in time_of T.rows)) T.header.now
now_later T None k = let r : now_at T ≤ now_at T = grind (arith) in r
now_later T (Some t) k = k

-- the calls that they put in Window are no old ones
module _ {V : Type 0} (P : ℕ × V → Type 0) where
  insert_all : (k : ℕ) (v : V) (es : List (ℕ × V)) → P (k, v) → AllByRecursion P es → AllByRecursion P (insert_entry nat_eq es k v)
  insert_all k v [] new h = (new, tt)
  insert_all k v (e ∷ es) new h = go (nat_eq k e.0) refl (insert_all k v es new h.1)
    where
      go : (b : Bool) → nat_eq k e.0 ≡ b → AllByRecursion P (insert_entry nat_eq es k v)
          → AllByRecursion P (cond b ((e.0, v) ∷ es) (e ∷ insert_entry nat_eq es k v))
      go true is rest = let one : k ≡ e.0 = grind (arith, nat_tests, is) in (subst (λ n. P (n, v)) one new, h.1)
      go false is rest = (h.0, rest)

  remove_all : (k : ℕ) (es : List (ℕ × V)) → AllByRecursion P es → AllByRecursion P (shift_remove_entry (nat_eq k) es)
  remove_all k [] h = tt
  remove_all k (e ∷ es) h = go (nat_eq k e.0) (remove_all k es h.1)
    where
      go : (b : Bool) → AllByRecursion P (shift_remove_entry (nat_eq k) es)
          → AllByRecursion P (cond b es (e ∷ shift_remove_entry (nat_eq k) es))
      go true rest = h.1
      go false rest = (h.0, rest)

abbrev IsNewCall : (ℕ → Bool) → ℕ × ⊤ → Type 0
IsNewCall old w = old w.0 ≡ false

window_step : (old : ℕ → Bool) (now : ℕ) (e : Effect) → Steps old now e → (es : List (ℕ × ⊤)) → AllByRecursion (IsNewCall old) es
    → AllByRecursion (IsNewCall old) (changed nat_eq (window_change e) es)
window_step old now (does.Move kind call stage) s es h = go (is_window stage) s
  where
    go : (b : Bool) → (b ≡ true → old call ≡ false) → AllByRecursion (IsNewCall old) (changed nat_eq (Some (key_change call b)) es)
    go true s = insert_all (IsNewCall old) call tt es (s refl) h
    go false s = remove_all (IsNewCall old) call es h
window_step old now (does.Time time) s es h = h
window_step old now (does.Page page origin) s es h = h
window_step old now (does.Closed page) s es h = h
window_step old now (does.Cookie cookie) s es h = h
window_step old now (does.Login origin status) s es h = h
window_step old now (does.Begin b) s es h = h
window_step old now (does.Sent kind call provider ask cookies) s es h = h
window_step old now (does.Dropped call provider failure) s es h = h
window_step old now (does.Shown call dialog) s es h = h
window_step old now (does.Window call provider url) s es h = h
window_step old now (does.Kept triple stays) s es h = h
window_step old now (does.Flag origin stays) s es h = h
window_step old now (does.Result call page finish) s es h = h
window_step old now (does.Ignored why) s es h = h

windows_new : (old : ℕ → Bool) (now : ℕ) (effects : List Effect) → AllByRecursion (Steps old now) effects → (es : List (ℕ × ⊤))
    → AllByRecursion (IsNewCall old) es → AllByRecursion (IsNewCall old) (entries_after nat_eq window_change effects es)
windows_new old now [] s es h = h
windows_new old now (e ∷ effects) s es h =
    windows_new old now effects s.1 (changed nat_eq (window_change e) es) (window_step old now e s.0 es h)

-- ---- a row more

or_now : (a : Option ℕ) (b c : Option ℕ) (m n : ℕ) → unwrap_or b m ≡ unwrap_or c n
    → unwrap_or (option_or a b) m ≡ unwrap_or (option_or a c) n
or_now None b c m n h = h
or_now (Some t) b c m n h = refl

stands_then : (xs ys : List CookieChange) → jar_standing (xs ++ ys) ≡ changed_by (jar_standing xs) ys
unfolding jar_standing
stands_then xs ys = changed_in_turn [] xs ys

pub grow : (old : ℕ → Bool) (T U : Trace) → SameState old T U → (line line' : ℕ) (e : Event) → NamesNone old e → IsOnward (now_at T) e
    → SameState old (with_event T line e) (with_event U line' e)
grow old T U h line line' e new on =
    record {
      rules = h.rules;
      now = or_now (last_of time_of (effects_of T e)) (last_in time_of T.rows) (last_in time_of U.rows) T.header.now U.header.now h.now
          ∙ ap (λ es. unwrap_or (option_or (last_of time_of es) (last_in time_of U.rows)) U.header.now) same;
      logins = ap₂ (entries_after same_origin login_change) same h.logins;
      kept = ap₂ (entries_after same_triple kept_change) same h.kept;
      flags = ap₂ (entries_after same_origin flag_change) same h.flags;
      pages = ap₂ (entries_after nat_eq page_change) same h.pages;
      pending = ap₂ (entries_after nat_eq call_change) same h.pending;
      gets = ap₂ (entries_after nat_eq get_change) same h.gets;
      windows = ap₂ (entries_after nat_eq window_change) same h.windows;
      waits = windows_new old (now_at T) (effects_of T e) s (standing nat_eq window_change T.rows) h.waits;
      jar =
          jar_later (now_at T) (now_at (with_event T line e))
          (now_later T (last_of time_of (effects_of T e)) (later old (now_at T) (effects_of T e) s))
          (cookies (with_event T line e)) (cookies (with_event U line' e))
          (subst (SameJar (now_at T) (cookies (with_event T line e))) (sym (jar_is U line'))
          (subst (λ us. SameJar (now_at T) us (changed_by (cookies U) (filter_map cookie_change (effects_of U e)))) (sym (jar_is T line))
          (subst (λ es. SameJar (now_at T) (changed_by (cookies T) (filter_map cookie_change (effects_of T e)))
          (changed_by (cookies U) (filter_map cookie_change es))) same
          (jar_changed (now_at T) (filter_map cookie_change (effects_of T e)) (cookies T) (cookies U) h.jar))));
      calls = λ q fresh.
          let c = h.calls q fresh in
          record {
            known =
                ap (λ es. option_or (option_map (known_first (world_at T)) (last_of (begins q) es))
                (option_map (with_said (world_at T) (list_any is_ignored es) (input_to q e)) (known_in T.header T.rows q))) same
                ∙ ap₂ (λ w k. option_or (option_map (known_first w) (last_of (begins q) (effects_of U e)))
                (option_map (with_said w (list_any is_ignored (effects_of U e)) (input_to q e)) k)) (world_same old T U h) c.known;
            stage = ap₂ (λ es v. unwrap_or (last_said nat_eq stage_change q es) v) same c.stage;
            began = ap₂ (λ es v. option_or (last_of (begins q) es) v) same c.began;
            begun =
                begun_is T line q ∙ ap₂ (λ b es. b || list_any (nat_eq q) (filter_map begun_by es)) c.begun same ∙ sym (begun_is U line' q);
          };
    }
  where
    same : effects_of T e ≡ effects_of U e
    same = effects_same old T U h e new

    s : AllByRecursion (Steps old (now_at T)) (effects_of T e)
    s = steps old (now_at T) T (waiting old T U h) e new on

    jar_is : (V : Trace) (l : ℕ)
        → cookies (with_event V l e) ≡ changed_by (cookies V) (filter_map cookie_change (effects_of V e))
    jar_is V l = stands_then (cookie_changes V) (filter_map cookie_change (effects_of V e))

    begun_is : (V : Trace) (l q : ℕ)
        → is_begun (with_event V l e) q ≡ (is_begun V q || list_any (nat_eq q) (filter_map begun_by (effects_of V e)))
    begun_is V l q = list_any-append (nat_eq q) (begun V.rows) (filter_map begun_by (effects_of V e))
