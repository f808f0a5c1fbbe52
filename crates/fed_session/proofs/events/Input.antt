-- What an input of a call owes to the trace.
use Rattle.std.proofs.Common.{◌≡◌, ℕ, Bool, true, false, nat_eq, ◌||◌, ◌⊎◌, inl, inr, List, [], ◌∷◌, ◌++◌, Some}
use Rattle.std.proofs.Common.{None, refl, sym, ap}
use Rattle.std.proofs.Common.{subst, ◌∙◌, arith, cond, append-nil}
use Rattle.std.proofs.lemmas.Bool.Decides.{nat_tests}
use Rattle.std.specs.Prelude.{Option, is_some, option_and_then, option_map, unwrap_or, ⊤}
use Rattle.std.specs.Map.{lookup, keys_of}
use Rattle.std.specs.List.{filter_map, list_any, cons_option}
use Rattle.indexmap.specs.IndexMap.{shift_remove_entry}
use Rattle.fed_origin.specs.declared.origin.Origin.{Origin}
use Rattle.fed_origin.specs.declared.stage.Stage.{Stage}
use Rattle.fed_origin.specs.declared.stage.Stage.TheVariants.{Ended}
use Rattle.fed_origin.specs.Origin.{same_origin}
use Rattle.fed_origin.specs.Status.{same_triple}
use Rattle.fed_jar.specs.Changes.{changed_by}
use Rattle.fed_status.specs.Shared.{World}
use Rattle.fed_consent.specs.declared.table.ask.Ask.{Ask}
use Rattle.fed_consent.specs.declared.table.input.Input.{Input}
use Rattle.fed_consent.specs.declared.table.why.Why.{Why}
use Rattle.fed_consent.specs.declared.table.why.Why.TheVariants.{NoCall, CallEnded}
use Rattle.fed_consent.specs.Outcomes.{Outcome}
use Rattle.fed_script.specs.declared.event.Event.{Event}
use Rattle.fed_consent.specs.Outcomes as outcomes
use Rattle.fed_script.specs.declared.event.Event.TheVariants as events
use Rattle.fed_table.specs.Lists.{has, all_without, stands_in}
use Rattle.fed_trace.specs.Call.{Known, kind_of, page_of, stage_of, at_stage, with_input, input_row, known_after}
use Rattle.fed_trace.specs.Effect.{PendingCall, Ignored, last_of, page_change, login_change, kept_change, flag_change, call_change}
use Rattle.fed_trace.specs.Effect.{stage_change, begun_by, begins, cookie_change, time_of, loaded_change, is_ignored, is_window}
use Rattle.fed_trace.specs.Keyed.{entries_after, last_said}
use Rattle.fed_trace.specs.Known.{world_at, is_begun, input_of, for_call, input_to, with_said, known_in, known_by, known_at}
use Rattle.fed_trace.specs.Records.{records_of}
use Rattle.fed_trace.specs.Row.{IsNew, effects_of, with_event, cookies_with, outcome_effects, moves, input_effects, brought_effects}
use Rattle.fed_session.specs.Session.{State, TabsParts, Stands, windows, item_known, pending_as, pending_call, pending_calls}
use Rattle.fed_session.specs.StepParts.{sight_of, world_in, cookies_of, call_records, kept_after, flags_after, sight_after}
use Rattle.fed_session.specs.StepParts.{get_but, awaits, awaited_in, outcome_at, kept_next, CanApplyAll}
use Rattle.fed_session.specs.Tabs.{ChangesGet, ChangesKnown, waits_next, Stays, Leaves, GoesOn, Takes}
use Rattle.fed_trace.specs.Trace.{Trace, standing, pages, pending, stage_at}
use Rattle.fed_session.specs.declared.sight.Sight.{Sight}
use Rattle.fed_trace.proofs.calls.Begins.{AreApart}
use Rattle.fed_trace.proofs.runs.Gets.{unbegun_unknown}
use Rattle.fed_session.proofs.kept.Calls.{changes, pending_same, pending_stays, pending_ends}
use Rattle.fed_session.proofs.kept.Loaded.{loads_silent, keys_without}
use Rattle.fed_session.proofs.waits.Moves.{lists_next}
use Rattle.fed_session.proofs.waits.Windows.{is_open, windows_input, lists_staged, awaits_at, asked_provider, waits_moved, waits_same}
use Rattle.fed_session.proofs.events.Event.{taken_apart}
use Rattle.fed_trace.specs.Windows.{open_windows, provider_asked, provider_of}
use Rattle.fed_trace.proofs.calls.Windows.{open_at}
use Rattle.fed_trace.proofs.known.Asked.{asked, said_asked, provider_known}
use Rattle.fed_trace.proofs.known.Facts.{staged, same_page, same_kind}
use Rattle.fed_session.proofs.events.Begin.{world_same, staged_as, over_none}
use Rattle.fed_trace.proofs.keyed.Keyed.{AreDistinct, distinct_standing}
use Rattle.fed_trace.proofs.effects.Outcome.{outcome_calls, moves_call, moves_no_other, ignored_outcome}
use Rattle.fed_trace.proofs.known.Stages.{Goes, goes_or_ends}
use Rattle.fed_session.proofs.clauses.Outcome.{outcome_logins, outcome_records}
use Rattle.fed_trace.proofs.calls.Pending.{outcome_silent, outcome_begins_none}
use Rattle.fed_trace.proofs.events.Aside.{aside_ignored}
use Rattle.fed_session.proofs.clauses.Permissions.{outcome_keeps, outcome_flags}
use Rattle.fed_session.proofs.clauses.Sets.{SetsAll, row_sets, sets_apply}
use Rattle.fed_session.proofs.kept.Held.{Holds, holds_less}
use Rattle.fed_session.proofs.clauses.Sight.{sees, cookies_same}
use Rattle.fed_trace.proofs.effects.Same.{same_input}
use Rattle.fed_trace.proofs.effects.Silent.{AllSilent, entries_silent, said_silent, last_silent, silent_is}
use Rattle.fed_session.proofs.stands.Stands.{Owes, owes_as_known, kept_still, flags_still, stands_held}
use Rattle.fed_trace.proofs.known.Known.{said_of, known_moved, known_same, ignored_says, known_step, Found, found_by}

-- ---- an event that names a call

-- the event brings the input to the call, and none to other calls
pub record Brings (T : Trace) (event : Event) (call : ℕ) (input : Input) : Type 0 where
  pub effects : effects_of T event ≡ input_effects (world_at T) (cookies_with T) (is_begun T call) call (known_at T call) input
  pub new : IsNew T.rows event
  pub inputs : (q : ℕ) → input_to q event ≡ cond (nat_eq q call) (Some input) None

brought : (T : Trace) (event : Event) (call : ℕ) (input : Input) → input_of event ≡ Some (call, input)
    → effects_of T event ≡ brought_effects T (input_of event) → IsNew T.rows event → Brings T event call input
brought T event call input h is new = record { effects = is ∙ ap (brought_effects T) h; new = new; inputs = λ q. ap (for_call q) h }

pub brings : (T : Trace) (event : Event) (call : ℕ) (input : Input) → input_of event ≡ Some (call, input) → Brings T event call input
brings T (events.Abort c) call input h = brought T (events.Abort c) call input h refl tt
brings T (events.Reply c place kind raw) call input h = brought T (events.Reply c place kind raw) call input h refl tt
brings T (events.Choose c place account) call input h = brought T (events.Choose c place account) call input h refl tt
brings T (events.GoOn c) call input h = brought T (events.GoOn c) call input h refl tt
brings T (events.Cancel c) call input h = brought T (events.Cancel c) call input h refl tt
brings T (events.SignIn c) call input h = brought T (events.SignIn c) call input h refl tt
brings T (events.ShutWindow c) call input h = brought T (events.ShutWindow c) call input h refl tt
brings T (events.Have have) call input h = absurd (cc)
brings T (events.At time) call input h = absurd (cc)
brings T (events.Load page url raw) call input h = absurd (cc)
brings T (events.ClosePage page) call input h = absurd (cc)
brings T (events.IdpClose page) call input h = absurd (cc)
brings T (events.Prevent page) call input h = absurd (cc)
brings T (events.SetStatus page status) call input h = absurd (cc)
brings T (events.Disconnect page q config client hint) call input h = absurd (cc)
brings T (events.Get page q options) call input h = absurd (cc)

-- ---- what the session keeps of a call

-- whether a call was taken
begun_is : (s : State) (T : Trace) (call : ℕ) → Stands s T → list_any (nat_eq call) s.tabs.taken ≡ is_begun T call
begun_is s T call h = ap (list_any (nat_eq call)) h.taken

-- a call that was never taken is not pending
unbegun : (s : State) (T : Trace) (call : ℕ) → Stands s T → list_any (nat_eq call) s.tabs.taken ≡ false
    → item_known s.tabs.table.items call ≡ None
unbegun s T call h fresh =
    h.known call ∙ ap (known_by (stage_at T call)) (unbegun_unknown T.header T.rows call (sym (begun_is s T call h) ∙ fresh))
    ∙ none_by (stage_at T call)
  where
    none_by : (stage : Option Stage) → known_by stage None ≡ None
    none_by None = refl
    none_by (Some stage) = refl

-- ---- an input that is not taken

owes_refused : (s s' : State) (T : Trace) (line : ℕ) (event : Event) (call : ℕ) (why : Why) → Stands s T
    → effects_of T event ≡ Ignored why ∷ []
    → sight_of s' ≡ sight_of s → Stays call None s.tabs.table.waits s.tabs s'.tabs → item_known s.tabs.table.items call ≡ None
    → Owes s s' T line event
owes_refused s s' T line event call why h is sight stays none =
    let seen = sees s' _ sight in
    let aside = aside_ignored T line event why is
    (λ q k. ap (λ xs. with_said (world_at T) (list_any is_ignored xs) (input_to q event) k) is
    ∙ ignored_says (world_at T) (input_to q event) k) in
    owes_as_known s s' T line event h aside
    seen.rules
    (kept_still s s' T event h (subst (AllSilent kept_change) (sym is) (refl, tt)) seen.kept)
    (flags_still s s' T event h (subst (AllSilent flag_change) (sym is) (refl, tt)) seen.flags)
    (seen.time ∙ sym (ap (λ xs. unwrap_or (last_of time_of xs) s.time) is))
    (seen.cookies ∙ sym (ap (λ xs. changed_by s.cookies (filter_map cookie_change xs)) is))
    (seen.login ∙ sym (ap (λ xs. entries_after same_origin login_change xs s.login) is))
    stays.pages stays.listed stays.gets stays.taken stays.waiting
    (λ q. stays.known q ∙ same_known q (nat_eq call q) refl)
  where
    same_known : (q : ℕ) (b : Bool) → nat_eq call q ≡ b
        → cond b None (item_known s.tabs.table.items q) ≡ item_known s.tabs.table.items q
    same_known q true at =
        let key : call ≡ q = grind (arith, nat_tests, at) in
        sym (ap (item_known s.tabs.table.items) (sym key) ∙ none)
    same_known q false at = refl

-- ---- an input of a pending call

-- a pending call stands with its page and its kind
pending_found : (k : ℕ) (known : Known) (f : ℕ → Option Known) (calls : List ℕ) → list_any (nat_eq k) calls ≡ true → f k ≡ Some known
    → lookup (nat_eq k) (pending_calls f calls) ≡ Some (pending_as known)
pending_found k known f [] taken found = absurd (cc)
pending_found k known f (c ∷ calls) taken found = at (nat_eq k c) refl taken (λ more. pending_found k known f calls more found)
  where
    rest : List (ℕ × PendingCall)
    rest = pending_calls f calls

    below : (other : Option Known) → nat_eq k c ≡ false → lookup (nat_eq k) rest ≡ Some (pending_as known)
        → lookup (nat_eq k) (cons_option (pending_call c other) rest) ≡ Some (pending_as known)
    below None ne found_below = found_below
    below (Some other) ne found_below = ap (λ b. cond b (Some (pending_as other)) (lookup (nat_eq k) rest)) ne ∙ found_below

    at : (b : Bool) → nat_eq k c ≡ b → b || list_any (nat_eq k) calls ≡ true
        → (list_any (nat_eq k) calls ≡ true → lookup (nat_eq k) rest ≡ Some (pending_as known))
        → lookup (nat_eq k) (cons_option (pending_call c (f c)) rest) ≡ Some (pending_as known)
    at true is taken later =
        let key : k ≡ c = grind (arith, nat_tests, is) in
        let own : f c ≡ Some known = ap f (sym key) ∙ found in
        ap (λ o. lookup (nat_eq k) (cons_option (pending_call c o) rest)) own
        ∙ ap (λ b. cond b (Some (pending_as known)) (lookup (nat_eq k) rest)) is
    at false is taken later = below (f c) is (later taken)

-- ---- the pages and the calls after an input of a pending call

pub record Leaving (call : ℕ) (known : Known) (moved : Option Stage) (old new : TabsParts) (es : List (ℕ × PendingCall)) : Type 0 where
  pub pages : new.pages ≡ old.pages
  pub loaded : keys_of new.table.pages ≡ keys_of old.table.pages
  pub held : Holds new.table.pages new.gets (entries_after nat_eq call_change (moves (kind_of known) call moved) es)
  pub taken : new.taken ≡ old.taken
  pub pending : pending_calls (item_known new.table.items) new.taken
      ≡ entries_after nat_eq call_change (moves (kind_of known) call moved) es

-- what is true of the calls before
record Before (call : ℕ) (known : Known) (old : TabsParts) (es : List (ℕ × PendingCall)) : Type 0 where
  found : item_known old.table.items call ≡ Some known
  begun : list_any (nat_eq call) old.taken ≡ true
  apart : AreApart old.taken
  distinct : AreDistinct es
  held : Holds old.table.pages old.gets es
  is : pending_calls (item_known old.table.items) old.taken ≡ es

-- the call goes on
goes_on : (call : ℕ) (known after : Known) (moved : Option Stage) (old new : TabsParts) (es : List (ℕ × PendingCall))
    → Before call known old es → pending_as after ≡ pending_as known
    → entries_after nat_eq call_change (moves (kind_of known) call moved) es ≡ es
    → (waits : List (Origin × List ℕ)) → Stays call (Some after) waits old new → Leaving call known moved old new es
goes_on call known after moved old new es before same stays waits s =
    record {
      pages = s.pages;
      loaded = ap keys_of s.listed;
      held = subst (Holds new.table.pages new.gets) (sym stays)
          (subst (λ gets. Holds new.table.pages gets es) (sym s.gets)
          (subst (λ lists. Holds lists old.gets es) (sym s.listed) before.held));
      taken = s.taken;
      pending =
          ap (pending_calls (item_known new.table.items)) s.taken
          ∙ pending_same (item_known new.table.items) (changes call (Some after) (item_known old.table.items))
          (λ c. ap (pending_call c) (s.known c)) old.taken
          ∙ pending_stays call known after (item_known old.table.items) old.taken before.found same ∙ before.is ∙ sym stays;
    }

-- the call ends
goes : (call : ℕ) (known : Known) (old new : TabsParts) (es : List (ℕ × PendingCall)) → Before call known old es
    → Leaves (page_of known) call old new → Leaving call known (Some Ended) old new es
goes call known old new es before l =
    let there : lookup (nat_eq call) es ≡ Some (pending_as known) =
    ap (lookup (nat_eq call)) (sym before.is)
    ∙ pending_found call known (item_known old.table.items) old.taken before.begun before.found in
    record {
      pages = l.pages;
      loaded = ap keys_of l.listed ∙ keys_without call old.table.pages;
      held = subst (λ lists. Holds lists new.gets (shift_remove_entry (nat_eq call) es)) (sym l.listed)
          (holds_less call (pending_as known) old.table.pages old.gets new.gets es before.held before.distinct there l.gets);
      taken = l.taken;
      pending =
          ap (pending_calls (item_known new.table.items)) l.taken
          ∙ pending_same (item_known new.table.items) (changes call None (item_known old.table.items))
          (λ c. ap (pending_call c) (l.known c)) old.taken
          ∙ pending_ends call (item_known old.table.items) old.taken before.apart
          ∙ ap (shift_remove_entry (nat_eq call)) before.is;
    }

-- the page and the kind of a call stay
stays_as : (world : World) (stage : Stage) (ignored : Bool) (input : Input) (known : Known)
    → pending_as (staged stage (with_input world ignored input known)) ≡ pending_as known
stays_as world stage ignored input known =
    staged_as stage (with_input world ignored input known)
    ∙ ap (λ page. record { page = page; kind = kind_of (with_input world ignored input known) }) (same_page world ignored input known)
    ∙ ap (λ kind. record { page = page_of known; kind = kind }) (same_kind world ignored input known)

leaves : (world : World) (call : ℕ) (known : Known) (input : Input) (ignored : Bool) (moved : Option Stage) (old new : TabsParts)
    (es : List (ℕ × PendingCall)) → Goes (stage_of known) → Before call known old es
    → GoesOn (page_of known) call (is_some (awaits known))
    (at_stage (unwrap_or moved (stage_of known)) (with_input world ignored input known))
    old new
    → Leaving call known moved old new es
leaves world call known input ignored None old new es going before on =
    let k = with_input world ignored input known in
    goes_on call known (staged (stage_of known) k) None old new es before (stays_as world (stage_of known) ignored input known) refl _
    (subst (λ after. GoesOn (page_of known) call (is_some (awaits known)) after old new) (going.kept k) on)
leaves world call known input ignored (Some stage) old new es going before on = go (goes_or_ends stage)
  where
    k : Known
    k = with_input world ignored input known

    go : (stage ≡ Ended) ⊎ Goes stage → Leaving call known (Some stage) old new es
    go (inl over) =
        subst (λ st. Leaving call known (Some st) old new es) (sym over)
        (goes call known old new es before (subst (λ after. GoesOn (page_of known) call (is_some (awaits known)) after old new)
        (ap (λ st. at_stage st k) over ∙ over_none k) on))
    go (inr further) =
        goes_on call known (staged stage k) (Some stage) old new es before (stays_as world stage ignored input known)
        (further.stays (kind_of known) call es) _
        (subst (λ after. GoesOn (page_of known) call (is_some (awaits known)) after old new) (further.kept k) on)

abbrev unit_if : Bool → Option ⊤
unit_if b = cond b (Some tt) None

-- the calls that wait then
goes_waits : (T : Trace) (call : ℕ) (known : Known) (input : Input) (ignored : Bool) (moved : Option Stage) (old new : TabsParts)
    → Found known (stage_at T call) (known_in T.header T.rows call) → old.table.waits ≡ windows T
    → GoesOn (page_of known) call (is_some (awaits known))
    (at_stage (unwrap_or moved (stage_of known)) (with_input (world_at T) ignored input known)) old new
    → new.table.waits ≡ lists_staged (has call (open_windows T)) (provider_of T.rows call) moved call (windows T)
goes_waits T call known input ignored moved old new about waits on = by moved on
  where
    k : Known
    k = with_input (world_at T) ignored input known

    provider : Option Origin
    provider = provider_of T.rows call

    asks : (stage : Stage) → awaits (staged stage k) ≡ cond (is_window stage) provider None
    asks stage =
        awaits_at stage k ∙ ap (λ x. cond (is_window stage) (provider_asked x) None) (said_asked (world_at T) ignored (Some input) known)
        ∙ ap (λ x. cond (is_window stage) x None) (sym (asked_provider T call known about.before about.found_is about.is))

    asked_before : awaits known ≡ cond (is_window (stage_of known)) provider None
    asked_before =
        ap awaits about.is ∙ awaits_at (stage_of known) about.before
        ∙ ap (λ x. cond (is_window (stage_of known)) x None)
        (sym (sym (provider_known T.header T.rows call) ∙ ap (option_and_then (λ x. provider_asked (asked x))) about.found_is))

    was : has call (open_windows T) ≡ is_window (stage_of known)
    was = is_open T call ∙ ap (λ stage. is_some (open_at stage)) about.stage_is ∙ opened (is_window (stage_of known))
      where
        opened : (b : Bool) → is_some (unit_if b) ≡ b
        opened true = refl
        opened false = refl

    stays : (stage : Stage) → Goes stage
        → GoesOn (page_of known) call (is_some (awaits known)) (at_stage stage k) old new
        → new.table.waits
        ≡ waits_next (is_some (cond (is_window (stage_of known)) provider None)) call (cond (is_window stage) provider None) (windows T)
    stays stage going on =
        let s = subst (λ after. GoesOn (page_of known) call (is_some (awaits known)) after old new) (going.kept k) on in
        s.waiting ∙ ap (waits_next (is_some (awaits known)) call (awaits (staged stage k))) waits
        ∙ ap (λ w. waits_next (is_some w) call (awaits (staged stage k)) (windows T)) asked_before
        ∙ ap (λ w. waits_next (is_some (cond (is_window (stage_of known)) provider None)) call w (windows T)) (asks stage)

    by : (moved : Option Stage) → GoesOn (page_of known) call (is_some (awaits known)) (at_stage (unwrap_or moved (stage_of known)) k) old
        new
        → new.table.waits ≡ lists_staged (has call (open_windows T)) provider moved call (windows T)
    by None on =
        stays (stage_of known) about.going on ∙ waits_same call (cond (is_window (stage_of known)) provider None) (windows T)
    by (Some stage) on = go (goes_or_ends stage)
      where
        go : (stage ≡ Ended) ⊎ Goes stage
            → new.table.waits ≡ lists_next (has call (open_windows T)) provider (is_window stage) call (windows T)
        go (inl over) =
            let l = subst (λ after. GoesOn (page_of known) call (is_some (awaits known)) after old new)
            (ap (λ st. at_stage st k) over ∙ over_none k) on in
            l.waits ∙ ap (all_without call) waits
            ∙ ap (λ st. lists_next (has call (open_windows T)) provider (is_window st) call (windows T)) (sym over)
        go (inr further) =
            stays stage further on ∙ waits_moved T call provider (is_window (stage_of known)) (is_window stage) refl was
            ∙ ap (λ b. lists_next b provider (is_window stage) call (windows T)) (sym was)

-- what is known of each call then
goes_known : (page call : ℕ) (waited : Bool) (after : Option Known) (old new : TabsParts) → GoesOn page call waited after old new
    → ChangesKnown call after old.table.items new.table.items
goes_known page call waited None old new leaves = leaves.known
goes_known page call waited (Some after) old new stays = stays.known

-- ---- what is known of a pending call after an input

owes_pending : (s s' : State) (T : Trace) (line : ℕ) (event : Event) (call : ℕ) (input : Input) (known : Known) (outcome : Outcome)
    → Stands s T → Brings T event call input → SetsAll outcome.effects
    → effects_of T event ≡ outcome_effects (world_at T) (cookies_with T) (kind_of known) call (page_of known) outcome
    → item_known s.tabs.table.items call ≡ Some known → list_any (nat_eq call) s.tabs.taken ≡ true
    → sight_of s' ≡ sight_after outcome.effects (sight_of s)
    → GoesOn (page_of known) call (is_some (awaits known)) (known_after (world_at T) known input outcome) s.tabs s'.tabs
    → Owes s s' T line event
owes_pending s s' T line event call input known outcome h brings sets effects found begun_call sight on =
    let seen = sees s' _ sight in
    let kind = kind_of known in
    let page = page_of known in
    let ignored = list_any outcomes.is_ignored outcome.effects in
    let after = known_after (world_at T) known input outcome in
    let does = outcome_effects (world_at T) (cookies_with T) kind call page outcome in
    let known_is : known_at T call ≡ Some known = sym (h.known call) ∙ found in
    let about = found_by known (stage_at T call) (known_in T.header T.rows call) known_is in
    let before : Before call known s.tabs (pending T) = record {
      found = found;
      begun = begun_call;
      apart = taken_apart s T h;
      distinct = distinct_standing call_change T.rows;
      held = stands_held s T h;
      is = h.pending;
    } in
    let leave = leaves (world_at T) call known input ignored outcome.stage s.tabs s'.tabs (pending T) about.going before on in
    let no_page : AllSilent page_change (effects_of T event) = silent_is page_change (effects_of T event) does effects
    (outcome_silent page_change (λ n c p a k. refl) (λ c d. refl) (λ c p f. refl) (λ c p u. refl) (λ o s. refl) (λ t k. refl) (λ o k. refl)
    (λ c p f. refl) (λ w. refl) (λ n c s. refl) (world_at T) (cookies_with T) kind call page outcome) in
    let calls_is : entries_after nat_eq call_change (effects_of T event) (pending T)
    ≡ entries_after nat_eq call_change (moves kind call outcome.stage) (pending T) =
    ap (λ xs. entries_after nat_eq call_change xs (pending T)) effects
    ∙ outcome_calls (world_at T) (cookies_with T) kind call page outcome (pending T) in
    let begins_none : (q : ℕ) → last_of (begins q) (effects_of T event) ≡ None =
    λ q. last_silent (begins q) (effects_of T event)
    (silent_is (begins q) (effects_of T event) does effects
    (outcome_silent (begins q) (λ n c p a k. refl) (λ c d. refl) (λ c p f. refl) (λ c p u. refl) (λ o s. refl) (λ t k. refl) (λ o k. refl)
    (λ c p f. refl) (λ w. refl) (λ n c s. refl) (world_at T) (cookies_with T) kind call page outcome)) in
    let said : (q : ℕ) (k : Known) → said_of T event q k ≡ with_said (world_at T) ignored (cond (nat_eq q call) (Some input) None) k =
    λ q k. ap (λ xs. with_said (world_at T) (list_any is_ignored xs) (input_to q event) k) effects
    ∙ ap (λ b. with_said (world_at T) b (input_to q event) k) (ignored_outcome (world_at T) (cookies_with T) kind call page outcome)
    ∙ ap (λ i. with_said (world_at T) ignored i k) (brings.inputs q) in
    record {
      rules = seen.rules;
      kept = seen.kept ∙ ap (kept_after outcome.effects) h.kept
          ∙ sym (ap (λ xs. keys_of (entries_after same_triple kept_change xs (standing same_triple kept_change T.rows))) effects
          ∙ outcome_keeps (world_at T) (cookies_with T) kind call page outcome (standing same_triple kept_change T.rows) sets refl);
      flags = seen.flags ∙ ap (flags_after outcome.effects) h.flags
          ∙ sym (ap (λ xs. keys_of (entries_after same_origin flag_change xs (standing same_origin flag_change T.rows))) effects
          ∙ outcome_flags (world_at T) (cookies_with T) kind call page outcome (standing same_origin flag_change T.rows));
      time =
          seen.time ∙ sym (ap (λ o. unwrap_or o s.time)
          (last_silent time_of (effects_of T event) (silent_is time_of (effects_of T event) does effects
          (outcome_silent time_of (λ n c p a k. refl) (λ c d. refl) (λ c p f. refl) (λ c p u. refl) (λ o s. refl) (λ t k. refl) (λ o k. refl)
          (λ c p f. refl) (λ w. refl) (λ n c s. refl) (world_at T) (cookies_with T) kind call page outcome))));
      cookies =
          seen.cookies ∙ ap (changed_by s.cookies) (sym
          (said_silent cookie_change (effects_of T event) (silent_is cookie_change (effects_of T event) does effects
          (outcome_silent cookie_change (λ n c p a k. refl) (λ c d. refl) (λ c p f. refl) (λ c p u. refl) (λ o s. refl) (λ t k. refl)
          (λ o k. refl) (λ c p f. refl) (λ w. refl) (λ n c s. refl) (world_at T) (cookies_with T) kind call page outcome))));
      login =
          seen.login ∙ sym (ap (λ xs. entries_after same_origin login_change xs s.login) effects
          ∙ outcome_logins (world_at T) (cookies_with T) kind call page outcome s.login);
      pages = leave.pages ∙ h.pages ∙ sym (entries_silent nat_eq page_change (effects_of T event) (pages T) no_page);
      loaded =
          leave.loaded ∙ h.loaded ∙ ap keys_of (sym (entries_silent nat_eq loaded_change (effects_of T event)
          (standing nat_eq loaded_change T.rows)
          (loads_silent (effects_of T event) no_page)));
      held = subst (Holds s'.tabs.table.pages s'.tabs.gets) (sym calls_is) leave.held;
      waits =
          goes_waits T call known input ignored outcome.stage s.tabs s'.tabs about h.waits on
          ∙ sym (windows_input T line event kind call page outcome begins_none effects);
      taken = leave.taken ∙ sym (append-nil s.tabs.taken)
          ∙ ap (λ xs. s.tabs.taken ++ xs) (sym (said_silent begun_by (effects_of T event)
          (silent_is begun_by (effects_of T event) does effects
          (outcome_begins_none (world_at T) (cookies_with T) kind call page outcome))));
      pending = leave.pending ∙ sym calls_is;
      known = λ q. goes_known page call (is_some (awaits known)) after s.tabs s'.tabs on q
          ∙ known_input s T line event call input known outcome q h effects about begins_none said (nat_eq call q) refl;
    }
  where
    known_input : (s : State) (T : Trace) (line : ℕ) (event : Event) (call : ℕ) (input : Input) (known : Known) (outcome : Outcome)
        (q : ℕ)
        → Stands s T
        → effects_of T event ≡ outcome_effects (world_at T) (cookies_with T) (kind_of known) call (page_of known) outcome
        → Found known (stage_at T call) (known_in T.header T.rows call)
        → ((q : ℕ) → last_of (begins q) (effects_of T event) ≡ None)
        → ((q : ℕ) (k : Known) → said_of T event q k ≡ with_said (world_at T) (list_any outcomes.is_ignored outcome.effects) (cond
        (nat_eq q call) (Some input) None) k)
        → (b : Bool) → nat_eq call q ≡ b
        → cond b (known_after (world_at T) known input outcome) (item_known s.tabs.table.items q) ≡ known_at (with_event T line event) q
    known_input s T line event call input known outcome q h effects about begins_none said true is =
        let key : q ≡ call = grind (arith, nat_tests, is) in
        let ignored = list_any outcomes.is_ignored outcome.effects in
        let own : nat_eq call call ≡ true = grind (arith, nat_tests) in
        let moved = option_map Some outcome.stage in
        let said_now : said_of T event call about.before ≡ with_input (world_at T) ignored input about.before =
        said call about.before ∙ ap (λ b. with_said (world_at T) ignored (cond b (Some input) None) about.before) own in
        let at_call : known_after (world_at T) known input outcome ≡ known_at (with_event T line event) call =
        ap (λ k. at_stage (unwrap_or outcome.stage (stage_of known)) (with_input (world_at T) ignored input k)) about.is
        ∙ known_step (world_at T) outcome.stage ignored input (stage_of known) about.before
        ∙ ap (λ k. known_by (unwrap_or moved (Some (stage_of known))) (Some k)) (sym said_now)
        ∙ ap (λ st. known_by (unwrap_or moved st) (Some (said_of T event call about.before))) (sym about.stage_is)
        ∙ ap (λ o. known_by (unwrap_or moved (stage_at T call)) (option_map (said_of T event call) o)) (sym about.found_is)
        ∙ sym (known_moved T line event call moved None (ap (last_said nat_eq stage_change call) effects
        ∙ moves_call (world_at T) (cookies_with T) (kind_of known) call (page_of known) outcome call own) (begins_none call)) in
        at_call ∙ ap (known_at (with_event T line event)) (sym key)
    known_input s T line event call input known outcome q h effects about begins_none said false at =
        let is : nat_eq q call ≡ false = grind (arith, nat_tests, at) in
        h.known q
        ∙ sym (known_same T line event q (ap (last_said nat_eq stage_change q) effects
        ∙ moves_no_other (world_at T) (cookies_with T) (kind_of known) call (page_of known) outcome q is) (begins_none q)
        (λ k. said q k ∙ ap (λ b. with_said (world_at T) (list_any outcomes.is_ignored outcome.effects) (cond b (Some input) None) k)
        is))

-- ---- an input as the code takes it

-- an input of a call that has a page, by what is known of it: its records
pub brought_records : (line : ℕ) (world : World) (cookies : Ask → List ℕ) (call page : ℕ) (input : Input) (begun : Bool)
    (known : Option Known) → begun ≡ true → Some page ≡ option_map page_of known
    → call_records line cookies call page (outcome_at world true known input).effects
    ≡ records_of line (input_effects world cookies begun call known input)
brought_records line world cookies call page input begun None is of = absurd (cc)
brought_records line world cookies call page input begun (Some known) is of =
    let own : page ≡ page_of known = cc in
    ap (λ p. call_records line cookies call p (input_row world known input).effects) own
    ∙ sym (outcome_records line world cookies (kind_of known) call (page_of known) (input_row world known input))
    ∙ ap (λ b. records_of line (input_effects world cookies b call (Some known) input)) (sym is)

-- its pages and calls
pub brought_takes : (call page : ℕ) (waited : Bool) (known after : Option Known) (old lent new : TabsParts)
    → Some page ≡ option_map page_of known → waited ≡ is_some (awaited_in known)
    → Stays call None old.table.waits old lent → GoesOn page call waited after lent new → Takes call known after old new
brought_takes call page waited None after old lent new of was stays on = absurd (cc)
brought_takes call page waited (Some known) after old lent new of was stays on =
    let own : page ≡ page_of known = cc in
    subst (λ p. GoesOn p call (is_some (awaits known)) after old new) own
    (subst (λ w. GoesOn page call w after old new) was (back after on))
  where
    again : (after : Option Known) → ChangesKnown call after lent.table.items new.table.items
        → ChangesKnown call after old.table.items new.table.items
    again after changed = λ q. changed q ∙ ap (cond (nat_eq call q) after) (stays.known q) ∙ twice q (nat_eq call q)
      where
        twice : (q : ℕ) (b : Bool) → cond b after (cond b None (item_known old.table.items q)) ≡ cond b after (item_known old.table.items q)
        twice q true = refl
        twice q false = refl

    back : (after : Option Known) → GoesOn page call waited after lent new → GoesOn page call waited after old new
    back None l = record {
      pages = l.pages ∙ stays.pages;
      listed = l.listed ∙ ap (all_without call) stays.listed;
      gets = subst (λ gets. ChangesGet page (get_but call (lookup (nat_eq page) gets)) gets new.gets) stays.gets l.gets;
      taken = l.taken ∙ stays.taken;
      waits = l.waits ∙ ap (all_without call) stays.waiting;
      known = again None l.known;
    }
    back (Some k) s = record {
      pages = s.pages ∙ stays.pages;
      listed = s.listed ∙ stays.listed;
      gets = s.gets ∙ stays.gets;
      taken = s.taken ∙ stays.taken;
      waiting = s.waiting ∙ ap (waits_next waited call (awaits k)) stays.waiting;
      known = again (Some k) s.known;
    }

-- that it was lent as a call that waits, or as one that does not
pub waits_lent : (call : ℕ) (lent : TabsParts) (kept known : Option Known) (page : ℕ) (waited : Bool) → known ≡ kept
    → Some page ≡ option_map page_of known → waited ≡ is_some (awaited_in known)
    → ((k : Known) → kept ≡ Some k → stands_in call lent.table.waits ≡ is_some (awaits k)) → stands_in call lent.table.waits ≡ waited
waits_lent call lent kept None page waited is of was waits = absurd (cc)
waits_lent call lent kept (Some known) page waited is of was waits = waits known (sym is) ∙ sym was

-- and that the session can do what it does
pub brought_applies : (world : World) (known : Option Known) (input : Input) → CanApplyAll (outcome_at world true known input).effects
brought_applies world None input = (tt, tt)
brought_applies world (Some known) input = sets_apply (input_row world known input).effects (row_sets world known input)

-- ---- an input, whole

pub owes_input : (s s' : State) (T : Trace) (line : ℕ) (event : Event) (call : ℕ) (input : Input) → Stands s T → Brings T event call input
    → sight_of s' ≡ sight_after (outcome_at (world_in (sight_of s)) (list_any (nat_eq call) s.tabs.taken)
    (item_known s.tabs.table.items call) input).effects (sight_of s)
    → Takes call (item_known s.tabs.table.items call)
    (kept_next (world_in (sight_of s)) (item_known s.tabs.table.items call) input) s.tabs s'.tabs
    → Owes s s' T line event
owes_input s s' T line event call input h brings sight takes =
    go (list_any (nat_eq call) s.tabs.taken) (item_known s.tabs.table.items call) refl refl is_effects
    (sight ∙ ap (λ w. set (outcome_at w (list_any (nat_eq call) s.tabs.taken) (item_known s.tabs.table.items call) input))
    (world_same s T h))
    (subst (λ w. Takes call (item_known s.tabs.table.items call) (kept_next w (item_known s.tabs.table.items call) input) s.tabs s'.tabs)
    (world_same s T h) takes)
  where
    set : Outcome → Sight
    set outcome = sight_after outcome.effects (sight_of s)

    is_effects : effects_of T event ≡ input_effects (world_at T) (cookies_with T) (list_any (nat_eq call) s.tabs.taken) call
        (item_known s.tabs.table.items call) input
    is_effects =
        brings.effects ∙ ap (λ f. input_effects (world_at T) (cookies_with T) (is_begun T call) call f input) (sym (h.known call))
        ∙ ap (λ b. input_effects (world_at T) (cookies_with T) b call (item_known s.tabs.table.items call) input)
        (sym (begun_is s T call h))

    go : (begun : Bool) (known : Option Known) → list_any (nat_eq call) s.tabs.taken ≡ begun → item_known s.tabs.table.items call ≡ known
        → effects_of T event ≡ input_effects (world_at T) (cookies_with T) begun call known input
        → sight_of s' ≡ set (outcome_at (world_at T) begun known input)
        → Takes call known (kept_next (world_at T) known input) s.tabs s'.tabs → Owes s s' T line event
    go false None begun_call found effects sees takes = owes_refused s s' T line event call NoCall h effects sees takes found
    go false (Some known) begun_call found effects sees takes =
        let none : item_known s.tabs.table.items call ≡ None = unbegun s T call h begun_call in
        absurd (cc)
    go true None begun_call found effects sees takes = owes_refused s s' T line event call CallEnded h effects sees takes found
    go true (Some known) begun_call found effects sees takes =
        owes_pending s s' T line event call input known (input_row (world_at T) known input) h brings (row_sets (world_at T) known input)
        effects found begun_call sees takes

-- ---- what is seen of a session

-- the records of an input
pub input_records : (s : State) (T : Trace) (line : ℕ) (event : Event) (call : ℕ) (input : Input) → Stands s T → Brings T event call input
    → records_of line (input_effects (world_in (sight_of s)) (cookies_of (sight_of s)) (list_any (nat_eq call) s.tabs.taken) call
    (item_known s.tabs.table.items call) input)
    ≡ records_of line (effects_of T event)
input_records s T line event call input h brings =
    let begun = list_any (nat_eq call) s.tabs.taken in
    let known = item_known s.tabs.table.items call in
    ap (records_of line)
    (ap (λ w. input_effects w (cookies_of (sight_of s)) begun call known input) (world_same s T h)
    ∙ same_input (cookies_of (sight_of s)) (cookies_with T) (λ ask. cookies_same s T ask h) (world_at T) begun call known input
    ∙ ap (λ b. input_effects (world_at T) (cookies_with T) b call known input) (begun_is s T call h)
    ∙ ap (λ f. input_effects (world_at T) (cookies_with T) (is_begun T call) call f input) (h.known call)
    ∙ sym brings.effects)
