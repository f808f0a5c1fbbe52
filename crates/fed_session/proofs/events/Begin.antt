-- What a call that begins owes to the trace.
use Rattle.std.proofs.Common.{◌≡◌, ◌≤◌, ℕ, Bool, true, false, nat_eq, ◌⊎◌, inl, inr, List, [], ◌∷◌, ◌++◌, Some, None}
use Rattle.std.proofs.Common.{length, map, refl, sym, ap}
use Rattle.std.proofs.Common.{subst, ◌∙◌, arith, cond}
use Rattle.std.proofs.lemmas.Bool.Decides.{nat_tests}
use Rattle.std.specs.Prelude.{Option, Ok, Err, Result as Answer, is_some, option_map, unwrap_or}
use Rattle.std.specs.Option.{option_or}
use Rattle.std.specs.Map.{lookup, keys_of}
use Rattle.std.specs.List.{filter_map, list_any}
use Rattle.indexmap.specs.IndexMap.{insert_entry}
use Rattle.url.specs.Parts.{Parts}
use Rattle.fed_origin.specs.declared.origin.Origin.{Origin}
use Rattle.fed_origin.specs.declared.options.GetOptions.{GetOptions}
use Rattle.fed_origin.specs.declared.options.ProviderOptions.{ProviderOptions}
use Rattle.fed_origin.specs.declared.scheme.Scheme.{Scheme}
use Rattle.fed_origin.specs.declared.scheme.Scheme.TheVariants.{Http, Https}
use Rattle.fed_origin.specs.declared.stage.Stage.{Stage}
use Rattle.fed_origin.specs.declared.stage.Stage.TheVariants.{Reading, Gathering, Ended}
use Rattle.fed_origin.specs.Origin.{is_trustworthy, same_origin}
use Rattle.fed_origin.specs.Status.{same_triple}
use Rattle.fed_origin.specs.WebUrl.{scheme_of}
use Rattle.fed_jar.specs.Changes.{changed_by}
use Rattle.fed_provider.specs.declared.step.ProviderStep.{ProviderStep}
use Rattle.fed_provider.specs.WellKnown.{WellKnownUrlOf}
use Rattle.fed_status.specs.Flags.{has_flag}
use Rattle.fed_status.specs.Kept.{has_pair}
use Rattle.fed_status.specs.Shared.{World}
use Rattle.fed_consent.specs.declared.table.ask.Ask.{Ask}
use Rattle.fed_consent.specs.declared.table.why.Why.{Why}
use Rattle.fed_consent.specs.declared.table.why.Why.TheVariants.{NoPage, PageInsecure}
use Rattle.fed_consent.specs.declared.table.effect.Effect.{Effect as CallEffect}
use Rattle.fed_consent.specs.declared.table.failure.Failure.{Failure}
use Rattle.fed_consent.specs.Outcomes.{Outcome, fails}
use Rattle.fed_call.specs.Facts.{Conclusion, Awaits, NoneLeft, Reselects, NoneSilent, Offers, Prompts, conclusion_of}
use Rattle.fed_call.specs.GatheringRows.{opens_from, first_settles, gathers, start_all, by_prevented, by_twice, by_active, is_twice, is_active}
use Rattle.fed_call.specs.Progress.{Closed, NotSecure, Siteless, Gated, opening, first_progress}
use Rattle.fed_call.specs.ReadingRows.{is_prevented, lacks_activation}
use Rattle.fed_call.specs.ReadingRows as get
use Rattle.fed_call.specs.Row.{start_with}
use Rattle.fed_disconnect.specs.Facts.{provider_origin}
use Rattle.fed_disconnect.specs.Rows as disconnect
use Rattle.fed_script.specs.declared.event.Event.{Event}
use Rattle.fed_trace.specs.Begun.{Begun, CallKind, GetCall, DisconnectCall, CallOptions, ToGet, ToDisconnect, is_get, kind_asked}
use Rattle.fed_trace.specs.Call.{Known, OfGet, OfDisconnect, kind_of, at_stage, fresh, known_first, first_row, started}
use Rattle.fed_trace.specs.Effect.{PendingCall, pending_from, Begin, Ignored, last_of, page_change, login_change, kept_change, flag_change}
use Rattle.fed_trace.specs.Effect.{call_change, stage_change, begun_by, begins, cookie_change, time_of, loaded_change, is_window}
use Rattle.fed_trace.specs.Keyed.{entries_after, last_said}
use Rattle.fed_trace.specs.Known.{world_at, known_by, known_at}
use Rattle.fed_trace.specs.Records.{records_of}
use Rattle.fed_trace.specs.Row.{effects_of, with_event, cookies_with, is_busy, begin_effects, standing_call, outcome_effects, moves}
use Rattle.fed_trace.specs.Trace as trace
use Rattle.fed_trace.specs.Windows.{provider_asked}
use Rattle.fed_trace.specs.Trace.{Trace, standing, logins, pages, pending, page_at, stage_at, begun, gets}
use Rattle.fed_session.specs.Session.{State, TabsParts, Stands, windows, item_known, pending_as, pending_call, pending_calls}
use Rattle.fed_session.specs.StepParts.{sight_of, world_in, cookies_of, call_records, sight_after, kept_after, flags_after}
use Rattle.fed_session.specs.StepParts.{begin_kept, begun_as, standing_kept, awaited_in}
use Rattle.fed_session.specs.Tabs.{ChangesGet, ChangesKnown, Enters, Begins, BeginsIf}
use Rattle.fed_session.specs.declared.sight.Sight.{Sight}
use Rattle.fed_trace.proofs.keyed.Keyed.{IsAbsent, remove-insert_entry}
use Rattle.fed_trace.proofs.effects.Outcome.{option_or-none, outcome_calls, moves_call, moves_no_other}
use Rattle.fed_trace.proofs.effects.Same.{same_begin}
use Rattle.fed_trace.proofs.effects.Silent.{AllSilent, entries_silent, said_silent, last_silent, silent_is}
use Rattle.fed_trace.proofs.known.Asked.{asked}
use Rattle.fed_trace.proofs.known.Facts.{staged}
use Rattle.fed_trace.proofs.known.Stages.{Goes, goes_or_ends}
use Rattle.fed_trace.proofs.known.Known.{said_of, known_moved, known_same}
use Rattle.fed_trace.proofs.calls.Pending.{outcome_silent, outcome_begins_none}
use Rattle.fed_trace.proofs.events.Aside.{aside_ignored}
use Rattle.fed_trace.proofs.runs.Gets.{gets_are, unbegun_unknown}
use Rattle.fed_trace.proofs.happens.First.{HasSome}
use Rattle.fed_session.proofs.kept.Calls.{changes, pending_same, absent_pending_calls, pending_new, pending_over}
use Rattle.fed_session.proofs.kept.Held.{IsFree, Holds, holds_new}
use Rattle.fed_session.proofs.kept.Loaded.{loads_silent}
use Rattle.fed_session.proofs.waits.Moves.{OpensNone, lists_after, outcome_lists, outcome_closed}
use Rattle.fed_session.proofs.waits.Unmoved.{never_moved}
use Rattle.fed_session.proofs.waits.Windows.{awaits_at, windows_begin}
use Rattle.fed_session.proofs.clauses.Outcome.{outcome_logins, outcome_records}
use Rattle.fed_session.proofs.clauses.Permissions.{outcome_keeps, outcome_flags}
use Rattle.fed_session.proofs.clauses.Sets.{SetsAll, first_sets, none_still, start_all_none}
use Rattle.fed_session.proofs.clauses.Sight.{sees, cookies_same}
use Rattle.fed_session.proofs.clauses.Statuses.{is_busy-kept}
use Rattle.fed_session.proofs.events.Event.{page_kept}
use Rattle.fed_session.proofs.stands.Stands.{Owes, owes_aside, kept_still, flags_still, stands_held}

-- ---- what all calls look at

pub world_same : (s : State) (T : Trace) → Stands s T → world_in (sight_of s) ≡ world_at T
world_same s T h =
    ap (λ r. let w : World = record { rules = r; login = s.login; kept = s.kept; flags = s.flags } in w) h.rules
    ∙ ap (λ l. let w : World = record { rules = T.header.rules; login = l; kept = s.kept; flags = s.flags } in w) h.login
    ∙ ap (λ k. let w : World = record { rules = T.header.rules; login = logins T; kept = k; flags = s.flags } in w) h.kept
    ∙ ap (λ f. let w : World = record { rules = T.header.rules; login = logins T; kept = trace.kept T; flags = f } in w) h.flags

-- ---- an event by which a call begins

pub record BeginsBy (T : Trace) (event : Event) (page call : ℕ) (options : CallOptions) : Type 0 where
  pub effects : effects_of T event ≡ begin_effects (world_at T) (cookies_with T) (page_at T page) (is_busy page
      (gets T)) page call options
  pub inputs : (q : ℕ) (k : Known) → said_of T event q k ≡ k

-- its effects by what the session keeps are those by the trace
pub begins-stands : (s : State) (T : Trace) (event : Event) (page call : ℕ) (options : CallOptions) → Stands s T
    → BeginsBy T event page call options
    → begin_effects (world_at T) (cookies_with T) (lookup (nat_eq page) s.tabs.pages) (is_some (lookup (nat_eq page) s.tabs.gets)) page
    call options ≡ effects_of T event
begins-stands s T event page call options h by =
    let get = lookup (nat_eq page) s.tabs.gets in
    ap (λ o. begin_effects (world_at T) (cookies_with T) o (is_some get) page call options) (page_kept s T page h)
    ∙ ap (λ b. begin_effects (world_at T) (cookies_with T) (page_at T page) b page call options)
    (is_busy-kept page (pending T) get (h.gets page) ∙ ap (is_busy page) (gets_are T.header T.rows h.run))
    ∙ sym by.effects

-- ---- a call that is not taken

pub owes_ignored : (s s' : State) (T : Trace) (line : ℕ) (event : Event) (why : Why) → Stands s T
    → effects_of T event ≡ Ignored why ∷ []
    → ((q : ℕ) (k : Known) → said_of T event q k ≡ k)
    → sight_of s' ≡ sight_of s → s'.tabs ≡ s.tabs → Owes s s' T line event
owes_ignored s s' T line event why h is inputs sight tabs =
    let seen = sees s' _ sight in
    owes_aside s s' T line event h (aside_ignored T line event why is inputs) seen.rules
    (kept_still s s' T event h (subst (AllSilent kept_change) (sym is) (refl, tt)) seen.kept)
    (flags_still s s' T event h (subst (AllSilent flag_change) (sym is) (refl, tt)) seen.flags)
    (seen.time ∙ sym (ap (λ xs. unwrap_or (last_of time_of xs) s.time) is))
    (seen.cookies ∙ sym (ap (λ xs. changed_by s.cookies (filter_map cookie_change xs)) is))
    (seen.login ∙ sym (ap (λ xs. entries_after same_origin login_change xs s.login) is))
    tabs

-- ---- a call that is taken

-- what is pending of a call in this stage is what is pending of it in any other
pub staged_as : (stage : Stage) (known : Known) → pending_as (staged stage known) ≡ pending_as known
staged_as stage (OfGet facts) = refl
staged_as stage (OfDisconnect facts) = refl

pub over_none : (known : Known) → at_stage Ended known ≡ None
over_none (OfGet facts) = refl
over_none (OfDisconnect facts) = refl

first_as : (world : World) (b : Begun) → pending_as (known_first world b) ≡ pending_from b
first_as world b = go b.options
  where
    go : (options : CallOptions) → pending_as (fresh world b.call b.page b.origin options)
        ≡ record { page = b.page; kind = kind_asked options }
    go (ToGet options) = refl
    go (ToDisconnect options) = refl

-- the pages and the calls after a call that is taken, by the stage that it comes to
pub record Taken (call : ℕ) (v : PendingCall) (stage : Stage) (old new : TabsParts) (es : List (ℕ × PendingCall)) : Type 0 where
  pub pages : new.pages ≡ old.pages
  pub loaded : keys_of new.table.pages ≡ keys_of old.table.pages
  pub held : Holds new.table.pages new.gets
      (entries_after nat_eq call_change (moves v.kind call (Some stage)) (insert_entry nat_eq es call v))
  pub waits : new.table.waits ≡ old.table.waits
  pub taken : new.taken ≡ old.taken ++ call ∷ []
  pub pending : pending_calls (item_known new.table.items) new.taken
      ≡ entries_after nat_eq call_change (moves v.kind call (Some stage)) (insert_entry nat_eq es call v)

-- what is known of each call, after this one began
begins_known : (page call : ℕ) (known : Option Known) (old new : TabsParts) → item_known old.table.items call ≡ None
    → Begins page call known old new → ChangesKnown call known old.table.items new.table.items
begins_known page call None old new none begins = λ other.
    ap (λ (t : TabsParts). item_known t.table.items other) begins ∙ go other (nat_eq call other) refl
  where
    go : (other : ℕ) (b : Bool) → nat_eq call other ≡ b
        → item_known old.table.items other ≡ cond b None (item_known old.table.items other)
    go other true is =
        let key : call ≡ other = grind (arith, nat_tests, is) in
        ap (item_known old.table.items) (sym key) ∙ none
    go other false is = refl
begins_known page call (Some known) old new none enters = enters.known

taken_at : (call : ℕ) (v : PendingCall) (known : Known) (stage : Stage) (old new : TabsParts) (es : List (ℕ × PendingCall))
    → pending_as known ≡ v → (stage ≡ Ended) ⊎ IsFree v.kind (lookup (nat_eq v.page) old.gets)
    → list_any (nat_eq call) old.taken ≡ false → IsAbsent call es → item_known old.table.items call ≡ None
    → Holds old.table.pages old.gets es → pending_calls (item_known old.table.items) old.taken ≡ es
    → Begins v.page call (at_stage stage known) old new → Taken call v stage old new es
taken_at call v known stage old new es same free fresh unbegun none held is begins = go (goes_or_ends stage) free
  where
    over : new ≡ record old { taken = old.taken ++ call ∷ [] } → Taken call v Ended old new es
    over begun =
        let gone = remove-insert_entry call v es unbegun in
        record {
          pages = ap (λ (t : TabsParts). t.pages) begun;
          loaded = ap (λ (t : TabsParts). keys_of t.table.pages) begun;
          held = subst (Holds new.table.pages new.gets) (sym gone)
              (subst (λ (t : TabsParts). Holds t.table.pages t.gets es) (sym begun) held);
          waits = ap (λ (t : TabsParts). t.table.waits) begun;
          taken = ap (λ (t : TabsParts). t.taken) begun;
          pending =
              ap (λ (t : TabsParts). pending_calls (item_known t.table.items) t.taken) begun
              ∙ pending_over call (item_known old.table.items) old.taken none ∙ is ∙ sym gone;
        }

    enters : (after : Known) → pending_as after ≡ v → IsFree v.kind (lookup (nat_eq v.page) old.gets)
        → entries_after nat_eq call_change (moves v.kind call (Some stage)) (insert_entry nat_eq es call v) ≡ insert_entry nat_eq es call v
        → Enters v.page call after old new → Taken call v stage old new es
    enters after said vacant stays e =
        let kind_is : kind_of after ≡ v.kind = ap (λ (x : PendingCall). x.kind) said in
        let before : ℕ → Option Known = item_known old.table.items in
        record {
          pages = e.pages;
          loaded = e.loaded;
          held = subst (Holds new.table.pages new.gets) (sym stays)
              (subst (λ lists. Holds lists new.gets (insert_entry nat_eq es call v)) (sym e.listed)
              (holds_new call v old.table.pages old.gets new.gets es held unbegun vacant
              (subst (λ kind. ChangesGet v.page (cond (is_get kind) (Some call) (lookup (nat_eq v.page) old.gets)) old.gets new.gets)
              kind_is
              e.gets)));
          waits = e.waits;
          taken = e.taken;
          pending =
              ap (pending_calls (item_known new.table.items)) e.taken
              ∙ pending_same (item_known new.table.items) (changes call (Some after) before) (λ c. ap (pending_call c) (e.known c))
              (old.taken ++ call ∷ [])
              ∙ pending_new call after before old.taken fresh ∙ ap (λ xs. insert_entry nat_eq xs call (pending_as after)) is
              ∙ ap (insert_entry nat_eq es call) said ∙ sym stays;
        }

    ended : stage ≡ Ended → Taken call v stage old new es
    ended at =
        subst (λ st. Taken call v st old new es) (sym at)
        (over (subst (λ k. Begins v.page call k old new) (ap (λ st. at_stage st known) at ∙ over_none known) begins))

    go : (stage ≡ Ended) ⊎ Goes stage → (stage ≡ Ended) ⊎ IsFree v.kind (lookup (nat_eq v.page) old.gets)
        → Taken call v stage old new es
    go (inl at) free = ended at
    go (inr going) (inl at) = ended at
    go (inr going) (inr vacant) =
        enters (staged stage known) (staged_as stage known ∙ same) vacant (going.stays v.kind call (insert_entry nat_eq es call v))
        (subst (λ k. Begins v.page call k old new) (going.kept known) begins)

owes_taken : (s s' : State) (T : Trace) (line : ℕ) (event : Event) (b : Begun) (outcome : Outcome) (stage : Stage)
    → Stands s T
    → effects_of T event ≡ Begin b ∷ outcome_effects (world_at T) (cookies_with T) (kind_asked b.options) b.call b.page outcome
    → ((q : ℕ) (k : Known) → said_of T event q k ≡ k) → outcome.stage ≡ Some stage → is_window stage ≡ false → SetsAll outcome.effects
    → (stage ≡ Ended) ⊎ IsFree (kind_asked b.options) (lookup (nat_eq b.page) s.tabs.gets)
    → list_any (nat_eq b.call) s.tabs.taken ≡ false
    → sight_after outcome.effects (sight_of s) ≡ sight_of s
    → sight_of s' ≡ sight_of s
    → Begins b.page b.call (at_stage stage (known_first (world_at T) b)) s.tabs s'.tabs
    → Owes s s' T line event
owes_taken s s' T line event b outcome stage h effects inputs moved closed sets free fresh_call still sight begins_call =
    let seen = sees s' _ sight in
    let stays = sees s (sight_after outcome.effects (sight_of s)) (sym still) in
    let world = world_at T in
    let kind = kind_asked b.options in
    let does = outcome_effects world (cookies_with T) kind b.call b.page outcome in
    let es = pending T in
    let v = pending_from b in
    let unbegun : IsAbsent b.call es =
    subst (IsAbsent b.call) h.pending (absent_pending_calls b.call (item_known s.tabs.table.items) s.tabs.taken fresh_call) in
    let none : item_known s.tabs.table.items b.call ≡ None = h.known b.call ∙ unknown s T b.call h fresh_call in
    let take = taken_at b.call v (known_first world b) stage s.tabs s'.tabs es (first_as world b) free fresh_call unbegun none (stands_held s T h)
    h.pending begins_call in
    let calls_is : entries_after nat_eq call_change (effects_of T event) es
    ≡ entries_after nat_eq call_change (moves kind b.call (Some stage)) (insert_entry nat_eq es b.call v) =
    ap (λ xs. entries_after nat_eq call_change xs es) effects
    ∙ outcome_calls world (cookies_with T) kind b.call b.page outcome (insert_entry nat_eq es b.call v)
    ∙ ap (λ o. entries_after nat_eq call_change (moves kind b.call o) (insert_entry nat_eq es b.call v)) moved in
    let moved_by : (q : ℕ) → last_said nat_eq stage_change q (effects_of T event) ≡ last_said nat_eq stage_change q does =
    λ q. ap (last_said nat_eq stage_change q) effects ∙ option_or-none (last_said nat_eq stage_change q does) in
    let begins_of : (q : ℕ) → last_of (begins q) (effects_of T event) ≡ cond (nat_eq q b.call) (Some b) None =
    λ q. ap (last_of (begins q)) effects ∙ ap (λ o. option_or o (cond (nat_eq q b.call) (Some b) None)) (last_silent (begins q) does
    (outcome_silent (begins q) (λ n c p a k. refl) (λ c d. refl) (λ c p f. refl) (λ c p u. refl) (λ o s. refl) (λ t k. refl) (λ o k. refl)
    (λ c p f. refl) (λ w. refl) (λ n c s. refl) world (cookies_with T) kind b.call b.page outcome)) in
    let no_page : AllSilent page_change (effects_of T event) = silent_is page_change (effects_of T event) (Begin b ∷ does) effects (
      refl,
      outcome_silent page_change (λ n c p a k. refl) (λ c d. refl) (λ c p f. refl) (λ c p u. refl) (λ o s. refl) (λ t k. refl) (λ o k. refl)
          (λ c p f. refl) (λ w. refl) (λ n c s. refl) world (cookies_with T) kind b.call b.page outcome,
    ) in
    record {
      rules = seen.rules;
      kept = seen.kept ∙ stays.kept ∙ ap (kept_after outcome.effects) h.kept
          ∙ sym (ap (λ xs. keys_of (entries_after same_triple kept_change xs (standing same_triple kept_change T.rows))) effects
          ∙ outcome_keeps world (cookies_with T) kind b.call b.page outcome (standing same_triple kept_change T.rows) sets refl);
      flags = seen.flags ∙ stays.flags ∙ ap (flags_after outcome.effects) h.flags
          ∙ sym (ap (λ xs. keys_of (entries_after same_origin flag_change xs (standing same_origin flag_change T.rows))) effects
          ∙ outcome_flags world (cookies_with T) kind b.call b.page outcome (standing same_origin flag_change T.rows));
      time =
          seen.time ∙ sym (ap (λ o. unwrap_or o s.time)
          (last_silent time_of (effects_of T event) (silent_is time_of (effects_of T event) (Begin b ∷ does) effects (
            refl,
            outcome_silent time_of (λ n c p a k. refl) (λ c d. refl) (λ c p f. refl) (λ c p u. refl) (λ o s. refl) (λ t k. refl) (λ o k. refl)
                (λ c p f. refl) (λ w. refl) (λ n c s. refl) world (cookies_with T) kind b.call b.page outcome,
          ))));
      cookies =
          seen.cookies ∙ ap (changed_by s.cookies) (sym
          (said_silent cookie_change (effects_of T event) (silent_is cookie_change (effects_of T event) (Begin b ∷ does) effects (
            refl,
            outcome_silent cookie_change (λ n c p a k. refl) (λ c d. refl) (λ c p f. refl) (λ c p u. refl) (λ o s. refl) (λ t k. refl)
                (λ o k. refl) (λ c p f. refl) (λ w. refl) (λ n c s. refl) world (cookies_with T) kind b.call b.page outcome,
          ))));
      login =
          seen.login ∙ stays.login ∙ sym (ap (λ xs. entries_after same_origin login_change xs s.login) effects
          ∙ outcome_logins world (cookies_with T) kind b.call b.page outcome s.login);
      pages = take.pages ∙ h.pages ∙ sym (entries_silent nat_eq page_change (effects_of T event) (pages T) no_page);
      loaded =
          take.loaded ∙ h.loaded ∙ ap keys_of (sym (entries_silent nat_eq loaded_change (effects_of T event)
          (standing nat_eq loaded_change T.rows)
          (loads_silent (effects_of T event) no_page)));
      held = subst (Holds s'.tabs.table.pages s'.tabs.gets) (sym calls_is) take.held;
      waits = take.waits ∙ h.waits ∙ sym (windows_begin T line event b.call
          (λ q ne. begins_of q ∙ (let other : nat_eq q b.call ≡ false =
          grind (arith, nat_tests, ne) in ap (λ t. cond t (Some b) None) other))
          (never_moved T.header T.rows b.call h.run (sym (ap (list_any (nat_eq b.call)) h.taken) ∙ fresh_call))
          (subst OpensNone (sym effects) (
            refl,
            outcome_closed world (cookies_with T) kind b.call b.page outcome
                (subst (λ o. OpensNone (moves kind b.call o)) (sym moved) (closed, tt)),
          ))
          (ap (λ es. lists_after es (windows T)) effects ∙ outcome_lists world (cookies_with T) kind b.call b.page outcome (windows T)
          ∙ ap (λ o. lists_after (moves kind b.call o) (windows T)) moved));
      taken = take.taken
          ∙ ap (λ xs. s.tabs.taken ++ xs) (sym (ap (filter_map begun_by) effects
          ∙ ap (λ xs. b.call ∷ xs) (said_silent begun_by does
          (outcome_begins_none world (cookies_with T) kind b.call b.page outcome))));
      pending = take.pending ∙ sym calls_is;
      known =
          λ q. begins_known b.page b.call (at_stage stage (known_first (world_at T) b)) s.tabs s'.tabs none begins_call q
          ∙ known_new s T line event b outcome stage q h inputs moved moved_by begins_of (nat_eq b.call q) refl;
    }
  where
    unknown : (s : State) (T : Trace) (call : ℕ) → Stands s T → list_any (nat_eq call) s.tabs.taken ≡ false → known_at T call ≡ None
    unknown s T call h fresh =
        ap (known_by (stage_at T call)) (unbegun_unknown T.header T.rows call (sym (ap (list_any (nat_eq call)) h.taken) ∙ fresh))
        ∙ none_by (stage_at T call)
      where
        none_by : (stage : Option Stage) → known_by stage None ≡ None
        none_by None = refl
        none_by (Some stage) = refl

    known_new : (s : State) (T : Trace) (line : ℕ) (event : Event) (b : Begun) (outcome : Outcome) (stage : Stage) (q : ℕ)
        → Stands s T
        → ((q : ℕ) (k : Known) → said_of T event q k ≡ k) → outcome.stage ≡ Some stage
        → ((q : ℕ) → last_said nat_eq stage_change q (effects_of T event)
        ≡ last_said nat_eq stage_change q (outcome_effects (world_at T) (cookies_with T) (kind_asked b.options) b.call b.page outcome))
        → ((q : ℕ) → last_of (begins q) (effects_of T event) ≡ cond (nat_eq q b.call) (Some b) None)
        → (t : Bool) → nat_eq b.call q ≡ t
        → cond t (at_stage stage (known_first (world_at T) b)) (item_known s.tabs.table.items q) ≡ known_at (with_event T line event) q
    known_new s T line event b outcome stage q h inputs moved moved_by begins_of false at =
        let is : nat_eq q b.call ≡ false = grind (arith, nat_tests, at) in
        h.known q
        ∙ sym (known_same T line event q (moved_by q ∙ moves_no_other (world_at T) (cookies_with T) (kind_asked
        b.options) b.call b.page outcome q is) (begins_of q ∙ ap (λ t. cond t (Some b) None) is) (inputs q))
    known_new s T line event b outcome stage q h inputs moved moved_by begins_of true at =
        let is : nat_eq q b.call ≡ true = grind (arith, nat_tests, at) in
        sym (known_moved T line event q (Some (Some stage)) (Some b) (moved_by q
        ∙ moves_call (world_at T) (cookies_with T) (kind_asked b.options) b.call b.page outcome q is ∙ ap (option_map Some) moved)
        (begins_of q ∙ ap (λ t. cond t (Some b) None) is))

-- ---- a call, whole

-- a call comes to a stage by its first row, at which it may be pending and no window is open, and sets nothing
record Comes (kind : CallKind) (get : Option ℕ) (outcome : Outcome) : Type 0 where
  stage : Stage
  is : outcome.stage ≡ Some stage
  closed : is_window stage ≡ false
  free : (stage ≡ Ended) ⊎ IsFree kind get
  still : (sight : Sight) → sight_after outcome.effects sight ≡ sight

-- the call fails, and is over
fails_comes : (get : Option ℕ) (failure : Failure) → Comes GetCall get (fails failure)
fails_comes get failure = record { stage = Ended; is = refl; closed = refl; free = inl refl; still = λ sight. refl }

single_comes : (provider : ProviderOptions) (opening : Answer Parts Closed) (lacking prevented : Bool)
    → Comes GetCall None (get.start_by provider opening lacking prevented)
single_comes provider (Err NotSecure) lacking prevented = fails_comes None _
single_comes provider (Err Siteless) true prevented = fails_comes None _
single_comes provider (Err Siteless) false prevented = fails_comes None _
single_comes provider (Err Gated) true prevented = fails_comes None _
single_comes provider (Err Gated) false true = fails_comes None _
single_comes provider (Err Gated) false false = fails_comes None _
single_comes provider (Ok wellknown) true prevented = fails_comes None _
single_comes provider (Ok wellknown) false true = fails_comes None _
single_comes provider (Ok wellknown) false false =
    record { stage = Reading; is = refl; closed = refl; free = inr refl; still = λ sight. refl }

-- what a call with several providers settles to as it begins
settling_comes : (first : List CallEffect) (c : Conclusion) → ((sight : Sight) → sight_after (first ++ (first_settles c).effects) sight ≡ sight)
    → Comes GetCall None (gathers first (first_settles c))
settling_comes first (NoneLeft failure) still = record { stage = Ended; is = refl; closed = refl; free = inl refl; still = still }
settling_comes first Awaits still = record { stage = Gathering; is = refl; closed = refl; free = inr refl; still = still }
settling_comes first (Reselects offered) still = record { stage = Gathering; is = refl; closed = refl; free = inr refl; still = still }
settling_comes first NoneSilent still = record { stage = Gathering; is = refl; closed = refl; free = inr refl; still = still }
settling_comes first (Offers offered) still = record { stage = Gathering; is = refl; closed = refl; free = inr refl; still = still }
settling_comes first (Prompts offered) still = record { stage = Gathering; is = refl; closed = refl; free = inr refl; still = still }

unprevented_comes : (world : World) (origin : Origin) (options : GetOptions) (prevented : Bool)
    → Comes GetCall None (by_prevented world origin options prevented)
unprevented_comes world origin options true = fails_comes None _
unprevented_comes world origin options false =
    settling_comes (opens_from world options.mode 0 options.providers)
    (conclusion_of world origin options (map (first_progress world options.mode) options.providers))
    (none_still (start_all world origin options).effects (start_all_none world origin options))

apart_comes : (world : World) (origin : Origin) (options : GetOptions) (twice : Bool) → Comes GetCall None (by_twice world origin options twice)
apart_comes world origin options true = fails_comes None _
apart_comes world origin options false =
    unprevented_comes world origin options (is_prevented options.mediation (has_flag world.flags origin))

passive_comes : (world : World) (origin : Origin) (options : GetOptions) (active : Bool) → Comes GetCall None (by_active world origin options active)
passive_comes world origin options true = fails_comes None _
passive_comes world origin options false = apart_comes world origin options (is_twice options)

start_comes : (world : World) (origin : Origin) (options : GetOptions) (providers : List ProviderOptions) → 1 ≤ length providers
    → Comes GetCall None (start_with world origin options providers)
start_comes world origin options [] some = absurd (omega (arith, some))
start_comes world origin options (only ∷ []) some =
    single_comes only (opening world options.mode only) (lacks_activation options.mode options.activation)
    (is_prevented options.mediation (has_flag world.flags origin))
start_comes world origin options (first ∷ second ∷ more) some = passive_comes world origin options (is_active options.mode)

site_comes : (get : Option ℕ) (config : Parts) (wellknown : Answer Parts ProviderStep) (kept : Bool)
    → Comes DisconnectCall get (disconnect.by_site config wellknown kept)
site_comes get config (Err step) kept = record { stage = Ended; is = refl; closed = refl; free = inl refl; still = λ sight. refl }
site_comes get config (Ok wellknown) false = record { stage = Ended; is = refl; closed = refl; free = inl refl; still = λ sight. refl }
site_comes get config (Ok wellknown) true = record { stage = Reading; is = refl; closed = refl; free = inr tt; still = λ sight. refl }

disconnect_comes : (get : Option ℕ) (scheme : Scheme) (config : Parts) (wellknown : Answer Parts ProviderStep) (kept : Bool)
    → Comes DisconnectCall get (disconnect.by_scheme scheme config wellknown kept)
disconnect_comes get Http config wellknown kept = record { stage = Ended; is = refl; closed = refl; free = inl refl; still = λ sight. refl }
disconnect_comes get Https config wellknown kept = site_comes get config wellknown kept

first_comes : (world : World) (get : Option ℕ) (origin : Origin) (options : CallOptions) → HasSome options
    → Comes (kind_asked options) get (first_row world (is_some get) origin options)
first_comes world (Some other) origin (ToGet options) some = fails_comes (Some other) _
first_comes world None origin (ToGet options) some = start_comes world origin options options.providers some
first_comes world get origin (ToDisconnect options) some =
    disconnect_comes get (scheme_of options.config) options.config (WellKnownUrlOf world.rules options.config)
    (has_pair world.kept origin (provider_origin options))

-- what is kept of a call by its stage
started_is : (world : World) (b : Begun) (outcome : Outcome) (stage : Stage) → outcome.stage ≡ Some stage
    → started world b outcome ≡ at_stage stage (known_first world b)
started_is world b outcome stage is = ap (λ o. at_stage (unwrap_or o Reading) (known_first world b)) is

-- no window of a call is open where it begins
idle : (world : World) (kind : CallKind) (get : Option ℕ) (b : Begun) (outcome : Outcome) → Comes kind get outcome
    → awaited_in (started world b outcome) ≡ None
idle world kind get b outcome comes =
    ap awaited_in (started_is world b outcome comes.stage comes.is) ∙ go (goes_or_ends comes.stage)
  where
    go : (comes.stage ≡ Ended) ⊎ Goes comes.stage → awaited_in (at_stage comes.stage (known_first world b)) ≡ None
    go (inl over) = ap (λ stage. awaited_in (at_stage stage (known_first world b))) over ∙ ap awaited_in (over_none (known_first world b))
    go (inr going) =
        ap awaited_in (going.kept (known_first world b)) ∙ awaits_at comes.stage (known_first world b)
        ∙ ap (λ w. cond w (provider_asked (asked (known_first world b))) None) comes.closed

pub begun_idle : (world : World) (busy : Bool) (b : Begun) → HasSome b.options → awaited_in (begun_as world busy b) ≡ None
begun_idle world true b one =
    idle world (kind_asked b.options) (Some 0) b (first_row world true b.origin b.options) (first_comes world (Some 0) b.origin b.options one)
begun_idle world false b one =
    idle world (kind_asked b.options) None b (first_row world false b.origin b.options) (first_comes world None b.origin b.options one)

pub owes_begin : (s s' : State) (T : Trace) (line : ℕ) (event : Event) (page call : ℕ) (options : CallOptions) → Stands s T
    → BeginsBy T event page call options
    → list_any (nat_eq call) s.tabs.taken ≡ false → HasSome options
    → sight_of s' ≡ sight_of s
    → BeginsIf page call (begin_kept (world_in (sight_of s)) (lookup (nat_eq page) s.tabs.pages)
    (is_some (lookup (nat_eq page) s.tabs.gets)) page call options) s.tabs s'.tabs
    → Owes s s' T line event
owes_begin s s' T line event page call options h by fresh_call one sight begins_if =
    go (lookup (nat_eq page) s.tabs.pages) (sym (begins-stands s T event page call options h by))
    (subst (λ w. BeginsIf page call (begin_kept w (lookup (nat_eq page) s.tabs.pages) (is_some get) page call options) s.tabs s'.tabs)
    (world_same s T h) begins_if)
  where
    get : Option ℕ
    get = lookup (nat_eq page) s.tabs.gets

    of : Origin → Begun
    of origin = record { call = call; page = page; origin = origin; options = options }

    taken : (origin : Origin)
        → effects_of T event ≡ standing_call (world_at T) (cookies_with T) true (is_some get) (of origin)
        → Begins page call (begun_as (world_at T) (is_some get) (of origin)) s.tabs s'.tabs
        → Owes s s' T line event
    taken origin effects begins_call =
        let outcome = first_row (world_at T) (is_some get) origin options in
        let comes = first_comes (world_at T) get origin options one in
        owes_taken s s' T line event (of origin) outcome comes.stage h effects by.inputs comes.is comes.closed
        (first_sets (world_at T) (is_some get) origin options) comes.free fresh_call (comes.still (sight_of s)) sight
        (subst (λ known. Begins page call known s.tabs s'.tabs) (started_is (world_at T) (of origin) outcome comes.stage comes.is) begins_call)

    trusted : (origin : Origin) (t : Bool)
        → effects_of T event ≡ standing_call (world_at T) (cookies_with T) t (is_some get) (of origin)
        → BeginsIf page call (standing_kept (world_at T) t (is_some get) (of origin)) s.tabs s'.tabs
        → Owes s s' T line event
    trusted origin false effects same = owes_ignored s s' T line event PageInsecure h effects by.inputs sight same
    trusted origin true effects begins_call = taken origin effects begins_call

    go : (found : Option Origin)
        → effects_of T event ≡ begin_effects (world_at T) (cookies_with T) found (is_some get) page call options
        → BeginsIf page call (begin_kept (world_at T) found (is_some get) page call options) s.tabs s'.tabs
        → Owes s s' T line event
    go None effects same = owes_ignored s s' T line event NoPage h effects by.inputs sight same
    go (Some origin) effects begins_call = trusted origin (is_trustworthy origin) effects begins_call

-- ---- records

-- the records of a call of a page that stands and is trustworthy
pub begin_records : (line : ℕ) (world : World) (cookies : Ask → List ℕ) (found : Option Origin) (origin : Origin) (busy : Bool)
    (page call : ℕ) (options : CallOptions) → found ≡ Some origin → is_trustworthy origin ≡ true
    → call_records line cookies call page (first_row world busy origin options).effects
    ≡ records_of line (begin_effects world cookies found busy page call options)
begin_records line world cookies found origin busy page call options is trusted =
    sym (outcome_records line world cookies (kind_asked options) call page (first_row world busy origin options))
    ∙ ap (λ t. records_of line (standing_call world cookies t busy (record
    { call = call; page = page; origin = origin; options = options }))) (sym trusted)
    ∙ ap (λ o. records_of line (begin_effects world cookies o busy page call options)) (sym is)

-- by what is seen of a session they are those of the row
pub begin_records-stand : (s : State) (T : Trace) (line : ℕ) (event : Event) (page call : ℕ) (options : CallOptions) → Stands s T
    → BeginsBy T event page call options
    → records_of line (begin_effects (world_in (sight_of s)) (cookies_of (sight_of s)) (lookup (nat_eq page) s.tabs.pages)
    (is_some (lookup (nat_eq page) s.tabs.gets)) page call options)
    ≡ records_of line (effects_of T event)
begin_records-stand s T line event page call options h by =
    let found = lookup (nat_eq page) s.tabs.pages in
    let busy = is_some (lookup (nat_eq page) s.tabs.gets) in
    ap (records_of line) (same_begin (cookies_of (sight_of s)) (cookies_with T) (λ ask. cookies_same s T ask h) (world_in (sight_of s))
    found busy page call options)
    ∙ ap (λ w. records_of line (begin_effects w (cookies_with T) found busy page call options)) (world_same s T h)
    ∙ ap (records_of line) (begins-stands s T event page call options h by)

-- a call that the session never took began in no row
pub is_new : (s : State) (T : Trace) (call : ℕ) → Stands s T → list_any (nat_eq call) s.tabs.taken ≡ false
    → list_any (nat_eq call) (begun T.rows) ≡ false
is_new s T call h fresh = sym (ap (list_any (nat_eq call)) h.taken) ∙ fresh
