-- What the events without a call owe to the trace.
use Rattle.std.proofs.Common.{◌≡◌, ℕ, Bool, true, false, nat_eq, List, [], ◌∷◌, ◌++◌, Some, None, ◌||◌, refl, sym, ap}
use Rattle.std.proofs.Common.{subst, ◌∙◌}
use Rattle.std.proofs.Common.{cond, append-nil}
use Rattle.std.specs.Prelude.{Option, option_map, unwrap_or}
use Rattle.std.specs.List.{filter_map}
use Rattle.std.specs.Map.{lookup, keys_of}
use Rattle.indexmap.specs.IndexMap.{insert_entry, shift_remove_entry}
use Rattle.url.specs.Parts.{Parts}
use Rattle.fed_origin.specs.declared.origin.Origin.{Origin}
use Rattle.fed_origin.specs.Origin.{same_origin}
use Rattle.fed_origin.specs.Status.{same_triple}
use Rattle.fed_origin.specs.WebUrl.{origin_of}
use Rattle.fed_origin.specs.declared.stage.Stage.TheVariants.{Ended}
use Rattle.fed_origin.specs.declared.status.LoginStatus.{LoginStatus}
use Rattle.fed_jar.specs.Changes.{changed_by}
use Rattle.fed_jar.specs.Limit.{changes_from}
use Rattle.fed_status.specs.Login.{Logins}
use Rattle.fed_table.specs.Lists.{has, all_without_calls, with_key, emptied}
use Rattle.fed_script.specs.declared.event.Event.{Event}
use Rattle.fed_script.specs.declared.event.Event.TheVariants.{At, Load, ClosePage, Prevent, SetStatus}
use Rattle.fed_script.specs.declared.event.Have.{Have}
use Rattle.fed_consent.specs.declared.table.why.Why.TheVariants.{NoPage}
use Rattle.fed_script.specs.declared.event.Event.TheVariants as events
use Rattle.fed_script.specs.declared.event.Have.TheVariants as haves
use Rattle.fed_trace.specs.Effect.{Effect, Page, Closed, Login, Flag, Move, Ignored, page_change, login_change}
use Rattle.fed_trace.specs.Effect.{kept_change, flag_change}
use Rattle.fed_trace.specs.Effect.{call_change, stage_change, begun_by, begins, cookie_change, time_of, loaded_change}
use Rattle.fed_trace.specs.Keyed.{entries_after, last_said}
use Rattle.fed_trace.specs.Known.{known_in, known_at}
use Rattle.fed_trace.specs.Records.{record_of, records_of}
use Rattle.fed_trace.specs.Row.{effects_of, with_event, cookies_from, have_cookies, have_changes, load_changes, have_states, set_cookies}
use Rattle.fed_trace.specs.Row.{set_logins, cookie_effects, login_effects, ends_of, load_effects, close_effects, page_says}
use Rattle.fed_trace.specs.Begun.{CallKind}
use Rattle.fed_trace.specs.Call.{Known}
use Rattle.fed_session.specs.Session.{State, Stands, windows, numbers_in, item_known, pending_call, pending_calls}
use Rattle.fed_session.specs.Cookies.{with_all_stored}
use Rattle.fed_session.specs.StepParts.{sight_of, cookies_kept, with_statuses, have_statuses, have_kept, have_flags, flags_set}
use Rattle.fed_session.specs.StepParts.{close_records}
use Rattle.fed_session.specs.Tabs.{Ends, Closes}
use Rattle.fed_trace.specs.Trace.{Trace, standing, pages, pending, pending_of, page_at, calls_of, now_at}
use Rattle.fed_trace.proofs.calls.Begins.{AreApart, apart_begun}
use Rattle.fed_session.proofs.kept.Calls.{loses, pending_same, pending_loses}
use Rattle.fed_session.proofs.kept.Held.{Holds, holds_keyed, holds_ended}
use Rattle.fed_session.proofs.kept.Loaded.{load_loads, keys_emptied, keys_loaded}
use Rattle.fed_session.proofs.waits.Windows.{windows_end}
use Rattle.fed_trace.proofs.keyed.Keyed.{distinct_standing, lookup-standing}
use Rattle.fed_trace.proofs.keyed.Keyed.{entries_after-append}
use Rattle.fed_trace.proofs.happens.Ends.{last_said_front, ends_apart, ends_hit}
use Rattle.fed_trace.proofs.calls.Pending.{is_among, others, ended, ends_silent, load_rest_silent, load_silent, load_pages, load_calls}
use Rattle.fed_trace.proofs.calls.Pending.{load_changed, changed_then, set_after}
use Rattle.fed_session.proofs.clauses.Cookies.{list_after, rules_after}
use Rattle.fed_session.proofs.clauses.Permissions.{have_keeps, have_marks, page_marks}
use Rattle.fed_session.proofs.clauses.Sight.{sees}
use Rattle.fed_session.proofs.clauses.Statuses.{load_sets}
use Rattle.fed_trace.proofs.effects.Silent.{AllSilent, entries_silent, said_silent, last_silent}
use Rattle.fed_session.proofs.stands.Stands.{Owes, owes_aside, kept_still, flags_still, stands_held}
use Rattle.fed_trace.proofs.known.Known.{said_of, known_moved, known_same, over}
use Rattle.fed_trace.proofs.events.Aside.{IsAside, states_change_none, have_silent, says_silent, close_silent}

-- ---- what is there from the start

have_sets : (have : Have) (logins : Logins) → entries_after same_origin login_change (have_states have) logins
    ≡ have_statuses have logins
have_sets (haves.Login origin status) logins = refl
have_sets (haves.Kept triple) logins = refl
have_sets (haves.Silent origin) logins = refl
have_sets (haves.Cookie url field) logins = refl

pub owes_have : (s s' : State) (T : Trace) (line : ℕ) (have : Have) → Stands s T
    → sight_of s' ≡ record (sight_of s) {
      cookies = with_all_stored s.time (cookies_kept s) (have_cookies s.rules s.time have);
      login =
          have_statuses have s.login;
      kept = have_kept have s.kept;
      flags = have_flags have s.flags;
    }
    → s'.tabs ≡ s.tabs → Owes s s' T line (events.Have have)
owes_have s s' T line have h sight tabs =
    let seen = sees s' _ sight in
    let found = have_changes T have in
    let same : changes_from s.rules s.time s.cookies (have_cookies s.rules s.time have) ≡ found =
    ap (λ r. changes_from r s.time s.cookies (have_cookies r s.time have)) h.rules
    ∙ ap (λ t. changes_from T.header.rules t s.cookies (have_cookies T.header.rules t have)) h.time
    ∙ ap (λ cs. changes_from T.header.rules (now_at T) cs (have_cookies T.header.rules (now_at T) have)) h.cookies in
    owes_aside s s' T line (events.Have have) h
    (record {
      pages =
          have_silent page_change
          (record { cookie = λ c. refl; login = λ o s. refl; kept = λ t k. refl; flag = λ o k. refl }) found have;
      calls =
          have_silent call_change
          (record { cookie = λ c. refl; login = λ o s. refl; kept = λ t k. refl; flag = λ o k. refl }) found have;
      begun =
          have_silent begun_by (record { cookie = λ c. refl; login = λ o s. refl; kept = λ t k. refl; flag = λ o k. refl }) found have;
      stages =
          have_silent stage_change
          (record { cookie = λ c. refl; login = λ o s. refl; kept = λ t k. refl; flag = λ o k. refl }) found have;
      begins_none =
          λ q. have_silent (begins q)
          (record { cookie = λ c. refl; login = λ o s. refl; kept = λ t k. refl; flag = λ o k. refl }) found have;
      inputs = λ q k. refl;
    })
    (seen.rules ∙ rules_after s.time (cookies_kept s) (have_cookies s.rules s.time have))
    (seen.kept ∙ ap (have_kept have) h.kept ∙ sym (have_keeps found have (standing same_triple kept_change T.rows)))
    (seen.flags ∙ ap (have_flags have) h.flags ∙ sym (have_marks found have (standing same_origin flag_change T.rows)))
    (seen.time ∙ sym (ap (λ o. unwrap_or o s.time) (last_silent time_of (cookie_effects found ++ have_states have)
    (have_silent time_of (record { cookie = λ c. refl; login = λ o s. refl; kept = λ t k. refl; flag = λ o k. refl }) found have))))
    (seen.cookies ∙ list_after s.time (cookies_kept s) (have_cookies s.rules s.time have)
    ∙ ap (changed_by s.cookies) (same ∙ sym (changed_then found (have_states have) (states_change_none have))))
    (seen.login ∙ sym (set_after found (have_states have) s.login ∙ have_sets have s.login))
    tabs

-- ---- the time

pub owes_at : (s s' : State) (T : Trace) (line time : ℕ) → Stands s T
    → sight_of s' ≡ record (sight_of s) { time = time } → s'.tabs ≡ s.tabs → Owes s s' T line (At time)
owes_at s s' T line time h sight tabs =
    let seen = sees s' _ sight in
    owes_aside s s' T line (At time) h
    (record {
      pages = (refl, tt);
      calls = (refl, tt);
      begun = (refl, tt);
      stages = (refl, tt);
      begins_none = λ q. (refl, tt);
      inputs = λ q k. refl;
    })
    seen.rules (kept_still s s' T (At time) h (refl, tt) seen.kept) (flags_still s s' T (At time) h (refl, tt) seen.flags) seen.time
    seen.cookies seen.login tabs

-- ---- a page sets a status

-- what is kept of a page is what is looked up
pub page_kept : (s : State) (T : Trace) (page : ℕ) → Stands s T → lookup (nat_eq page) s.tabs.pages ≡ page_at T page
page_kept s T page h = ap (lookup (nat_eq page)) h.pages ∙ lookup-standing page_change page T.rows

-- what a page says of its origin, where that says nothing of pages, calls, times and cookies
says_aside : (T : Trace) (line : ℕ) (event : Event) (page : ℕ) (says : Origin → Effect)
    → effects_of T event ≡ page_says (page_at T page) says
    → ((o : Origin) → page_change (says o) ≡ None) → ((o : Origin) → call_change (says o) ≡ None)
    → ((o : Origin) → begun_by (says o) ≡ None) → ((o : Origin) → stage_change (says o) ≡ None)
    → ((q : ℕ) (o : Origin) → begins q (says o) ≡ None) → ((q : ℕ) (k : Known) → said_of T event q k ≡ k)
    → IsAside T line event
says_aside T line event page says is pages calls begun stages begins_none inputs =
    record {
      pages = subst (AllSilent page_change) (sym is) (says_silent page_change says pages (λ w. refl) (page_at T page));
      calls = subst (AllSilent call_change) (sym is) (says_silent call_change says calls (λ w. refl) (page_at T page));
      begun = subst (AllSilent begun_by) (sym is) (says_silent begun_by says begun (λ w. refl) (page_at T page));
      stages = subst (AllSilent stage_change) (sym is) (says_silent stage_change says stages (λ w. refl) (page_at T page));
      begins_none =
          λ q. subst (AllSilent (begins q)) (sym is) (says_silent (begins q) says (begins_none q) (λ w. refl) (page_at T page));
      inputs = inputs;
    }

pub owes_status : (s s' : State) (T : Trace) (line page : ℕ) (status : LoginStatus) → Stands s T
    → sight_of s' ≡ record (sight_of s) { login = s'.login }
    → s'.login ≡ entries_after same_origin login_change (page_says (lookup (nat_eq page) s.tabs.pages) (λ origin. Login origin status))
    s.login
    → s'.tabs ≡ s.tabs → Owes s s' T line (SetStatus page status)
owes_status s s' T line page status h sight login tabs =
    let seen = sees s' _ sight in
    let o = page_at T page in
    let says : Origin → Effect = λ origin. Login origin status in
    owes_aside s s' T line (SetStatus page status) h
    (says_aside T line (SetStatus page status) page says refl (λ o. refl) (λ o. refl) (λ o. refl) (λ o. refl) (λ q o. refl)
    (λ q k. refl))
    seen.rules
    (kept_still s s' T (SetStatus page status) h (says_silent kept_change says (λ o. refl) (λ w. refl) o) seen.kept)
    (flags_still s s' T (SetStatus page status) h (says_silent flag_change says (λ o. refl) (λ w. refl) o) seen.flags)
    (seen.time ∙ sym (ap (λ x. unwrap_or x s.time)
    (last_silent time_of (page_says o says) (says_silent time_of says (λ o. refl) (λ w. refl) o))))
    (seen.cookies ∙ ap (changed_by s.cookies) (sym
    (said_silent cookie_change (page_says o says) (says_silent cookie_change says (λ o. refl) (λ w. refl) o))))
    (login ∙ ap (λ x. entries_after same_origin login_change (page_says x says) s.login) (page_kept s T page h))
    tabs

-- ---- a page prevents silent access

pub owes_prevent : (s s' : State) (T : Trace) (line page : ℕ) → Stands s T
    → sight_of s' ≡ record (sight_of s) { flags = s'.flags }
    → s'.flags ≡ flags_set (lookup (nat_eq page) s.tabs.pages) s.flags
    → s'.tabs ≡ s.tabs → Owes s s' T line (Prevent page)
owes_prevent s s' T line page h sight flags tabs =
    let seen = sees s' _ sight in
    let o = page_at T page in
    let says : Origin → Effect = λ origin. Flag origin true in
    owes_aside s s' T line (Prevent page) h
    (says_aside T line (Prevent page) page says refl (λ o. refl) (λ o. refl) (λ o. refl) (λ o. refl) (λ q o. refl) (λ q k. refl))
    seen.rules
    (kept_still s s' T (Prevent page) h (says_silent kept_change says (λ o. refl) (λ w. refl) o) seen.kept)
    (flags ∙ ap (λ x. flags_set x s.flags) (page_kept s T page h) ∙ ap (flags_set o) h.flags
    ∙ sym (page_marks o (standing same_origin flag_change T.rows)))
    (seen.time ∙ sym (ap (λ x. unwrap_or x s.time)
    (last_silent time_of (page_says o says) (says_silent time_of says (λ o. refl) (λ w. refl) o))))
    (seen.cookies ∙ ap (changed_by s.cookies) (sym
    (said_silent cookie_change (page_says o says) (says_silent cookie_change says (λ o. refl) (λ w. refl) o))))
    (seen.login ∙ sym (entries_silent same_origin login_change (page_says o says) s.login
    (says_silent login_change says (λ o. refl) (λ w. refl) o)))
    tabs

-- ---- the calls of a page end

-- among numbers
pub among_numbers : (call : ℕ) (calls : List (ℕ × CallKind)) → has call (numbers_in calls) ≡ is_among call calls
among_numbers call [] = refl
among_numbers call (c ∷ calls) = ap (λ b. nat_eq call c.0 || b) (among_numbers call calls)

-- what is known of a call after these have ended
known_after_ends : (T : Trace) (line : ℕ) (event : Event) (q : ℕ) (calls : List (ℕ × CallKind)) (rest : List Effect)
    (known : Option Known) → effects_of T event ≡ ends_of calls ++ rest → AllSilent stage_change rest
    → AllSilent (begins q) (effects_of T event)
    → ((k : Known) → said_of T event q k ≡ k) → known ≡ known_at T q
    → cond (has q (numbers_in calls)) None known ≡ known_at (with_event T line event) q
known_after_ends T line event q calls rest known effects stages begun inputs h =
    ap (λ b. cond b None known) (among_numbers q calls) ∙ go (is_among q calls) refl
  where
    said : last_said nat_eq stage_change q (effects_of T event) ≡ last_said nat_eq stage_change q (ends_of calls)
    said = ap (last_said nat_eq stage_change q) effects ∙ last_said_front stage_change q (ends_of calls) rest stages

    go : (b : Bool) → is_among q calls ≡ b → cond b None known ≡ known_at (with_event T line event) q
    go true is =
        sym (known_moved T line event q (Some (Some Ended)) None (said
        ∙ ends_hit q calls is) (last_silent (begins q) (effects_of T event) begun)
        ∙ over (option_map (said_of T event q) (known_in T.header T.rows q)))
    go false is =
        h ∙ sym (known_same T line event q (said ∙ ends_apart stage_change (Some Ended) (λ n c. refl) q calls is) (last_silent (begins
        q) (effects_of T event) begun) inputs)

-- no call was taken twice
pub taken_apart : (s : State) (T : Trace) → Stands s T → AreApart s.tabs.taken
taken_apart s T h = subst AreApart (sym h.taken) (apart_begun T.header T.rows h.run)

-- what an event owes by which the calls of a page end, and then something else comes
record EndsOwe (s s' : State) (T : Trace) (line : ℕ) (event : Event) : Type 0 where
  waits : s'.tabs.table.waits ≡ windows (with_event T line event)
  taken : s'.tabs.taken ≡ s.tabs.taken ++ filter_map begun_by (effects_of T event)
  pending : pending_calls (item_known s'.tabs.table.items) s'.tabs.taken
      ≡ entries_after nat_eq call_change (effects_of T event) (pending T)
  known : (call : ℕ) → item_known s'.tabs.table.items call ≡ known_at (with_event T line event) call

ends_owe : (s s' : State) (T : Trace) (line : ℕ) (event : Event) (page : ℕ) (standing : List (ℕ × Origin)) (listed : List (ℕ × List ℕ))
    (rest : List Effect) → Stands s T → Ends page standing listed s.tabs s'.tabs
    → effects_of T event ≡ ends_of (pending_of T page) ++ rest → AllSilent call_change rest → AllSilent stage_change rest
    → AllSilent begun_by (effects_of T event) → ((q : ℕ) → AllSilent (begins q) (effects_of T event))
    → ((q : ℕ) (k : Known) → said_of T event q k ≡ k) → EndsOwe s s' T line event
ends_owe s s' T line event page standing listed rest h ends effects calls stages begun begins_none inputs =
    let gone = pending_of T page in
    let before : ℕ → Option Known = item_known s.tabs.table.items in
    let lost : (q : ℕ) → item_known s'.tabs.table.items q ≡ loses (numbers_in gone) before q =
    λ q. ends.known q ∙ ap (λ xs. cond (has q xs) None (before q)) (h.held page) in
    record {
      waits =
          ends.waits ∙ ap (λ calls. all_without_calls calls s.tabs.table.waits) (h.held page)
          ∙ ap (all_without_calls (numbers_in gone)) h.waits
          ∙ sym (windows_end T line event gone rest (λ q. last_silent (begins q) (effects_of T event) (begins_none q)) effects stages);
      taken = ends.taken ∙ sym (append-nil s.tabs.taken) ∙ ap (λ xs. s.tabs.taken ++ xs) (sym (said_silent begun_by (effects_of
          T event) begun));
      pending =
          ap (pending_calls (item_known s'.tabs.table.items)) ends.taken
          ∙ pending_same (item_known s'.tabs.table.items) (loses (numbers_in gone) before) (λ q. ap (pending_call q) (lost q)) s.tabs.taken
          ∙ pending_loses gone rest before s.tabs.taken (taken_apart s T h) calls
          ∙ ap (λ xs. entries_after nat_eq call_change xs (pending_calls before s.tabs.taken)) (sym effects)
          ∙ ap (entries_after nat_eq call_change (effects_of T event)) h.pending;
      known = λ q. lost q
          ∙ known_after_ends T line event q gone rest (before q) effects stages (begins_none q) (inputs q) (h.known q);
    }

-- ---- a load

pub owes_load : (s s' : State) (T : Trace) (line page : ℕ) (url : Parts) (raw : Option (List ℕ)) → Stands s T
    → sight_of s' ≡ record (sight_of s) {
      cookies = with_all_stored s.time (cookies_kept s) (cookies_from s.rules url s.time (set_cookies raw));
      login =
          with_statuses (origin_of url) (set_logins raw) s.login;
    }
    → Ends page (insert_entry nat_eq s.tabs.pages page (origin_of url))
    (with_key nat_eq page (emptied (nat_eq page) s.tabs.table.pages)) s.tabs s'.tabs
    → Owes s s' T line (Load page url raw)
owes_load s s' T line page url raw h sight ends =
    let seen = sees s' _ sight in
    let found = load_changes T url raw in
    let statuses = set_logins raw in
    let same : changes_from s.rules s.time s.cookies (cookies_from s.rules url s.time (set_cookies raw)) ≡ found =
    ap (λ r. changes_from r s.time s.cookies (cookies_from r url s.time (set_cookies raw))) h.rules
    ∙ ap (λ t. changes_from T.header.rules t s.cookies (cookies_from T.header.rules url t (set_cookies raw))) h.time
    ∙ ap (λ cs. changes_from T.header.rules (now_at T) cs (cookies_from T.header.rules url (now_at T) (set_cookies raw))) h.cookies in
    let es = pending T in
    let calls = calls_of page es in
    let rest = Page page (origin_of url) ∷ (cookie_effects found ++ login_effects (origin_of url) statuses) in
    let owe = ends_owe s s' T line (Load page url raw) page (insert_entry nat_eq s.tabs.pages page (origin_of url))
    (with_key nat_eq page (emptied (nat_eq page) s.tabs.table.pages)) rest h ends refl
    (refl, load_rest_silent call_change (λ c. refl) (λ o s. refl) found (origin_of url) statuses)
    (refl, load_rest_silent stage_change (λ c. refl) (λ o s. refl) found (origin_of url) statuses)
    (load_silent begun_by (λ n c. refl) (λ p o. refl) (λ c. refl) (λ o s. refl) calls page url found statuses)
    (λ q. load_silent (begins q) (λ n c. refl) (λ p o. refl) (λ c. refl) (λ o s. refl) calls page url found statuses) (λ q k. refl) in
    record {
      rules = seen.rules ∙ rules_after s.time (cookies_kept s) (cookies_from s.rules url s.time (set_cookies raw));
      kept =
          kept_still s s' T (Load page url raw) h (load_silent kept_change (λ n c. refl) (λ p o. refl) (λ c. refl) (λ o s. refl) calls
          page
          url found statuses) seen.kept;
      flags =
          flags_still s s' T (Load page url raw) h (load_silent flag_change (λ n c. refl) (λ p o. refl) (λ c. refl) (λ o s. refl) calls
          page
          url found statuses) seen.flags;
      time =
          seen.time ∙ sym (ap (λ o. unwrap_or o s.time)
          (last_silent time_of (load_effects calls page url found statuses)
          (load_silent time_of (λ n c. refl) (λ p o. refl) (λ c. refl) (λ o s. refl) calls page url found statuses)));
      cookies =
          seen.cookies ∙ list_after s.time (cookies_kept s) (cookies_from s.rules url s.time (set_cookies raw))
          ∙ ap (changed_by s.cookies) (same ∙ sym (load_changed calls page url found statuses));
      login = seen.login ∙ sym (load_sets calls page url found statuses s.login);
      pages =
          ends.pages ∙ ap (λ os. insert_entry nat_eq os page (origin_of url)) h.pages
          ∙ sym (load_pages calls page url found statuses (pages T));
      loaded =
          ap keys_of ends.listed ∙ keys_loaded page s.tabs.table.pages (standing nat_eq loaded_change T.rows) h.loaded
          ∙ ap keys_of (sym (load_loads calls page url found statuses (standing nat_eq loaded_change T.rows)));
      held =
          subst (Holds s'.tabs.table.pages s'.tabs.gets)
          (sym (load_calls page url found statuses es (distinct_standing call_change T.rows)))
          (subst (λ lists. Holds lists s'.tabs.gets (others page es)) (sym ends.listed)
          (holds_keyed page (emptied (nat_eq page) s.tabs.table.pages) s'.tabs.gets (others page es)
          (holds_ended page s.tabs.table.pages s.tabs.gets s'.tabs.gets es (stands_held s T h) ends.gets)));
      waits = owe.waits;
      taken = owe.taken;
      pending = owe.pending;
      known = owe.known;
    }

-- ---- a page closes

-- a page that stands
owes_close_standing : (s s' : State) (T : Trace) (line page : ℕ) (origin : Origin) → lookup (nat_eq page) s.tabs.pages ≡ Some origin
    → Stands s T → sight_of s' ≡ sight_of s
    → Ends page (shift_remove_entry (nat_eq page) s.tabs.pages) (emptied (nat_eq page) s.tabs.table.pages) s.tabs s'.tabs
    → Owes s s' T line (ClosePage page)
owes_close_standing s s' T line page origin found h sight ends =
    let seen = sees s' _ sight in
    let es = pending T in
    let calls = calls_of page es in
    let rest = Closed page ∷ [] in
    let owe = ends_owe s s' T line (ClosePage page) page (shift_remove_entry (nat_eq page) s.tabs.pages)
    (emptied (nat_eq page) s.tabs.table.pages) rest h ends goes (refl, tt) (refl, tt) (silent begun_by (λ n c. refl) (λ p. refl))
    (λ q. silent (begins q) (λ n c. refl) (λ p. refl)) (λ q k. refl) in
    record {
      rules = seen.rules;
      kept = kept_still s s' T (ClosePage page) h (silent kept_change (λ n c. refl) (λ p. refl)) seen.kept;
      flags = flags_still s s' T (ClosePage page) h (silent flag_change (λ n c. refl) (λ p. refl)) seen.flags;
      time =
          seen.time ∙ sym (ap (λ o. unwrap_or o s.time)
          (last_silent time_of (effects_of T (ClosePage page)) (silent time_of (λ n c. refl) (λ p. refl))));
      cookies =
          seen.cookies ∙ ap (changed_by s.cookies) (sym
          (said_silent cookie_change (effects_of T (ClosePage page)) (silent cookie_change (λ n c. refl) (λ p. refl))));
      login =
          seen.login ∙ sym (entries_silent same_origin login_change (effects_of T (ClosePage page)) s.login
          (silent login_change (λ n c. refl) (λ p. refl)));
      pages = ends.pages ∙ ap (shift_remove_entry (nat_eq page)) h.pages
          ∙ sym (ap (λ xs. entries_after nat_eq page_change xs (pages T)) goes
          ∙ entries_after-append nat_eq page_change (ends_of calls) rest (pages T)
          ∙ ap (shift_remove_entry (nat_eq page)) (entries_silent nat_eq page_change (ends_of calls) (pages T)
          (ends_silent page_change (λ n c. refl) calls)));
      loaded = ap keys_of ends.listed ∙ keys_emptied page s.tabs.table.pages ∙ h.loaded
          ∙ ap keys_of (sym (entries_silent nat_eq loaded_change (effects_of T (ClosePage page)) (standing nat_eq loaded_change T.rows)
          (silent loaded_change (λ n c. refl) (λ p. refl))));
      held = subst (Holds s'.tabs.table.pages s'.tabs.gets)
          (sym (ap (λ xs. entries_after nat_eq call_change xs es) goes
          ∙ entries_after-append nat_eq call_change (ends_of calls) rest es
          ∙ ended page es (distinct_standing call_change T.rows)))
          (subst (λ lists. Holds lists s'.tabs.gets (others page es)) (sym ends.listed)
          (holds_ended page s.tabs.table.pages s.tabs.gets s'.tabs.gets es (stands_held s T h) ends.gets));
      waits = owe.waits;
      taken = owe.taken;
      pending = owe.pending;
      known = owe.known;
    }
  where
    goes : effects_of T (ClosePage page) ≡ ends_of (calls_of page (pending T)) ++ Closed page ∷ []
    goes = ap (close_effects (calls_of page (pending T)) page) (sym (page_kept s T page h) ∙ found)

    silent : {A : Type 0} (said : Effect → Option A) → ((kind : CallKind) (call : ℕ) → said (Move kind call Ended) ≡ None)
        → ((page : ℕ) → said (Closed page) ≡ None) → AllSilent said (effects_of T (ClosePage page))
    silent said move closed = subst (AllSilent said) (sym goes) (close_silent said move closed (calls_of page (pending T)) page)

-- a page that does not stand
owes_close_absent : (s s' : State) (T : Trace) (line page : ℕ) → lookup (nat_eq page) s.tabs.pages ≡ None → Stands s T
    → sight_of s' ≡ sight_of s
    → s'.tabs ≡ s.tabs
    → Owes s s' T line (ClosePage page)
owes_close_absent s s' T line page none h sight tabs =
    let seen = sees s' _ sight in
    owes_aside s s' T line (ClosePage page) h
    (record {
      pages = silent page_change refl;
      calls = silent call_change refl;
      begun = silent begun_by refl;
      stages = silent stage_change refl;
      begins_none = λ q. silent (begins q) refl;
      inputs = λ q k. refl;
    })
    seen.rules (kept_still s s' T (ClosePage page) h (silent kept_change refl) seen.kept)
    (flags_still s s' T (ClosePage page) h (silent flag_change refl) seen.flags)
    (seen.time ∙ sym (ap (λ o. unwrap_or o s.time) (last_silent time_of (effects_of T (ClosePage page)) (silent time_of refl))))
    (seen.cookies ∙ ap (changed_by s.cookies) (sym (said_silent cookie_change (effects_of T (ClosePage page)) (silent cookie_change refl))))
    (seen.login ∙ sym (entries_silent same_origin login_change (effects_of T (ClosePage page)) s.login (silent login_change refl)))
    tabs
  where
    effects : effects_of T (ClosePage page) ≡ Ignored NoPage ∷ []
    effects = ap (close_effects (calls_of page (pending T)) page) (sym (page_kept s T page h) ∙ none)

    silent : {A : Type 0} (said : Effect → Option A) → said (Ignored NoPage) ≡ None → AllSilent said (effects_of T (ClosePage page))
    silent said is = subst (AllSilent said) (sym effects) (is, tt)

pub owes_close : (s s' : State) (T : Trace) (line page : ℕ) → Stands s T
    → sight_of s' ≡ sight_of s
    → Closes page (lookup (nat_eq page) s.tabs.pages) s.tabs s'.tabs
    → Owes s s' T line (ClosePage page)
owes_close s s' T line page h sight closes = go (lookup (nat_eq page) s.tabs.pages) refl closes
  where
    go : (found : Option Origin) → lookup (nat_eq page) s.tabs.pages ≡ found → Closes page found s.tabs s'.tabs
        → Owes s s' T line (ClosePage page)
    go (Some origin) is closes = owes_close_standing s s' T line page origin is h sight closes
    go None is closes = owes_close_absent s s' T line page is h sight closes

-- ---- records

close_records-by : (found : Option Origin) (line page : ℕ) (calls : List (ℕ × CallKind))
    → close_records line found ≡ records_of line (close_effects calls page found)
close_records-by None line page calls = refl
close_records-by (Some origin) line page calls =
    sym (said_silent (record_of line) (ends_of calls
    ++ Closed page ∷ []) (close_silent (record_of line) (λ n c. refl) (λ p. refl) calls page))

pub close_records-stand : (s : State) (T : Trace) (line page : ℕ) → Stands s T
    → close_records line (lookup (nat_eq page) s.tabs.pages) ≡ records_of line (effects_of T (ClosePage page))
close_records-stand s T line page h =
    close_records-by (lookup (nat_eq page) s.tabs.pages) line page (pending_of T page)
    ∙ ap (λ o. records_of line (close_effects (pending_of T page) page o)) (page_kept s T page h)

pub says_records-stand : (s : State) (T : Trace) (line page : ℕ) (says : Origin → Effect) → Stands s T
    → records_of line (page_says (lookup (nat_eq page) s.tabs.pages) says) ≡ records_of line (page_says (page_at T page) says)
says_records-stand s T line page says h = ap (λ o. records_of line (page_says o says)) (page_kept s T page h)
