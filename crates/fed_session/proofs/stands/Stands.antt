-- A session that stands for a trace stands for it with one event more.
use Rattle.std.proofs.Common.{◌≡◌, ℕ, true, nat_eq, ◌+◌, List, [], ◌++◌, refl, sym, ap, subst, ◌∙◌, arith}
use Rattle.std.proofs.Common.{append-nil}
use Rattle.std.specs.Prelude.{unwrap_or}
use Rattle.std.specs.Option.{option_to_list}
use Rattle.std.specs.Map.{lookup, keys_of}
use Rattle.std.specs.List.{filter_map}
use Rattle.fed_origin.specs.Origin.{same_origin}
use Rattle.fed_origin.specs.Status.{same_triple}
use Rattle.fed_jar.specs.Changes.{CookieChange, changed_by}
use Rattle.fed_jar.proofs.changes.Changes.{changed_in_turn}
use Rattle.fed_script.specs.declared.event.Event.{Event}
use Rattle.fed_script.specs.declared.event.Header.{Header}
use Rattle.fed_jar.specs.Changes as jar
use Rattle.fed_table.specs.Table.{page_calls}
use Rattle.fed_trace.specs.Effect.{last_of, page_change, login_change, kept_change, flag_change, call_change, stage_change, begun_by}
use Rattle.fed_trace.specs.Effect.{begins, cookie_change, time_of, loaded_change}
use Rattle.fed_trace.specs.Keyed.{entries_after}
use Rattle.fed_trace.specs.Known.{known_at}
use Rattle.fed_trace.specs.Row.{effects_of, with_event, IsNew}
use Rattle.fed_session.specs.Session.{State, TabsParts, Stands, windows, item_known, pending_call, pending_calls, no_table}
use Rattle.fed_session.specs.StepParts.{sight_of}
use Rattle.fed_trace.specs.Trace.{Trace, pages, pending, last_in, cookie_changes, standing}
use Rattle.fed_trace.proofs.keyed.Keyed.{unwrap_or-option_or}
use Rattle.fed_trace.proofs.effects.Silent.{AllSilent, entries_silent, said_silent, last_silent, last_said_silent}
use Rattle.fed_trace.proofs.known.Known.{known_same}
use Rattle.fed_trace.proofs.events.Aside.{IsAside}
use Rattle.fed_session.proofs.clauses.Sight.{sees}
use Rattle.fed_session.proofs.kept.Calls.{pending_same}
use Rattle.fed_session.proofs.kept.Held.{Holds}
use Rattle.fed_session.proofs.kept.Loaded.{loads_silent}
use Rattle.fed_session.proofs.waits.Windows.{windows_still}

-- ---- one event more

-- the cookies after more changes
cookies_grow : (before more : List CookieChange) → changed_by (jar.standing before) more ≡ jar.standing (before ++ more)
unfolding jar.standing
cookies_grow before more = sym (changed_in_turn [] before more)

-- what a step owes to the trace, but for the count, by the effects of its event
pub record Owes (s s' : State) (T : Trace) (line : ℕ) (event : Event) : Type 0 where
  pub rules : s'.rules ≡ s.rules
  pub kept : s'.kept ≡ keys_of (entries_after same_triple kept_change (effects_of T event) (standing same_triple kept_change T.rows))
  pub flags : s'.flags ≡ keys_of (entries_after same_origin flag_change (effects_of T event) (standing same_origin flag_change T.rows))
  pub time : s'.time ≡ unwrap_or (last_of time_of (effects_of T event)) s.time
  pub cookies : s'.cookies ≡ changed_by s.cookies (filter_map cookie_change (effects_of T event))
  pub login : s'.login ≡ entries_after same_origin login_change (effects_of T event) s.login
  pub pages : s'.tabs.pages ≡ entries_after nat_eq page_change (effects_of T event) (pages T)
  pub loaded : keys_of s'.tabs.table.pages
      ≡ keys_of (entries_after nat_eq loaded_change (effects_of T event) (standing nat_eq loaded_change T.rows))
  pub held : Holds s'.tabs.table.pages s'.tabs.gets (entries_after nat_eq call_change (effects_of T event) (pending T))
  pub waits : s'.tabs.table.waits ≡ windows (with_event T line event)
  pub taken : s'.tabs.taken ≡ s.tabs.taken ++ filter_map begun_by (effects_of T event)
  pub pending : pending_calls (item_known s'.tabs.table.items) s'.tabs.taken
      ≡ entries_after nat_eq call_change (effects_of T event) (pending T)
  pub known : (call : ℕ) → item_known s'.tabs.table.items call ≡ known_at (with_event T line event) call

-- what pages keep of the pending calls
pub stands_held : (s : State) (T : Trace) → Stands s T → Holds s.tabs.table.pages s.tabs.gets (pending T)
stands_held s T h = record { listed = h.held; gets = h.gets }

pub stands_after : (s s' : State) (T : Trace) (line : ℕ) (event : Event) → Stands s T → IsNew T.rows event
    → s'.alive ≡ true → s'.steps ≡ s.steps + 1 → Owes s s' T line event → Stands s' (with_event T line event)
stands_after s s' T line event h new alive steps o =
    let effects = effects_of T event in
    record {
      alive = alive;
      run = (refl, new, h.run);
      steps = omega (arith, steps, h.steps);
      time =
          o.time ∙ ap (unwrap_or (last_of time_of effects)) h.time
          ∙ sym (unwrap_or-option_or (last_of time_of effects) (last_in time_of T.rows) T.header.now);
      rules = o.rules ∙ h.rules;
      cookies =
          o.cookies ∙ ap (λ cs. changed_by cs (filter_map cookie_change effects)) h.cookies
          ∙ cookies_grow (cookie_changes T) (filter_map cookie_change effects);
      login = o.login ∙ ap (entries_after same_origin login_change effects) h.login;
      kept = o.kept;
      flags = o.flags;
      pages = o.pages;
      loaded = o.loaded;
      held = o.held.listed;
      gets = o.held.gets;
      waits = o.waits;
      taken = o.taken ∙ ap (λ xs. xs ++ filter_map begun_by effects) h.taken;
      pending = o.pending;
      known = o.known;
    }

-- before the first event
pub stands_new : (s : State) (header : Header) → s.alive ≡ true → s.steps ≡ 0
    → sight_of s ≡ record {
      time = header.now;
      cookies = record { rules = header.rules; list = []; entered = 0 };
      login = [];
      kept = [];
      flags = [];
    }
    → s.tabs ≡ record { pages = []; gets = []; taken = []; table = no_table }
    → Stands s (record { header = header; rows = [] })
unfolding jar.standing
stands_new s header alive steps sight tabs =
    let seen = sees s _ sight in
    record {
      alive = alive;
      run = tt;
      steps = steps;
      time = seen.time;
      rules = seen.rules;
      cookies = seen.cookies;
      login = seen.login;
      kept = seen.kept;
      flags = seen.flags;
      pages = ap (λ (t : TabsParts). t.pages) tabs;
      loaded = ap (λ (t : TabsParts). keys_of t.table.pages) tabs;
      held = λ page. ap (λ (t : TabsParts). page_calls t.table.pages page) tabs;
      gets = λ page. ap (λ (t : TabsParts). option_to_list (lookup (nat_eq page) t.gets)) tabs;
      waits = ap (λ (t : TabsParts). t.table.waits) tabs;
      taken = ap (λ (t : TabsParts). t.taken) tabs;
      pending = ap (λ (t : TabsParts). pending_calls (item_known t.table.items) t.taken) tabs;
      known = λ call. ap (λ (t : TabsParts). item_known t.table.items call) tabs;
    }

-- ---- an event that says nothing of permissions and flags

pub kept_still : (s s' : State) (T : Trace) (event : Event) → Stands s T → AllSilent kept_change (effects_of T event)
    → s'.kept ≡ s.kept
    → s'.kept ≡ keys_of (entries_after same_triple kept_change (effects_of T event) (standing same_triple kept_change T.rows))
kept_still s s' T event h silent same =
    same ∙ h.kept ∙ ap keys_of (sym (entries_silent same_triple kept_change (effects_of T event)
    (standing same_triple kept_change T.rows)
    silent))

pub flags_still : (s s' : State) (T : Trace) (event : Event) → Stands s T → AllSilent flag_change (effects_of T event)
    → s'.flags ≡ s.flags
    → s'.flags ≡ keys_of (entries_after same_origin flag_change (effects_of T event) (standing same_origin flag_change T.rows))
flags_still s s' T event h silent same =
    same ∙ h.flags ∙ ap keys_of (sym (entries_silent same_origin flag_change (effects_of T event)
    (standing same_origin flag_change T.rows)
    silent))

-- ---- an event that says nothing of pages and calls

pub owes_as_known : (s s' : State) (T : Trace) (line : ℕ) (event : Event) → Stands s T → IsAside T line event
    → s'.rules ≡ s.rules
    → s'.kept ≡ keys_of (entries_after same_triple kept_change (effects_of T event) (standing same_triple kept_change T.rows))
    → s'.flags ≡ keys_of (entries_after same_origin flag_change (effects_of T event) (standing same_origin flag_change T.rows))
    → s'.time ≡ unwrap_or (last_of time_of (effects_of T event)) s.time
    → s'.cookies ≡ changed_by s.cookies (filter_map cookie_change (effects_of T event))
    → s'.login ≡ entries_after same_origin login_change (effects_of T event) s.login
    → s'.tabs.pages ≡ s.tabs.pages → s'.tabs.table.pages ≡ s.tabs.table.pages → s'.tabs.gets ≡ s.tabs.gets
    → s'.tabs.taken ≡ s.tabs.taken → s'.tabs.table.waits ≡ s.tabs.table.waits
    → ((call : ℕ) → item_known s'.tabs.table.items call ≡ item_known s.tabs.table.items call) → Owes s s' T line event
owes_as_known s s' T line event h aside rules kept_now flags_now time written login same_pages listed gets taken waits known =
    let effects = effects_of T event in
    let no_call = entries_silent nat_eq call_change effects (pending T) aside.calls in
    record {
      rules = rules;
      kept = kept_now;
      flags = flags_now;
      time = time;
      cookies = written;
      login = login;
      pages = same_pages ∙ h.pages ∙ sym (entries_silent nat_eq page_change effects (pages T) aside.pages);
      loaded = ap keys_of listed ∙ h.loaded
          ∙ ap keys_of (sym (entries_silent nat_eq loaded_change effects (standing nat_eq loaded_change T.rows)
          (loads_silent effects aside.pages)));
      held = subst (Holds s'.tabs.table.pages s'.tabs.gets) (sym no_call)
          (subst (λ gets. Holds s'.tabs.table.pages gets (pending T)) (sym gets)
          (subst (λ lists. Holds lists s.tabs.gets (pending T)) (sym listed) (stands_held s T h)));
      waits = waits ∙ h.waits ∙ sym (windows_still T line event (λ q. last_silent (begins q) effects (aside.begins_none q)) aside.stages);
      taken = taken ∙ sym (append-nil s.tabs.taken) ∙ ap (λ xs. s.tabs.taken ++ xs) (sym (said_silent begun_by effects aside.begun));
      pending =
          ap (pending_calls (item_known s'.tabs.table.items)) taken
          ∙ pending_same (item_known s'.tabs.table.items) (item_known s.tabs.table.items) (λ c. ap (pending_call c) (known c)) s.tabs.taken
          ∙ h.pending ∙ sym no_call;
      known = λ q. known q ∙ h.known q
          ∙ sym (known_same T line event q (last_said_silent nat_eq stage_change q effects aside.stages)
          (last_silent (begins q) effects (aside.begins_none q)) (aside.inputs q));
    }

pub owes_aside : (s s' : State) (T : Trace) (line : ℕ) (event : Event) → Stands s T → IsAside T line event
    → s'.rules ≡ s.rules
    → s'.kept ≡ keys_of (entries_after same_triple kept_change (effects_of T event) (standing same_triple kept_change T.rows))
    → s'.flags ≡ keys_of (entries_after same_origin flag_change (effects_of T event) (standing same_origin flag_change T.rows))
    → s'.time ≡ unwrap_or (last_of time_of (effects_of T event)) s.time
    → s'.cookies ≡ changed_by s.cookies (filter_map cookie_change (effects_of T event))
    → s'.login ≡ entries_after same_origin login_change (effects_of T event) s.login
    → s'.tabs ≡ s.tabs → Owes s s' T line event
owes_aside s s' T line event h aside rules kept_now flags_now time written login tabs =
    owes_as_known s s' T line event h aside rules kept_now flags_now time written login (ap (λ (t : TabsParts). t.pages) tabs)
    (ap (λ (t : TabsParts). t.table.pages) tabs) (ap (λ (t : TabsParts). t.gets) tabs) (ap (λ (t : TabsParts). t.taken) tabs)
    (ap (λ (t : TabsParts). t.table.waits) tabs) (λ q. ap (λ (t : TabsParts). item_known t.table.items q) tabs)
