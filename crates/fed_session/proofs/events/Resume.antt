-- What a page that says that the user has signed in owes to the trace.
use Rattle.std.proofs.Common.{◌≡◌, ℕ, Bool, true, false, nat_eq, ◌||◌, cond, List, [], ◌∷◌, ◌++◌, Option, Some, None, refl, sym, ap, subst}
use Rattle.std.proofs.Common.{◌∙◌, arith, append-nil}
use Rattle.std.proofs.lemmas.Bool.Decides.{nat_tests}
use Rattle.std.proofs.lemmas.List.Elements.{filter_map-append}
use Rattle.std.specs.Prelude.{filter, is_some, option_map, unwrap_or}
use Rattle.std.specs.List.{flat_map, list_any}
use Rattle.std.specs.Map.{lookup, keys_of}
use Rattle.fed_origin.specs.declared.origin.Origin.{Origin}
use Rattle.fed_origin.specs.declared.stage.Stage.TheVariants.{Window}
use Rattle.fed_origin.specs.Origin.{is_trustworthy, same_origin}
use Rattle.fed_provider.specs.declared.config.Config.{Config}
use Rattle.fed_jar.specs.Changes.{changed_by}
use Rattle.fed_status.specs.Shared.{World}
use Rattle.fed_consent.specs.declared.table.ask.Ask.{Ask}
use Rattle.fed_consent.specs.declared.table.input.Input.TheVariants.{Resume}
use Rattle.fed_consent.specs.declared.table.why.Why.{Why}
use Rattle.fed_consent.specs.declared.table.why.Why.TheVariants.{NoPage, PageInsecure, NobodyWaits}
use Rattle.fed_consent.specs.Outcomes.{is_ignored, only_place}
use Rattle.fed_call.specs.Facts.{Facts, config_at}
use Rattle.fed_call.specs.WindowRows.{origin_at, asks_again, resumed}
use Rattle.fed_script.specs.declared.event.Event.TheVariants.{IdpClose}
use Rattle.fed_table.specs.Lists.{has}
use Rattle.fed_table.specs.Table.{waiting_for}
use Rattle.fed_trace.specs.declared.out.Out.{Out}
use Rattle.fed_trace.specs.Begun.{GetCall}
use Rattle.fed_trace.specs.Call.{Known, OfGet, at_stage, with_input}
use Rattle.fed_trace.specs.Effect.{Effect, Ignored, last_of, page_change, login_change, kept_change, flag_change, call_change, stage_change}
use Rattle.fed_trace.specs.Effect.{begun_by, begins, cookie_change, time_of, loaded_change}
use Rattle.fed_trace.specs.Keyed.{last_said}
use Rattle.fed_trace.specs.Known.{world_at, known_at}
use Rattle.fed_trace.specs.OfCall.{asked, given, dropped}
use Rattle.fed_trace.specs.Records.{record_of, records_of}
use Rattle.fed_trace.specs.Row.{effects_of, with_event, cookies_with, input_effects, outcome_effects, resume_effects, waiting_effects}
use Rattle.fed_trace.specs.Row.{standing_resumes, idpclose_effects}
use Rattle.fed_trace.specs.Trace.{Trace, standing, pages, pending, page_at}
use Rattle.fed_trace.specs.Windows.{provider_of, is_origin, open_windows, windows_of}
use Rattle.fed_trace.proofs.calls.Begins.{AreApart}
use Rattle.fed_trace.proofs.calls.Resumed.{Resuming, Rests, Refuses, AsksAgain, resuming, IsUnasked, idpclose_silent, stages_resumed}
use Rattle.fed_trace.proofs.calls.Windows.{in_filter}
use Rattle.fed_trace.proofs.effects.Outcome.{moves_call}
use Rattle.fed_trace.proofs.effects.Silent.{AllSilent, entries_silent, said_silent, last_silent, last_said_silent}
use Rattle.fed_trace.proofs.happens.Ends.{Resumes}
use Rattle.fed_trace.proofs.happens.Resumed.{waits_known, known_resumed}
use Rattle.fed_trace.proofs.happens.Says.{own}
use Rattle.fed_trace.proofs.keyed.Keyed.{AreDistinct, distinct_standing}
use Rattle.fed_trace.proofs.known.Known.{found_by, known_same}
use Rattle.fed_session.specs.Session.{State, TabsParts, Stands, item_known, pending_call, pending_calls}
use Rattle.fed_session.specs.StepParts.{sight_of, world_in, cookies_of, kept_next}
use Rattle.fed_session.specs.Tabs.{ChangesKnown, waits_next, GoesOn, Takes, AreResumed, WaitingResumed, StandingResumed, Resumed}
use Rattle.fed_session.proofs.clauses.Sight.{sees, cookies_same}
use Rattle.fed_session.proofs.events.Begin.{world_same, owes_ignored}
use Rattle.fed_session.proofs.events.Event.{page_kept}
use Rattle.fed_session.proofs.kept.Calls.{KnownBy, pending_same}
use Rattle.fed_session.proofs.kept.Held.{Holds}
use Rattle.fed_session.proofs.stands.Stands.{Owes, kept_still, flags_still, stands_held}
use Rattle.fed_session.proofs.waits.Lists.{absent_keys}
use Rattle.fed_session.proofs.waits.Moves.{OpensNone, opens_append, lists_after, lists_after-append}
use Rattle.fed_session.proofs.waits.Windows.{asked_provider, waiting_at, waits_same, windows_close}

-- ---- a call that waits

-- a get in Window, whose provider has an origin
pub record IsWaiting (known : Option Known) : Type 0 where
  pub facts : Facts
  pub found : known ≡ Some (OfGet (record facts { stage = Window }))
  pub provided : is_some (origin_at only_place facts.options) ≡ true

-- what is known of it, once it was asked to go on
abbrev known_then : World → Facts → Option Config → Option Known
known_then world facts config =
    at_stage (unwrap_or (asks_again only_place config).stage Window)
    (with_input world (list_any is_ignored (asks_again only_place config).effects) Resume (OfGet (record facts { stage = Window })))

-- what becomes of the pages and the calls
record Once (world : World) (cookies : Ask → List ℕ) (call : ℕ) (facts : Facts) (config : Option Config)
    (old new : TabsParts) : Type 0 where
  pages : new.pages ≡ old.pages
  listed : new.table.pages ≡ old.table.pages
  gets : new.gets ≡ old.gets
  taken : new.taken ≡ old.taken
  waits : new.table.waits ≡ lists_after (outcome_effects world cookies GetCall call facts.page (asks_again only_place config))
      old.table.waits
  known : ChangesKnown call (known_then world facts config) old.table.items new.table.items

goes_once : (world : World) (cookies : Ask → List ℕ) (call : ℕ) (facts : Facts) (config : Option Config) (old new : TabsParts)
    → is_some (origin_at only_place facts.options) ≡ true
    → GoesOn facts.page call (is_some (origin_at only_place facts.options)) (known_then world facts config) old new
    → Once world cookies call facts config old new
goes_once world cookies call facts None old new provided s = record {
  pages = s.pages;
  listed = s.listed;
  gets = s.gets;
  taken = s.taken;
  waits = s.waiting ∙ waits_same call (origin_at only_place facts.options) old.table.waits;
  known = s.known;
}
goes_once world cookies call facts (Some config) old new provided s = record {
  pages = s.pages;
  listed = s.listed;
  gets = s.gets;
  taken = s.taken;
  waits = s.waiting ∙ ap (λ b. waits_next b call None old.table.waits) provided;
  known = s.known;
}

-- its page and its kind stay
same_pending : (world : World) (call : ℕ) (facts : Facts) (config : Option Config)
    → pending_call call (known_then world facts config) ≡ pending_call call (Some (OfGet (record facts { stage = Window })))
same_pending world call facts None = refl
same_pending world call facts (Some config) = refl

-- ---- the calls that wait, one after the other

pub record AllResumed (world : World) (cookies : Ask → List ℕ) (line : ℕ) (known : KnownBy) (calls : List ℕ) (old : TabsParts)
    (outs : List Out) (new : TabsParts) : Type 0 where
  pub pages : new.pages ≡ old.pages
  pub listed : new.table.pages ≡ old.table.pages
  pub gets : new.gets ≡ old.gets
  pub taken : new.taken ≡ old.taken
  pub waits : new.table.waits ≡ lists_after (flat_map (resume_effects world cookies known) calls) old.table.waits
  pub known_is : (q : ℕ) → item_known new.table.items q
      ≡ cond (has q calls) (kept_next world (known q) Resume) (item_known old.table.items q)
  pub outs_are : outs ≡ records_of line (flat_map (resume_effects world cookies known) calls)

resumed_all : (world : World) (cookies : Ask → List ℕ) (line : ℕ) (known : KnownBy) (calls : List ℕ) (old : TabsParts) (outs : List Out)
    (new : TabsParts) → AreApart calls → ((q : ℕ) → has q calls ≡ true → item_known old.table.items q ≡ known q)
    → ((q : ℕ) → has q calls ≡ true → IsWaiting (known q)) → AreResumed world cookies line calls old outs new
    → AllResumed world cookies line known calls old outs new
resumed_all world cookies line known [] old outs new apart same waiting done = record {
  pages = ap (λ (t : TabsParts). t.pages) done.1;
  listed = ap (λ (t : TabsParts). t.table.pages) done.1;
  gets = ap (λ (t : TabsParts). t.gets) done.1;
  taken = ap (λ (t : TabsParts). t.taken) done.1;
  waits = ap (λ (t : TabsParts). t.table.waits) done.1;
  known_is = λ q. ap (λ (t : TabsParts). item_known t.table.items q) done.1;
  outs_are = done.0;
}
resumed_all world cookies line known (call ∷ calls) old outs new apart same waiting (rest, mid, outs_is, takes, more) =
    let first : has call (call ∷ calls) ≡ true = ap (λ b. b || has call calls) (own call) in
    let w = waiting call first in
    let is : item_known old.table.items call ≡ Some (OfGet (record w.facts { stage = Window })) = same call first ∙ w.found in
    let on = subst (λ k. Takes call k (kept_next world k Resume) old mid) is takes in
    let once = goes_once world cookies call w.facts (config_at only_place w.facts) old mid w.provided on in
    let after = resumed_all world cookies line known calls mid rest new apart.1
    (λ q there. once.known q ∙ ap (λ b. cond b (known_then world w.facts (config_at only_place w.facts)) (item_known old.table.items q))
    (other q there (nat_eq call q) refl) ∙ same q (behind q (nat_eq q call) there))
    (λ q there. waiting q (behind q (nat_eq q call) there)) more in
    let does : resume_effects world cookies known call
    ≡ outcome_effects world cookies GetCall call w.facts.page (asks_again only_place (config_at only_place w.facts)) =
    ap (λ k. input_effects world cookies true call k Resume) w.found in
    record {
      pages = after.pages ∙ once.pages;
      listed = after.listed ∙ once.listed;
      gets = after.gets ∙ once.gets;
      taken = after.taken ∙ once.taken;
      waits =
          after.waits
          ∙ ap (lists_after (flat_map (resume_effects world cookies known) calls))
          (once.waits ∙ ap (λ es. lists_after es old.table.waits) (sym does))
          ∙ sym (lists_after-append (resume_effects world cookies known call) (flat_map (resume_effects world cookies known) calls)
          old.table.waits);
      known_is = λ q. after.known_is q
          ∙ ap (cond (has q calls) (kept_next world (known q) Resume)) (once.known q)
          ∙ joined w.facts w.found q (nat_eq call q) refl (has q calls);
      outs_are =
          outs_is ∙ ap (λ k. records_of line (input_effects world cookies true call k Resume) ++ rest) (same call first)
          ∙ ap (λ xs. records_of line (resume_effects world cookies known call) ++ xs) after.outs_are
          ∙ sym (filter_map-append (record_of line) (resume_effects world cookies known call)
          (flat_map (resume_effects world cookies known) calls));
    }
  where
    behind : (q : ℕ) (b : Bool) → has q calls ≡ true → b || has q calls ≡ true
    behind q true there = refl
    behind q false there = there

    other : (q : ℕ) → has q calls ≡ true → (b : Bool) → nat_eq call q ≡ b → b ≡ false
    other q there true at =
        let key : q ≡ call = grind (arith, nat_tests, at) in
        let mine : has call calls ≡ true = ap (λ k. has k calls) (sym key) ∙ there in
        let none = apart.0 in
        absurd (cc)
    other q there false at = refl

    joined : (facts : Facts) → known call ≡ Some (OfGet (record facts { stage = Window })) → (q : ℕ) (b : Bool) → nat_eq call q ≡ b
        → (later : Bool)
        → cond later (kept_next world (known q) Resume) (cond b (known_then world facts (config_at only_place facts)) (item_known old.table.items q))
        ≡ cond (nat_eq q call || later) (kept_next world (known q) Resume) (item_known old.table.items q)
    joined facts found q true at later =
        let key : call ≡ q = grind (arith, nat_tests, at) in
        let mine : nat_eq q call ≡ true = grind (arith, nat_tests, at) in
        let next : kept_next world (known q) Resume ≡ known_then world facts (config_at only_place facts) =
        ap (λ k. kept_next world (known k) Resume) (sym key) ∙ ap (λ k. kept_next world k Resume) found in
        either later (sym next) ∙ sym (ap (λ b. cond (b || later) (kept_next world (known q) Resume) (item_known old.table.items q)) mine)
      where
        either : (later : Bool) → known_then world facts (config_at only_place facts) ≡ kept_next world (known q) Resume
            → cond later (kept_next world (known q) Resume) (known_then world facts (config_at only_place facts)) ≡ kept_next world (known q) Resume
        either true e = refl
        either false e = e
    joined facts found q false at later =
        let ne : nat_eq q call ≡ false = grind (arith, nat_tests, at) in
        sym (ap (λ b. cond (b || later) (kept_next world (known q) Resume) (item_known old.table.items q)) ne)

-- ---- no window opens

opens_resuming : (call : ℕ) (effects : List Effect) → Resuming call effects → OpensNone effects
opens_resuming call effects (Rests is) = subst OpensNone (sym is) tt
opens_resuming call effects (Refuses why is) = subst OpensNone (sym is) (refl, tt)
opens_resuming call effects (AsksAgain kind provider to cookies is) = subst OpensNone (sym is) (refl, (refl, tt))

opens_resumed : (world : World) (cookies : Ask → List ℕ) (known : KnownBy) (calls : List ℕ)
    → OpensNone (flat_map (resume_effects world cookies known) calls)
opens_resumed world cookies known [] = tt
opens_resumed world cookies known (call ∷ calls) =
    opens_append (resume_effects world cookies known call) (flat_map (resume_effects world cookies known) calls)
    (opens_resuming call (resume_effects world cookies known call) (resuming world cookies call (known call)))
    (opens_resumed world cookies known calls)

-- ---- the calls that wait for an origin

-- none waits twice
apart_keys : {V : Type 0} (es : List (ℕ × V)) → AreDistinct es → AreApart (keys_of es)
apart_keys [] h = tt
apart_keys (e ∷ es) h = (absent_keys e.0 es h.0, apart_keys es h.1)

apart_filter : (p : ℕ → Bool) (xs : List ℕ) → AreApart xs → AreApart (filter p xs)
apart_filter p [] h = tt
apart_filter p (x ∷ xs) h = go (p x) (apart_filter p xs h.1)
  where
    left : (ys : List ℕ) → list_any (nat_eq x) ys ≡ false → list_any (nat_eq x) (filter p ys) ≡ false
    left [] none = refl
    left (y ∷ ys) none = at (nat_eq x y) refl none (p y) (left ys)
      where
        at : (b : Bool) → nat_eq x y ≡ b → b || list_any (nat_eq x) ys ≡ false → (passes : Bool)
            → (list_any (nat_eq x) ys ≡ false → list_any (nat_eq x) (filter p ys) ≡ false)
            → list_any (nat_eq x) (cond passes (y ∷ filter p ys) (filter p ys)) ≡ false
        at true is none passes rest = absurd (cc)
        at false is none true rest = ap (λ b. b || list_any (nat_eq x) (filter p ys)) is ∙ rest none
        at false is none false rest = rest none

    go : (b : Bool) → AreApart (filter p xs) → AreApart (cond b (x ∷ filter p xs) (filter p xs))
    go true rest = (left xs h.0, rest)
    go false rest = rest

waiting_apart : (T : Trace) (origin : Origin) → AreApart (windows_of T origin)
waiting_apart T origin =
    apart_filter (λ call. is_origin origin (provider_of T.rows call)) (open_windows T)
    (apart_keys _ (distinct_standing _ T.rows))

-- each is known, and waits
waiting_known : (T : Trace) (q : ℕ) (origin : Origin) → has q (windows_of T origin) ≡ true → IsWaiting (known_at T q)
waiting_known T q origin there =
    let w = waits_known T q origin there in
    let about = found_by (OfGet w.facts) _ _ w.found in
    let both = in_filter q (λ call. is_origin origin (provider_of T.rows call)) (open_windows T) there in
    let asks : provider_of T.rows q ≡ origin_at only_place w.facts.options =
    asked_provider T q (OfGet w.facts) about.before about.found_is about.is in
    record {
      facts = w.facts;
      found = w.found ∙ ap (λ stage. Some (OfGet (record w.facts { stage = stage }))) w.at_window;
      provided = ap is_some (sym asks) ∙ some (provider_of T.rows q) both.1;
    }
  where
    some : (provider : Option Origin) → is_origin origin provider ≡ true → is_some provider ≡ true
    some None h = absurd (cc)
    some (Some o) h = refl

-- ---- what the event owes

module _ (s s' : State) (T : Trace) (line page : ℕ) (h : Stands s T) (sight : sight_of s' ≡ sight_of s) where
  silent : {A : Type 0} (said : Effect → Option A) → IsUnasked said → AllSilent said (effects_of T (IdpClose page))
  silent said un = idpclose_silent said un (world_at T) (cookies_with T) (known_at T) (windows_of T) (page_at T page)

  -- what is known of each call then
  known_next : (origin : Origin) → page_at T page ≡ Some origin
      → effects_of T (IdpClose page) ≡ flat_map (resume_effects (world_at T) (cookies_with T) (known_at T)) (windows_of T origin)
      → (q : ℕ) (b : Bool) → has q (windows_of T origin) ≡ b
      → cond b (kept_next (world_at T) (known_at T q) Resume) (known_at T q) ≡ known_at (with_event T line (IdpClose page)) q
  known_next origin stands are q false apart =
      sym (known_same T line (IdpClose page) q
      (ap (last_said nat_eq stage_change q) are ∙ stages_resumed (world_at T) (cookies_with T) (known_at T) q (windows_of T origin)
      ∙ ap (λ b. cond b (last_said nat_eq stage_change q (resume_effects (world_at T) (cookies_with T) (known_at T) q)) None) apart)
      (last_silent (begins q) (effects_of T (IdpClose page))
      (silent (begins q) (record { ignored = λ w. refl; sent = λ n c p t k. refl; move = λ n c. refl })))
      (λ k. refl))
  known_next origin stands are q true there =
      let w = waits_known T q origin there in
      let r : Resumes T (IdpClose page) q = record {
        page = page;
        is_event = refl;
        origin = origin;
        stands = stands;
        waits = there;
        facts = w.facts;
        found = w.found;
        at_window = w.at_window;
        stage =
            ap (last_said nat_eq stage_change q) are ∙ stages_resumed (world_at T) (cookies_with T) (known_at T) q (windows_of T origin)
            ∙ ap (λ b. cond b (last_said nat_eq stage_change q (resume_effects (world_at T) (cookies_with T) (known_at T) q)) None) there
            ∙ ap (λ k. last_said nat_eq stage_change q (input_effects (world_at T) (cookies_with T) true q k Resume)) w.found
            ∙ moves_call (world_at T) (cookies_with T) GetCall q w.facts.page (resumed w.facts w.facts.stage) q (own q)
            ∙ ap (λ stage. option_map Some (resumed w.facts stage).stage) w.at_window;
        pending =
            last_said_silent nat_eq call_change q (effects_of T (IdpClose page))
            (silent call_change (record { ignored = λ w. refl; sent = λ n c p t k. refl; move = λ n c. refl }));
        begins_none =
            last_silent (begins q) (effects_of T (IdpClose page))
            (silent (begins q) (record { ignored = λ w. refl; sent = λ n c p t k. refl; move = λ n c. refl }));
        asks =
            said_silent (asked q) (effects_of T (IdpClose page))
            (silent (asked q) (record { ignored = λ w. refl; sent = λ n c p t k. refl; move = λ n c. refl }));
        gives =
            said_silent (given q) (effects_of T (IdpClose page))
            (silent (given q) (record { ignored = λ w. refl; sent = λ n c p t k. refl; move = λ n c. refl }));
        drops =
            said_silent (dropped q) (effects_of T (IdpClose page))
            (silent (dropped q) (record { ignored = λ w. refl; sent = λ n c p t k. refl; move = λ n c. refl }));
      } in
      ap (λ k. kept_next (world_at T) k Resume) w.found
      ∙ ap (λ stage. at_stage (unwrap_or (resumed w.facts stage).stage stage)
      (with_input (world_at T) (list_any is_ignored (resumed w.facts stage).effects) Resume (OfGet w.facts))) w.at_window
      ∙ ap (at_stage (unwrap_or (resumed w.facts Window).stage Window))
      (unsaid w.facts (list_any is_ignored (resumed w.facts Window).effects))
      ∙ sym (known_resumed T line (IdpClose page) q r)
    where
      unsaid : (facts : Facts) (ignored : Bool) → with_input (world_at T) ignored Resume (OfGet facts) ≡ OfGet facts
      unsaid facts true = refl
      unsaid facts false = refl

  owes_resumed : (origin : Origin) (outs : List Out) → page_at T page ≡ Some origin
      → effects_of T (IdpClose page) ≡ flat_map (resume_effects (world_at T) (cookies_with T) (known_at T)) (windows_of T origin)
      → AllResumed (world_at T) (cookies_with T) line (item_known s.tabs.table.items) (windows_of T origin) s.tabs outs s'.tabs
      → Owes s s' T line (IdpClose page)
  owes_resumed origin outs stands are all =
      let seen = sees s' _ sight in
      let effects = effects_of T (IdpClose page) in
      let calls = windows_of T origin in
      let no_page = silent page_change (record { ignored = λ w. refl; sent = λ n c p t k. refl; move = λ n c. refl }) in
      let no_call = entries_silent nat_eq call_change effects (pending T)
      (silent call_change (record { ignored = λ w. refl; sent = λ n c p t k. refl; move = λ n c. refl })) in
      let begins_none : (q : ℕ) → last_of (begins q) effects ≡ None = λ q. last_silent (begins q) effects
      (silent (begins q) (record { ignored = λ w. refl; sent = λ n c p t k. refl; move = λ n c. refl })) in
      let known : KnownBy = item_known s.tabs.table.items in
      record {
        rules = seen.rules;
        kept =
            kept_still s s' T (IdpClose page) h
            (silent kept_change (record { ignored = λ w. refl; sent = λ n c p t k. refl; move = λ n c. refl })) seen.kept;
        flags =
            flags_still s s' T (IdpClose page) h
            (silent flag_change (record { ignored = λ w. refl; sent = λ n c p t k. refl; move = λ n c. refl })) seen.flags;
        time =
            seen.time ∙ sym (ap (λ o. unwrap_or o s.time) (last_silent time_of effects
            (silent time_of (record { ignored = λ w. refl; sent = λ n c p t k. refl; move = λ n c. refl }))));
        cookies =
            seen.cookies ∙ ap (changed_by s.cookies) (sym (said_silent cookie_change effects
            (silent cookie_change (record { ignored = λ w. refl; sent = λ n c p t k. refl; move = λ n c. refl }))));
        login =
            seen.login ∙ sym (entries_silent same_origin login_change effects s.login
            (silent login_change (record { ignored = λ w. refl; sent = λ n c p t k. refl; move = λ n c. refl })));
        pages = all.pages ∙ h.pages ∙ sym (entries_silent nat_eq page_change effects (pages T) no_page);
        loaded =
            ap keys_of all.listed ∙ h.loaded
            ∙ ap keys_of (sym (entries_silent nat_eq loaded_change effects (standing nat_eq loaded_change T.rows)
            (silent loaded_change (record { ignored = λ w. refl; sent = λ n c p t k. refl; move = λ n c. refl }))));
        held =
            subst (Holds s'.tabs.table.pages s'.tabs.gets) (sym no_call)
            (subst (λ gets. Holds s'.tabs.table.pages gets (pending T)) (sym all.gets)
            (subst (λ lists. Holds lists s.tabs.gets (pending T)) (sym all.listed) (stands_held s T h)));
        waits =
            all.waits
            ∙ ap (λ (f : KnownBy). lists_after (flat_map (resume_effects (world_at T) (cookies_with T) f) calls) s.tabs.table.waits)
            (λ i q. h.known q i)
            ∙ ap (λ es. lists_after es s.tabs.table.waits) (sym are) ∙ ap (lists_after effects) h.waits
            ∙ sym (windows_close T line (IdpClose page) begins_none
            (subst OpensNone (sym are) (opens_resumed (world_at T) (cookies_with T) (known_at T) calls)));
        taken =
            all.taken ∙ sym (append-nil s.tabs.taken) ∙ ap (λ xs. s.tabs.taken ++ xs) (sym (said_silent begun_by effects
            (silent begun_by (record { ignored = λ w. refl; sent = λ n c p t k. refl; move = λ n c. refl }))));
        pending =
            ap (pending_calls (item_known s'.tabs.table.items)) all.taken
            ∙ pending_same (item_known s'.tabs.table.items) known
            (λ q. ap (pending_call q) (all.known_is q) ∙ stays origin q (has q calls) refl) s.tabs.taken
            ∙ h.pending ∙ sym no_call;
        known =
            λ q. all.known_is q
            ∙ ap (λ k. cond (has q calls) (kept_next (world_at T) k Resume) k) (h.known q)
            ∙ known_next origin stands are q (has q calls) refl;
      }
    where
      stays : (origin : Origin) (q : ℕ) (b : Bool) → has q (windows_of T origin) ≡ b
          → pending_call q (cond b (kept_next (world_at T) (item_known s.tabs.table.items q) Resume) (item_known s.tabs.table.items q))
          ≡ pending_call q (item_known s.tabs.table.items q)
      stays origin q false apart = refl
      stays origin q true there =
          let w = waiting_known T q origin there in
          let found = h.known q ∙ w.found in
          ap (λ k. pending_call q (kept_next (world_at T) k Resume)) found ∙ same_pending (world_at T) q w.facts (config_at only_place w.facts)
          ∙ sym (ap (pending_call q) found)

  abbrev Owed : List Out → Type 0
  Owed outs = (outs ≡ records_of line (effects_of T (IdpClose page))) × Owes s s' T line (IdpClose page)

  refused : (why : Why) (outs : List Out) → effects_of T (IdpClose page) ≡ Ignored why ∷ []
      → (outs ≡ records_of line (Ignored why ∷ [])) × (s'.tabs ≡ s.tabs) → Owed outs
  refused why outs are left = (
    left.0 ∙ sym (ap (records_of line) are),
    owes_ignored s s' T line (IdpClose page) why h are (λ q k. refl) sight left.1,
  )

  goes_on : (origin : Origin) (calls : List ℕ) (outs : List Out) → page_at T page ≡ Some origin → windows_of T origin ≡ calls
      → effects_of T (IdpClose page) ≡ waiting_effects (world_at T) (cookies_with T) (known_at T) calls
      → WaitingResumed (world_at T) (cookies_with T) line calls s.tabs outs s'.tabs → Owed outs
  goes_on origin [] outs stands waiting are left = refused NobodyWaits outs are left
  goes_on origin (call ∷ calls) outs stands waiting are resumes =
      let all = resumed_all (world_at T) (cookies_with T) line (item_known s.tabs.table.items) (call ∷ calls) s.tabs outs s'.tabs
      (subst AreApart waiting (waiting_apart T origin)) (λ q there. refl)
      (λ q there. subst IsWaiting (sym (h.known q)) (waiting_known T q origin (ap (has q) waiting ∙ there))) resumes in
      let effects : effects_of T (IdpClose page)
      ≡ flat_map (resume_effects (world_at T) (cookies_with T) (known_at T)) (windows_of T origin) =
      are ∙ ap (flat_map (resume_effects (world_at T) (cookies_with T) (known_at T))) (sym waiting) in (
        all.outs_are
            ∙ ap (λ (f : KnownBy). records_of line (flat_map (resume_effects (world_at T) (cookies_with T) f) (call ∷ calls)))
            (λ i q. h.known q i)
            ∙ sym (ap (records_of line) are),
        owes_resumed origin outs stands effects
            (subst (λ cs. AllResumed (world_at T) (cookies_with T) line (item_known s.tabs.table.items) cs s.tabs outs s'.tabs)
            (sym waiting) all),
      )

  by_page : (found : Option Origin) (outs : List Out) → page_at T page ≡ found
      → Resumed (world_at T) (cookies_with T) line found s.tabs outs s'.tabs → Owed outs
  by_page None outs stands left =
      refused NoPage outs (ap (idpclose_effects (world_at T) (cookies_with T) (known_at T) (windows_of T)) stands) left
  by_page (Some origin) outs stands resumes =
      go (is_trustworthy origin) (ap (idpclose_effects (world_at T) (cookies_with T) (known_at T) (windows_of T)) stands)
      (subst (λ calls. StandingResumed (world_at T) (cookies_with T) line (is_trustworthy origin) calls s.tabs outs s'.tabs)
      (ap (λ waits. waiting_for waits origin) h.waits ∙ waiting_at T origin) resumes)
    where
      go : (trusted : Bool)
          → effects_of T (IdpClose page) ≡ standing_resumes (world_at T) (cookies_with T) (known_at T) (windows_of T origin) trusted
          → StandingResumed (world_at T) (cookies_with T) line trusted (windows_of T origin) s.tabs outs s'.tabs → Owed outs
      go false are left = refused PageInsecure outs are left
      go true are resumes = goes_on origin (windows_of T origin) outs stands refl are resumes

  pub owes_idpclose : (outs : List Out)
      → Resumed (world_in (sight_of s)) (cookies_of (sight_of s)) line (lookup (nat_eq page) s.tabs.pages) s.tabs outs s'.tabs
      → (outs ≡ records_of line (effects_of T (IdpClose page))) × Owes s s' T line (IdpClose page)
  owes_idpclose outs resumes =
      by_page (page_at T page) outs refl
      (subst (λ found. Resumed (world_at T) (cookies_with T) line found s.tabs outs s'.tabs) (page_kept s T page h)
      (subst (λ (cookies : Ask → List ℕ). Resumed (world_at T) cookies line (lookup (nat_eq page) s.tabs.pages) s.tabs outs s'.tabs)
      (λ i ask. cookies_same s T ask h i)
      (subst (λ world. Resumed world (cookies_of (sight_of s)) line (lookup (nat_eq page) s.tabs.pages) s.tabs outs s'.tabs)
      (world_same s T h) resumes)))
