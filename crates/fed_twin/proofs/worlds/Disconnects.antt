-- A disconnect that begins keeps the worlds the same, whether or not it begins in the other.
use Rattle.std.proofs.Common.{◌≡◌, ℕ, Bool, true, false, List, [], ◌++◌, Option, Some, None, refl}
use Rattle.std.proofs.Common.{sym, ap, subst, ◌∙◌}
use Rattle.std.proofs.lemmas.List.Elements.{filter_map-append}
use Rattle.std.specs.Prelude.{option_and_then}
use Rattle.std.specs.List.{filter_map, flat_map}
use Rattle.url.specs.Parts.{Parts}
use Rattle.fed_origin.specs.declared.origin.Origin.{Origin}
use Rattle.fed_origin.specs.declared.stage.Stage.{Stage}
use Rattle.fed_origin.specs.declared.stage.Stage.TheVariants.{Reading, Gathering, Ended}
use Rattle.fed_origin.specs.Origin.{is_trustworthy}
use Rattle.fed_status.specs.Shared.{World}
use Rattle.fed_consent.specs.Outcomes.{Outcome}
use Rattle.fed_call.specs.Facts.{Facts}
use Rattle.fed_disconnect.specs.Facts.{DisconnectOptions}
use Rattle.fed_disconnect.specs.Facts as disconnect
use Rattle.fed_disconnect.specs.Rows.{disconnect_start_row}
use Rattle.fed_script.specs.declared.event.Event.{Event}
use Rattle.fed_script.specs.declared.event.Event.TheVariants as events
use Rattle.fed_trace.specs.Begun.{Begun, DisconnectCall, CallOptions, ToGet, ToDisconnect}
use Rattle.fed_trace.specs.Call.{get_facts, at_stage, first_row, known_first}
use Rattle.fed_trace.specs.Known.{world_at, is_begun, facts_at}
use Rattle.fed_trace.specs.Row.{with_event, cookies_with, call_effects, moves, begin_effects, standing_call}
use Rattle.fed_trace.specs.Row.{is_busy}
use Rattle.fed_trace.specs.Trace.{Trace, page_at, gets}
use Rattle.fed_trace.proofs.happens.Ends.{Starts, Happens, Left, Ends, Started, Took, Resumed, beginning}
use Rattle.fed_trace.proofs.happens.First.{FirstTurn, FailsFirst, ReadsFirst, GathersFirst, HasSome, first_turn, known_begun}
use Rattle.fed_trace.proofs.happens.Gets.{facts_same, no_get}
use Rattle.fed_trace.proofs.happens.Happens.{happens}
use Rattle.fed_twin.specs.Providers.{Providers}
use Rattle.fed_twin.specs.Seen.{seen}
use Rattle.fed_twin.specs.Same.{SameWorlds}
use Rattle.fed_twin.proofs.calls.Disconnect.{disconnect_begun}
use Rattle.fed_twin.proofs.calls.Facts.{disconnect_unseen, moved_unseen, get_is_begun}
use Rattle.fed_twin.proofs.worlds.Grow.{grow}
use Rattle.fed_twin.proofs.worlds.Pages.{call_left}

-- ---- what is seen of it: nothing

begin_unseen : (p : Providers) (T : Trace) (page call : ℕ) (options : DisconnectOptions) (o : Option Origin) (busy : Bool)
    → filter_map (seen p) (begin_effects (world_at T) (cookies_with T) o busy page call (ToDisconnect options)) ≡ []
begin_unseen p T page call options None busy = refl
begin_unseen p T page call options (Some origin) busy = go (is_trustworthy origin)
  where
    done : Outcome
    done = disconnect_start_row (world_at T) origin options

    go : (trusted : Bool) → filter_map (seen p) (standing_call (world_at T) (cookies_with T) trusted busy
        (record { call = call; page = page; origin = origin; options = ToDisconnect options })) ≡ []
    go false = refl
    go true =
        filter_map-append (seen p) (flat_map (call_effects (world_at T) (cookies_with T) DisconnectCall call page) done.effects)
        (moves DisconnectCall call done.stage)
        ∙ ap (λ xs. xs ++ filter_map (seen p) (moves DisconnectCall call done.stage))
        (disconnect_unseen p (world_at T) (cookies_with T) call page done.effects
        (disconnect_begun (world_at T) origin options).logins)
        ∙ moved_unseen p call done.stage

-- ---- what it leaves of gets: all

-- what is known of a disconnect is nothing of a get
none_of_get : (world : World) (b : Begun) (options : DisconnectOptions) → b.options ≡ ToDisconnect options → (stage : Stage)
    → option_and_then get_facts (at_stage stage (known_first world b)) ≡ None
none_of_get world b options is stage =
    subst (λ o. option_and_then get_facts (at_stage stage (known_first world (record b { options = o }))) ≡ None) (sym is)
    (no_get (disconnect.at_stage stage (disconnect.fresh b.call b.page b.origin options)))

-- a call that never began is none
unbegun_none : (T : Trace) (call : ℕ) → is_begun T call ≡ false → facts_at T call ≡ None
unbegun_none T call unbegun = go (facts_at T call) refl
  where
    go : (f : Option Facts) → facts_at T call ≡ f → facts_at T call ≡ None
    go None is = is
    go (Some f) is = let no : false ≡ true = sym unbegun ∙ get_is_begun T call f is in absurd (cc)

-- where the call is new, nothing changes of gets
disconnect_left : (T : Trace) (line page call : ℕ) (config : Parts) (client hint : List ℕ) → is_begun T call ≡ false → (q : ℕ)
    → facts_at (with_event T line (events.Disconnect page call config client hint)) q ≡ facts_at T q
disconnect_left T line page call config client hint unbegun q = go (happens T event q)
  where
    event : Event
    event = events.Disconnect page call config client hint

    -- the call that begins
    begins : (b : Begun) → event ≡ beginning b.page b.call b.options
        → (call ≡ b.call) × (b.options ≡ ToDisconnect (record { config = config; client = client; hint = hint }))
    begins b is = by b.options refl is
      where
        by : (options : CallOptions) → b.options ≡ options → event ≡ beginning b.page b.call options
            → (call ≡ b.call) × (b.options ≡ ToDisconnect (record { config = config; client = client; hint = hint }))
        by (ToGet options) is e = absurd (cc)
        by (ToDisconnect options) is e =
            let same_config : config ≡ options.config = cc in
            let same_client : client ≡ options.client = cc in
            let same_hint : hint ≡ options.hint = cc in
            (cc, is ∙ sym (λ i. ToDisconnect (record { config = same_config i; client = same_client i; hint = same_hint i })))

    over : (s : Starts T event q) (stage : Stage) → (first_row (world_at T) s.busy s.begun.origin s.begun.options).stage ≡ Some stage
        → facts_at (with_event T line event) q ≡ facts_at T q
    over s stage at =
        let b = s.begun in
        let is = begins b s.is_event in
        let after : facts_at (with_event T line event) b.call ≡ None =
        ap (option_and_then get_facts) (known_begun T line event b (first_row (world_at T) s.busy b.origin b.options) stage s.effects at)
        ∙ none_of_get (world_at T) b (record { config = config; client = client; hint = hint }) is.1 stage in
        let before : facts_at T b.call ≡ None = unbegun_none T b.call (subst (λ c. is_begun T c ≡ false) is.0 unbegun) in
        subst (λ c. facts_at (with_event T line event) c ≡ facts_at T c) s.is_call (after ∙ sym before)

    started : (s : Starts T event q) → FirstTurn (first_row (world_at T) s.busy s.begun.origin s.begun.options)
        → facts_at (with_event T line event) q ≡ facts_at T q
    started s (FailsFirst failure ended asks gives) = over s Ended ended
    started s (ReadsFirst reading asks gives) = over s Reading reading
    started s (GathersFirst gathering asks gives) = over s Gathering gathering

    go : Happens T event q → facts_at (with_event T line event) q ≡ facts_at T q
    go (Left l) = facts_same T line event q l.quiet.stage l.quiet.begins_none l.same
    go (Ends e) = absurd (let no : false ≡ true = e.replaced in cc)
    go (Took t) = absurd (let no : None ≡ Some t.input = t.input_is in cc)
    go (Resumed r) = absurd (let no : events.Disconnect page call config client hint ≡ events.IdpClose r.page = r.is_event in cc)
    go (Started s) =
        started s (first_turn (world_at T) s.busy s.begun.origin s.begun.options (subst HasSome (sym (begins s.begun s.is_event).1) tt))

-- ---- in both worlds

pub step_disconnect : (p : Providers) (T U : Trace) → SameWorlds p T U
    → (line line' page call : ℕ) (config : Parts) (client client' hint : List ℕ)
    → is_begun T call ≡ false → is_begun U call ≡ false
    → SameWorlds p (with_event T line (events.Disconnect page call config client hint))
    (with_event U line' (events.Disconnect page call config client' hint))
step_disconnect p T U h line line' page call config client client' hint new new' =
    grow p T U h line line' (events.Disconnect page call config client hint) (events.Disconnect page call config client' hint)
    (begin_unseen p T page call (record { config = config; client = client; hint = hint }) (page_at T page) (is_busy page (gets T))
    ∙ sym (begin_unseen p U page call (record { config = config; client = client'; hint = hint }) (page_at U page)
    (is_busy page (gets U))))
    (λ q. call_left p T U h q _ _ (disconnect_left T line page call config client hint new q)
    (disconnect_left U line' page call config client' hint new' q))
