-- A call that begins stands from then on.
use Rattle.std.proofs.Common.{◌≡◌, ◌≤◌, ℕ, Bool, true, false, nat_eq, ◌||◌, inl, [], ◌∷◌, length, Some, None, refl, sym}
use Rattle.std.proofs.Common.{ap, subst, ◌∙◌}
use Rattle.std.proofs.Common.{cond}
use Rattle.std.proofs.lemmas.List.Folds.{list_any-append}
use Rattle.std.specs.Prelude.{unwrap_or, option_and_then}
use Rattle.std.specs.Option.{option_or}
use Rattle.std.specs.List.{filter_map, list_any}
use Rattle.fed_origin.specs.declared.stage.Stage.{Stage}
use Rattle.fed_origin.specs.declared.stage.Stage.TheVariants.{Reading, Listing, Gathering, Mismatch, Window, Choosing, Prompting}
use Rattle.fed_origin.specs.declared.stage.Stage.TheVariants.{Asserting, Ended}
use Rattle.fed_origin.specs.declared.options.GetOptions.{GetOptions}
use Rattle.fed_call.specs.Facts.{Facts}
use Rattle.fed_call.specs.Facts as get
use Rattle.fed_disconnect.specs.Facts.{DisconnectOptions}
use Rattle.fed_disconnect.specs.Facts as disconnect
use Rattle.fed_consent.specs.Outcomes.{Outcome}
use Rattle.fed_script.specs.declared.event.Event.{Event}
use Rattle.fed_trace.specs.Begun.{Begun, CallKind, GetCall, CallOptions, ToGet, ToDisconnect, kind_asked}
use Rattle.fed_trace.specs.Call.{get_facts, at_stage, fresh, first_row}
use Rattle.fed_trace.specs.OfCall.{asked, call_at}
use Rattle.fed_trace.specs.Effect.{PendingCall, pending_from, Begin, call_change, begun_by}
use Rattle.fed_trace.specs.Keyed.{last_said, says}
use Rattle.fed_trace.specs.Known.{world_at, is_begun, facts_at}
use Rattle.fed_trace.specs.Row.{effects_of, row_of, with_event, cookies_with, outcome_effects, moves, IsNew}
use Rattle.fed_trace.specs.Trace.{Trace, begun, last_value, page_at}
use Rattle.fed_trace.proofs.happens.Ends.{Starts}
use Rattle.fed_trace.proofs.happens.Happens.{pages_left}
use Rattle.fed_trace.proofs.happens.Says.{own, outcome_asks, outcome_pending, asks_token}
use Rattle.fed_laws.proofs.pending.Stood.{Going, Stood, Invariant, asks_same, invariant_by, not_some}
use Rattle.fed_trace.proofs.happens.First.{FirstTurn, FailsFirst, ReadsFirst, GathersFirst, HasSome, IsBeginning, is_first, is_beginning}
use Rattle.fed_trace.proofs.happens.First.{begins_it}
use Rattle.fed_trace.proofs.happens.First.{known_begun, first_turn}
use Rattle.fed_trace.proofs.happens.Gets.{no_get}
use Rattle.fed_trace.proofs.happens.Taken.{facts_of_get}

pub first_asks_none : (o : Outcome) → FirstTurn o → filter_map asks_token o.effects ≡ []
first_asks_none o (FailsFirst failure stage asks gives) = asks
first_asks_none o (ReadsFirst stage asks gives) = asks
first_asks_none o (GathersFirst stage asks gives) = asks

pub or_true : (b : Bool) → b || true ≡ true
or_true true = refl
or_true false = refl

-- where the call goes on, it is pending
pub goes_pending : (kind : CallKind) (call : ℕ) (stage : Stage) → (stage ≡ Ended → ⊥)
    → last_said nat_eq call_change call (moves kind call (Some stage)) ≡ None
goes_pending kind call Reading other = refl
goes_pending kind call Listing other = refl
goes_pending kind call Gathering other = refl
goes_pending kind call Mismatch other = refl
goes_pending kind call Window other = refl
goes_pending kind call Choosing other = refl
goes_pending kind call Prompting other = refl
goes_pending kind call Asserting other = refl
goes_pending kind call Ended other = absurd (other refl)

-- a call that goes on stands from then on
pub begun_now : (T : Trace) (line : ℕ) (event : Event) (b : Begun) → IsBeginning event → page_at T b.page ≡ Some b.origin
    → (o : Outcome) (stage : Stage) → o.stage ≡ Some stage → (stage ≡ Ended → ⊥)
    → effects_of T event ≡ Begin b ∷ outcome_effects (world_at T) (cookies_with T) (kind_asked b.options) b.call b.page o
    → Going (with_event T line event) b.call (pending_from b) b
begun_now T line event b starts page o stage at other effects =
    let does = outcome_effects (world_at T) (cookies_with T) (kind_asked b.options) b.call b.page o in
    record {
      pending = ap (λ x. unwrap_or x (last_value nat_eq call_change b.call T.rows))
          (ap (last_said nat_eq call_change b.call) effects
          ∙ ap (λ x. option_or x (says nat_eq b.call (Some (b.call, Some (pending_from b)))))
          (outcome_pending (world_at T) (cookies_with T) (kind_asked b.options) b.call b.page b.call o
          ∙ ap (λ st. last_said nat_eq call_change b.call (moves (kind_asked b.options) b.call st)) at
          ∙ goes_pending (kind_asked b.options) b.call stage other)
          ∙ ap (λ t. cond t (Some (Some (pending_from b))) None) (own b.call));
      page = ap (λ x. unwrap_or x (page_at T b.page)) (pages_left T event b.page (starts.leaves_pages b.page)) ∙ page;
      is_taken = list_any-append (nat_eq b.call) (begun T.rows) (filter_map begun_by (effects_of T event))
          ∙ ap (λ es. list_any (nat_eq b.call) (begun T.rows) || list_any (nat_eq b.call) (filter_map begun_by es)) effects
          ∙ ap (λ t. list_any (nat_eq b.call) (begun T.rows) || (t || list_any (nat_eq b.call) (filter_map begun_by does))) (own b.call)
          ∙ or_true (list_any (nat_eq b.call) (begun T.rows));
      began = ap (λ x. option_or x (call_at T.rows b.call)) (begins_it T event b o effects);
      of_page = refl;
      undisturbed = record {
        since = [];
        beginning = row_of T line event;
        before = T.rows;
        rows_are = refl;
        begins_it = record { before = []; after = does; all = effects };
        is_it = refl;
        stands = refl;
      };
    }

-- a get begins
when_get : (T : Trace) (line : ℕ) (event : Event) (b : Begun) (options : GetOptions) → b.options ≡ ToGet options
    → Invariant T b.call
    → IsBeginning event → page_at T b.page ≡ Some b.origin
    → 1 ≤ length options.providers → (o : Outcome) → FirstTurn o
    → effects_of T event ≡ Begin b ∷ outcome_effects (world_at T) (cookies_with T) (kind_asked b.options) b.call b.page o
    → is_begun T b.call ≡ false
    → (f : Facts) → facts_at (with_event T line event) b.call ≡ Some f → Stood (with_event T line event) b.call f
when_get T line event b options is_get h starts page one o turn effects new f is = stood turn
  where
    asks : filter_map (asked b.call) (effects_of T event) ≡ []
    asks =
        ap (filter_map (asked b.call)) effects ∙ outcome_asks (world_at T) (cookies_with T) (kind_asked b.options) b.call b.page o
        ∙ first_asks_none o turn

    kind_is : kind_asked b.options ≡ GetCall
    kind_is = ap kind_asked is_get

    facts : (stage : Stage) → o.stage ≡ Some stage
        → facts_at (with_event T line event) b.call ≡ get.at_stage stage (get.fresh (world_at T) b.call b.page b.origin options)
    facts stage is =
        ap (option_and_then get_facts) (known_begun T line event b o stage effects is
        ∙ ap (λ x. at_stage stage (fresh (world_at T) b.call b.page b.origin x)) is_get)
        ∙ facts_of_get (get.at_stage stage (get.fresh (world_at T) b.call b.page b.origin options))

    by : (stage : Stage) → o.stage ≡ Some stage → (stage ≡ Ended → ⊥)
        → get.at_stage stage (get.fresh (world_at T) b.call b.page b.origin options)
        ≡ Some (record (get.fresh (world_at T) b.call b.page b.origin options) { stage = stage })
        → (stage ≡ Asserting → ⊥) → Stood (with_event T line event) b.call f
    by stage at other goes later =
        let whole : Some (record (get.fresh (world_at T) b.call b.page b.origin options) { stage = stage }) ≡ Some f =
        sym (facts stage at ∙ goes) ∙ is in
        let same : record (get.fresh (world_at T) b.call b.page b.origin options) { stage = stage } ≡ f = cc in
        let g = begun_now T line event b starts page o stage at other effects in
        subst (Stood (with_event T line event) b.call) same
        (record {
          pending = g.pending ∙ ap (λ kind. let v : PendingCall = record { page = b.page; kind = kind } in Some v) kind_is;
          page = g.page;
          is_taken = g.is_taken;
          begun = b;
          began = g.began;
          of_call = refl;
          of_page = refl;
          of_origin = refl;
          get = options;
          is_get = is_get;
          of_options = refl;
          some = one;
          undisturbed = g.undisturbed;
          asks = inl (asks_same T line event b.call asks ∙ h.unbegun new);
          asked_for = λ at. absurd (later at);
        })

    stood : FirstTurn o → Stood (with_event T line event) b.call f
    stood (FailsFirst failure ended none gives) = not_some (facts_at (with_event T line event) b.call) f (facts Ended ended) is
    stood (ReadsFirst reading none gives) = by Reading reading (λ h. cc) refl (λ h. cc)
    stood (GathersFirst gathering none gives) = by Gathering gathering (λ h. cc) refl (λ h. cc)

-- of a disconnect call no facts of a get are known
when_disconnect : (T : Trace) (line : ℕ) (event : Event) (b : Begun) (options : DisconnectOptions) → b.options ≡ ToDisconnect options
    → (o : Outcome) → FirstTurn o
    → effects_of T event ≡ Begin b ∷ outcome_effects (world_at T) (cookies_with T) (kind_asked b.options) b.call b.page o
    → facts_at (with_event T line event) b.call ≡ None
when_disconnect T line event b options is_it o turn effects = go turn
  where
    none : (stage : Stage) → o.stage ≡ Some stage → facts_at (with_event T line event) b.call ≡ None
    none stage is =
        ap (option_and_then get_facts) (known_begun T line event b o stage effects is
        ∙ ap (λ x. at_stage stage (fresh (world_at T) b.call b.page b.origin x)) is_it)
        ∙ no_get (disconnect.at_stage stage (disconnect.fresh b.call b.page b.origin options))

    go : FirstTurn o → facts_at (with_event T line event) b.call ≡ None
    go (FailsFirst failure ended asks gives) = none Ended ended
    go (ReadsFirst reading asks gives) = none Reading reading
    go (GathersFirst gathering asks gives) = none Gathering gathering

-- the call begins
when_begun : (T : Trace) (line : ℕ) (event : Event) (b : Begun) → Invariant T b.call → IsBeginning event
    → page_at T b.page ≡ Some b.origin
    → HasSome b.options → (o : Outcome) → FirstTurn o
    → effects_of T event ≡ Begin b ∷ outcome_effects (world_at T) (cookies_with T) (kind_asked b.options) b.call b.page o
    → is_begun T b.call ≡ false
    → Invariant (with_event T line event) b.call
when_begun T line event b h starts page one o turn effects new = invariant_by T line event b.call h asks (stood b.options refl one)
  where
    asks : filter_map (asked b.call) (effects_of T event) ≡ []
    asks =
        ap (filter_map (asked b.call)) effects ∙ outcome_asks (world_at T) (cookies_with T) (kind_asked b.options) b.call b.page o
        ∙ first_asks_none o turn

    stood : (options : CallOptions) → b.options ≡ options → HasSome options → (f : Facts)
        → facts_at (with_event T line event) b.call ≡ Some f → Stood (with_event T line event) b.call f
    stood (ToGet options) is one f known = when_get T line event b options is h starts page one o turn effects new f known
    stood (ToDisconnect options) is one f known =
        not_some (facts_at (with_event T line event) b.call) f (when_disconnect T line event b options is o turn effects) known

pub when_started : (T : Trace) (line : ℕ) (event : Event) (call : ℕ) → IsNew T.rows event → Invariant T call → Starts T event call
    → Invariant (with_event T line event) call
when_started T line event call new h s =
    let b = s.begun in
    let first = is_first T event b.page b.call b.options new s.is_event in
    subst (Invariant (with_event T line event)) s.is_call
    (when_begun T line event b (subst (Invariant T) (sym s.is_call) h) (is_beginning event b.page b.call b.options s.is_event) s.stands
    first.some (first_row (world_at T) s.busy b.origin b.options)
    (first_turn (world_at T) s.busy b.origin b.options first.some) s.effects first.fresh)
