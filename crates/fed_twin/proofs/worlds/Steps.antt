-- Events of calls keep the worlds the same.
use Rattle.std.proofs.Common.{◌≡◌, ◌≤◌, ℕ, Bool, true, false, nat_eq, cond, inl, inr, List, [], ◌∷◌, Option, Some, None}
use Rattle.std.proofs.Common.{length, refl, sym}
use Rattle.std.proofs.Common.{ap, subst, ◌∙◌, arith}
use Rattle.std.proofs.lemmas.Bool.Decides.{nat_tests}
use Rattle.std.specs.Prelude.{option_map, option_and_then}
use Rattle.std.specs.Option.{option_or}
use Rattle.std.specs.List.{filter_map, list_any}
use Rattle.fed_origin.specs.declared.options.GetOptions.{GetOptions}
use Rattle.fed_origin.specs.declared.origin.Origin.{Origin}
use Rattle.fed_origin.specs.declared.stage.ReplyKind.{ReplyKind}
use Rattle.fed_origin.specs.declared.stage.ReplyKind.TheVariants as kinds
use Rattle.fed_origin.specs.declared.stage.Stage.{Stage}
use Rattle.fed_origin.specs.declared.stage.Stage.TheVariants.{Reading, Gathering, Ended}
use Rattle.fed_origin.specs.Origin.{is_trustworthy}
use Rattle.fed_status.specs.Flags.{has_flag}
use Rattle.fed_consent.specs.declared.table.input.Input.{Input}
use Rattle.fed_consent.specs.declared.table.input.Input.TheVariants as inputs
use Rattle.fed_status.specs.Shared.{World}
use Rattle.fed_call.specs.Facts.{Facts, at_stage, fresh, facts_after}
use Rattle.fed_consent.specs.Outcomes.{Outcome}
use Rattle.fed_call.specs.Row.{input_row, stage_reply}
use Rattle.fed_call.specs.DialogRows.{chose, went_on, cancelled}
use Rattle.fed_call.specs.WindowRows.{asked_to_sign_in, window_shut}
use Rattle.fed_consent.specs.Failures.{plain}
use Rattle.fed_consent.specs.declared.table.failure.FailStep.TheVariants as steps
use Rattle.fed_consent.specs.declared.table.why.Why.TheVariants.{NoCall}
use Rattle.fed_script.specs.declared.event.Event.{Event}
use Rattle.fed_script.specs.declared.event.Event.TheVariants as events
use Rattle.fed_trace.specs.Begun.{Begun, GetCall, ToGet}
use Rattle.fed_trace.specs.Call.{get_facts, get_outcome}
use Rattle.fed_trace.specs.OfCall.{replaces}
use Rattle.fed_trace.specs.Effect.{Effect, Begin, Ignored, last_of, stage_change, begins, is_ignored}
use Rattle.fed_trace.specs.Keyed.{last_said}
use Rattle.fed_trace.specs.Known.{world_at, is_begun, input_to, with_said, known_at, facts_at}
use Rattle.fed_trace.specs.Row.{effects_of, with_event, cookies_with, outcome_effects, begin_effects, standing_call, input_effects, is_busy}
use Rattle.fed_trace.specs.Trace.{Trace, page_at, flags, gets}
use Rattle.fed_trace.proofs.happens.First.{FirstTurn, FailsFirst, ReadsFirst, GathersFirst, first_turn, known_begun}
use Rattle.fed_trace.proofs.happens.Ends.{Takes, event_for}
use Rattle.fed_trace.proofs.effects.Outcome.{moves_no_other}
use Rattle.fed_trace.proofs.happens.Says.{own, outcome_begins}
use Rattle.fed_trace.proofs.happens.Gets.{facts_same, others_after}
use Rattle.fed_trace.proofs.known.Known.{ignored_says}
use Rattle.fed_trace.proofs.happens.Taken.{Meets, does_at, facts_of_get, facts_taken}
use Rattle.fed_twin.specs.Script.{names}
use Rattle.fed_twin.specs.Providers.{Providers}
use Rattle.fed_twin.specs.Seen.{seen, told}
use Rattle.fed_twin.specs.Seen as views
use Rattle.fed_twin.specs.Same.{SameOptions, SameFacts, SameCall, SameWorlds}
use Rattle.fed_twin.proofs.calls.Call.{AgreeWorlds, IsQuiet, Keeps, Lands, after_at, keeps_fails, told_effect}
use Rattle.fed_twin.proofs.calls.Facts.{begins_or_resumes, facts_left, facts_ignored, others_unseen, get_is_begun}
use Rattle.fed_twin.proofs.calls.Get.{get_same, own_get, firsts_same, first_own}
use Rattle.fed_twin.proofs.worlds.Grow.{grow, grow_alone}
use Rattle.fed_twin.proofs.seen.Look.{page_same, gets_same}
use Rattle.fed_twin.proofs.calls.Outcome.{seen_outcome, unseen_outcome, quiet_outcome, cookies_agree, worlds_agree}
use Rattle.fed_twin.proofs.worlds.Pages.{call_left, call_over}
use Rattle.fed_twin.proofs.calls.Row.{Unseen, reply_first, reply_assertion, reply_disconnect}
use Rattle.fed_twin.proofs.calls.Row.{chose_by, cancelled_by, sign_in_by, shut_by, still_went, keeps_still, unseen_reply}

-- ---- a get

-- a get that is not taken changes no call
get_ignored : (T : Trace) (line page call : ℕ) (options : GetOptions) (q : ℕ) (effect : Effect)
    → (effects_of T (events.Get page call options) ≡ effect ∷ [])
    → last_said nat_eq stage_change q (effect ∷ []) ≡ None → last_of (begins q) (effect ∷ []) ≡ None
    → facts_at (with_event T line (events.Get page call options)) q ≡ facts_at T q
get_ignored T line page call options q effect is m b =
    facts_same T line (events.Get page call options) q (ap (last_said nat_eq stage_change q) is ∙ m)
    (ap (last_of (begins q)) is ∙ b) (λ k. refl)

-- a call of a get, as it begins
get_begun : ℕ → ℕ → Origin → GetOptions → Begun
get_begun page call origin options = record { call = call; page = page; origin = origin; options = ToGet options }

module _ (T : Trace) (line page call : ℕ) (origin : Origin) (options : GetOptions) where
  abbrev the_get : Event
  the_get = events.Get page call options

  -- what a get does that is taken
  abbrev Does : Outcome → Type 0
  Does o =
      effects_of T the_get ≡ Begin (get_begun page call origin options)
      ∷ outcome_effects (world_at T) (cookies_with T) GetCall call page o

  -- it leaves other calls
  get_other : (o : Outcome) (q : ℕ) → Does o → nat_eq q call ≡ false → facts_at (with_event T line the_get) q ≡ facts_at T q
  unfolding get_begun
  get_other o q is ne =
      facts_same T line the_get q
      (ap (last_said nat_eq stage_change q) is ∙ ap (λ x. option_or x None) (moves_no_other (world_at T) (cookies_with T) GetCall call
      page
      o q ne))
      (ap (last_of (begins q)) is ∙ ap (λ x. option_or x (cond (nat_eq q call) (Some (get_begun page call origin options)) None))
      (outcome_begins (world_at T) (cookies_with T) GetCall call page q o)
      ∙ ap (λ t. cond t (Some (get_begun page call origin options)) None) ne)
      (λ k. refl)

  -- and begins as a fresh one
  get_facts_begun : (o : Outcome) (stage : Stage) → Does o → o.stage ≡ Some stage
      → facts_at (with_event T line the_get) call ≡ at_stage stage (fresh (world_at T) call page origin options)
  unfolding get_begun
  get_facts_begun o stage is at =
      ap (option_and_then get_facts) (known_begun T line the_get (get_begun page call origin options) o stage is at)
      ∙ facts_of_get (at_stage stage (fresh (world_at T) call page origin options))

-- what is known of a get that begins is the same
first_facts : (p : Providers) (w w' : World) → AgreeWorlds p w w'
    → (call page page' : ℕ) (origin origin' : Origin) (options options' : GetOptions)
    → SameOptions p options options' → (stage : Stage) → Lands stage
    → SameCall p (at_stage stage (fresh w call page origin options)) (at_stage stage (fresh w' call page' origin' options'))
first_facts p w w' agree call page page' origin origin' options options' h stage lands =
    after_at p (fresh w call page origin options) (fresh w' call page' origin' options') stage
    (record {
      options = h;
      progress = firsts_same p w w' agree options.mode options'.mode h.mode options.providers options'.providers h.providers;
      known = first_own p w options.mode options.providers;
      offered = tt;
    }) lands

first_stage : (o : Outcome) → FirstTurn o → (stage : Stage) × (o.stage ≡ Some stage) × Lands stage
first_stage o (FailsFirst failure ended asks gives) = (Ended, ended, inl refl)
first_stage o (ReadsFirst reading asks gives) = (Reading, reading, inr refl)
first_stage o (GathersFirst gathering asks gives) = (Gathering, gathering, inr refl)

-- both gets are taken
taken_get : (p : Providers) (T U : Trace) → SameWorlds p T U
    → (line line' page call : ℕ) (o u : Origin) (options options' : GetOptions)
    → has_flag (flags T) o ≡ has_flag (flags U) u
    → SameOptions p options options' → 1 ≤ length options.providers → (busy : Bool)
    → Does T line page call o options (get_outcome (world_at T) busy o options)
    → Does U line' page call u options' (get_outcome (world_at U) busy u options')
    → SameWorlds p (with_event T line (events.Get page call options)) (with_event U line' (events.Get page call options'))
unfolding get_begun
taken_get p T U h line line' page call o u options options' flag same one busy is is' =
    grow p T U h line line' (events.Get page call options) (events.Get page call options')
    (ap (filter_map (seen p)) is ∙ seen_same ∙ sym (ap (filter_map (seen p)) is'))
    (λ q. calls q (nat_eq q call) refl)
  where
    first : Outcome
    first = get_outcome (world_at T) busy o options

    first' : Outcome
    first' = get_outcome (world_at U) busy u options'

    one_outcome : first ≡ first'
    one_outcome = get_same p (world_at T) (world_at U) (worlds_agree p T U h) o u flag options options' same busy

    seen_same : filter_map (seen p) (Begin (get_begun page call o options)
        ∷ outcome_effects (world_at T) (cookies_with T) GetCall call page first)
        ≡ filter_map (seen p) (Begin (get_begun page call u options')
        ∷ outcome_effects (world_at U) (cookies_with U) GetCall call page first')
    seen_same =
        ap (λ xs. views.Begin call page ∷ xs)
        (seen_outcome p (world_at T) (world_at U) (cookies_with T) (cookies_with U) (cookies_agree p T U h) call page page first first'
        (record {
          stage = ap (λ x. x.stage) one_outcome;
          told = ap (λ x. filter_map told_effect x.effects) one_outcome;
          own =
              own_get p (world_at T) o options busy;
        }))

    calls : (q : ℕ) (own : Bool) → nat_eq q call ≡ own
        → SameCall p (facts_at (with_event T line (events.Get page call options)) q)
        (facts_at (with_event U line' (events.Get page call options')) q)
    calls q false ne =
        call_left p T U h q _ _ (get_other T line page call o options first q is ne)
        (get_other U line' page call u options' first' q is' ne)
    calls q true key =
        let key_is : call ≡ q = grind (arith, nat_tests, key) in
        let stage =
        first_stage first (first_turn (world_at T) busy o (ToGet options) one) in
        let left = get_facts_begun T line page call o options first stage.0 is stage.1 in
        let right = get_facts_begun U line' page call u options' first' stage.0 is' (ap (λ x. x.stage) (sym one_outcome) ∙ stage.1) in
        subst (λ c. SameCall p (facts_at (with_event T line (events.Get page call options)) c)
        (facts_at (with_event U line' (events.Get page call options')) c)) key_is
        (subst (λ x. SameCall p x (facts_at (with_event U line' (events.Get page call options')) call)) (sym left)
        (subst (λ x. SameCall p (at_stage stage.0 (fresh (world_at T) call page o options)) x) (sym right)
        (first_facts p (world_at T) (world_at U) (worlds_agree p T U h) call page page o u options options' same stage.0 stage.2)))

-- where the page stands in both worlds, the flags of its origins are the same
abbrev pub FlagsOf : Trace → Trace → ℕ → Type 0
FlagsOf T U page =
    (o u : Origin) → page_at T page ≡ Some o → page_at U page ≡ Some u → has_flag (flags T) o ≡ has_flag (flags U) u

pub step_get : (p : Providers) (T U : Trace) → SameWorlds p T U → (line line' page call : ℕ) (options options' : GetOptions)
    → FlagsOf T U page → SameOptions p options options' → 1 ≤ length options.providers
    → SameWorlds p (with_event T line (events.Get page call options)) (with_event U line' (events.Get page call options'))
unfolding get_begun
step_get p T U h line line' page call options options' flag same one =
    go (page_at T page) (page_at U page) refl refl (page_same p T U page h.seen)
  where
    e : Event
    e = events.Get page call options

    e' : Event
    e' = events.Get page call options'

    by : (o : Option Origin) → page_at T page ≡ o
        → effects_of T e ≡ begin_effects (world_at T) (cookies_with T) o (is_busy page (gets T)) page call (ToGet options)
    by o is = ap (λ x. begin_effects (world_at T) (cookies_with T) x (is_busy page (gets T)) page call (ToGet options)) is

    by' : (o : Option Origin) → page_at U page ≡ o
        → effects_of U e' ≡ begin_effects (world_at U) (cookies_with U) o (is_busy page (gets U)) page call (ToGet options')
    by' o is = ap (λ x. begin_effects (world_at U) (cookies_with U) x (is_busy page (gets U)) page call (ToGet options')) is

    busy_same : is_busy page (gets T) ≡ is_busy page (gets U)
    busy_same = ap (is_busy page) (gets_same p T U h.seen)

    trusted : (o u : Origin) → page_at T page ≡ Some o → page_at U page ≡ Some u → (a b : Bool) → is_trustworthy o ≡ a
        → is_trustworthy u ≡ b → a ≡ b
        → SameWorlds p (with_event T line e) (with_event U line' e')
    trusted o u is is' true false t t' same_trust = absurd (cc)
    trusted o u is is' false true t t' same_trust = absurd (cc)
    trusted o u is is' false false t t' same_trust =
        let none = by (Some o) is
        ∙ ap (λ x. standing_call (world_at T) (cookies_with T) x (is_busy page (gets T)) (get_begun page call o options)) t in
        let none' = by' (Some u) is'
        ∙ ap (λ x. standing_call (world_at U) (cookies_with U) x (is_busy page (gets U)) (get_begun page call u options')) t' in
        grow p T U h line line' e e' (ap (filter_map (seen p)) none ∙ sym (ap (filter_map (seen p)) none'))
        (λ q. call_left p T U h q _ _ (get_ignored T line page call options q _ none refl refl)
        (get_ignored U line' page call options' q _ none' refl refl))
    trusted o u is is' true true t t' same_trust =
        taken_get p T U h line line' page call o u options options' (flag o u is is') same one
        (is_busy page (gets T))
        (by (Some o) is ∙ ap (λ x. standing_call (world_at T) (cookies_with T) x (is_busy page (gets T))
        (get_begun page call o options)) t)
        (by' (Some u) is' ∙ ap (λ x. standing_call (world_at U) (cookies_with U) x (is_busy page (gets U))
        (get_begun page call u options')) t'
        ∙ ap (λ x. Begin (get_begun page call u options') ∷ outcome_effects (world_at U) (cookies_with U) GetCall call page
        (get_outcome (world_at U) x u options')) (sym busy_same))

    go : (o u : Option Origin) → page_at T page ≡ o → page_at U page ≡ u
        → option_map (told p) (page_at T page) ≡ option_map (told p) (page_at U page)
        → SameWorlds p (with_event T line e) (with_event U line' e')
    go None None is is' same_page =
        grow p T U h line line' e e' (ap (filter_map (seen p)) (by None is) ∙ sym (ap (filter_map (seen p)) (by' None is')))
        (λ q. call_left p T U h q _ _ (get_ignored T line page call options q _ (by None is) refl refl)
        (get_ignored U line' page call options' q _ (by' None is') refl refl))
    go (Some o) (Some u) is is' same_page =
        let both : Some (told p o) ≡ Some (told p u) = sym (ap (option_map (told p)) is) ∙ same_page ∙ ap (option_map (told p)) is' in
        let one_told : told p o ≡ told p u = cc in
        trusted o u is is' (is_trustworthy o) (is_trustworthy u) refl refl (ap (λ t. t.trusted) one_told)
    go None (Some u) is is' same_page =
        absurd (let no : None ≡ Some (told p u) = sym (ap (option_map (told p)) is) ∙ same_page ∙ ap
        (option_map (told p)) is' in cc)
    go (Some o) None is is' same_page =
        absurd (let no : Some (told p o) ≡ None = sym (ap (option_map (told p)) is) ∙ same_page ∙ ap
        (option_map (told p)) is' in cc)

-- ---- inputs

-- the event brings an input to a call, and does nothing else
pub record IsInput (event : Event) (call : ℕ) (i : Input) : Type 0 where
  pub said : (q : ℕ) → input_to q event ≡ cond (nat_eq q call) (Some i) None
  pub is_event : Some event ≡ event_for call i
  pub effects : (T : Trace)
      → effects_of T event ≡ input_effects (world_at T) (cookies_with T) (is_begun T call) call (known_at T call) i
  pub stands : (page : ℕ) → replaces page event ≡ false
  pub no_begin : begins_or_resumes event ≡ false

-- it leaves other calls
other_left : (T : Trace) (line : ℕ) (event : Event) (call : ℕ) (i : Input) → IsInput event call i → (q : ℕ)
    → nat_eq q call ≡ false
    → facts_at (with_event T line event) q ≡ facts_at T q
other_left T line event call i is q ne = facts_left T line event q (is.said q ∙ ap (λ b. cond b (Some i) None) ne) is.stands is.no_begin

-- the call takes it
takes : (T : Trace) (event : Event) (call : ℕ) (i : Input) → IsInput event call i → is_begun T call ≡ true → Takes T event call
takes T event call i is begun =
    record {
      begun = begun;
      input = i;
      is_event = is.is_event;
      input_is = is.said call ∙ ap (λ b. cond b (Some i) None) (own call);
      effects = is.effects T ∙ ap (λ b. input_effects (world_at T) (cookies_with T) b call (known_at T call) i) begun;
    }

-- an input to a call that is no get that goes on: nothing is seen of it, and the call is none afterwards
record IsOther (p : Providers) (T : Trace) (line : ℕ) (event : Event) (call : ℕ) : Type 0 where
  unseen : filter_map (seen p) (effects_of T event) ≡ []
  after : facts_at (with_event T line event) call ≡ None

other_input : (p : Providers) (T : Trace) (line : ℕ) (event : Event) (call : ℕ) (i : Input) → IsInput event call i
    → facts_at T call ≡ None
    → IsOther p T line event call
other_input p T line event call i is none = go (is_begun T call) refl
  where
    go : (begun : Bool) → is_begun T call ≡ begun → IsOther p T line event call
    go true begun =
        let t = takes T event call i is begun in
        record { unseen = others_unseen p T event call t none; after = others_after T line event call t none }
    go false begun =
        let effects : effects_of T event ≡ Ignored NoCall ∷ [] =
        is.effects T ∙ ap (λ b. input_effects (world_at T) (cookies_with T) b call (known_at T call) i) begun in
        record {
          unseen = ap (filter_map (seen p)) effects;
          after =
              facts_ignored T line event call NoCall effects
              (λ k. ap (λ es. with_said (world_at T) (list_any is_ignored es) (input_to call event) k) effects
              ∙ ignored_says (world_at T) (input_to call event) k)
              ∙ none;
        }

-- what a row of the table owes
abbrev pub OwesRow : Providers → Trace → Trace → Input → Input → Type 0
OwesRow p T U i i' =
    (f f' : Facts) → SameFacts p f f' → IsQuiet (input_row (world_at T) f i) → IsQuiet (input_row (world_at U) f' i')
    → Keeps p (world_at T) (world_at U) f f' i i' (input_row (world_at T) f i) (input_row (world_at U) f' i')

pub step_input : (p : Providers) (T U : Trace) → SameWorlds p T U
    → (line line' : ℕ) (event event' : Event) (call : ℕ) (i i' : Input)
    → IsInput event call i → IsInput event' call i' → OwesRow p T U i i'
    → list_any names (effects_of T event) ≡ false → list_any names (effects_of U event') ≡ false
    → SameWorlds p (with_event T line event) (with_event U line' event')
unfolding takes
step_input p T U h line line' event event' call i i' is is' row quiet quiet' =
    known (facts_at T call) (facts_at U call) refl refl (h.calls call)
  where
    -- the call that the event names, and others
    each : SameCall p (facts_at (with_event T line event) call) (facts_at (with_event U line' event') call) → (q : ℕ)
        → SameCall p (facts_at (with_event T line event) q) (facts_at (with_event U line' event') q)
    each here q = go (nat_eq q call) refl
      where
        go : (own : Bool) → nat_eq q call ≡ own → SameCall p (facts_at (with_event T line event) q) (facts_at
            (with_event U line' event') q)
        go false ne = call_left p T U h q _ _ (other_left T line event call i is q ne) (other_left U line' event' call i' is' q ne)
        go true key =
            let key_is : call ≡ q = grind (arith, nat_tests, key) in
            subst (λ c. SameCall p (facts_at (with_event T line event) c) (facts_at (with_event U line' event') c)) key_is here

    -- by what is known of the call
    known : (o o' : Option Facts) → facts_at T call ≡ o → facts_at U call ≡ o' → SameCall p o o'
        → SameWorlds p (with_event T line event) (with_event U line' event')
    known None (Some f') found found' same = absurd same
    known (Some f) None found found' same = absurd same
    known None None found found' same =
        let other = other_input p T line event call i is found in
        let other' = other_input p U line' event' call i' is' found' in
        grow p T U h line line' event event' (other.unseen ∙ sym other'.unseen) (each (call_over p _ _ other.after other'.after))
    known (Some f) (Some f') found found' same =
        grow p T U h line line' event event'
        (ap (filter_map (seen p)) does
        ∙ seen_outcome p (world_at T) (world_at U) (cookies_with T) (cookies_with U) (cookies_agree p T U h) call f.page f'.page
        (input_row (world_at T) f i)
        (input_row (world_at U) f' i') kept.outcome
        ∙ sym (ap (filter_map (seen p)) does'))
        (each after)
      where
        m : Meets T event call f
        m = record { takes = takes T event call i is (get_is_begun T call f found); found = found }

        m' : Meets U event' call f'
        m' = record { takes = takes U event' call i' is' (get_is_begun U call f' found'); found = found' }

        does : effects_of T event ≡ outcome_effects (world_at T) (cookies_with T) GetCall call f.page (input_row (world_at T) f i)
        does = does_at T event call f m

        does' : effects_of U event' ≡ outcome_effects (world_at U) (cookies_with U) GetCall call f'.page (input_row (world_at U) f' i')
        does' = does_at U event' call f' m'

        kept : Keeps p (world_at T) (world_at U) f f' i i' (input_row (world_at T) f i) (input_row (world_at U) f' i')
        kept =
            row f f' same
            (quiet_outcome (world_at T) (cookies_with T) call f.page (input_row (world_at T) f i) (sym (ap (list_any names) does) ∙ quiet))
            (quiet_outcome (world_at U) (cookies_with U) call f'.page (input_row (world_at U) f' i') (sym (ap (list_any names) does')
            ∙ quiet'))

        after : SameCall p (facts_at (with_event T line event) call) (facts_at (with_event U line' event') call)
        after =
            subst (λ x. SameCall p x (facts_at (with_event U line' event') call)) (sym (facts_taken T line event call f m))
            (subst (SameCall p (facts_after (world_at T) f i (input_row (world_at T) f i)))
            (sym (facts_taken U line' event' call f' m')) kept.after)

-- ---- what each row of the table owes

module _ (p : Providers) (T U : Trace) (h : SameWorlds p T U) where
  agree : AgreeWorlds p (world_at T) (world_at U)
  agree = worlds_agree p T U h

  pub row_wellknown : (place : ℕ) (raw : List ℕ)
      → OwesRow p T U (inputs.Reply place kinds.WellKnown raw) (inputs.Reply place kinds.WellKnown raw)
  row_wellknown place raw f f' s q q' =
      subst (λ st. Keeps p (world_at T) (world_at U) f f' (inputs.Reply place kinds.WellKnown raw) (inputs.Reply place kinds.WellKnown raw)
      (stage_reply (world_at T) f f.stage place kinds.WellKnown raw) (stage_reply (world_at U) f' st place kinds.WellKnown raw)) s.stage
      (reply_first p (world_at T) (world_at U) agree f f' s place kinds.WellKnown raw (λ v g. refl) f.stage refl (λ v g. refl) q
      (subst (λ st. IsQuiet (stage_reply (world_at U) f' st place kinds.WellKnown raw)) (sym s.stage) q'))

  pub row_config : (place : ℕ) (raw : List ℕ)
      → OwesRow p T U (inputs.Reply place kinds.Config raw) (inputs.Reply place kinds.Config raw)
  row_config place raw f f' s q q' =
      subst (λ st. Keeps p (world_at T) (world_at U) f f' (inputs.Reply place kinds.Config raw) (inputs.Reply place kinds.Config raw)
      (stage_reply (world_at T) f f.stage place kinds.Config raw) (stage_reply (world_at U) f' st place kinds.Config raw)) s.stage
      (reply_first p (world_at T) (world_at U) agree f f' s place kinds.Config raw (λ v g. refl) f.stage refl (λ v g. refl) q
      (subst (λ st. IsQuiet (stage_reply (world_at U) f' st place kinds.Config raw)) (sym s.stage) q'))

  pub row_accounts : (place : ℕ) (raw : List ℕ)
      → OwesRow p T U (inputs.Reply place kinds.Accounts raw) (inputs.Reply place kinds.Accounts raw)
  row_accounts place raw f f' s q q' =
      subst (λ st. Keeps p (world_at T) (world_at U) f f' (inputs.Reply place kinds.Accounts raw) (inputs.Reply place kinds.Accounts raw)
      (stage_reply (world_at T) f f.stage place kinds.Accounts raw) (stage_reply (world_at U) f' st place kinds.Accounts raw)) s.stage
      (reply_first p (world_at T) (world_at U) agree f f' s place kinds.Accounts raw (λ v g. refl) f.stage refl (λ v g. refl) q
      (subst (λ st. IsQuiet (stage_reply (world_at U) f' st place kinds.Accounts raw)) (sym s.stage) q'))

  pub row_assertion : (place : ℕ) (raw raw' : List ℕ)
      → OwesRow p T U (inputs.Reply place kinds.Assertion raw) (inputs.Reply place kinds.Assertion raw')
  row_assertion place raw raw' f f' s q q' =
      subst (λ st. Keeps p (world_at T) (world_at U) f f' (inputs.Reply place kinds.Assertion raw)
      (inputs.Reply place kinds.Assertion raw')
      (stage_reply (world_at T) f f.stage place kinds.Assertion raw) (stage_reply (world_at U) f' st place kinds.Assertion raw')) s.stage
      (reply_assertion p (world_at T) (world_at U) agree f f' s place raw raw' f.stage refl)

  pub row_disconnect : (place : ℕ) (raw raw' : List ℕ)
      → OwesRow p T U (inputs.Reply place kinds.Disconnect raw) (inputs.Reply place kinds.Disconnect raw')
  row_disconnect place raw raw' f f' s q q' =
      subst (λ st. Keeps p (world_at T) (world_at U) f f' (inputs.Reply place kinds.Disconnect raw)
      (inputs.Reply place kinds.Disconnect raw')
      (stage_reply (world_at T) f f.stage place kinds.Disconnect raw) (stage_reply (world_at U) f' st place kinds.Disconnect raw')) s.stage
      (reply_disconnect p (world_at T) (world_at U) agree f f' s place raw raw' f.stage)

  pub row_choose : (place : ℕ) (id : List ℕ) → OwesRow p T U (inputs.Choose place id) (inputs.Choose place id)
  row_choose place id f f' s q q' =
      subst (λ st. Keeps p (world_at T) (world_at U) f f' (inputs.Choose place id) (inputs.Choose place id)
      (chose (world_at T) f f.stage place id) (chose (world_at U) f' st place id)) s.stage
      (chose_by p (world_at T) (world_at U) agree f f' s place id f.stage refl q
      (subst (λ st. IsQuiet (chose (world_at U) f' st place id)) (sym s.stage) q'))

  pub row_go_on : OwesRow p T U inputs.GoOn inputs.GoOn
  row_go_on f f' s q q' =
      keeps_still p (world_at T) (world_at U) f f' s (went_on f f.stage) (went_on f' f'.stage) (still_went p f f.stage q)
      (still_went p f' f'.stage q')

  pub row_cancel : OwesRow p T U inputs.Cancel inputs.Cancel
  row_cancel f f' s q q' =
      subst (λ st. Keeps p (world_at T) (world_at U) f f' inputs.Cancel inputs.Cancel (cancelled f.stage) (cancelled st)) s.stage
      (cancelled_by p (world_at T) (world_at U) agree f f' s f.stage)

  pub row_sign_in : OwesRow p T U inputs.SignIn inputs.SignIn
  row_sign_in f f' s q q' =
      subst (λ st. Keeps p (world_at T) (world_at U) f f' inputs.SignIn inputs.SignIn (asked_to_sign_in f f.stage)
      (asked_to_sign_in f' st)) s.stage
      (sign_in_by p (world_at T) (world_at U) agree f f' s f.stage refl)

  pub row_shut : OwesRow p T U inputs.Shut inputs.Shut
  row_shut f f' s q q' =
      subst (λ st. Keeps p (world_at T) (world_at U) f f' inputs.Shut inputs.Shut (window_shut f.stage) (window_shut st)) s.stage
      (shut_by p (world_at T) (world_at U) agree f f' s f.stage)

  pub row_abort : OwesRow p T U inputs.Abort inputs.Abort
  row_abort f f' s q q' =
      keeps_fails p (world_at T) (world_at U) f f' s inputs.Abort inputs.Abort (plain steps.Aborted) (plain steps.Aborted)

-- ---- the events that bring inputs

pub is_reply : (call place : ℕ) (kind : ReplyKind) (raw : List ℕ)
    → IsInput (events.Reply call place kind raw) call (inputs.Reply place kind raw)
is_reply call place kind raw = record { said = λ q. refl; is_event = refl; effects = λ T. refl; stands = λ page. refl; no_begin = refl }

pub is_choose : (call place : ℕ) (id : List ℕ) → IsInput (events.Choose call place id) call (inputs.Choose place id)
is_choose call place id = record { said = λ q. refl; is_event = refl; effects = λ T. refl; stands = λ page. refl; no_begin = refl }

pub is_go_on : (call : ℕ) → IsInput (events.GoOn call) call inputs.GoOn
is_go_on call = record { said = λ q. refl; is_event = refl; effects = λ T. refl; stands = λ page. refl; no_begin = refl }

pub is_cancel : (call : ℕ) → IsInput (events.Cancel call) call inputs.Cancel
is_cancel call = record { said = λ q. refl; is_event = refl; effects = λ T. refl; stands = λ page. refl; no_begin = refl }

pub is_sign_in : (call : ℕ) → IsInput (events.SignIn call) call inputs.SignIn
is_sign_in call = record { said = λ q. refl; is_event = refl; effects = λ T. refl; stands = λ page. refl; no_begin = refl }

pub is_shut : (call : ℕ) → IsInput (events.ShutWindow call) call inputs.Shut
is_shut call = record { said = λ q. refl; is_event = refl; effects = λ T. refl; stands = λ page. refl; no_begin = refl }

pub is_abort : (call : ℕ) → IsInput (events.Abort call) call inputs.Abort
is_abort call = record { said = λ q. refl; is_event = refl; effects = λ T. refl; stands = λ page. refl; no_begin = refl }

-- ---- a metadata reply in one world alone

pub step_metadata : (p : Providers) (T U : Trace) → SameWorlds p T U → (line call place : ℕ) (raw : List ℕ)
    → SameWorlds p (with_event T line (events.Reply call place kinds.Metadata raw)) U
unfolding takes
step_metadata p T U h line call place raw = known (facts_at T call) (facts_at U call) refl refl (h.calls call)
  where
    event : Event
    event = events.Reply call place kinds.Metadata raw

    i : Input
    i = inputs.Reply place kinds.Metadata raw

    is : IsInput event call i
    is = is_reply call place kinds.Metadata raw

    -- the call that it names, and others
    each : SameCall p (facts_at (with_event T line event) call) (facts_at U call) → (q : ℕ)
        → SameCall p (facts_at (with_event T line event) q) (facts_at U q)
    each here q = go (nat_eq q call) refl
      where
        go : (own : Bool) → nat_eq q call ≡ own → SameCall p (facts_at (with_event T line event) q) (facts_at U q)
        go false ne = subst (λ x. SameCall p x (facts_at U q)) (sym (other_left T line event call i is q ne)) (h.calls q)
        go true key =
            let key_is : call ≡ q = grind (arith, nat_tests, key) in
            subst (λ c. SameCall p (facts_at (with_event T line event) c) (facts_at U c)) key_is here

    known : (o : Option Facts) (g : Option Facts) → facts_at T call ≡ o → facts_at U call ≡ g → SameCall p o g
        → SameWorlds p (with_event T line event) U
    known (Some f) None found found' same = absurd same
    known None (Some g) found found' same = absurd same
    known None None found found' same =
        let other = other_input p T line event call i is found in
        grow_alone p T U h line event other.unseen (each (call_over p _ _ other.after found'))
    known (Some f) (Some g) found found' same =
        grow_alone p T U h line event
        (ap (filter_map (seen p)) (does_at T event call f m) ∙ unseen_outcome p (world_at T) (cookies_with T) call f.page
        (input_row (world_at T) f i) unseen.told unseen.stays)
        (each after)
      where
        m : Meets T event call f
        m = record { takes = takes T event call i is (get_is_begun T call f found); found = found }

        unseen : Unseen p (world_at T) f i (input_row (world_at T) f i) g
        unseen = unseen_reply p (world_at T) f g same place raw f.stage refl

        after : SameCall p (facts_at (with_event T line event) call) (facts_at U call)
        after =
            subst (λ x. SameCall p x (facts_at U call)) (sym (facts_taken T line event call f m))
            (subst (SameCall p (facts_after (world_at T) f i (input_row (world_at T) f i))) (sym found') unseen.after)
