-- How a call that stands comes on at an input, and what stands of it then.
use Rattle.std.proofs.Common.{◌≡◌, ℕ, suc, Bool, true, false, nat_eq, cond, ◌||◌, ◌&&◌, ◌≤◌, ◌⊎◌, inl, inr, List, []}
use Rattle.std.proofs.Common.{◌∷◌, length, map, slice_get, Option, Some, None}
use Rattle.std.proofs.Common.{refl, sym, ap, subst, ◌∙◌, arith}
use Rattle.std.proofs.lemmas.Bool.Decides.{nat_tests}
use Rattle.std.proofs.lemmas.Slice.Eq.{bytes_eq-Decides}
use Rattle.std.specs.Prelude.{bytes_eq, option_map, unwrap_or, is_some, slice_set}
use Rattle.std.specs.Option.{option_or}
use Rattle.std.specs.List.{filter_map, find, list_any}
use Rattle.url.specs.Parts.{Parts}
use Rattle.fed_origin.specs.declared.stage.ReplyKind.TheVariants as kinds
use Rattle.fed_origin.specs.declared.options.ProviderOptions.{ProviderOptions}
use Rattle.fed_origin.specs.declared.stage.Stage.{Stage}
use Rattle.fed_origin.specs.declared.stage.Stage.TheVariants.{Choosing, Prompting, Asserting, Ended}
use Rattle.fed_status.specs.Shared.{World}
use Rattle.fed_consent.specs.declared.table.finish.Finish.{Finish}
use Rattle.fed_consent.specs.declared.table.input.Input.{Input}
use Rattle.fed_consent.specs.declared.table.input.Input.TheVariants as inputs
use Rattle.fed_consent.specs.Consent.{Choices, chosen, is_pick, picks}
use Rattle.fed_consent.specs.Outcomes as outcomes
use Rattle.fed_consent.specs.Outcomes.{Outcome}
use Rattle.fed_call.specs.declared.progress.Progress.{Progress}
use Rattle.fed_call.specs.declared.progress.Progress.TheVariants as progress_is
use Rattle.fed_call.specs.Accounts.{Offered, needs_metadata}
use Rattle.fed_call.specs.AssertingRows.{pick_of}
use Rattle.fed_call.specs.Facts.{Facts, Conclusion, Awaits, NoneLeft, Reselects, NoneSilent, Offers, Prompts as PromptsOne, at_stage}
use Rattle.fed_call.specs.Facts.{conclusion_of, facts_after, is_named}
use Rattle.fed_call.specs.Progress.{is_awaited}
use Rattle.fed_call.specs.Facts.{progress_at, with_choice, with_conclusion, with_input, with_picked, with_progress}
use Rattle.fed_call.specs.SettledRows.{concludes}
use Rattle.fed_script.specs.declared.event.Event.{Event}
use Rattle.fed_script.specs.declared.event.Event.TheVariants as events
use Rattle.fed_script.specs.declared.event.Event.TheVariants.{Choose, Reply}
use Rattle.fed_laws.specs.Cause.{IsReady, Settled, all_settled, choices_of, chooses, config_given, is_metadata, offers_from}
use Rattle.fed_trace.specs.OfCall.{call_at, disturbs, given}
use Rattle.fed_trace.specs.Begun.{GetCall}
use Rattle.fed_trace.specs.Effect.{begins, is_ignored, last_of}
use Rattle.fed_trace.specs.Known.{world_at, input_to}
use Rattle.fed_trace.specs.Row.{effects_of, row_of, with_event, cookies_with}
use Rattle.fed_trace.specs.Trace.{Row, Trace}
use Rattle.fed_laws.proofs.pending.Stood.{Stood, calm, not_some}
use Rattle.fed_trace.proofs.happens.Taken.{Meets, does_at, outcome_of}
use Rattle.fed_laws.proofs.pending.Taken.{after_by, gives_at, input_keeps_pages}
use Rattle.fed_trace.proofs.happens.Ends.{event_for}
use Rattle.fed_trace.proofs.happens.Says.{own, outcome_begins, drop_of, finish_of}
use Rattle.fed_laws.proofs.causes.Awaits.{awaits_some, heard_there, now_awaited, set_awaited}
use Rattle.fed_laws.proofs.causes.Cause.{Caused, Opened, Alone, AfterChoice, Prompts, opened_on, path_ready, prompts_on, offered_on}
use Rattle.fed_laws.proofs.causes.Cause.{settled_call, settled_on}
use Rattle.fed_laws.proofs.causes.Come.{AllCome, AllDone, all_on, all_set, config_none, done, heard_now, settled_before, settled_now}
use Rattle.fed_laws.proofs.causes.Come.{undone, unsaid_first, unsaid_other}
use Rattle.fed_laws.proofs.causes.Known.{AllKnown, ConfigsKnown, OfferedIs, found_known, found_passed, offered_in, offered_known_in}
use Rattle.fed_laws.proofs.causes.Known.{offers_are, picks_in, prompts_are}
use Rattle.fed_laws.proofs.turns.Settle.{conclusion_says, found_chosen}
use Rattle.fed_laws.proofs.turns.Turn.{Turn, Asks, Gives, Goes, told, turn_at}
use Rattle.fed_laws.proofs.turns.Way.{ChoosesNone, Drops, Elsewhere, First, Gets, Hearing, HearsOne, Picks, Readies, SettlesOne}
use Rattle.fed_laws.proofs.turns.Way.{SettlesSo, Settling, TakesChoice, TakesMetadata, Unmoved, Way}
use Rattle.fed_laws.proofs.turns.Way.{brings_config, is_first, is_live, way_at}

-- ---- an input of a call that goes on

-- what stands of a call before an input and after it
pub record Step (T : Trace) (line : ℕ) (event : Event) (call : ℕ) (f f' : Facts) : Type 0 where
  pub meets : Meets T event call f
  pub stood : Stood T call f
  pub caused : Caused T call f
  pub now : facts_after (world_at T) f meets.takes.input (outcome_of T f meets.takes.input) ≡ Some f'

-- a prompt that needs no metadata
needs_none : (connected : Bool) (endpoint : Option Parts) → needs_metadata connected endpoint ≡ false
    → (connected ≡ true) ⊎ (endpoint ≡ None)
needs_none true endpoint h = inl refl
needs_none false None h = inr refl
needs_none false (Some to) h = absurd (cc)

length_map : {A B : Type 0} (g : A → B) (xs : List A) → length (map g xs) ≡ length xs
length_map g [] = refl
length_map g (x ∷ xs) = ap suc (length_map g xs)

-- a call that has a provider has one at least
has_some : (ps : List ProviderOptions) (n : ℕ) (q : ProviderOptions) → slice_get ps n ≡ Some q → 1 ≤ length ps
has_some [] n q has = absurd (cc)
has_some (p ∷ ps) n q has = omega arith

module _ (T : Trace) (line : ℕ) (event : Event) (call : ℕ) (f f' : Facts) (s : Step T line event call f f') where
  abbrev world : World
  world = world_at T

  abbrev input : Input
  input = s.meets.takes.input

  abbrev o : Outcome
  o = outcome_of T f input

  abbrev row : Row
  row = row_of T line event

  abbrev T' : Trace
  T' = with_event T line event

  abbrev stage_then : Stage
  stage_then = unwrap_or o.stage f.stage

  after_step : f' ≡ record (told world f input o) { stage = stage_then }
  after_step = let after = after_by stage_then (told world f input o) f' s.now in after.is

  -- by what is told
  after_told : (g : Facts) → told world f input o ≡ g → f' ≡ record g { stage = stage_then }
  after_told g is = after_step ∙ ap (λ x. let y : Facts = record x { stage = stage_then } in y) is

  -- nothing is given to a call that goes on
  gives_no_more : filter_map (given call) (effects_of T event) ≡ []
  gives_no_more = gives_at T event call f s.meets ∙ go (turn_at world f input)
    where
      go : Turn world f input o → map {B = ℕ × Finish} (λ finish. (f.page, finish)) (filter_map finish_of o.effects) ≡ []
      go (Asks a) = ap (map {B = ℕ × Finish} (λ finish. (f.page, finish))) a.is.gives
      go (Goes asks gives leaves back) = ap (map {B = ℕ × Finish} (λ finish. (f.page, finish))) gives
      go (Gives finish ended asks gives token) =
          not_some (facts_after world f input o) f'
          (ap (λ st. at_stage (unwrap_or st f.stage) (told world f input o)) ended) s.now

  calm_step : (page : ℕ) → disturbs call page row ≡ false
  calm_step page =
      calm T line event call page (input_keeps_pages event call input page s.meets.takes.is_event) gives_no_more

  begins_no_more : last_of (begins call) (effects_of T event) ≡ None
  begins_no_more =
      ap (last_of (begins call)) (does_at T event call f s.meets)
      ∙ outcome_begins world (cookies_with T) GetCall call f.page call o

  -- no configuration comes
  configs : (list_any outcomes.is_ignored o.effects ≡ true) ⊎ (brings_config input ≡ false) → (n : ℕ)
      → config_given n (list_any is_ignored (effects_of T event)) (input_to call event) ≡ None
  configs brings n = config_none T line event call f s.meets n brings

  -- ---- all that stands, by the stage

  -- where some provider may be awaited
  at_first : (g : Facts) → f' ≡ g → is_first g.stage ≡ true → AllCome T'.rows call g.options g.progress
      → list_any is_awaited g.progress ≡ true → Caused T' call f'
  at_first g is first all some =
      subst (Caused T' call) (sym is)
      (record {
        come = λ at. all;
        awaits = λ at. some;
        choosing = λ at. let no : false ≡ true = ap is_first (sym at) ∙ first in absurd (cc);
        prompting = λ at. let no : false ≡ true = ap is_first (sym at) ∙ first in absurd (cc);
      })

  at_choosing : (g : Facts) → f' ≡ g → g.stage ≡ Choosing → Opened T' call g → Caused T' call f'
  at_choosing g is choosing opened =
      subst (Caused T' call) (sym is)
      (record {
        come = λ at. let no : false ≡ true = ap is_first (sym choosing) ∙ at in absurd (cc);
        awaits = λ at. let no : false ≡ true = ap is_first (sym choosing) ∙ at in absurd (cc);
        choosing = λ at. opened;
        prompting = λ at. let no : Choosing ≡ Prompting = sym choosing ∙ at in absurd (cc);
      })

  at_prompting : (g : Facts) → f' ≡ g → g.stage ≡ Prompting → Prompts T' call g → Caused T' call f'
  at_prompting g is prompting prompts =
      subst (Caused T' call) (sym is)
      (record {
        come = λ at. let no : false ≡ true = ap is_first (sym prompting) ∙ at in absurd (cc);
        awaits = λ at. let no : false ≡ true = ap is_first (sym prompting) ∙ at in absurd (cc);
        choosing = λ at. let no : Prompting ≡ Choosing = sym prompting ∙ at in absurd (cc);
        prompting = λ at. prompts;
      })

  -- where the call goes on no longer so
  not_live : is_live stage_then ≡ false → Caused T' call f'
  not_live dead =
      record {
        come = λ at. let no : true ≡ false = sym (lives f'.stage at) ∙ here in absurd (cc);
        awaits = λ at. let no : true ≡ false = sym (lives f'.stage at) ∙ here in absurd (cc);
        choosing = λ at. let no : true ≡ false = sym (ap is_live at) ∙ here in absurd (cc);
        prompting = λ at. let no : true ≡ false = sym (ap is_live at) ∙ here in absurd (cc);
      }
    where
      here : is_live f'.stage ≡ false
      here = ap (λ g. is_live g.stage) after_step ∙ dead

      lives : (stage : Stage) → is_first stage ≡ true → is_live stage ≡ true
      lives Choosing at = refl
      lives Prompting at = refl
      lives Asserting at = absurd (cc)
      lives Ended at = absurd (cc)
      lives _ at = refl

  -- ---- a provider is heard

  hears_then : (first : is_first f.stage ≡ true) → is_first stage_then ≡ true → HearsOne world f input o → Caused T' call f'
  hears_then first then h =
      at_first (record (with_progress h.place h.progress f) {
        stage =
            stage_then;
      }) (after_told (with_progress h.place h.progress f) h.told_is) then
      (all_set T.rows call f.options f.progress row h.place
      (unsaid_other T line event call f s.meets h.place h.kind h.raw h.is_reply (inl h.drops)) h.progress
      (heard_now T line event call f s.meets h (s.caused.come first)) (s.caused.come first))
      (set_awaited f.progress h.place h.progress (now_awaited h.progress h.config h.is_now)
      (heard_there (progress_at h.place f) h.q h.kind h.raw h.config h.hears))

  -- ---- a provider is settled

  module _ (first : is_first f.stage ≡ true) (t : SettlesOne world f input o) where
    abbrev pub progress_then : List Progress
    progress_then = slice_set f.progress t.place t.progress

    pub all_then : AllCome (row ∷ T.rows) call f.options progress_then
    all_then =
        all_set T.rows call f.options f.progress row t.place
        (unsaid_other T line event call f s.meets t.place t.kind t.raw t.is_reply (drops_so t.so)) t.progress
        (settled_now T line event call f s.meets t (s.caused.come first)) (s.caused.come first)
      where
        drops_so : SettlesSo f t.place t.q t.kind t.raw t.progress o
            → (filter_map drop_of o.effects ≡ []) ⊎ (filter_map drop_of o.effects ≡ t.place ∷ [])
        drops_so (Drops failure is was dropping) = inr dropping
        drops_so (Gets config accounts rest is lists o_is dropping) = inl dropping

    pub configs_then : ConfigsKnown (row ∷ T.rows) call f.options progress_then
    configs_then n q c accounts has is = (all_then.come n q (progress_is.Listed c accounts) has is).1

    abbrev pub is_done : Type 0
    is_done = AllDone (row ∷ T.rows) call 0 f.options.providers progress_then

    unfoldable settled_then : is_done → Settled T' call
    settled_then d =
        record {
          since = [];
          settling = row;
          before = T.rows;
          rows = refl;
          last = record {
            begun = s.stood.begun;
            began = ap (λ x. option_or x (call_at T.rows call)) begins_no_more ∙ s.stood.began;
            get = s.stood.get;
            is_get = s.stood.is_get;
            settlements = d.settlements;
            all = subst (λ g. all_settled call 0 g.providers (row ∷ T.rows) ≡ Some d.settlements) s.stood.of_options d.all;
            not_before =
                subst (λ g. all_settled call 0 g.providers T.rows ≡ None) s.stood.of_options
                (undone T.rows call f.options t.place t.q t.has (settled_before T line event call f s.meets t (s.caused.come first)));
          };
          stands = ap (λ b. b || false) (calm_step s.stood.begun.page);
        }

    pub done_then : (c : Conclusion) → (c ≡ Awaits → ⊥) → conclusion_of world f.origin f.options progress_then ≡ c → is_done
    done_then c other is =
        done (row ∷ T.rows) call f.options progress_then all_then
        (conclusion_says world f.origin f.options progress_then c other is).none_awaited

    -- what is offered then
    choices_then : (d : is_done) → choices_of T' call (settled_then d)
        ≡ record { call = f.call; offers = offers_from world.kept f.origin 0 f.options.providers d.settlements }
    unfolding settled_then
    choices_then d =
        ap (λ n. let x : Choices = record {
          call = n;
          offers =
              offers_from world.kept s.stood.begun.origin 0 s.stood.get.providers d.settlements;
        } in x)
        (s.stood.undisturbed.is_it ∙ sym s.stood.of_call)
        ∙ ap (λ p. let x : Choices = record { call = f.call; offers = offers_from world.kept p 0 s.stood.get.providers d.settlements } in x)
        (sym s.stood.of_origin)
        ∙ ap (λ g. let x : Choices = record { call = f.call; offers = offers_from world.kept f.origin 0 g.providers d.settlements } in x)
        (sym s.stood.of_options)

    picks_then : (d : is_done) → picks (choices_of T' call (settled_then d)) ≡ map (pick_of f) (offered_in world f progress_then)
    picks_then d = ap picks (choices_then d) ∙ picks_in world f progress_then d.settlements d.so

    opened_then : (os : List Offered) → conclusion_of world f.origin f.options progress_then ≡ Offers os
        → (g : Facts) → g ≡ record (with_conclusion (Offers os) (with_progress t.place t.progress f)) { stage = Choosing }
        → Opened T' call g
    unfolding settled_then
    opened_then os is g g_is =
        let d = done_then (Offers os) (λ h. cc) is in
        let are = offers_are world f progress_then os is in
        subst (Opened T' call) (sym g_is)
        (record {
          settled = settled_then d;
          offers = picks_then d ∙ ap (map (pick_of f)) are.are;
          known =
              subst (AllKnown (row ∷ T.rows) call f.options) are.are
              (offered_known_in (row ∷ T.rows) call world f progress_then configs_then);
          several = are.several;
          unchosen = refl;
        })

    prompted_then : (x : Offered) → conclusion_of world f.origin f.options progress_then ≡ PromptsOne x
        → (g : Facts) → g ≡ record (with_conclusion (PromptsOne x) (with_progress t.place t.progress f)) { stage = Prompting }
        → Prompts T' call g
    unfolding settled_then
    prompted_then x is g g_is =
        let d = done_then (PromptsOne x) (λ h. cc) is in
        let are = prompts_are world f progress_then x is in
        let one : picks (choices_of T' call (settled_then d)) ≡ pick_of f x ∷ [] = picks_then d ∙ ap (map (pick_of f)) are in
        subst (Prompts T' call) (sym g_is)
        (record {
          settled = settled_then d;
          offered = x;
          picked = refl;
          known =
              (subst (AllKnown (row ∷ T.rows) call f.options) are
              (offered_known_in (row ∷ T.rows) call world f progress_then configs_then)).0;
          is_offered =
              ap (find (is_pick x.place x.candidate.account.id)) one
              ∙ ap (λ b. cond (b && bytes_eq x.candidate.account.id x.candidate.account.id) (Some (pick_of f x)) None) (own x.place)
              ∙ ap (λ b. cond b (Some (pick_of f x)) None) ((bytes_eq-Decides x.candidate.account.id x.candidate.account.id).1 refl);
          path = Alone one (λ h. ready (needs_none x.candidate.connected x.config.metadata h));
        })
      where
        ready : (x.candidate.connected ≡ true) ⊎ (x.config.metadata ≡ None)
            → (x.candidate.connected ≡ true) ⊎ IsReady call x.place x.config []
        ready (inl connected) = inl connected
        ready (inr none) = inr (inl none)

    pub settles_then : Caused T' call f'
    settles_then = by t.conclusion t.concluded t.told_is t.stage
      where
        by : (c : Conclusion) → conclusion_of world f.origin f.options progress_then ≡ c
            → told world f input o ≡ with_conclusion c (with_progress t.place t.progress f)
            → o.stage ≡ (concludes world (with_progress t.place t.progress f) c).stage → Caused T' call f'
        by Awaits is told_is stage =
            at_first (record (with_progress t.place t.progress f) { stage = f.stage })
            (after_told (with_progress t.place t.progress f) told_is
            ∙ ap (λ st. let y : Facts = record (with_progress t.place t.progress f) { stage = unwrap_or st f.stage } in y) stage)
            first all_then
            (awaits_some (row ∷ T.rows) call world f.origin f.options progress_then all_then
            (has_some f.options.providers t.place t.q t.has) is)
        by (NoneLeft failure) is told_is stage = not_live (ap (λ st. is_live (unwrap_or st f.stage)) stage)
        by (Reselects x) is told_is stage = not_live (ap (λ st. is_live (unwrap_or st f.stage)) stage)
        by NoneSilent is told_is stage = not_live (ap (λ st. is_live (unwrap_or st f.stage)) stage)
        by (Offers os) is told_is stage =
            let g : Facts = record (with_conclusion (Offers os) (with_progress t.place t.progress f)) { stage = Choosing } in
            at_choosing g
            (after_told (with_conclusion (Offers os) (with_progress t.place t.progress f)) told_is
            ∙ ap (λ st. let y : Facts = record (with_conclusion (Offers os) (with_progress t.place t.progress f)) {
              stage =
                  unwrap_or st f.stage;
            } in y) stage)
            refl (opened_then os is g refl)
        by (PromptsOne x) is told_is stage =
            let g : Facts = record (with_conclusion (PromptsOne x) (with_progress t.place t.progress f)) { stage = Prompting } in
            at_prompting g
            (after_told (with_conclusion (PromptsOne x) (with_progress t.place t.progress f)) told_is
            ∙ ap (λ st. let y : Facts = record (with_conclusion (PromptsOne x) (with_progress t.place t.progress f)) {
              stage =
                  unwrap_or st f.stage;
            } in y) stage)
            refl (prompted_then x is g refl)

  -- ---- at a dialog

  -- an account is chosen that is not connected
  picks_then_at : f.stage ≡ Choosing → o.stage ≡ Some Prompting → TakesChoice f input o → Caused T' call f'
  unfolding settled_on
  picks_then_at at stage t =
      at_prompting (record (with_picked t.offered f) { stage = Prompting })
      (after_told (with_picked t.offered f) told_is
      ∙ ap (λ st. let y : Facts = record (with_picked t.offered f) { stage = unwrap_or st f.stage } in y) stage)
      refl
      (record {
        settled = settled_on T line event call f s.stood opened.settled begins_no_more (calm_step f.page);
        offered = t.offered;
        picked = refl;
        known =
            offered_on T.rows call f.options row (configs (inr (ap brings_config t.is_choice))) t.offered
            (found_known (OfferedIs T.rows call f.options) (is_named t.place t.id) f.offered t.offered opened.known t.is);
        is_offered =
            ap (λ p. chosen p t.offered.candidate.account.id choices) (sym place_is)
            ∙ ap (λ i. chosen t.place i choices) id_is
            ∙ named;
        path =
            AfterChoice (record {
              several = subst (λ ps. 2 ≤ length ps) (sym opened.offers) (subst (λ n. 2
                  ≤ n) (sym (length_map (pick_of f) f.offered)) opened.several);
              after = [];
              choice = row;
              waiting = opened.settled.since;
              rows = refl;
              event = chose ∙ ap (λ c. Choose c t.place t.id) (sym (settled_call T call f s.stood opened.settled))
                  ∙ ap (λ p. Choose choices.call p t.id) place_is ∙ ap (λ i. Choose choices.call t.offered.place i) (sym id_is);
              first = opened.unchosen;
            })
            (λ h. ready (needs_none t.offered.candidate.connected t.offered.config.metadata h));
      })
    where
      opened : Opened T call f
      opened = s.caused.choosing at

      choices : Choices
      choices = choices_of T call opened.settled

      told_is : told world f input o ≡ with_picked t.offered f
      told_is =
          ap (λ b. with_input world b input f) t.taken ∙ ap (λ i. with_input world false i f) t.is_choice
          ∙ ap (λ x. with_choice x f) t.is

      passed : (nat_eq t.place t.offered.place && bytes_eq t.offered.candidate.account.id t.id) ≡ true
      passed = found_passed (is_named t.place t.id) f.offered t.offered t.is

      both : (a b : Bool) → (a && b) ≡ true → (a ≡ true) × (b ≡ true)
      both true true h = (refl, refl)
      both true false h = absurd (cc)
      both false b h = absurd (cc)

      place_is : t.place ≡ t.offered.place
      place_is =
          same t.place t.offered.place (both (nat_eq t.place t.offered.place) (bytes_eq t.offered.candidate.account.id t.id) passed).0
        where
          same : (m n : ℕ) → nat_eq m n ≡ true → m ≡ n
          same m n h = grind (arith, nat_tests, h)

      id_is : t.offered.candidate.account.id ≡ t.id
      id_is =
          (bytes_eq-Decides t.offered.candidate.account.id t.id).0
          (both (nat_eq t.place t.offered.place) (bytes_eq t.offered.candidate.account.id t.id) passed).1

      named : chosen t.place t.id choices ≡ Some (pick_of f t.offered)
      named =
          ap (find (is_pick t.place t.id)) opened.offers ∙ found_chosen f t.place t.id f.offered ∙ ap (option_map (pick_of f)) t.is

      chose : event ≡ Choose call t.place t.id
      chose = let came : Some event ≡ Some (Choose call t.place t.id) = s.meets.takes.is_event ∙ ap (event_for call) t.is_choice in cc

      ready : (t.offered.candidate.connected ≡ true) ⊎ (t.offered.config.metadata ≡ None) → IsReady call t.offered.place t.offered.config []
      ready (inl connected) = let no : true ≡ false = sym connected ∙ t.unconnected in absurd (cc)
      ready (inr none) = inl none

  -- metadata make the prompt ready
  readies_then : f.stage ≡ Prompting → stage_then ≡ Prompting → TakesMetadata f input o → Caused T' call f'
  unfolding settled_on
  readies_then at stage t =
      at_prompting (record f { waits = false; stage = Prompting })
      (after_told (record f { waits = false }) told_is
      ∙ ap (λ st. let y : Facts = record f { waits = false; stage = st } in y) stage)
      refl
      (record {
        settled = settled_on T line event call f s.stood prompts.settled begins_no_more (calm_step f.page);
        offered = prompts.offered;
        picked = prompts.picked;
        known = offered_on T.rows call f.options row (configs (inr (ap brings_config t.is_reply))) prompts.offered prompts.known;
        is_offered = prompts.is_offered;
        path =
            path_ready f.waits call prompts.offered (pick_of f prompts.offered)
            (choices_of T call prompts.settled) row prompts.settled.since
            came prompts.path;
      })
    where
      prompts : Prompts T call f
      prompts = s.caused.prompting at

      told_is : told world f input o ≡ record f { waits = false }
      told_is = ap (λ b. with_input world b input f) t.taken ∙ ap (λ i. with_input world false i f) t.is_reply

      offered_is : t.offered ≡ prompts.offered
      offered_is = let both : Some t.offered ≡ Some prompts.offered = sym t.picks ∙ prompts.picked in cc

      came : is_metadata call prompts.offered.place event ≡ true
      came =
          let given_is : Some event ≡ Some (Reply call t.offered.place kinds.Metadata t.raw) =
          s.meets.takes.is_event ∙ ap (event_for call) t.is_reply in
          let reply : event ≡ Reply call t.offered.place kinds.Metadata t.raw = cc in
          ap (is_metadata call prompts.offered.place) reply
          ∙ ap (λ x. nat_eq call call && nat_eq prompts.offered.place x.place) offered_is
          ∙ ap (λ b. b && nat_eq prompts.offered.place prompts.offered.place) (own call) ∙ own prompts.offered.place

  -- the call stays as it was
  unmoved_then : is_first f.stage ≡ false → o.stage ≡ None → (list_any outcomes.is_ignored o.effects ≡ true) ⊎ (brings_config input ≡ false)
      → told world f input o ≡ f → (f.stage ≡ Choosing → ChoosesNone f input) → Caused T' call f'
  unmoved_then later stage brings told_is none =
      subst (Caused T' call) (sym same)
      (record {
        come = λ at. let no : true ≡ false = sym at ∙ later in absurd (cc);
        awaits = λ at. let no : true ≡ false = sym at ∙ later in absurd (cc);
        choosing = λ at.
            let opened = s.caused.choosing at in
            opened_on T line event call f s.stood opened begins_no_more (calm_step f.page) (configs brings) (unchosen at opened);
        prompting = λ at.
            prompts_on T line event call f s.stood (s.caused.prompting at) begins_no_more (calm_step f.page) (configs brings);
      })
    where
      same : f' ≡ f
      same = after_told f told_is ∙ ap (λ st. let y : Facts = record f { stage = unwrap_or st f.stage } in y) stage

      unchosen : f.stage ≡ Choosing → (opened : Opened T call f) → chooses (choices_of T call opened.settled) event ≡ false
      unchosen at opened = by input s.meets.takes.is_event (none at)
        where
          choices : Choices
          choices = choices_of T call opened.settled

          and_false : (b : Bool) → b && false ≡ false
          and_false true = refl
          and_false false = refl

          by : (i : Input) → Some event ≡ event_for call i → ChoosesNone f i → chooses choices event ≡ false
          by (inputs.Choose place id) is none =
              let chose : event ≡ Choose call place id = cc in
              ap (chooses choices) chose
              ∙ ap (λ x. nat_eq choices.call call && is_some x)
              (ap (find (is_pick place id)) opened.offers ∙ found_chosen f place id f.offered
              ∙ ap (option_map (pick_of f)) (none place id refl))
              ∙ and_false (nat_eq choices.call call)
          by (inputs.Reply place kind raw) is none = let came : event ≡ Reply call place kind raw = cc in ap (chooses choices) came
          by inputs.GoOn is none = let came : event ≡ events.GoOn call = cc in ap (chooses choices) came
          by inputs.Cancel is none = let came : event ≡ events.Cancel call = cc in ap (chooses choices) came
          by inputs.Abort is none = let came : event ≡ events.Abort call = cc in ap (chooses choices) came
          by inputs.SignIn is none = let came : event ≡ events.SignIn call = cc in ap (chooses choices) came
          by inputs.Shut is none = let came : event ≡ events.ShutWindow call = cc in ap (chooses choices) came
          by inputs.Resume is none = let no : Some event ≡ None = is in absurd (cc)

  -- ---- each way

  pub caused_then : Caused T' call f'
  caused_then = go (way_at world f input)
    where
      go : Way world f input o → Caused T' call f'
      go (Elsewhere dead asks none over) = not_live dead
      go (First first then says told_is) =
          at_first (record f { stage = stage_then }) (after_told f told_is) then
          (all_on T.rows call f.options f.progress row (unsaid_first T line event call f s.meets says) (s.caused.come first))
          (s.caused.awaits first)
      go (Hearing first then h) = hears_then first then h
      go (Settling first t) = settles_then first t
      go (Picks at stage t none) = picks_then_at at stage t
      go (Readies at stage t none) = readies_then at stage t
      go (Unmoved later stage brings settles told_is none) = unmoved_then later stage brings told_is none
