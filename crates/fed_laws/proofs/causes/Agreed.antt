-- A request for a token has its cause.
use Rattle.std.proofs.Common.{◌≡◌, ◌≤◌, ℕ, suc, Bool, true, false, nat_eq, ◌&&◌, ◌⊎◌, inl, inr, List, [], ◌∷◌, length, map, slice_get}
use Rattle.std.proofs.Common.{Option, Some, None, refl, sym, ap, subst}
use Rattle.std.proofs.Common.{◌∙◌, cond, arith}
use Rattle.std.proofs.lemmas.Bool.Decides.{nat_tests}
use Rattle.std.specs.Prelude.{not, option_map, slice_set, unwrap_or}
use Rattle.std.specs.List.{filter_map, find}
use Rattle.fed_origin.specs.declared.options.GetOptions.{GetOptions}
use Rattle.fed_origin.specs.declared.options.ProviderOptions.{ProviderOptions}
use Rattle.fed_origin.specs.declared.stage.ReplyKind.{ReplyKind}
use Rattle.fed_origin.specs.declared.stage.Stage.TheVariants.{Choosing, Prompting, Asserting}
use Rattle.fed_provider.specs.declared.config.Config.{Config}
use Rattle.fed_consent.specs.declared.table.ask.Ask.TheVariants as asks
use Rattle.fed_consent.specs.declared.table.input.Input.{Input}
use Rattle.fed_consent.specs.declared.table.input.Input.TheVariants as inputs
use Rattle.fed_consent.specs.Consent.{AssertionFields, Choices, Pick, chosen, is_pick, reselection_on}
use Rattle.fed_consent.specs.Outcomes.{Outcome}
use Rattle.fed_status.specs.Flags.{has_flag}
use Rattle.fed_status.specs.Shared.{World}
use Rattle.fed_call.specs.declared.progress.Progress.{Progress}
use Rattle.fed_call.specs.declared.progress.Progress.TheVariants as progress_is
use Rattle.fed_call.specs.Accounts.{Offered, provider_at}
use Rattle.fed_call.specs.AssertingRows.{pick_of}
use Rattle.fed_call.specs.Facts.{Facts, Reselects, at_stage, conclusion_of, found_offered}
use Rattle.fed_script.specs.declared.event.Event.{Event}
use Rattle.fed_script.specs.declared.event.Event.TheVariants as events
use Rattle.fed_script.specs.declared.event.Event.TheVariants.{Choose, Reply}
use Rattle.fed_laws.specs.Cause.{Agreed, ByChoice, BySinglePrompt, ByChosenPrompt, IsReady, UserCause, PermissionCause, AssertionCause}
use Rattle.fed_laws.specs.Cause.{ByUser}
use Rattle.fed_laws.specs.Cause.{ByPermission, Settled, SaysOf, SaysWhy, all_settled, choices_of, config_at, is_going, offers_from}
use Rattle.fed_trace.specs.OfCall.{Has, asked, call_at}
use Rattle.fed_trace.specs.Begun.{Begun, CallKind, ToGet, kind_asked}
use Rattle.fed_trace.specs.Call.{first_row}
use Rattle.fed_trace.specs.Effect.{Effect, Sent}
use Rattle.fed_trace.specs.Known.{world_at, facts_at}
use Rattle.fed_laws.specs.Laws.{HasCause, OfRuns, at}
use Rattle.fed_trace.specs.Row.{effects_of, cookies_with, outcome_effects, with_event, IsNew}
use Rattle.fed_trace.specs.Trace.{Row, Trace, flags, kept}
use Rattle.fed_laws.proofs.pending.Asked.{asks_first, invariant}
use Rattle.fed_laws.proofs.pending.Begun.{first_asks_none}
use Rattle.fed_trace.proofs.happens.First.{first_turn}
use Rattle.fed_trace.proofs.happens.First as starts
use Rattle.fed_trace.proofs.happens.Gets.{others_ask}
use Rattle.fed_laws.proofs.pending.Stood.{Invariant, Stood}
use Rattle.fed_trace.proofs.happens.Taken.{Meets, outcome_of}
use Rattle.fed_laws.proofs.pending.Taken.{asks_at}
use Rattle.fed_trace.proofs.happens.Ends.{Happens, Left, Ends, Started, Took, Resumed, Starts, Takes, event_for}
use Rattle.fed_trace.proofs.happens.Happens.{happens}
use Rattle.fed_trace.proofs.happens.Says.{own, outcome_asks}
use Rattle.fed_laws.proofs.causes.Cause.{Caused, Opened, Path, Alone, AfterChoice, Prompts, settled_call}
use Rattle.fed_laws.proofs.causes.Caused.{caused}
use Rattle.fed_laws.proofs.causes.Come.{AllDone, get_other, get_own, settled_before, undone}
use Rattle.fed_laws.proofs.causes.Dialog.{Step, done_then}
use Rattle.fed_laws.proofs.causes.Known.{ConfigsKnown, Names, OfferedIs, found_known, found_names, reselected_known}
use Rattle.fed_laws.proofs.tokens.Token.{row_of_trace, says_none, says_one}
use Rattle.fed_laws.proofs.turns.Settle.{found_chosen, permission_named}
use Rattle.fed_laws.proofs.turns.Turn.{AsksToken, Turn, Asks, Gives, Goes, Reason, Chose, WentOn, Suffices, disclosed, told}
use Rattle.fed_laws.proofs.turns.Turn.{request_of, reselects, settling_at, turn_at}
use Rattle.fed_laws.proofs.turns.Way.{Drops, Elsewhere, First, Gets, Hearing, Picks, Readies, SettlesOne, SettlesSo, Settling, Unmoved, Way}
use Rattle.fed_laws.proofs.turns.Way.{is_first, way_at}

-- ---- the cause

-- what stands of the call whose row asks for a token
pub record AskingStep (T : Trace) (event : Event) (call : ℕ) (f : Facts) : Type 0 where
  pub meets : Meets T event call f
  pub stood : Stood T call f
  pub caused : Caused T call f
  pub asks : AsksToken (world_at T) f meets.takes.input (outcome_of T f meets.takes.input)

-- how the call began, as the cause has it
same_begun : (T : Trace) (call : ℕ) (f : Facts) → (s : Stood T call f) → (begun : Begun) → call_at T.rows call ≡ Some begun
    → s.begun ≡ begun
same_begun T call f s begun began = let same : Some s.begun ≡ Some begun = sym s.began ∙ began in cc

same_get : (T : Trace) (call : ℕ) (f : Facts) → (s : Stood T call f) → (begun : Begun) (get : GetOptions)
    → call_at T.rows call ≡ Some begun → begun.options ≡ ToGet get → f.options ≡ get
same_get T call f s begun get began is_get =
    let asked_is : ToGet s.get ≡ ToGet get = sym s.is_get ∙ ap (λ b. b.options) (same_begun T call f s begun began) ∙ is_get in
    let get_is : s.get ≡ get = cc in
    s.of_options ∙ get_is

length_map : {A B : Type 0} (g : A → B) (xs : List A) → length (map g xs) ≡ length xs
length_map g [] = refl
length_map g (x ∷ xs) = ap suc (length_map g xs)

-- the metadata are ready by the rows too
ready_by : (n m place : ℕ) (config : Config) (since : List Row) → n ≡ m → IsReady n place config since → IsReady m place config since
ready_by n m place config since call_is ready = subst (λ c. IsReady c place config since) call_is ready

module _ (T : Trace) (event : Event) (call : ℕ) (f : Facts) (s : AskingStep T event call f) where
  abbrev world : World
  world = world_at T

  abbrev input : Input
  input = s.meets.takes.input

  abbrev o : Outcome
  o = outcome_of T f input

  abbrev offered : Offered
  offered = s.asks.offered

  abbrev id : List ℕ
  id = offered.candidate.account.id

  abbrev made : AssertionFields
  made = request_of f offered s.asks.manner s.asks.disclosure

  -- the cause is for the account that the user agreed to, whose configuration is known
  record ByWord : Type 0 where
    cause : UserCause T event call offered.place id
    is_pick_of : cause.pick ≡ pick_of f offered
    known : OfferedIs T.rows call f.options offered

  config_of : (settled : Settled T call) → OfferedIs T.rows call f.options offered
      → config_at T.rows call offered.place settled.last.get ≡ Some offered.config
  config_of settled known =
      sym (known.config
      ∙ ap (config_at T.rows call offered.place)
      (same_get T call f s.stood settled.last.begun settled.last.get settled.last.began settled.last.is_get))

  by_choice : (place : ℕ) (named : List ℕ) → f.stage ≡ Choosing → input ≡ inputs.Choose place named
      → found_offered place named f ≡ Some offered → offered.candidate.connected ≡ true → ByWord
  by_choice place named at is_choice found connected =
      record {
        cause = record {
          settled = opened.settled;
          pick = pick_of f offered;
          is_offered =
              ap (λ p. chosen p id choices) (sym names.place_is) ∙ ap (λ i. chosen place i choices) names.id_is
              ∙ ap (find (is_pick place named)) opened.offers ∙ found_chosen f place named f.offered
              ∙ ap (option_map (pick_of f)) found;
          first = asks_first T call f input o s.stood s.asks;
          config = offered.config;
          is_configured =
              config_of opened.settled (found_known (OfferedIs T.rows call f.options) _ f.offered offered opened.known found);
          agreed =
              ByChoice (subst (λ ps. 2 ≤ length ps) (sym opened.offers) (subst (λ n. 2
              ≤ n) (sym (length_map (pick_of f) f.offered)) opened.several))
              (chose ∙ ap (λ c. Choose c place named) (sym (settled_call T call f s.stood opened.settled))
              ∙ ap (λ p. Choose choices.call p named) names.place_is ∙ ap (λ i. Choose choices.call offered.place i) (sym names.id_is))
              opened.unchosen connected;
        };
        is_pick_of = refl;
        known = found_known (OfferedIs T.rows call f.options) _ f.offered offered opened.known found;
      }
    where
      opened : Opened T call f
      opened = s.caused.choosing at

      choices : Choices
      choices = choices_of T call opened.settled

      names : Names place named offered
      names = found_names place named f.offered offered found

      chose : event ≡ Choose call place named
      chose = let came : Some event ≡ Some (Choose call place named) = s.meets.takes.is_event ∙ ap (event_for call) is_choice in cc

  by_prompt : f.stage ≡ Prompting → input ≡ inputs.GoOn → f.waits ≡ false → f.picked ≡ Some offered → ByWord
  by_prompt at is_word ready picked =
      record {
        cause = record {
          settled = prompts.settled;
          pick = pick_of f offered;
          is_offered = subst (λ x. chosen x.place x.candidate.account.id choices ≡ Some (pick_of f x)) offered_is prompts.is_offered;
          first = asks_first T call f input o s.stood s.asks;
          config = offered.config;
          is_configured = config_of prompts.settled known;
          agreed = agreed (subst (λ x. Path f.waits call x (pick_of f x) choices prompts.settled.since) offered_is prompts.path);
        };
        is_pick_of = refl;
        known = known;
      }
    where
      prompts : Prompts T call f
      prompts = s.caused.prompting at

      choices : Choices
      choices = choices_of T call prompts.settled

      offered_is : prompts.offered ≡ offered
      offered_is = let both : Some prompts.offered ≡ Some offered = sym prompts.picked ∙ picked in cc

      known : OfferedIs T.rows call f.options offered
      known = subst (OfferedIs T.rows call f.options) offered_is prompts.known

      call_is : call ≡ choices.call
      call_is = sym (settled_call T call f s.stood prompts.settled)

      went_on : event ≡ events.GoOn choices.call
      went_on =
          let came : Some event ≡ Some (events.GoOn call) = s.meets.takes.is_event ∙ ap (event_for call) is_word in
          let is : event ≡ events.GoOn call = cc in
          is ∙ ap events.GoOn call_is

      agreed : Path f.waits call offered (pick_of f offered) choices prompts.settled.since
          → Agreed event id choices (pick_of f offered) offered.config prompts.settled.since
      agreed (Alone one when_ready) = BySinglePrompt went_on one (alone (when_ready ready))
        where
          alone : (offered.candidate.connected ≡ true) ⊎ IsReady call offered.place offered.config prompts.settled.since
              → (offered.candidate.connected ≡ true) ⊎ IsReady choices.call offered.place offered.config prompts.settled.since
          alone (inl connected) = inl connected
          alone (inr is) = inr (ready_by call choices.call offered.place offered.config prompts.settled.since call_is is)
      agreed (AfterChoice choice when_ready) =
          ByChosenPrompt went_on choice
          (ready_by call choices.call offered.place offered.config choice.after call_is (when_ready ready))

  -- ---- by a permission

  -- where an account is reselected, a provider is settled
  settles_it : (place : ℕ) (kind : ReplyKind) (raw : List ℕ) → input ≡ inputs.Reply place kind raw → Way world f input o
      → (is_first f.stage ≡ true) × SettlesOne world f input o
  settles_it place kind raw is_reply (Elsewhere dead (inl none) plain over) =
      let no : [] ≡ (offered.place, made) ∷ [] = sym none ∙ s.asks.is.asks_it in absurd (cc)
  settles_it place kind raw is_reply (Elsewhere dead (inr word) plain over) =
      let no : true ≡ false = sym (ap reselects is_reply) ∙ word in absurd (cc)
  settles_it place kind raw is_reply (First first then says told_is) =
      let no : true ≡ false = sym then ∙ ap (λ st. is_first (unwrap_or st f.stage)) s.asks.is.stage in absurd (cc)
  settles_it place kind raw is_reply (Hearing first then h) =
      let no : true ≡ false = sym then ∙ ap (λ st. is_first (unwrap_or st f.stage)) s.asks.is.stage in absurd (cc)
  settles_it place kind raw is_reply (Settling first t) = (first, t)
  settles_it place kind raw is_reply (Picks at stage t plain) =
      let no : Some Prompting ≡ Some Asserting = sym stage ∙ s.asks.is.stage in absurd (cc)
  settles_it place kind raw is_reply (Readies at stage t plain) =
      let no : Prompting ≡ Asserting = sym stage ∙ ap (λ st. unwrap_or st f.stage) s.asks.is.stage in absurd (cc)
  settles_it place kind raw is_reply (Unmoved later stage brings plain told_is none) =
      let no : None ≡ Some Asserting = sym stage ∙ s.asks.is.stage in absurd (cc)

  -- the call after the row
  abbrev asserting : Facts
  asserting = record (told world f input o) { stage = Asserting }

  abbrev step : Step T 0 event call f asserting
  step =
      record {
        meets = s.meets;
        stood = s.stood;
        caused = s.caused;
        now = ap (λ st. at_stage (unwrap_or st f.stage) (told world f input o)) s.asks.is.stage;
      }

  -- what stands where a permission suffices
  record ByItself : Type 0 where
    cause : PermissionCause T event call offered.place id
    known : OfferedIs T.rows call f.options offered

  by_permission : (place : ℕ) (kind : ReplyKind) (raw : List ℕ) (progress : Progress) → input ≡ inputs.Reply place kind raw
      → settling_at world f place kind raw ≡ Some progress
      → conclusion_of world f.origin f.options (slice_set f.progress place progress) ≡ Reselects offered
      → (is_first f.stage ≡ true) × SettlesOne world f input o → ByItself
  by_permission place kind raw progress is_reply settling_is named it =
      record {
        cause = record {
          line = 0;
          last = record {
            begun = s.stood.begun;
            began = s.stood.began;
            get = s.stood.get;
            is_get = s.stood.is_get;
            settlements = d.settlements;
            all = subst (λ g. all_settled call 0 g.providers (with_event T 0 event).rows ≡ Some d.settlements) s.stood.of_options d.all;
            not_before =
                subst (λ g. all_settled call 0 g.providers T.rows ≡ None) s.stood.of_options
                (undone T.rows call f.options t.place t.q t.has (settled_before T 0 event call f s.meets t (s.caused.come it.0)));
          };
          first = asks_first T call f input o s.stood s.asks;
          pick = pick_of f offered;
          names =
              ap (λ n. reselection_on (record {
                call = n;
                offers =
                    offers_from (kept T) s.stood.begun.origin 0 s.stood.get.providers d.settlements;
                flag =
                    has_flag (flags T) s.stood.begun.origin;
                mediation = s.stood.get.mediation;
              }))
              (sym s.stood.of_call)
              ∙ ap (λ p. reselection_on (record {
                call = f.call;
                offers =
                    offers_from (kept T) p 0 s.stood.get.providers d.settlements;
                flag = has_flag (flags T) p;
                mediation =
                    s.stood.get.mediation;
              }))
              (sym s.stood.of_origin)
              ∙ ap (λ (g : GetOptions). reselection_on (record {
                call = f.call;
                offers =
                    offers_from (kept T) f.origin 0 g.providers d.settlements;
                flag = has_flag (flags T) f.origin;
                mediation = g.mediation;
              }))
              (sym s.stood.of_options)
              ∙ permission_named world f (slice_set f.progress t.place t.progress) d.settlements offered d.so named_it;
          is_provider = refl;
          is_account = refl;
        };
        known = reselected_known T.rows call world f (slice_set f.progress t.place t.progress) offered configs named_it;
      }
    where
      t : SettlesOne world f input o
      t = it.1

      reply_is : inputs.Reply place kind raw ≡ inputs.Reply t.place t.kind t.raw
      reply_is = sym is_reply ∙ t.is_reply

      progress_is_it : progress ≡ t.progress
      progress_is_it =
          let p : place ≡ t.place = cc in
          let k : kind ≡ t.kind = cc in
          let r : raw ≡ t.raw = cc in
          let both : Some progress ≡ Some t.progress =
          sym settling_is ∙ ap (λ n. settling_at world f n kind raw) p ∙ ap (λ n. settling_at world f t.place n raw) k
          ∙ ap (λ n. settling_at world f t.place t.kind n) r ∙ t.settles_it in
          cc

      named_it : conclusion_of world f.origin f.options (slice_set f.progress t.place t.progress) ≡ Reselects offered
      named_it =
          let p : place ≡ t.place = cc in
          ap (λ g. conclusion_of world f.origin f.options (slice_set f.progress t.place g)) (sym progress_is_it)
          ∙ ap (λ n. conclusion_of world f.origin f.options (slice_set f.progress n progress)) (sym p) ∙ named

      d : AllDone (with_event T 0 event).rows call 0 f.options.providers (slice_set f.progress t.place t.progress)
      d = done_then T 0 event call f asserting step it.0 t (Reselects offered) (λ h. cc) named_it

      -- before the row the configurations were known
      configs : ConfigsKnown T.rows call f.options (slice_set f.progress t.place t.progress)
      configs n q c accounts has is = go (nat_eq n t.place) refl
        where
          by : (q' : ProviderOptions) → provider_at t.place f.options ≡ Some q' → t.progress ≡ progress_is.Listed c accounts
              → SettlesSo f t.place t.q t.kind t.raw t.progress o → Some c ≡ config_at T.rows call t.place f.options
          by q' has' same (Drops failure dropped was dropping) =
              let no : progress_is.Dropped failure ≡ progress_is.Listed c accounts = sym dropped ∙ same in absurd (cc)
          by q' has' same (Gets config accounts' rest listed lists o_is dropping) =
              let both : progress_is.Listed config accounts' ≡ progress_is.Listed c accounts = sym listed ∙ same in
              let config_is : config ≡ c = cc in
              ap Some (sym config_is) ∙ ((s.caused.come it.0).come t.place q' (progress_is.Listing config) has' lists.is).1

          go : (b : Bool) → nat_eq n t.place ≡ b → Some c ≡ config_at T.rows call n f.options
          go false ne =
              ((s.caused.come it.0).come n q (progress_is.Listed c accounts) has (sym (get_other f.progress t.place n t.progress ne)
              ∙ is)).1
          go true same =
              let n_is : n ≡ t.place = grind (arith, nat_tests, same) in
              subst (λ m. Some c ≡ config_at T.rows call m f.options) (sym n_is)
              (by q (subst (λ m. provider_at m f.options ≡ Some q) n_is has)
              (get_own f.progress t.place t.progress (progress_is.Listed c accounts)
              (subst (λ m. slice_get (slice_set f.progress t.place t.progress) m ≡ Some (progress_is.Listed c accounts)) n_is is)) t.so)

  -- ---- the request

  -- what the user was shown is by the event
  reason_disclosed : Reason world f input offered → disclosed input offered ≡ (is_going event && not offered.candidate.connected)
  reason_disclosed (Chose place named at is_choice found connected) =
      let came : Some event ≡ Some (Choose call place named) = s.meets.takes.is_event ∙ ap (event_for call) is_choice in
      let chose : event ≡ Choose call place named = cc in
      ap (λ i. disclosed i offered) is_choice ∙ ap (λ e. is_going e && not offered.candidate.connected) (sym chose)
  reason_disclosed (WentOn at is_word ready picked) =
      let came : Some event ≡ Some (events.GoOn call) = s.meets.takes.is_event ∙ ap (event_for call) is_word in
      let went_on : event ≡ events.GoOn call = cc in
      ap (λ i. disclosed i offered) is_word ∙ ap (λ e. is_going e && not offered.candidate.connected) (sym went_on)
  reason_disclosed (Suffices place kind raw progress open_still is_reply settling_is named) =
      let came : Some event ≡ Some (Reply call place kind raw) = s.meets.takes.is_event ∙ ap (event_for call) is_reply in
      let reply : event ≡ Reply call place kind raw = cc in
      ap (λ i. disclosed i offered) is_reply ∙ ap (λ e. is_going e && not offered.candidate.connected) (sym reply)

  -- what the request says, by how the call began
  says_by : (begun : Begun) (get : GetOptions) → call_at T.rows call ≡ Some begun → begun.options ≡ ToGet get
      → OfferedIs T.rows call f.options offered
      → (auto disclosure : Bool) → reselects input ≡ auto → disclosed input offered ≡ disclosure
      → SaysOf T.rows call offered.place begun get id auto disclosure made
  says_by begun get began is_get known auto disclosure is_auto is_disclosed =
      record {
        options = offered.options;
        has_provider = ap (provider_at offered.place) (sym (same_get T call f s.stood begun get began is_get)) ∙ known.has;
        says = record {
          to =
              ap (option_map (λ c. c.assertion)) (known.config
              ∙ ap (config_at T.rows call offered.place) (same_get T call f s.stood begun get began is_get));
          origin = s.stood.of_origin ∙ ap (λ b. b.origin) (same_begun T call f s.stood begun began);
          client = refl;
          nonce = refl;
          params = refl;
          account = refl;
          auto_is = s.asks.auto ∙ is_auto;
          disclosure_is = s.asks.disclosure_is ∙ is_disclosed;
        };
      }

  -- the cause of the request, which says so
  abbrev CauseSaid : Type 0
  CauseSaid = (cause : AssertionCause T event call offered.place id) × SaysWhy T event call offered.place id cause made

  by_user : ByWord → reselects input ≡ false → CauseSaid
  by_user w by_word = (
    ByUser w.cause,
    says_by w.cause.settled.last.begun w.cause.settled.last.get w.cause.settled.last.began w.cause.settled.last.is_get w.known false
        (is_going event && not w.cause.pick.candidate.connected) by_word
        (reason_disclosed s.asks.reason ∙ ap (λ (p : Pick). is_going event && not p.candidate.connected) (sym w.is_pick_of)),
  )

  by_itself : ByItself → reselects input ≡ true → disclosed input offered ≡ false → CauseSaid
  by_itself p auto hidden =
      let last = p.cause.last in
      (ByPermission p.cause, says_by last.begun last.get last.began last.is_get p.known true false auto hidden)

  cause_said : CauseSaid
  cause_said = go s.asks.reason
    where
      go : Reason world f input offered → CauseSaid
      go (Chose place named at is_choice found connected) =
          by_user (by_choice place named at is_choice found connected) (ap reselects is_choice)
      go (WentOn at is_word ready picked) = by_user (by_prompt at is_word ready picked) (ap reselects is_word)
      go (Suffices place kind raw progress open_still is_reply settling_is named) =
          by_itself (by_permission place kind raw progress is_reply settling_is named (settles_it place kind raw is_reply
          (way_at world f input)))
          (ap reselects is_reply) (ap (λ i. disclosed i offered) is_reply)

  -- the configuration and the provider of the account
  pub known_now : OfferedIs T.rows call f.options offered
  known_now = go s.asks.reason
    where
      go : Reason world f input offered → OfferedIs T.rows call f.options offered
      go (Chose place named at is_choice found connected) = (by_choice place named at is_choice found connected).known
      go (WentOn at is_word ready picked) = (by_prompt at is_word ready picked).known
      go (Suffices place kind raw progress open_still is_reply settling_is named) =
          (by_permission place kind raw progress is_reply settling_is named (settles_it place kind raw is_reply
          (way_at world f input))).known

-- ---- every row

-- the cause of a request, which says so
abbrev RequestCause : Trace → Event → ℕ → ℕ → List ℕ → AssertionFields → Type 0
RequestCause T event call provider id ask = (cause : AssertionCause T event call provider id) × SaysWhy T event call provider id cause ask

-- a request for a token is by an input of the call
asked_by : (T : Trace) (event : Event) (kind : CallKind) (call provider : ℕ) (ask : AssertionFields) (cookies : List ℕ)
    → IsNew T.rows event
    → Invariant T call
    → ((f : Facts) → facts_at T call ≡ Some f → Caused T call f)
    → Has (effects_of T event) (Sent kind call provider (asks.Assertion ask) cookies)
    → RequestCause T event call provider ask.account ask
asked_by T event kind call provider ask cookies new h caused has = go (happens T event call)
  where
    sent : Effect
    sent = Sent kind call provider (asks.Assertion ask) cookies

    is : asked call sent ≡ Some (provider, ask)
    is = ap (λ b. cond b (Some (provider, ask)) None) (own call)

    never : filter_map (asked call) (effects_of T event) ≡ [] → RequestCause T event call provider ask.account ask
    never none = says_none (asked call) (effects_of T event) sent (provider, ask) has is none

    turned : (f : Facts) → (m : Meets T event call f) → Turn (world_at T) f m.takes.input (outcome_of T f m.takes.input)
        → RequestCause T event call provider ask.account ask
    turned f m (Gives finish ended none gives token) = never (asks_at T event call f m ∙ none)
    turned f m (Goes none gives leaves back) = never (asks_at T event call f m ∙ none)
    turned f m (Asks a) =
        let s : AskingStep T event call f = record { meets = m; stood = h.stood f m.found; caused = caused f m.found; asks = a } in
        let made_it : AssertionFields = request_of f a.offered a.manner a.disclosure in
        let both : ◌≡◌ {A = ℕ × AssertionFields} (provider, ask) (a.offered.place, made_it) =
        says_one (asked call) (effects_of T event) sent (provider, ask) (a.offered.place, made_it) has is
        (asks_at T event call f m ∙ a.is.asks_it) in
        let provider_is : provider ≡ a.offered.place = ap (λ x. x.0) both in
        let ask_is : ask ≡ made_it = ap (λ x. x.1) both in
        let said : RequestCause T event call a.offered.place made_it.account made_it = cause_said T event call f s in
        subst (λ p. RequestCause T event call p ask.account ask) (sym provider_is)
        (subst (λ x. RequestCause T event call a.offered.place x.account x) (sym ask_is) said)

    taken : (t : Takes T event call) → (o : Option Facts) → facts_at T call ≡ o → RequestCause T event call provider ask.account ask
    taken t None found = never (others_ask T event call t found)
    taken t (Some f) found = turned f (record { takes = t; found = found }) (turn_at (world_at T) f t.input)

    begins_with : (s : Starts T event call) → RequestCause T event call provider ask.account ask
    begins_with s =
        let o = first_row (world_at T) s.busy s.begun.origin s.begun.options in
        never (ap (filter_map (asked call)) s.effects
        ∙ ap (λ c. filter_map (asked c) (outcome_effects (world_at T) (cookies_with T) (kind_asked s.begun.options) s.begun.call
        s.begun.page o)) (sym s.is_call)
        ∙ outcome_asks (world_at T) (cookies_with T) (kind_asked s.begun.options) s.begun.call s.begun.page o
        ∙ first_asks_none o (first_turn (world_at T) s.busy s.begun.origin s.begun.options
        (starts.is_first T event s.begun.page s.begun.call s.begun.options new s.is_event).some))

    go : Happens T event call → RequestCause T event call provider ask.account ask
    go (Left l) = never l.quiet.asks
    go (Ends e) = never e.asks
    go (Started s) = begins_with s
    go (Took t) = taken t (facts_at T call) refl
    go (Resumed r) = never r.asks

pub cause_lem : OfRuns HasCause
cause_lem T run after before row kind call provider ask cookies is has =
    let r = row_of_trace T after before row run is in
    asked_by (at T before) row.event kind call provider ask cookies r.new (invariant T.header before call r.run)
    (caused T.header before call r.run)
    (subst (λ es. Has es (Sent kind call provider (asks.Assertion ask) cookies)) r.effects has)
