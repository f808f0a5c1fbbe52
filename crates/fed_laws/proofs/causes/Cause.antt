-- What stands of a call, as to the causes of a request for a token.
use Rattle.std.proofs.Common.{◌≡◌, ℕ, Bool, true, false, nat_eq, ◌||◌, ◌&&◌, ◌≤◌, ◌⊎◌, inl, inr}
use Rattle.std.proofs.Common.{List, [], ◌∷◌, ◌++◌, length, map}
use Rattle.std.proofs.Common.{Option, Some, None, refl, sym, ap, subst, ◌∙◌, cond}
use Rattle.std.proofs.lemmas.List.Folds.{list_any-append}
use Rattle.std.specs.Prelude.{option_and_then, is_some}
use Rattle.std.specs.Option.{option_or}
use Rattle.std.specs.List.{filter_map, list_any}
use Rattle.fed_origin.specs.declared.options.GetOptions.{GetOptions}
use Rattle.fed_origin.specs.declared.options.ProviderOptions.{ProviderOptions}
use Rattle.fed_origin.specs.declared.stage.Stage.{Stage}
use Rattle.fed_origin.specs.declared.stage.Stage.TheVariants.{Reading, Gathering, Choosing, Prompting, Ended}
use Rattle.fed_provider.specs.declared.config.Config.{Config}
use Rattle.fed_origin.specs.WebUrl.{origin_of}
use Rattle.fed_consent.specs.declared.table.input.Input.{Input}
use Rattle.fed_consent.specs.declared.table.input.Input.TheVariants as inputs
use Rattle.fed_consent.specs.Consent.{Choices, Pick, chosen, picks}
use Rattle.fed_consent.specs.Outcomes.{Outcome}
use Rattle.fed_call.specs.Accounts.{Offered}
use Rattle.fed_call.specs.AssertingRows.{pick_of}
use Rattle.fed_call.specs.Facts.{Facts, fresh}
use Rattle.fed_call.specs.Progress.{first_progress, is_awaited}
use Rattle.fed_script.specs.declared.event.Event.{Event}
use Rattle.fed_script.specs.declared.event.Event.TheVariants as events
use Rattle.fed_script.specs.declared.event.Header.{Header}
use Rattle.fed_trace.specs.Begun.{CallOptions, ToGet, ToDisconnect, kind_asked}
use Rattle.fed_trace.specs.Call.{get_facts, at_stage, first_row}
use Rattle.fed_trace.specs.Call as first
use Rattle.fed_laws.specs.Cause.{FirstChoice, IsReady, Settled, accounts_reply, choices_of, chooses, config_given, config_taken, drops}
use Rattle.fed_laws.specs.Cause.{is_metadata, logs_in, settled_by, settled_so}
use Rattle.fed_trace.specs.OfCall.{call_at, disturbs, dropped}
use Rattle.fed_trace.specs.Effect.{Ignored, begins, begun_by, is_ignored, last_of}
use Rattle.fed_trace.specs.Known.{world_at, input_to, is_begun, facts_at}
use Rattle.fed_trace.specs.Row.{effects_of, row_of, with_event, cookies_with, outcome_effects, IsNew, IsRun}
use Rattle.fed_trace.specs.Trace.{Row, Trace, begun}
use Rattle.fed_consent.specs.declared.table.why.Why.TheVariants.{NoCall}
use Rattle.fed_laws.proofs.pending.Asked.{row_is}
use Rattle.fed_trace.proofs.happens.First.{FirstTurn, FailsFirst, ReadsFirst, GathersFirst, HasSome, first_turn, is_beginning, known_begun}
use Rattle.fed_trace.proofs.happens.First as starts
use Rattle.fed_laws.proofs.pending.Begun.{or_true}
use Rattle.fed_laws.proofs.pending.Stood.{Stood, calm, left_page, unbegun_before}
use Rattle.fed_trace.proofs.happens.Ends.{Happens, Left, Ends, Started, Took, Resumed, Leaves, Starts}
use Rattle.fed_trace.proofs.happens.Happens.{happens}
use Rattle.fed_trace.proofs.happens.Says.{drop_of, outcome_drops, own}
use Rattle.fed_laws.proofs.causes.Come.{AllCome, Unsaid, all_on, config_on, unsaid_left}
use Rattle.fed_laws.proofs.causes.First.{Unheard, begins_come, get_awaits, get_opens}
use Rattle.fed_laws.proofs.causes.Known.{AllKnown, OfferedIs}
use Rattle.fed_laws.proofs.turns.Way.{is_first}

-- ---- what stands of a call at a dialog

-- how the account of a prompt came to be the one, and what it waits for
pub data Path (waits : Bool) (call : ℕ) (o : Offered) (pick : Pick) (choices : Choices) (since : List Row) : Type 0 where
  Alone : picks choices ≡ pick ∷ []
      → (waits ≡ false → (o.candidate.connected ≡ true) ⊎ IsReady call o.place o.config since)
      → Path waits call o pick choices since
  AfterChoice : (choice : FirstChoice o.place o.candidate.account.id choices since)
      → (waits ≡ false → IsReady call o.place o.config choice.after)
      → Path waits call o pick choices since

-- the user is to choose
pub record Opened (T : Trace) (call : ℕ) (f : Facts) : Type 0 where
  pub settled : Settled T call
  pub offers : picks (choices_of T call settled) ≡ map (pick_of f) f.offered
  pub known : AllKnown T.rows call f.options f.offered
  pub several : 2 ≤ length f.offered
  pub unchosen : list_any (λ row. chooses (choices_of T call settled) row.event) settled.since ≡ false

-- the user is asked about an account
pub record Prompts (T : Trace) (call : ℕ) (f : Facts) : Type 0 where
  pub settled : Settled T call
  pub offered : Offered
  pub picked : f.picked ≡ Some offered
  pub known : OfferedIs T.rows call f.options offered
  pub is_offered : chosen offered.place offered.candidate.account.id (choices_of T call settled) ≡ Some (pick_of f offered)
  pub path : Path f.waits call offered (pick_of f offered) (choices_of T call settled) settled.since

-- what stands of a call, as to the causes of a request for a token
pub record Caused (T : Trace) (call : ℕ) (f : Facts) : Type 0 where
  pub come : is_first f.stage ≡ true → AllCome T.rows call f.options f.progress
  pub awaits : is_first f.stage ≡ true → list_any is_awaited f.progress ≡ true
  pub choosing : f.stage ≡ Choosing → Opened T call f
  pub prompting : f.stage ≡ Prompting → Prompts T call f

-- ---- one row more

-- a row that says nothing of the call's beginning and does not disturb it
unfoldable pub settled_on : (T : Trace) (line : ℕ) (event : Event) (call : ℕ) (f : Facts) → Stood T call f → Settled T call
    → last_of (begins call) (effects_of T event) ≡ None
    → disturbs call f.page (row_of T line event) ≡ false → Settled (with_event T line event) call
settled_on T line event call f s a begins_none calm =
    let same : Some a.last.begun ≡ Some s.begun = sym a.last.began ∙ s.began in
    let begun_is : a.last.begun ≡ s.begun = cc in
    let page_is : f.page ≡ a.last.begun.page = s.of_page ∙ ap (λ b. b.page) (sym begun_is) in
    record {
      since = row_of T line event ∷ a.since;
      settling = a.settling;
      before = a.before;
      rows = ap (λ rs. row_of T line event ∷ rs) a.rows;
      last = record {
        begun = a.last.begun;
        began = ap (λ o. option_or o (call_at T.rows call)) begins_none ∙ a.last.began;
        get = a.last.get;
        is_get = a.last.is_get;
        settlements = a.last.settlements;
        all = a.last.all;
        not_before = a.last.not_before;
      };
      stands =
          ap (λ b. b || list_any (disturbs call a.last.begun.page) (a.since ++ a.settling ∷ [])) (subst
          (λ p. disturbs call p (row_of T line event) ≡ false) page_is calm) ∙ a.stands;
    }

ready_on : (call place : ℕ) (config : Config) (row : Row) (rows : List Row) → IsReady call place config rows
    → IsReady call place config (row ∷ rows)
ready_on call place config row rows (inl none) = inl none
ready_on call place config row rows (inr came) =
    inr (ap (λ b. is_metadata call place row.event || b) came ∙ or_true (is_metadata call place row.event))

-- a row more since a choice
unfoldable pub choice_on : (place : ℕ) (id : List ℕ) (choices : Choices) (row : Row) (since : List Row) → FirstChoice place id choices since
    → FirstChoice place id choices (row ∷ since)
choice_on place id choices row since c =
    record {
      several = c.several;
      after = row ∷ c.after;
      choice = c.choice;
      waiting = c.waiting;
      rows = ap (λ rs. row ∷ rs) c.rows;
      event = c.event;
      first = c.first;
    }

path_on : (waits : Bool) (call : ℕ) (o : Offered) (pick : Pick) (choices : Choices) (row : Row) (since : List Row)
    → Path waits call o pick choices since → Path waits call o pick choices (row ∷ since)
unfolding choice_on
path_on waits call o pick choices row since (Alone one ready) = Alone one (λ h. more (ready h))
  where
    more : (o.candidate.connected ≡ true) ⊎ IsReady call o.place o.config since
        → (o.candidate.connected ≡ true) ⊎ IsReady call o.place o.config (row ∷ since)
    more (inl connected) = inl connected
    more (inr came) = inr (ready_on call o.place o.config row since came)
path_on waits call o pick choices row since (AfterChoice c ready) =
    AfterChoice (choice_on o.place o.candidate.account.id choices row since c)
    (λ h. ready_on call o.place o.config row c.after (ready h))

-- a metadata reply in a row makes the prompt ready
pub path_ready : (waits : Bool) (call : ℕ) (o : Offered) (pick : Pick) (choices : Choices) (row : Row) (since : List Row)
    → is_metadata call o.place row.event ≡ true
    → Path waits call o pick choices since → Path false call o pick choices (row ∷ since)
unfolding choice_on
path_ready waits call o pick choices row since came (Alone one ready) =
    Alone one (λ h. inr (inr (ap (λ b. b || list_any (λ r. is_metadata call o.place r.event) since) came)))
path_ready waits call o pick choices row since came (AfterChoice c ready) =
    AfterChoice (choice_on o.place o.candidate.account.id choices row since c)
    (λ h. inr (ap (λ b. b || list_any (λ r. is_metadata call o.place r.event) c.after) came))

-- what is known of an account stays where no configuration comes
pub offered_on : (rows : List Row) (call : ℕ) (options : GetOptions) (row : Row)
    → ((n : ℕ) → config_given n (list_any is_ignored row.effects) (input_to call row.event) ≡ None)
    → (o : Offered) → OfferedIs rows call options o → OfferedIs (row ∷ rows) call options o
offered_on rows call options row none o is =
    record { has = is.has; config = is.config ∙ sym (config_on call o.place options row rows (none o.place)) }

known_on : (rows : List Row) (call : ℕ) (options : GetOptions) (row : Row)
    → ((n : ℕ) → config_given n (list_any is_ignored row.effects) (input_to call row.event) ≡ None)
    → (os : List Offered) → AllKnown rows call options os → AllKnown (row ∷ rows) call options os
known_on rows call options row none [] known = tt
known_on rows call options row none (o ∷ os) known =
    (offered_on rows call options row none o known.0, known_on rows call options row none os known.1)

-- the call stays at its dialog
pub opened_on : (T : Trace) (line : ℕ) (event : Event) (call : ℕ) (f : Facts) → Stood T call f → (o : Opened T call f)
    → last_of (begins call) (effects_of T event) ≡ None
    → disturbs call f.page (row_of T line event) ≡ false
    → ((n : ℕ) → config_given n (list_any is_ignored (effects_of T event)) (input_to call event) ≡ None)
    → chooses (choices_of T call o.settled) event ≡ false
    → Opened (with_event T line event) call f
unfolding settled_on
opened_on T line event call f s o begins_none calm none unchosen =
    record {
      settled = settled_on T line event call f s o.settled begins_none calm;
      offers = o.offers;
      known = known_on T.rows call f.options (row_of T line event) none f.offered o.known;
      several = o.several;
      unchosen =
          ap (λ b. b || list_any (λ row. chooses (choices_of T call o.settled) row.event) o.settled.since) unchosen ∙ o.unchosen;
    }

pub prompts_on : (T : Trace) (line : ℕ) (event : Event) (call : ℕ) (f : Facts) → Stood T call f → Prompts T call f
    → last_of (begins call) (effects_of T event) ≡ None
    → disturbs call f.page (row_of T line event) ≡ false
    → ((n : ℕ) → config_given n (list_any is_ignored (effects_of T event)) (input_to call event) ≡ None)
    → Prompts (with_event T line event) call f
unfolding settled_on
prompts_on T line event call f s p begins_none calm none =
    record {
      settled = settled_on T line event call f s p.settled begins_none calm;
      offered = p.offered;
      picked = p.picked;
      known = offered_on T.rows call f.options (row_of T line event) none p.offered p.known;
      is_offered = p.is_offered;
      path =
          path_on f.waits call p.offered (pick_of f p.offered) (choices_of T call p.settled) (row_of T line event) p.settled.since p.path;
    }

-- the call of a settlement
pub settled_call : (T : Trace) (call : ℕ) (f : Facts) → Stood T call f → (x : Settled T call) → x.last.begun.call ≡ call
settled_call T call f s x =
    let same : Some x.last.begun ≡ Some s.begun = sym x.last.began ∙ s.began in
    let begun_is : x.last.begun ≡ s.begun = cc in
    sym (sym s.undisturbed.is_it ∙ ap (λ b. b.call) (sym begun_is))

-- ---- the event leaves the call

-- an event that brings the call no input chooses nothing for it
pub unsaid_chooses : (event : Event) (choices : Choices) → input_to choices.call event ≡ None → chooses choices event ≡ false
unsaid_chooses (events.Choose c place id) choices none = go (nat_eq choices.call c) refl
  where
    go : (b : Bool) → nat_eq choices.call c ≡ b → chooses choices (events.Choose c place id) ≡ false
    go false is = ap (λ t. t && is_some (chosen place id choices)) is
    go true is =
        let no : Some (inputs.Choose place id) ≡ None = sym (ap (λ t. cond t (Some (inputs.Choose place id)) None) is) ∙ none in
        absurd (cc)
unsaid_chooses (events.Have have) choices none = refl
unsaid_chooses (events.At time) choices none = refl
unsaid_chooses (events.Load page url raw) choices none = refl
unsaid_chooses (events.ClosePage page) choices none = refl
unsaid_chooses (events.Get page c options) choices none = refl
unsaid_chooses (events.Abort c) choices none = refl
unsaid_chooses (events.Reply c place kind raw) choices none = refl
unsaid_chooses (events.GoOn c) choices none = refl
unsaid_chooses (events.Cancel c) choices none = refl
unsaid_chooses (events.SignIn c) choices none = refl
unsaid_chooses (events.ShutWindow c) choices none = refl
unsaid_chooses (events.IdpClose page) choices none = refl
unsaid_chooses (events.Prevent page) choices none = refl
unsaid_chooses (events.SetStatus page status) choices none = refl
unsaid_chooses (events.Disconnect page c config client hint) choices none = refl

untold : (n : ℕ) (ignored : Bool) → config_given n ignored None ≡ None
untold n true = refl
untold n false = refl

-- no configuration comes by a row that brings the call no input
pub config_none_left : (T : Trace) (event : Event) (call : ℕ) → input_to call event ≡ None → (n : ℕ)
    → config_given n (list_any is_ignored (effects_of T event)) (input_to call event) ≡ None
config_none_left T event call none n =
    ap (config_given n (list_any is_ignored (effects_of T event))) none ∙ untold n (list_any is_ignored (effects_of T event))

-- of a call that stands, an event that leaves it brings no input
pub left_unsaid : (T : Trace) (event : Event) (call : ℕ) (f : Facts) → Stood T call f → Leaves T event call → input_to call event ≡ None
left_unsaid T event call f s l = go l.untaken
  where
    go : (input_to call event ≡ None) ⊎ ((effects_of T event ≡ Ignored NoCall ∷ []) × (is_begun T call ≡ false))
        → input_to call event ≡ None
    go (inl none) = none
    go (inr refused) = let no : true ≡ false = sym s.is_taken ∙ refused.1 in absurd (cc)

pub caused_left : (T : Trace) (line : ℕ) (event : Event) (call : ℕ) (f : Facts) → Stood T call f → Leaves T event call → Caused T call f
    → Caused (with_event T line event) call f
caused_left T line event call f s l c =
    let none = left_unsaid T event call f s l in
    let quiet_row = calm T line event call f.page (left_page T event call f l s) l.quiet.gives in
    record {
      come = λ at.
          all_on T.rows call f.options f.progress (row_of T line event)
          (λ n q. unsaid_left T line event call n q none l.quiet.drops) (c.come at);
      awaits = c.awaits;
      choosing = λ at.
          let o = c.choosing at in
          opened_on T line event call f s o l.quiet.begins_none quiet_row (config_none_left T event call none)
          (unsaid_chooses event (choices_of T call o.settled)
          (ap (λ n. input_to n event) (settled_call T call f s o.settled) ∙ none));
      prompting = λ at.
          prompts_on T line event call f s (c.prompting at) l.quiet.begins_none quiet_row (config_none_left T event call none);
    }

-- ---- the call begins

-- a row that says nothing of a call of which nothing was said
unheard_on : (rows : List Row) (row : Row) (call : ℕ) → ((n : ℕ) (q : ProviderOptions) → Unsaid call n q row)
    → ((n : ℕ) → config_given n (list_any is_ignored row.effects) (input_to call row.event) ≡ None)
    → Unheard rows call → Unheard (row ∷ rows) call
unheard_on rows row call unsaid none h =
    record {
      settles = λ n q. ap (λ o. option_or o (settled_by call n q rows)) (unsaid n q).settles ∙ h.settles n q;
      configures = λ n. ap (λ o. option_or o (config_taken call n rows)) (none n) ∙ h.configures n;
    }

refused_config : (n : ℕ) (input : Option Input) → config_given n true input ≡ None
refused_config n None = refl
refused_config n (Some input) = refl

-- a call that begins was begun then
pub started_begun : (T : Trace) (line : ℕ) (event : Event) (call : ℕ) → Starts T event call → is_begun (with_event T line event) call ≡ true
started_begun T line event call s =
    subst (λ c. is_begun (with_event T line event) c ≡ true) s.is_call
    (list_any-append (nat_eq s.begun.call) (begun T.rows) (filter_map begun_by (effects_of T event))
    ∙ ap (λ es. list_any (nat_eq s.begun.call) (begun T.rows) || list_any (nat_eq s.begun.call) (filter_map begun_by es)) s.effects
    ∙ ap (λ t. list_any (nat_eq s.begun.call) (begun T.rows) || (t || list_any (nat_eq s.begun.call) (filter_map begun_by
    (outcome_effects (world_at T) (cookies_with T) (kind_asked s.begun.options) s.begun.call s.begun.page
    (first_row (world_at T) s.busy s.begun.origin s.begun.options))))) (own s.begun.call)
    ∙ or_true (list_any (nat_eq s.begun.call) (begun T.rows)))

-- nothing is said of a call that has not begun
unheard_row : (T : Trace) (line : ℕ) (event : Event) (call : ℕ) → is_begun (with_event T line event) call ≡ false
    → Unheard T.rows call → Unheard (with_event T line event).rows call
unheard_row T line event call new h = go (happens T event call)
  where
    silent : input_to call event ≡ None → filter_map (dropped call) (effects_of T event) ≡ [] → Unheard (with_event T line event).rows call
    silent none drops =
        unheard_on T.rows (row_of T line event) call (λ n q. unsaid_left T line event call n q none drops)
        (config_none_left T event call none) h

    refused : effects_of T event ≡ Ignored NoCall ∷ [] → Unheard (with_event T line event).rows call
    refused does =
        let none : (n : ℕ) → config_given n (list_any is_ignored (effects_of T event)) (input_to call event) ≡ None =
        λ n. ap (λ es. config_given n (list_any is_ignored es) (input_to call event)) does ∙ refused_config n (input_to call event) in
        unheard_on T.rows (row_of T line event) call
        (λ n q. record {
          settles =
              ap (λ es. settled_so (drops call n es) (list_any (logs_in (origin_of q.config)) es) (accounts_reply call n event)) does;
          configures = none n;
        })
        none h

    left_by : filter_map (dropped call) (effects_of T event) ≡ []
        → (input_to call event ≡ None) ⊎ ((effects_of T event ≡ Ignored NoCall ∷ []) × (is_begun T call ≡ false))
        → Unheard (with_event T line event).rows call
    left_by drops (inl unsaid) = silent unsaid drops
    left_by drops (inr r) = refused r.0

    go : Happens T event call → Unheard (with_event T line event).rows call
    go (Left l) = left_by l.quiet.drops l.untaken
    go (Ends e) = silent e.unsaid e.drops
    go (Started s) = let no : true ≡ false = sym (started_begun T line event call s) ∙ new in absurd (cc)
    go (Took t) = let no : true ≡ false = sym t.begun ∙ unbegun_before T line event call new in absurd (cc)
    go (Resumed r) = silent (ap (input_to call) r.is_event) r.drops

pub unheard : (header : Header) (rows : List Row) (call : ℕ) → IsRun header rows → list_any (nat_eq call) (begun rows) ≡ false
    → Unheard rows call
unheard header [] call run new = record { settles = λ n q. refl; configures = λ n. refl }
unheard header (row ∷ rows) call run new =
    let T : Trace = record { header = header; rows = rows } in
    let is = row_is T row run.0 in
    let now : is_begun (with_event T row.line row.event) call ≡ false =
    subst (λ r. list_any (nat_eq call) (begun (r ∷ rows)) ≡ false) is new in
    subst (λ r. Unheard (r ∷ rows) call) (sym is)
    (unheard_row T row.line row.event call now (unheard header rows call run.2 (unbegun_before T row.line row.event call now)))

-- the facts of a get that began are those with which it did
pub caused_started : (T : Trace) (line : ℕ) (event : Event) (call : ℕ) (f : Facts) → IsNew T.rows event
    → Unheard T.rows call
    → Starts T event call
    → facts_at (with_event T line event) call ≡ Some f → Caused (with_event T line event) call f
caused_started T line event call f new none s is =
    subst (λ c. Caused (with_event T line event) c f) s.is_call (go s.begun.options refl)
  where
    o : Outcome
    o = first_row (world_at T) s.busy s.begun.origin s.begun.options

    is_own : facts_at (with_event T line event) s.begun.call ≡ Some f
    is_own = subst (λ c. facts_at (with_event T line event) c ≡ Some f) (sym s.is_call) is

    none_own : Unheard T.rows s.begun.call
    none_own = subst (Unheard T.rows) (sym s.is_call) none

    by : (stage : Stage) → o.stage ≡ Some stage → (options : CallOptions) → s.begun.options ≡ options
        → option_and_then get_facts (at_stage stage (first.fresh (world_at T) s.begun.call s.begun.page s.begun.origin options)) ≡ Some f
    by stage at options asked =
        ap (λ x. option_and_then get_facts (at_stage stage (first.fresh (world_at T) s.begun.call s.begun.page s.begun.origin x)))
        (sym asked)
        ∙ ap (option_and_then get_facts) (sym (known_begun T line event s.begun o stage s.effects at)) ∙ is_own

    -- what its providers are then
    come : (options : GetOptions) → s.begun.options ≡ ToGet options → 1 ≤ length options.providers → (stage : Stage)
        → o.stage ≡ Some stage → is_first stage ≡ true
        → AllCome (row_of T line event ∷ T.rows) s.begun.call options (map (first_progress (world_at T) options.mode) options.providers)
    come options asked some stage at first =
        begins_come T line event s.begun.call options none_own
        ((is_beginning event s.begun.page s.begun.call s.begun.options s.is_event).unsaid s.begun.call)
        (λ n q has. ap (list_any (nat_eq n)) (ap (filter_map (dropped s.begun.call)) s.effects
        ∙ outcome_drops (world_at T) (cookies_with T) (kind_asked s.begun.options) s.begun.call s.begun.page o
        ∙ ap (λ x. filter_map drop_of (first_row (world_at T) s.busy s.begun.origin x).effects) asked)
        ∙ get_opens (world_at T) s.busy s.begun.origin options some stage
        (ap (λ x. (first_row (world_at T) s.busy s.begun.origin x).stage) (sym asked) ∙ at) first n q has)

    awaits : (options : GetOptions) → s.begun.options ≡ ToGet options → 1 ≤ length options.providers → (stage : Stage)
        → o.stage ≡ Some stage → is_first stage ≡ true
        → list_any is_awaited (map (first_progress (world_at T) options.mode) options.providers) ≡ true
    awaits options asked some stage at first =
        get_awaits (world_at T) s.busy s.begun.origin options some stage
        (ap (λ x. (first_row (world_at T) s.busy s.begun.origin x).stage) (sym asked) ∙ at) first

    goes_on : (options : GetOptions) → s.begun.options ≡ ToGet options → (stage : Stage) → is_first stage ≡ true
        → AllCome (row_of T line event ∷ T.rows) s.begun.call options (map (first_progress (world_at T) options.mode) options.providers)
        → list_any is_awaited (map (first_progress (world_at T) options.mode) options.providers) ≡ true
        → Some (record (fresh (world_at T) s.begun.call s.begun.page s.begun.origin options) { stage = stage }) ≡ Some f
        → Caused (with_event T line event) s.begun.call f
    goes_on options asked stage first all some whole =
        let same : record (fresh (world_at T) s.begun.call s.begun.page s.begun.origin options) { stage = stage } ≡ f = cc in
        subst (Caused (with_event T line event) s.begun.call) same
        (record {
          come = λ at. all;
          awaits = λ at. some;
          choosing = λ at. let no : false ≡ true = ap is_first (sym at) ∙ first in absurd (cc);
          prompting = λ at. let no : false ≡ true = ap is_first (sym at) ∙ first in absurd (cc);
        })

    of_get : (options : GetOptions) → s.begun.options ≡ ToGet options → 1 ≤ length options.providers → FirstTurn o
        → Caused (with_event T line event) s.begun.call f
    of_get options asked some (FailsFirst failure ended asks gives) =
        let no : None ≡ Some f = by Ended ended (ToGet options) asked in absurd (cc)
    of_get options asked some (ReadsFirst reading asks gives) =
        goes_on options asked Reading refl (come options asked some Reading reading refl) (awaits options asked some Reading reading refl)
        (by Reading reading (ToGet options) asked)
    of_get options asked some (GathersFirst gathering asks gives) =
        goes_on options asked Gathering refl (come options asked some Gathering gathering refl)
        (awaits options asked some Gathering gathering refl)
        (by Gathering gathering (ToGet options) asked)

    some_of : HasSome s.begun.options
    some_of = (starts.is_first T event s.begun.page s.begun.call s.begun.options new s.is_event).some

    go : (options : CallOptions) → s.begun.options ≡ options → Caused (with_event T line event) s.begun.call f
    go (ToGet options) asked =
        of_get options asked (subst HasSome asked some_of)
        (first_turn (world_at T) s.busy s.begun.origin s.begun.options some_of)
    go (ToDisconnect options) asked = over (first_turn (world_at T) s.busy s.begun.origin s.begun.options some_of)
      where
        over : FirstTurn o → Caused (with_event T line event) s.begun.call f
        over (FailsFirst failure ended asks gives) =
            let no : None ≡ Some f = by Ended ended (ToDisconnect options) asked in absurd (cc)
        over (ReadsFirst reading asks gives) =
            let no : None ≡ Some f = by Reading reading (ToDisconnect options) asked in absurd (cc)
        over (GathersFirst gathering asks gives) =
            let no : None ≡ Some f = by Gathering gathering (ToDisconnect options) asked in absurd (cc)
