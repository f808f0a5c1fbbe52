-- What a call offers since its providers were settled.
use Rattle.std.proofs.Common.{◌≡◌, ℕ, Bool, true, false, nat_eq, cond, ◌||◌, ◌&&◌, ◌≤◌, ◌⊎◌, inl, inr, List, [], ◌∷◌, length, map, Option}
use Rattle.std.proofs.Common.{Some, None}
use Rattle.std.proofs.Common.{refl, sym, ap, subst, ◌∙◌, arith}
use Rattle.std.proofs.lemmas.Bool.Decides.{nat_tests}
use Rattle.std.specs.Prelude.{option_map, unwrap_or, is_some, not}
use Rattle.std.specs.List.{filter_map, find, list_any}
use Rattle.url.specs.Parts.{Parts}
use Rattle.fed_origin.specs.declared.stage.ReplyKind.{ReplyKind}
use Rattle.fed_origin.specs.declared.stage.ReplyKind.TheVariants as kinds
use Rattle.fed_origin.specs.declared.stage.Stage.{Stage}
use Rattle.fed_origin.specs.declared.stage.Stage.TheVariants.{Reading, Listing, Gathering, Mismatch, Window, Choosing, Prompting}
use Rattle.fed_origin.specs.declared.stage.Stage.TheVariants.{Asserting, Ended}
use Rattle.fed_provider.specs.declared.config.Config.{Config}
use Rattle.fed_status.specs.Shared.{World}
use Rattle.fed_consent.specs.declared.table.finish.Finish.{Finish}
use Rattle.fed_consent.specs.declared.table.input.Input.{Input}
use Rattle.fed_consent.specs.declared.table.input.Input.TheVariants as inputs
use Rattle.fed_consent.specs.Consent.{Choices, Pick, chosen, is_pick, picks}
use Rattle.fed_consent.specs.Outcomes.{Outcome}
use Rattle.fed_call.specs.Accounts.{Offered, needs_metadata}
use Rattle.fed_call.specs.AssertingRows.{pick_of, picked_at}
use Rattle.fed_call.specs.DialogRows.{metadata_reply}
use Rattle.fed_call.specs.Facts.{Facts, at_stage, with_choice, with_input, with_picked}
use Rattle.fed_call.specs.Row.{stage_reply}
use Rattle.fed_script.specs.declared.event.Event.{Event}
use Rattle.fed_script.specs.declared.event.Event.TheVariants as events
use Rattle.fed_script.specs.declared.event.Event.TheVariants.{Choose}
use Rattle.fed_trace.specs.Known.{world_at, input_to, is_begun, facts_at}
use Rattle.fed_trace.specs.OfCall.{asked, disturbs, is_result, replaces}
use Rattle.fed_trace.specs.Effect.{call_change}
use Rattle.fed_trace.specs.Row.{effects_of, row_of, with_event, IsNew}
use Rattle.fed_trace.specs.Trace.{Row, Trace, pending}
use Rattle.fed_trace.proofs.keyed.Keyed.{distinct_standing, lookup-standing}
use Rattle.fed_trace.proofs.happens.Ends.{Happens, Left, Ends, Started, Took, Resumed, EndsWithPage, event_for}
use Rattle.fed_trace.proofs.happens.First as starts
use Rattle.fed_trace.proofs.happens.Gets.{facts_same}
use Rattle.fed_trace.proofs.happens.Happens.{happens}
use Rattle.fed_trace.proofs.happens.Says.{own, finish_of}
use Rattle.fed_trace.proofs.happens.Taken.{Meets, facts_taken, outcome_of}
use Rattle.fed_laws.specs.Cause.{FirstChoice, IsReady, chooses, is_metadata}
use Rattle.fed_laws.proofs.pending.Resumed.{stage_resumed}
use Rattle.fed_laws.proofs.pending.Stood.{Invariant, Stood, get_at}
use Rattle.fed_laws.proofs.pending.Taken.{asks_at, gives_at}
use Rattle.fed_laws.proofs.causes.Cause.{choice_on, left_unsaid, unsaid_chooses}
use Rattle.fed_laws.proofs.causes.Known.{found_names}
use Rattle.fed_laws.proofs.followed.Itself.{some_none}
use Rattle.fed_laws.proofs.tokens.Answered.{listed_page, not_both, result_disturbs}
use Rattle.fed_laws.proofs.turns.Settle.{found_chosen}
use Rattle.fed_laws.proofs.turns.Turn.{Turn, Asks, Gives, Goes, told, turn_at}
use Rattle.fed_laws.proofs.turns.Way.{ChoosesNone, Elsewhere, First, Hearing, Picks, Readies, Settling, TakesChoice, TakesMetadata}
use Rattle.fed_laws.proofs.turns.Way.{Unmoved, Way}
use Rattle.fed_laws.proofs.turns.Way.{is_first, is_live, way_at}

-- how the account of a prompt came to be the one, and when it waits for nothing
pub data How (waits : Bool) (call : ℕ) (o : Offered) (pick : Pick) (choices : Choices) (since : List Row) : Type 0 where
  AsOnly : picks choices ≡ pick ∷ []
      → ((o.candidate.connected ≡ true) ⊎ IsReady call o.place o.config since → waits ≡ false)
      → How waits call o pick choices since
  AsChosen : (choice : FirstChoice o.place o.candidate.account.id choices since)
      → (IsReady call o.place o.config choice.after → waits ≡ false)
      → How waits call o pick choices since

pub data Offering (f : Facts) (call : ℕ) (choices : Choices) (since : List Row) : Type 0 where
  ToChoose : f.stage ≡ Choosing → picks choices ≡ map (pick_of f) f.offered → 2 ≤ length (picks choices)
      → list_any (λ row. chooses choices row.event) since ≡ false
      → Offering f call choices since
  ToGoOn : (o : Offered) → f.stage ≡ Prompting → f.picked ≡ Some o
      → chosen o.place o.candidate.account.id choices ≡ Some (pick_of f o)
      → How f.waits call o (pick_of f o) choices since → Offering f call choices since

pub record Tracks (T : Trace) (call page : ℕ) (choices : Choices) (since : List Row) : Type 0 where
  pub facts : Facts
  pub found : facts_at T call ≡ Some facts
  pub of_page : facts.page ≡ page
  pub of_choices : choices.call ≡ call
  pub offering : Offering facts call choices since

-- ---- one row more

less_ready : (call place : ℕ) (config : Config) (row : Row) (since : List Row) → is_metadata call place row.event ≡ false
    → IsReady call place config (row ∷ since) → IsReady call place config since
less_ready call place config row since none (inl without) = inl without
less_ready call place config row since none (inr came) =
    inr (sym (ap (λ b. b || list_any (λ r. is_metadata call place r.event) since) none) ∙ came)

how_ready : (waits : Bool) (call : ℕ) (o : Offered) (pick : Pick) (choices : Choices) (row : Row) (since : List Row) (w : Bool)
    → waits ≡ false → How w call o pick choices since → How waits call o pick choices (row ∷ since)
how_ready waits call o pick choices row since w ready (AsOnly one when) = AsOnly one (λ r. ready)
how_ready waits call o pick choices row since w ready (AsChosen choice when) =
    AsChosen (choice_on o.place o.candidate.account.id choices row since choice) (λ r. ready)

how_quiet : (waits : Bool) (call : ℕ) (o : Offered) (pick : Pick) (choices : Choices) (row : Row) (since : List Row)
    → is_metadata call o.place row.event ≡ false
    → How waits call o pick choices since → How waits call o pick choices (row ∷ since)
unfolding choice_on
how_quiet waits call o pick choices row since none (AsOnly one when) = AsOnly one (λ r. when (less r))
  where
    less : (o.candidate.connected ≡ true) ⊎ IsReady call o.place o.config (row ∷ since)
        → (o.candidate.connected ≡ true) ⊎ IsReady call o.place o.config since
    less (inl connected) = inl connected
    less (inr r) = inr (less_ready call o.place o.config row since none r)
how_quiet waits call o pick choices row since none (AsChosen choice when) =
    AsChosen (choice_on o.place o.candidate.account.id choices row since choice)
    (λ r. when (less_ready call o.place o.config row choice.after none r))

how_on : (waits : Bool) (call : ℕ) (o : Offered) (pick : Pick) (choices : Choices) (row : Row) (since : List Row)
    → (is_metadata call o.place row.event ≡ true → waits ≡ false) → How waits call o pick choices since
    → How waits call o pick choices (row ∷ since)
how_on waits call o pick choices row since ready how = go (is_metadata call o.place row.event) refl
  where
    go : (b : Bool) → is_metadata call o.place row.event ≡ b → How waits call o pick choices (row ∷ since)
    go true is = how_ready waits call o pick choices row since waits (ready is) how
    go false is = how_quiet waits call o pick choices row since is how

-- the call stays as it was
offering_on : (f : Facts) (call : ℕ) (choices : Choices) (row : Row) (since : List Row)
    → (f.stage ≡ Choosing → picks choices ≡ map (pick_of f) f.offered → chooses choices row.event ≡ false)
    → ((o : Offered) → f.stage ≡ Prompting → f.picked ≡ Some o → is_metadata call o.place row.event ≡ true → f.waits ≡ false)
    → Offering f call choices since
    → Offering f call choices (row ∷ since)
offering_on f call choices row since none ready (ToChoose at offers two unchosen) =
    ToChoose at offers two (ap (λ b. b || list_any (λ r. chooses choices r.event) since) (none at offers) ∙ unchosen)
offering_on f call choices row since none ready (ToGoOn o at picked is how) =
    ToGoOn o at picked is (how_on f.waits call o (pick_of f o) choices row since (ready o at picked) how)

unsaid_metadata : (event : Event) (call place : ℕ) → input_to call event ≡ None → is_metadata call place event ≡ false
unsaid_metadata (events.Reply c p kind raw) call place none = go (nat_eq call c) refl kind
  where
    go : (b : Bool) → nat_eq call c ≡ b → (kind : ReplyKind) → is_metadata call place (events.Reply c p kind raw) ≡ false
    go false is kinds.Metadata = ap (λ t. t && nat_eq place p) is
    go true is kinds.Metadata =
        let no : Some (inputs.Reply p kind raw) ≡ None = sym (ap (λ t. cond t (Some (inputs.Reply p kind raw)) None) is) ∙ none in
        absurd (cc)
    go b is kinds.WellKnown = refl
    go b is kinds.Config = refl
    go b is kinds.Accounts = refl
    go b is kinds.Assertion = refl
    go b is kinds.Disconnect = refl
unsaid_metadata (events.Have have) call place none = refl
unsaid_metadata (events.At time) call place none = refl
unsaid_metadata (events.Load page url raw) call place none = refl
unsaid_metadata (events.ClosePage page) call place none = refl
unsaid_metadata (events.Get page c options) call place none = refl
unsaid_metadata (events.Abort c) call place none = refl
unsaid_metadata (events.Choose c p id) call place none = refl
unsaid_metadata (events.GoOn c) call place none = refl
unsaid_metadata (events.Cancel c) call place none = refl
unsaid_metadata (events.SignIn c) call place none = refl
unsaid_metadata (events.ShutWindow c) call place none = refl
unsaid_metadata (events.IdpClose page) call place none = refl
unsaid_metadata (events.Prevent page) call place none = refl
unsaid_metadata (events.SetStatus page status) call place none = refl
unsaid_metadata (events.Disconnect page c config client hint) call place none = refl

-- a metadata reply for the call leaves no prompt that waits
ready_reply : (world : World) (f : Facts) (o : Offered) (raw : List ℕ) → f.picked ≡ Some o → (waits : Bool) → f.waits ≡ waits
    → told world f (inputs.Reply o.place kinds.Metadata raw) (metadata_reply world f waits (picked_at o.place f.picked) raw) ≡ f
    → f.waits ≡ false
ready_reply world f o raw picked false is same = is
ready_reply world f o raw picked true is same =
    ap (λ g. g.waits) (sym (sym (ap (λ x. told world f (inputs.Reply o.place kinds.Metadata raw)
    (metadata_reply world f true x raw)) here) ∙ same))
  where
    here : picked_at o.place f.picked ≡ Some o
    here = ap (picked_at o.place) picked ∙ ap (λ b. cond b (Some o) None) (own o.place)

ready_by_reply : (T : Trace) (event : Event) (call : ℕ) (f : Facts) (o : Offered) (input : Input) → Some event ≡ event_for call input
    → f.stage ≡ Prompting → f.picked ≡ Some o
    → told (world_at T) f input (outcome_of T f input) ≡ f → is_metadata call o.place event ≡ true → f.waits ≡ false
ready_by_reply T event call f o (inputs.Reply place kind raw) is at picked same came = go kind refl
  where
    reply : event ≡ events.Reply call place kind raw
    reply = cc

    place_is : kind ≡ kinds.Metadata → place ≡ o.place
    place_is k =
        let both : nat_eq call call && nat_eq o.place place ≡ true =
        sym (ap (is_metadata call o.place) reply ∙ ap (λ x. is_metadata call o.place (events.Reply call place x raw)) k) ∙ came in
        grind (arith, nat_tests, both)

    other : (x : ReplyKind) → kind ≡ x → is_metadata call o.place (events.Reply call place x raw) ≡ false → f.waits ≡ false
    other x k none =
        let no : false ≡ true =
        sym none ∙ sym (ap (is_metadata call o.place) reply ∙ ap (λ y. is_metadata call o.place (events.Reply call place y raw)) k)
        ∙ came in
        absurd (cc)

    go : (x : ReplyKind) → kind ≡ x → f.waits ≡ false
    go kinds.Metadata k =
        let here = subst (λ p. told (world_at T) f (inputs.Reply p kinds.Metadata raw) (outcome_of T f
        (inputs.Reply p kinds.Metadata raw)) ≡ f)
        (place_is k)
        (subst (λ x. told (world_at T) f (inputs.Reply place x raw) (outcome_of T f (inputs.Reply place x raw)) ≡ f) k same) in
        ready_reply (world_at T) f o raw picked f.waits refl
        (subst (λ st. told (world_at T) f (inputs.Reply o.place kinds.Metadata raw) (stage_reply
        (world_at T) f st o.place kinds.Metadata raw) ≡ f)
        at here)
    go kinds.WellKnown k = other kinds.WellKnown k refl
    go kinds.Config k = other kinds.Config k refl
    go kinds.Accounts k = other kinds.Accounts k refl
    go kinds.Assertion k = other kinds.Assertion k refl
    go kinds.Disconnect k = other kinds.Disconnect k refl
ready_by_reply T event call f o (inputs.Choose place id) is at picked same came =
    let k : event ≡ events.Choose call place id = cc in let no : false ≡ true = ap (is_metadata call o.place) (sym k) ∙ came in absurd (cc)
ready_by_reply T event call f o inputs.GoOn is at picked same came =
    let k : event ≡ events.GoOn call = cc in let no : false ≡ true = ap (is_metadata call o.place) (sym k) ∙ came in absurd (cc)
ready_by_reply T event call f o inputs.Cancel is at picked same came =
    let k : event ≡ events.Cancel call = cc in let no : false ≡ true = ap (is_metadata call o.place) (sym k) ∙ came in absurd (cc)
ready_by_reply T event call f o inputs.Abort is at picked same came =
    let k : event ≡ events.Abort call = cc in let no : false ≡ true = ap (is_metadata call o.place) (sym k) ∙ came in absurd (cc)
ready_by_reply T event call f o inputs.SignIn is at picked same came =
    let k : event ≡ events.SignIn call = cc in let no : false ≡ true = ap (is_metadata call o.place) (sym k) ∙ came in absurd (cc)
ready_by_reply T event call f o inputs.Shut is at picked same came =
    let k : event ≡ events.ShutWindow call = cc in let no : false ≡ true = ap (is_metadata call o.place) (sym k) ∙ came in absurd (cc)
ready_by_reply T event call f o inputs.Resume is at picked same came = let no : Some event ≡ None = is in absurd (cc)

-- an input that chooses none of the accounts is no choice of one
chooses_no_account : (event : Event) (call : ℕ) (f : Facts) (input : Input) (choices : Choices) → Some event ≡ event_for call input
    → picks choices ≡ map (pick_of f) f.offered → ChoosesNone f input → chooses choices event ≡ false
chooses_no_account event call f (inputs.Choose place id) choices is offers none =
    let chose : event ≡ Choose call place id = cc in
    ap (chooses choices) chose
    ∙ ap (λ x. nat_eq choices.call call && is_some x)
    (ap (find (is_pick place id)) offers ∙ found_chosen f place id f.offered ∙ ap (option_map (pick_of f)) (none place id refl))
    ∙ and_false (nat_eq choices.call call)
  where
    and_false : (b : Bool) → b && false ≡ false
    and_false true = refl
    and_false false = refl
chooses_no_account event call f (inputs.Reply place kind raw) choices is offers none =
    let came : event ≡ events.Reply call place kind raw = cc in ap (chooses choices) came
chooses_no_account event call f inputs.GoOn choices is offers none = let came : event ≡ events.GoOn call = cc in ap (chooses choices) came
chooses_no_account event call f inputs.Cancel choices is offers none = let came : event
    ≡ events.Cancel call = cc in ap (chooses choices) came
chooses_no_account event call f inputs.Abort choices is offers none = let came : event ≡ events.Abort call = cc in ap (chooses choices) came
chooses_no_account event call f inputs.SignIn choices is offers none = let came : event
    ≡ events.SignIn call = cc in ap (chooses choices) came
chooses_no_account event call f inputs.Shut choices is offers none = let came : event
    ≡ events.ShutWindow call = cc in ap (chooses choices) came
chooses_no_account event call f inputs.Resume choices is offers none = let no : Some event ≡ None = is in absurd (cc)

pub needs_back : (connected : Bool) (endpoint : Option Parts) → (connected ≡ true) ⊎ (endpoint ≡ None)
    → needs_metadata connected endpoint ≡ false
needs_back true endpoint h = refl
needs_back false endpoint (inl connected) = absurd (cc)
needs_back false None (inr h) = refl
needs_back false (Some to) (inr h) = absurd (cc)

-- ---- at a dialog

at_dialog : (f : Facts) (call : ℕ) (choices : Choices) (since : List Row) → Offering f call choices since
    → (f.stage ≡ Choosing) ⊎ (f.stage ≡ Prompting)
at_dialog f call choices since (ToChoose at offers two unchosen) = inl at
at_dialog f call choices since (ToGoOn o at picked is how) = inr at

not_so : {A : Type 0} (P : Stage → Bool) (f : Facts) (b : Bool) → P Choosing ≡ b → P Prompting ≡ b
    → (f.stage ≡ Choosing) ⊎ (f.stage ≡ Prompting) → P f.stage ≡ not b → A
not_so P f true c p (inl at) h = let no : true ≡ false = sym c ∙ ap P (sym at) ∙ h in absurd (cc)
not_so P f true c p (inr at) h = let no : true ≡ false = sym p ∙ ap P (sym at) ∙ h in absurd (cc)
not_so P f false c p (inl at) h = let no : false ≡ true = sym c ∙ ap P (sym at) ∙ h in absurd (cc)
not_so P f false c p (inr at) h = let no : false ≡ true = sym p ∙ ap P (sym at) ∙ h in absurd (cc)

dead_is : (stage : Stage) → is_live stage ≡ false → (stage ≡ Asserting) ⊎ (stage ≡ Ended)
dead_is Asserting h = inl refl
dead_is Ended h = inr refl
dead_is Reading h = absurd (cc)
dead_is Listing h = absurd (cc)
dead_is Gathering h = absurd (cc)
dead_is Mismatch h = absurd (cc)
dead_is Window h = absurd (cc)
dead_is Choosing h = absurd (cc)
dead_is Prompting h = absurd (cc)

-- ---- an input

module _ (T : Trace) (line : ℕ) (event : Event) (call page : ℕ) (choices : Choices) (since : List Row)
    (k : Tracks T call page choices since)
    (calm : disturbs call page (row_of T line event) ≡ false) (quiet : filter_map (asked call) (effects_of T event) ≡ [])
    (m : Meets T event call k.facts) where
  abbrev f : Facts
  f = k.facts

  abbrev Next : Type 0
  Next = Tracks (with_event T line event) call page choices (row_of T line event ∷ since)

  dialog : (f.stage ≡ Choosing) ⊎ (f.stage ≡ Prompting)
  dialog = at_dialog f call choices since k.offering

  abbrev o : Outcome
  o = outcome_of T f m.takes.input

  abbrev told_now : Facts
  told_now = told (world_at T) f m.takes.input o

  picks_one : (t : TakesChoice f m.takes.input o) → o.stage ≡ Some Prompting → picks choices ≡ map (pick_of f) f.offered
      → 2 ≤ length (picks choices) → list_any (λ row. chooses choices row.event) since ≡ false → Next
  unfolding choice_on
  picks_one t to offers two unchosen =
      let names = found_names t.place t.id f.offered t.offered t.is in
      let came : Some event ≡ Some (Choose call t.place t.id) = m.takes.is_event ∙ ap (event_for call) t.is_choice in
      let chose : event ≡ Choose call t.place t.id = cc in
      let told_is : told_now ≡ with_picked t.offered f =
      ap (λ b. with_input (world_at T) b m.takes.input f) t.taken ∙ ap (λ i. with_input (world_at T) false i f) t.is_choice
      ∙ ap (λ x. with_choice x f) t.is in
      record {
        facts = record (with_picked t.offered f) { stage = Prompting };
        found =
            facts_taken T line event call f m ∙ ap (λ st. at_stage (unwrap_or st f.stage) told_now) to ∙ ap (at_stage Prompting) told_is;
        of_page = k.of_page;
        of_choices = k.of_choices;
        offering = ToGoOn t.offered refl refl
            (ap (λ p. chosen p t.offered.candidate.account.id choices) (sym names.place_is) ∙ ap (λ i. chosen t.place i choices) names.id_is
            ∙ ap (find (is_pick t.place t.id)) offers ∙ found_chosen f t.place t.id f.offered ∙ ap (option_map (pick_of f)) t.is)
            (AsChosen
            (record {
              several = two;
              after = [];
              choice = row_of T line event;
              waiting = since;
              rows = refl;
              event = chose ∙ ap (λ c. Choose c t.place t.id) (sym k.of_choices) ∙ ap (λ p. Choose choices.call p t.id) names.place_is
                  ∙ ap (λ i. Choose choices.call t.offered.place i) (sym names.id_is);
              first = unchosen;
            })
            (λ r. back t.offered r));
      }
    where
      back : (x : Offered) → IsReady call x.place x.config [] → needs_metadata x.candidate.connected x.config.metadata ≡ false
      back x (inl none) = needs_back x.candidate.connected x.config.metadata (inr none)
      back x (inr came) = absurd (cc)

  readied : (t : TakesMetadata f m.takes.input o) → unwrap_or o.stage f.stage ≡ Prompting → (x : Offered)
      → f.picked ≡ Some x → chosen x.place x.candidate.account.id choices ≡ Some (pick_of f x)
      → How f.waits call x (pick_of f x) choices since → Next
  readied t to x picked is how =
      let told_is : told_now ≡ record f { waits = false } =
      ap (λ b. with_input (world_at T) b m.takes.input f) t.taken ∙ ap (λ i. with_input (world_at T) false i f) t.is_reply in
      record {
        facts = record f { waits = false; stage = Prompting };
        found = facts_taken T line event call f m ∙ ap (λ st. at_stage st told_now) to ∙ ap (at_stage Prompting) told_is;
        of_page = k.of_page;
        of_choices = k.of_choices;
        offering =
            ToGoOn x refl picked is (how_ready false call x (pick_of f x) choices (row_of T line event) since f.waits refl how);
      }

  same_at : (f.stage ≡ Choosing) ⊎ (f.stage ≡ Prompting) → at_stage f.stage f ≡ Some f
  same_at (inl at) = ap (λ st. at_stage st f) at ∙ ap (λ st. let g : Facts = record f { stage = st } in Some g) (sym at)
  same_at (inr at) = ap (λ st. at_stage st f) at ∙ ap (λ st. let g : Facts = record f { stage = st } in Some g) (sym at)

  unmoved : o.stage ≡ None → told_now ≡ f → (f.stage ≡ Choosing → ChoosesNone f m.takes.input) → Next
  unmoved still told_is none =
      record {
        facts = f;
        found =
            facts_taken T line event call f m ∙ ap (λ st. at_stage (unwrap_or st f.stage) told_now) still ∙ ap (at_stage f.stage) told_is
            ∙ same_at dialog;
        of_page = k.of_page;
        of_choices = k.of_choices;
        offering = offering_on f call choices (row_of T line event) since
            (λ at offers. chooses_no_account event call f m.takes.input choices m.takes.is_event offers (none at))
            (λ x at picked came. ready_by_reply T event call f x m.takes.input m.takes.is_event at picked told_is came)
            k.offering;
      }

  by_way : filter_map finish_of o.effects ≡ [] → (unwrap_or o.stage f.stage ≡ Asserting → f.stage ≡ Asserting)
      → Way (world_at T) f m.takes.input o → Offering f call choices since → Next
  by_way gives back (Elsewhere dead asks settles over) offering = dies (dead_is (unwrap_or o.stage f.stage) dead)
    where
      ends : (f.stage ≡ Ended) ⊎ ((finish : Finish) × (filter_map finish_of o.effects ≡ finish ∷ [])) → Next
      ends (inl at) = not_so is_live f true refl refl dialog (ap is_live at)
      ends (inr some) = absurd (some_none some.0 [] (sym some.1 ∙ gives))

      dies : (unwrap_or o.stage f.stage ≡ Asserting) ⊎ (unwrap_or o.stage f.stage ≡ Ended) → Next
      dies (inl at) = not_so is_live f true refl refl dialog (ap is_live (back at))
      dies (inr at) = ends (over at)
  by_way gives back (First first then says told_is) offering = not_so is_first f false refl refl dialog first
  by_way gives back (Hearing first then x) offering = not_so is_first f false refl refl dialog first
  by_way gives back (Settling first t) offering = not_so is_first f false refl refl dialog first
  by_way gives back (Picks at to t settles) (ToChoose choosing offers two unchosen) = picks_one t to offers two unchosen
  by_way gives back (Picks at to t settles) (ToGoOn x prompting picked is how) =
      let no : Choosing ≡ Prompting = sym at ∙ prompting in absurd (cc)
  by_way gives back (Readies at to t settles) (ToChoose choosing offers two unchosen) =
      let no : Prompting ≡ Choosing = sym at ∙ choosing in absurd (cc)
  by_way gives back (Readies at to t settles) (ToGoOn x prompting picked is how) = readied t to x picked is how
  by_way gives back (Unmoved later still brings settles told_is none) offering = unmoved still told_is none

  taken : Turn (world_at T) f m.takes.input o → Next
  taken (Asks a) = absurd (some_none _ [] (sym a.is.asks_it ∙ sym (asks_at T event call f m) ∙ quiet))
  taken (Gives finish ended asks gives token) =
      let result =
      result_disturbs call (effects_of T event) (f.page, finish) [] (gives_at T event call f m
      ∙ ap (map {B = ℕ × Finish} (λ x. (f.page, x))) gives) in
      not_both (replaces page event) (list_any (is_result call) (effects_of T event)) calm (inr result)
  taken (Goes asks gives leaves back) = by_way gives back (way_at (world_at T) f m.takes.input) k.offering

-- ---- one row more

pub tracks_on : (T : Trace) (line : ℕ) (event : Event) (call page : ℕ) (choices : Choices) (since : List Row) → IsNew T.rows event
    → Invariant T call → (k : Tracks T call page choices since)
    → disturbs call page (row_of T line event) ≡ false
    → filter_map (asked call) (effects_of T event) ≡ []
    → Tracks (with_event T line event) call page choices (row_of T line event ∷ since)
tracks_on T line event call page choices since new h k calm quiet = go (happens T event call)
  where
    f : Facts
    f = k.facts

    s : Stood T call f
    s = h.stood f k.found

    dialog : (f.stage ≡ Choosing) ⊎ (f.stage ≡ Prompting)
    dialog = at_dialog f call choices since k.offering

    Next : Type 0
    Next = Tracks (with_event T line event) call page choices (row_of T line event ∷ since)

    replaced : (e : EndsWithPage T event call) → replaces page event ≡ true
    replaced e =
        let at_page : f.page ≡ e.page =
        listed_page call e.page (get_at f.page) (pending T) (distinct_standing call_change T.rows) (lookup-standing call_change call T.rows
        ∙ s.pending) e.there in
        ap (λ p. replaces p event) (sym k.of_page ∙ at_page) ∙ e.replaced

    go : Happens T event call → Next
    go (Left l) =
        let none = left_unsaid T event call f s l in
        record {
          facts = f;
          found = facts_same T line event call l.quiet.stage l.quiet.begins_none l.same ∙ k.found;
          of_page = k.of_page;
          of_choices = k.of_choices;
          offering = offering_on f call choices (row_of T line event) since
              (λ at offers. unsaid_chooses event choices (ap (λ n. input_to n event) k.of_choices ∙ none))
              (λ x at picked came. let no : false ≡ true = sym (unsaid_metadata event call x.place none) ∙ came in absurd (cc)) k.offering;
        }
    go (Ends e) = not_both (replaces page event) (list_any (is_result call) (effects_of T event)) calm (inl (replaced e))
    go (Started b) =
        let fresh : is_begun T call ≡ false =
        subst (λ c. is_begun T c
        ≡ false) b.is_call (starts.is_first T event b.begun.page b.begun.call b.begun.options new b.is_event).fresh in
        let no : true ≡ false = sym s.is_taken ∙ fresh in
        absurd (cc)
    go (Took t) =
        let m : Meets T event call f = record { takes = t; found = k.found } in
        taken T line event call page choices since k calm quiet m (turn_at (world_at T) f t.input)
    go (Resumed r) = not_so is_first f false refl refl dialog (ap is_first (stage_resumed T event call f r k.found))
