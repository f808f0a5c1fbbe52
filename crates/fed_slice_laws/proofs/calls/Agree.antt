-- A call of a part does the same where two worlds agree on what the part has.
use Rattle.std.proofs.Common.{◌≡◌, ℕ, suc, Bool, true, false, List, [], ◌∷◌, ◌++◌, Option, Some, None, map, refl, ap, ap₂, ◌∙◌}
use Rattle.std.specs.Prelude.{IfSome, option_to_list, Result as Answer, Ok, Err}
use Rattle.std.specs.List.{list_any, AllByRecursion}
use Rattle.url.specs.Parts.{Parts}
use Rattle.fed_origin.specs.declared.options.GetOptions.{GetOptions}
use Rattle.fed_origin.specs.declared.options.Mode.{Mode}
use Rattle.fed_origin.specs.declared.options.ProviderOptions.{ProviderOptions}
use Rattle.fed_origin.specs.declared.origin.Origin.{Origin}
use Rattle.fed_origin.specs.declared.stage.ReplyKind.{ReplyKind}
use Rattle.fed_origin.specs.declared.stage.ReplyKind.TheVariants as kinds
use Rattle.fed_origin.specs.declared.stage.Stage.{Stage}
use Rattle.fed_origin.specs.declared.stage.Stage.TheVariants as stages
use Rattle.fed_origin.specs.declared.status.LoginStatus.TheVariants.{LoggedIn, LoggedOut}
use Rattle.fed_origin.specs.declared.status.Triple.{Triple}
use Rattle.fed_origin.specs.Origin.{origin_text}
use Rattle.fed_origin.specs.WebUrl.{host_of, origin_of, scheme_of}
use Rattle.fed_suffix.specs.Rule.{RuleSet}
use Rattle.fed_provider.specs.FirstReplies.{reply_heard}
use Rattle.fed_provider.specs.Metadata.{MetadataOf}
use Rattle.fed_provider.specs.WellKnown.{WellKnownUrlOf}
use Rattle.fed_accounts.specs.declared.offer.Offer.{Offer}
use Rattle.fed_token.specs.declared.step.TokenStep.{TokenStep}
use Rattle.fed_token.specs.Read.{DisconnectOf}
use Rattle.fed_status.specs.Flags.{has_flag}
use Rattle.fed_status.specs.Kept as kept
use Rattle.fed_status.specs.Login.{status_of}
use Rattle.fed_status.specs.Shared.{World}
use Rattle.fed_consent.specs.declared.table.effect.Effect.TheVariants as acts
use Rattle.fed_consent.specs.declared.table.failure.Failure.{Failure}
use Rattle.fed_consent.specs.declared.table.input.Input.{Input}
use Rattle.fed_consent.specs.declared.table.input.Input.TheVariants as inputs
use Rattle.fed_consent.specs.Outcomes.{after, moves, finishes, stays_with}
use Rattle.fed_call.specs.declared.progress.Progress.{Progress}
use Rattle.fed_call.specs.declared.progress.Progress.TheVariants as progress_is
use Rattle.fed_call.specs.Accounts.{Offered, Shortlist, is_kept}
use Rattle.fed_call.specs.AssertingRows.{picked_at}
use Rattle.fed_call.specs.DialogRows as dialog
use Rattle.fed_call.specs.Dialogs as dialogs
use Rattle.fed_call.specs.Facts as facts
use Rattle.fed_call.specs.Facts.{Facts, Conclusion, Awaits, NoneLeft, Reselects, NoneSilent, Offers, Prompts, provider_at, progress_at}
use Rattle.fed_call.specs.Facts.{config_at}
use Rattle.fed_call.specs.Facts.{shortlist, shortlists, concluded, by_awaited, conclusion_of, came_at, with_progress, is_single}
use Rattle.fed_call.specs.Facts.{found_offered}
use Rattle.fed_call.specs.GatheringRows as gathering
use Rattle.fed_call.specs.Progress.{Came, Unawaited, Refused, Waits, Both, NoneFits, Fit, came, is_awaited, is_gated, opening_by, opening}
use Rattle.fed_call.specs.Progress.{opened}
use Rattle.fed_call.specs.Progress.{first_progress}
use Rattle.fed_call.specs.ReadingRows as reading
use Rattle.fed_call.specs.Row as get
use Rattle.fed_call.specs.SettledRows as settled
use Rattle.fed_call.specs.SingleRows as single
use Rattle.fed_call.specs.WindowRows as window
use Rattle.fed_disconnect.specs.Facts as dfacts
use Rattle.fed_disconnect.specs.Facts.{DisconnectFacts, provider_origin}
use Rattle.fed_disconnect.specs.Rows as disconnect
use Rattle.fed_trace.specs.Begun.{CallOptions, ToGet, ToDisconnect, Begun}
use Rattle.fed_trace.specs.Call.{Known, OfGet, OfDisconnect, first_row, input_row, get_outcome, fresh, known_first, with_input}
use Rattle.fed_trace.specs.Known.{with_said}
use Rattle.fed_slice.specs.Part.{Part, has, has_triple}
use Rattle.fed_slice_laws.specs.Side.{ProviderSide, GetSide, DisconnectSide, KnownSide, AskedSide}
use Rattle.fed_slice_laws.proofs.lists.Keep.{all_at}
use Rattle.fed_slice_laws.proofs.calls.Rows.{both_on}

-- the same rules, and the same of what the part has
pub record AgreeWorlds (p : Part) (w w' : World) : Type 0 where
  pub rules : w.rules ≡ w'.rules
  pub status : (o : Origin) → has p o.host ≡ true → status_of w.login o ≡ status_of w'.login o
  pub flag : (o : Origin) → has p o.host ≡ true → has_flag w.flags o ≡ has_flag w'.flags o
  pub triple : (t : Triple) → has_triple p t ≡ true → kept.has_triple w.kept t ≡ kept.has_triple w'.kept t
  pub pair : (o u : Origin) → has p o.host ≡ true → has p u.host ≡ true → kept.has_pair w.kept o u ≡ kept.has_pair w'.kept o u
  pub triples : (o u : Origin) → has p o.host ≡ true → has p u.host ≡ true
      → kept.triples_of_pair w.kept o u ≡ kept.triples_of_pair w'.kept o u

-- a world of rules alone, for what looks at nothing else
abbrev ruled : RuleSet → World
ruled rules = record { rules = rules; login = []; kept = []; flags = [] }

module _ (p : Part) (w w' : World) (agree : AgreeWorlds p w w') where
  kept_same : (page provider : Origin) → has p page.host ≡ true → has p provider.host ≡ true
      → is_kept w.kept page provider ≡ is_kept w'.kept page provider
  kept_same page provider h k =
      λ i account. agree.triple (kept.triple_of page provider account.id) (both_on true (has p page.host) (has p provider.host) h k) i

  -- ---- how far providers come first

  opening_same : (mode : Mode) (q : ProviderOptions) → ProviderSide p true q → opening w mode q ≡ opening w' mode q
  opening_same mode q k =
      ap₂ (λ r status. opening_by (scheme_of q.config) (WellKnownUrlOf r q.config) (is_gated mode status)) agree.rules
      (agree.status (origin_of q.config) k)

  progress_same : (mode : Mode) (qs : List ProviderOptions) → AllByRecursion (ProviderSide p true) qs
      → map (first_progress w mode) qs ≡ map (first_progress w' mode) qs
  progress_same mode [] k = refl
  progress_same mode (q ∷ qs) k = ap₂ (λ g gs. g ∷ gs) (ap opened (opening_same mode q k.0)) (progress_same mode qs k.1)

  fresh_same : (call page : ℕ) (origin : Origin) (options : CallOptions) → AskedSide p true options
      → fresh w call page origin options ≡ fresh w' call page origin options
  fresh_same call page origin (ToGet options) k =
      ap (λ gs. let f : Facts = record {
        call = call;
        page = page;
        origin = origin;
        options = options;
        stage = stages.Reading;
        progress = gs;
        offered = [];
        picked = None;
        waits = false;
        auto = false;
      } in OfGet f) (progress_same options.mode options.providers k)
  fresh_same call page origin (ToDisconnect options) k = refl

  pub known_first_same : (b : Begun) → AskedSide p true b.options → known_first w b ≡ known_first w' b
  known_first_same b k = fresh_same b.call b.page b.origin b.options k

  -- ---- what a get comes to once all providers are settled

  shortlist_same : (page : Origin) → has p page.host ≡ true → (n : ℕ) (q : ProviderOptions) → ProviderSide p true q → (g : Progress)
      → shortlist w.kept page n q g ≡ shortlist w'.kept page n q g
  shortlist_same page h n q k (progress_is.Listed config accounts) =
      ap (λ test. let offer : Offer = record { provider = n; client = q.client; accounts = accounts; kept = map test accounts } in
      let list : Shortlist = record { options = q; config = config; offer = offer } in Some list)
      (kept_same page (origin_of q.config) h k)
  shortlist_same page h n q k (progress_is.Reading replies) = refl
  shortlist_same page h n q k (progress_is.Listing config) = refl
  shortlist_same page h n q k (progress_is.Dropped failure) = refl

  shortlists_same : (page : Origin) → has p page.host ≡ true → (n : ℕ) (qs : List ProviderOptions) → AllByRecursion (ProviderSide p true) qs
      → (gs : List Progress) → shortlists w.kept page n qs gs ≡ shortlists w'.kept page n qs gs
  shortlists_same page h n [] k gs = refl
  shortlists_same page h n (q ∷ qs) k [] = refl
  shortlists_same page h n (q ∷ qs) k (g ∷ gs) =
      ap₂ (λ list lists. option_to_list list ++ lists) (shortlist_same page h n q k.0 g) (shortlists_same page h (suc n) qs k.1 gs)

  conclusion_same : (page : Origin) → has p page.host ≡ true → (options : GetOptions)
      → AllByRecursion (ProviderSide p true) options.providers
      → (gs : List Progress) → conclusion_of w page options gs ≡ conclusion_of w' page options gs
  conclusion_same page h options k gs = go (list_any is_awaited gs)
    where
      go : (awaited : Bool) → by_awaited w page options gs awaited ≡ by_awaited w' page options gs awaited
      go true = refl
      go false = ap₂ (concluded options.mediation gs) (agree.flag page h) (shortlists_same page h 0 options.providers k gs)

  prompt_same : (f : Facts) (o : Offered) (b : Bool) (to : Option Parts)
      → dialogs.prompt_effect w f o b to ≡ dialogs.prompt_effect w' f o b to
  prompt_same f o true to = ap (λ r. dialogs.prompt_dialog (ruled r) f o dialogs.no_links) agree.rules
  prompt_same f o false None = ap (λ r. dialogs.prompt_dialog (ruled r) f o dialogs.no_links) agree.rules
  prompt_same f o false (Some to) = refl

  prompts_same : (f : Facts) (o : Offered) → dialogs.prompts w f o ≡ dialogs.prompts w' f o
  prompts_same f o = ap (λ e. moves stages.Prompting e) (prompt_same f o o.candidate.connected o.config.metadata)

  concludes_same : (f : Facts) (c : Conclusion) → settled.concludes w f c ≡ settled.concludes w' f c
  concludes_same f Awaits = refl
  concludes_same f (NoneLeft failure) = refl
  concludes_same f (Reselects o) = refl
  concludes_same f NoneSilent = refl
  concludes_same f (Offers os) = ap (λ r. moves stages.Choosing (dialogs.choice_dialog (ruled r) f os)) agree.rules
  concludes_same f (Prompts o) = prompts_same f o

  module _ (f : Facts) (s : GetSide p true f) where
    -- where a provider has come so far
    module _ (place : ℕ) (g : Progress) where
      abbrev f' : Facts
      f' = with_progress place g f

      come_to : conclusion_of w f.origin f.options f'.progress ≡ conclusion_of w' f.origin f.options f'.progress
      come_to = conclusion_same f.origin s.page f.options s.providers f'.progress

      settles_same : settled.settles w f' ≡ settled.settles w' f'
      settles_same = ap (settled.concludes w f') come_to ∙ concludes_same f' (conclusion_of w' f.origin f.options f'.progress)

      settled_after : facts.with_settled w f' ≡ facts.with_settled w' f'
      settled_after = ap (λ c. facts.with_conclusion c f') come_to

    -- ---- replies that are awaited

    came_same : (place : ℕ) (kind : ReplyKind) (raw : List ℕ) → came_at w f place kind raw ≡ came_at w' f place kind raw
    came_same place kind raw = ap (λ r. came r (progress_at place f) (provider_at place f.options) kind raw) agree.rules

    single_same : (place : ℕ) (provider : Origin) → has p provider.host ≡ true → (c : Came)
        → single.single_came w f place provider c ≡ single.single_came w' f place provider c
    single_same place provider k Unawaited = refl
    single_same place provider k (Refused failure) = refl
    single_same place provider k (Waits replies) = refl
    single_same place provider k (Both config) = refl
    single_same place provider k (NoneFits failure) =
        ap₂ (λ r status. after (acts.SetLogin provider LoggedOut)
        (single.by_window place (config_at place f)
        (single.by_mismatch place (dialogs.site_of (ruled r) f.origin) failure
        (single.is_mismatch f.options.mode f.options.mediation status))
        (window.may_sign_in f.options.mode f.options.mediation)))
        agree.rules (agree.status provider k)
    single_same place provider k (Fit config accounts) =
        ap (after (acts.SetLogin provider LoggedIn)) (settles_same place (progress_is.Listed config accounts))

    gathering_same : (place : ℕ) (provider : Origin) (c : Came)
        → gathering.gathering_came w f place provider c ≡ gathering.gathering_came w' f place provider c
    gathering_same place provider Unawaited = refl
    gathering_same place provider (Refused failure) =
        ap (after (acts.Dropped place failure)) (settles_same place (progress_is.Dropped failure))
    gathering_same place provider (Waits replies) = refl
    gathering_same place provider (Both config) = refl
    gathering_same place provider (NoneFits failure) =
        ap (λ o. after (acts.SetLogin provider LoggedOut) (after (acts.Dropped place failure) o))
        (settles_same place (progress_is.Dropped failure))
    gathering_same place provider (Fit config accounts) =
        ap (after (acts.SetLogin provider LoggedIn)) (settles_same place (progress_is.Listed config accounts))

    came_row_same : (place : ℕ) (one : Bool) (provider : Origin) → has p provider.host ≡ true → (c : Came)
        → get.came_row w f place one provider c ≡ get.came_row w' f place one provider c
    came_row_same place true provider k c = single_same place provider k c
    came_row_same place false provider k c = gathering_same place provider c

    provider_row_same : (place : ℕ) (q : Option ProviderOptions) → IfSome q (ProviderSide p true) → (c : Came)
        → get.provider_row w f place q c ≡ get.provider_row w' f place q c
    provider_row_same place None k c = refl
    provider_row_same place (Some q) k c = came_row_same place (is_single f.options) (origin_of q.config) k c

    awaited_same : (place : ℕ) (kind : ReplyKind) (raw : List ℕ)
        → get.awaited_reply w f place kind raw ≡ get.awaited_reply w' f place kind raw
    awaited_same place kind raw =
        ap (get.provider_row w f place (provider_at place f.options)) (came_same place kind raw)
        ∙ provider_row_same place (provider_at place f.options) (all_at (ProviderSide p true) f.options.providers s.providers place)
        (came_at w' f place kind raw)

    -- ---- dialogs

    metadata_same : (waits : Bool) (o : Option Offered) (raw : List ℕ)
        → dialog.metadata_reply w f waits o raw ≡ dialog.metadata_reply w' f waits o raw
    metadata_same false o raw = refl
    metadata_same true None raw = refl
    metadata_same true (Some o) raw = ap (λ r. stays_with (dialogs.prompt_dialog (ruled r) f o (MetadataOf raw))) agree.rules

    prompting_same : (place : ℕ) (kind : ReplyKind) (raw : List ℕ)
        → dialog.prompting_reply w f place kind raw ≡ dialog.prompting_reply w' f place kind raw
    prompting_same place kinds.Metadata raw = metadata_same f.waits (picked_at place f.picked) raw
    prompting_same place kinds.WellKnown raw = refl
    prompting_same place kinds.Config raw = refl
    prompting_same place kinds.Accounts raw = refl
    prompting_same place kinds.Assertion raw = refl
    prompting_same place kinds.Disconnect raw = refl

    connection_same : (o : Offered) (connected : Bool) → dialog.by_connection w f o connected ≡ dialog.by_connection w' f o connected
    connection_same o true = refl
    connection_same o false = prompts_same f o

    choice_same : (o : Option Offered) → dialog.choice w f o ≡ dialog.choice w' f o
    choice_same None = refl
    choice_same (Some o) = connection_same o o.candidate.connected

    chose_same : (st : Stage) (place : ℕ) (id : List ℕ) → dialog.chose w f st place id ≡ dialog.chose w' f st place id
    chose_same stages.Choosing place id = choice_same (found_offered place id f)
    chose_same _ place id = refl

    -- ---- rows

    stage_same : (st : Stage) (place : ℕ) (kind : ReplyKind) (raw : List ℕ)
        → get.stage_reply w f st place kind raw ≡ get.stage_reply w' f st place kind raw
    stage_same stages.Reading place kind raw = awaited_same place kind raw
    stage_same stages.Listing place kind raw = awaited_same place kind raw
    stage_same stages.Gathering place kind raw = awaited_same place kind raw
    stage_same stages.Mismatch place kind raw = refl
    stage_same stages.Window place kind raw = refl
    stage_same stages.Choosing place kind raw = refl
    stage_same stages.Prompting place kind raw = prompting_same place kind raw
    stage_same stages.Asserting place kind raw = refl
    stage_same stages.Ended place kind raw = refl

    get_row_same : (input : Input) → get.input_row w f input ≡ get.input_row w' f input
    get_row_same (inputs.Reply place kind raw) = stage_same f.stage place kind raw
    get_row_same (inputs.Choose place id) = chose_same f.stage place id
    get_row_same inputs.GoOn = refl
    get_row_same inputs.Cancel = refl
    get_row_same inputs.SignIn = refl
    get_row_same inputs.Shut = refl
    get_row_same inputs.Resume = refl
    get_row_same inputs.Abort = refl

    -- ---- what is known then

    none_after : (place : ℕ) (failure : Failure) (one : Bool)
        → facts.with_none_fitting w place failure one f ≡ facts.with_none_fitting w' place failure one f
    none_after place failure true = refl
    none_after place failure false = settled_after place (progress_is.Dropped failure)

    came_after : (place : ℕ) (c : Came) → facts.with_came w place c f ≡ facts.with_came w' place c f
    came_after place Unawaited = refl
    came_after place (Refused failure) = settled_after place (progress_is.Dropped failure)
    came_after place (Waits replies) = refl
    came_after place (Both config) = refl
    came_after place (NoneFits failure) = none_after place failure (is_single f.options)
    came_after place (Fit config accounts) = settled_after place (progress_is.Listed config accounts)

    came_at_after : (place : ℕ) (kind : ReplyKind) (raw : List ℕ)
        → facts.with_came w place (came_at w f place kind raw) f ≡ facts.with_came w' place (came_at w' f place kind raw) f
    came_at_after place kind raw =
        ap (λ c. facts.with_came w place c f) (came_same place kind raw) ∙ came_after place (came_at w' f place kind raw)

    reply_after : (place : ℕ) (kind : ReplyKind) (raw : List ℕ) → facts.with_reply w place kind raw f ≡ facts.with_reply w' place kind raw f
    reply_after place kinds.WellKnown raw = came_at_after place kinds.WellKnown raw
    reply_after place kinds.Config raw = came_at_after place kinds.Config raw
    reply_after place kinds.Accounts raw = came_at_after place kinds.Accounts raw
    reply_after place kinds.Metadata raw = refl
    reply_after place kinds.Assertion raw = refl
    reply_after place kinds.Disconnect raw = refl

    get_after : (ignored : Bool) (input : Input) → facts.with_input w ignored input f ≡ facts.with_input w' ignored input f
    get_after false (inputs.Reply place kind raw) = reply_after place kind raw
    get_after false (inputs.Choose place id) = refl
    get_after false inputs.GoOn = refl
    get_after false inputs.Cancel = refl
    get_after false inputs.SignIn = refl
    get_after false inputs.Shut = refl
    get_after false inputs.Resume = refl
    get_after false inputs.Abort = refl
    get_after true input = refl

  -- ---- a disconnect

  module _ (f : DisconnectFacts) (s : DisconnectSide p true f) where
    answered_same : (read : Answer (List ℕ) TokenStep)
        → disconnect.answered w.kept f.origin (provider_origin f.options) read
        ≡ disconnect.answered w'.kept f.origin (provider_origin f.options) read
    answered_same (Ok account) =
        ap (λ found. after (disconnect.forgotten f.origin (provider_origin f.options) account found)
        (finishes (disconnect.answer (Ok account))))
        (agree.triple (kept.triple_of f.origin (provider_origin f.options) account)
        (both_on true (has p f.origin.host) (has p (host_of f.options.config)) s.page s.provider))
    answered_same (Err step) = refl

    disconnect_reply_same : (kind : ReplyKind) (raw : List ℕ)
        → disconnect.asserting_reply w.kept f.origin (provider_origin f.options) kind raw
        ≡ disconnect.asserting_reply w'.kept f.origin (provider_origin f.options) kind raw
    disconnect_reply_same kinds.Disconnect raw = answered_same (DisconnectOf raw (origin_text f.origin))
    disconnect_reply_same kinds.WellKnown raw = refl
    disconnect_reply_same kinds.Config raw = refl
    disconnect_reply_same kinds.Accounts raw = refl
    disconnect_reply_same kinds.Metadata raw = refl
    disconnect_reply_same kinds.Assertion raw = refl

    dstage_same : (st : Stage) (kind : ReplyKind) (raw : List ℕ)
        → disconnect.stage_reply w f st kind raw ≡ disconnect.stage_reply w' f st kind raw
    dstage_same stages.Reading kind raw =
        ap (λ r. disconnect.by_heard f.origin f.options (reply_heard r f.replies f.options.config kind raw)) agree.rules
    dstage_same stages.Asserting kind raw = disconnect_reply_same kind raw
    dstage_same _ kind raw = refl

    provider_same : (own : Bool) (kind : ReplyKind) (raw : List ℕ)
        → disconnect.provider_reply w f own kind raw ≡ disconnect.provider_reply w' f own kind raw
    provider_same true kind raw = dstage_same f.stage kind raw
    provider_same false kind raw = refl

    disconnect_row_same : (input : Input) → disconnect.input_row w f input ≡ disconnect.input_row w' f input
    disconnect_row_same (inputs.Reply place kind raw) = provider_same _ kind raw
    disconnect_row_same _ = refl

    disconnect_after : (ignored : Bool) (input : Input) → dfacts.with_input w ignored input f ≡ dfacts.with_input w' ignored input f
    disconnect_after true input = refl
    disconnect_after false (inputs.Reply place kind raw) = ap (λ r. dfacts.with_reply r kind raw f) agree.rules
    disconnect_after false (inputs.Choose place id) = refl
    disconnect_after false inputs.GoOn = refl
    disconnect_after false inputs.Cancel = refl
    disconnect_after false inputs.SignIn = refl
    disconnect_after false inputs.Shut = refl
    disconnect_after false inputs.Resume = refl
    disconnect_after false inputs.Abort = refl

  -- ---- a call of either kind

  pub row_same : (k : Known) → KnownSide p true k → (input : Input) → input_row w k input ≡ input_row w' k input
  row_same (OfGet f) s input = get_row_same f s input
  row_same (OfDisconnect f) s input = disconnect_row_same f s input

  after_same : (ignored : Bool) (input : Input) (k : Known) → KnownSide p true k
      → with_input w ignored input k ≡ with_input w' ignored input k
  after_same ignored input (OfGet f) s = ap OfGet (get_after f s ignored input)
  after_same ignored input (OfDisconnect f) s = ap OfDisconnect (disconnect_after f s ignored input)

  pub said_same : (ignored : Bool) (input : Option Input) (k : Known) → KnownSide p true k
      → with_said w ignored input k ≡ with_said w' ignored input k
  said_same ignored None k s = refl
  said_same ignored (Some input) k s = after_same ignored input k s

  -- ---- a call that begins

  opens_same : (mode : Mode) (n : ℕ) (qs : List ProviderOptions) → AllByRecursion (ProviderSide p true) qs
      → gathering.opens_from w mode n qs ≡ gathering.opens_from w' mode n qs
  opens_same mode n [] k = refl
  opens_same mode n (q ∷ qs) k =
      ap₂ (λ xs ys. xs ++ ys) (ap (gathering.opens n q.config) (opening_same mode q k.0)) (opens_same mode (suc n) qs k.1)

  module _ (origin : Origin) (h : has p origin.host ≡ true) (options : GetOptions)
      (k : AllByRecursion (ProviderSide p true) options.providers) where
    all_same : gathering.start_all w origin options ≡ gathering.start_all w' origin options
    all_same =
        ap₂ (λ xs c. gathering.gathers xs (gathering.first_settles c)) (opens_same options.mode 0 options.providers k)
        (ap (conclusion_of w origin options) (progress_same options.mode options.providers k)
        ∙ conclusion_same origin h options k (map (first_progress w' options.mode) options.providers))

    prevented_same : (prevented : Bool)
        → gathering.by_prevented w origin options prevented ≡ gathering.by_prevented w' origin options prevented
    prevented_same true = refl
    prevented_same false = all_same

    twice_same : (twice : Bool) → gathering.by_twice w origin options twice ≡ gathering.by_twice w' origin options twice
    twice_same true = refl
    twice_same false =
        ap (λ flag. gathering.by_prevented w origin options (reading.is_prevented options.mediation flag)) (agree.flag origin h)
        ∙ prevented_same (reading.is_prevented options.mediation (has_flag w'.flags origin))

    active_same : (active : Bool) → gathering.by_active w origin options active ≡ gathering.by_active w' origin options active
    active_same true = refl
    active_same false = twice_same (gathering.is_twice options)

    start_same : (qs : List ProviderOptions) → AllByRecursion (ProviderSide p true) qs
        → get.start_with w origin options qs ≡ get.start_with w' origin options qs
    start_same [] each = refl
    start_same (only ∷ []) each =
        ap₂ (λ r flag. reading.start_by only r (reading.lacks_activation options.mode options.activation)
        (reading.is_prevented options.mediation flag))
        (opening_same options.mode only each.0) (agree.flag origin h)
    start_same (first ∷ second ∷ more) each = active_same (gathering.is_active options.mode)

    get_first_same : (busy : Bool) → get_outcome w busy origin options ≡ get_outcome w' busy origin options
    get_first_same true = refl
    get_first_same false = start_same options.providers k

  pub first_same : (busy : Bool) (origin : Origin) (options : CallOptions) → has p origin.host ≡ true → AskedSide p true options
      → first_row w busy origin options ≡ first_row w' busy origin options
  first_same busy origin (ToGet options) h k = get_first_same origin h options k busy
  first_same busy origin (ToDisconnect options) h k =
      ap₂ (λ r found. disconnect.by_scheme (scheme_of options.config) options.config (WellKnownUrlOf r options.config) found)
      agree.rules (agree.pair origin (provider_origin options) h k)
