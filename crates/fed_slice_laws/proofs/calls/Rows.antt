-- What a call does is on its side of a part: its statuses, permissions, flags, and the URLs that get cookies.
use Rattle.std.proofs.Common.{◌≡◌, ℕ, suc, Bool, true, false, ◌&&◌, cond, nat_eq, List, [], ◌∷◌, map, Option, Some, None, ap₂}
use Rattle.std.specs.Prelude.{IfSome, Result as Answer, Ok, Err, ⊤}
use Rattle.std.specs.List.{AllByRecursion}
use Rattle.url.specs.Parts.{Parts}
use Rattle.fed_origin.specs.declared.options.GetOptions.{GetOptions}
use Rattle.fed_origin.specs.declared.options.Mode.{Mode}
use Rattle.fed_origin.specs.declared.options.ProviderOptions.{ProviderOptions}
use Rattle.fed_origin.specs.declared.origin.Origin.{Origin}
use Rattle.fed_origin.specs.declared.scheme.Scheme.{Scheme}
use Rattle.fed_origin.specs.declared.scheme.Scheme.TheVariants.{Http, Https}
use Rattle.fed_origin.specs.declared.stage.ReplyKind.{ReplyKind}
use Rattle.fed_origin.specs.declared.stage.ReplyKind.TheVariants as kinds
use Rattle.fed_origin.specs.declared.stage.Stage.{Stage}
use Rattle.fed_origin.specs.declared.stage.Stage.TheVariants as stages
use Rattle.fed_origin.specs.Origin.{origin_text}
use Rattle.fed_origin.specs.WebUrl.{host_of, origin_of, scheme_of}
use Rattle.fed_provider.specs.declared.config.Config.{Config}
use Rattle.fed_provider.specs.declared.first_replies.Heard.{Heard}
use Rattle.fed_provider.specs.declared.first_replies.Heard.TheVariants as heards
use Rattle.fed_provider.specs.declared.step.ProviderStep.{ProviderStep}
use Rattle.fed_provider.specs.FirstReplies.{reply_heard}
use Rattle.fed_provider.specs.WellKnown.{WellKnownUrlOf}
use Rattle.fed_token.specs.declared.step.TokenStep.{TokenStep}
use Rattle.fed_token.specs.Read.{AssertionOf, DisconnectOf}
use Rattle.fed_status.specs.Flags.{has_flag}
use Rattle.fed_status.specs.Kept as kept
use Rattle.fed_status.specs.Login.{status_of}
use Rattle.fed_status.specs.Shared.{World}
use Rattle.fed_consent.specs.declared.table.ask.Ask.{Ask}
use Rattle.fed_consent.specs.declared.table.ask.Ask.TheVariants as asks
use Rattle.fed_consent.specs.declared.table.effect.Effect.{Effect as CallEffect}
use Rattle.fed_consent.specs.declared.table.effect.Effect.TheVariants as acts
use Rattle.fed_consent.specs.declared.table.failure.Failure.{Failure}
use Rattle.fed_consent.specs.declared.table.input.Input.{Input}
use Rattle.fed_consent.specs.declared.table.input.Input.TheVariants as inputs
use Rattle.fed_consent.specs.Outcomes.{Outcome, only_place}
use Rattle.fed_call.specs.declared.progress.Progress.{Progress}
use Rattle.fed_call.specs.declared.progress.Progress.TheVariants as progress_is
use Rattle.fed_call.specs.Accounts.{Offered}
use Rattle.fed_call.specs.AssertingRows as asserting
use Rattle.fed_call.specs.DialogRows as dialog
use Rattle.fed_call.specs.Dialogs as dialogs
use Rattle.fed_call.specs.Facts.{Facts, Conclusion, Awaits, NoneLeft, Reselects, NoneSilent, Offers, Prompts, conclusion_of, provider_at}
use Rattle.fed_call.specs.Facts.{came_at, config_at, progress_at, found_offered, is_single, with_progress}
use Rattle.fed_call.specs.GatheringRows as gathering
use Rattle.fed_call.specs.Progress.{Came, Unawaited, Refused, Waits, Both, NoneFits, Fit, Closed, NotSecure, Siteless, Gated, opening}
use Rattle.fed_call.specs.Progress.{first_progress, config_of}
use Rattle.fed_call.specs.ReadingRows as reading
use Rattle.fed_call.specs.Row as get
use Rattle.fed_call.specs.SettledRows as settled
use Rattle.fed_call.specs.SingleRows as single
use Rattle.fed_call.specs.WindowRows as window
use Rattle.fed_disconnect.specs.Facts.{DisconnectFacts, provider_origin}
use Rattle.fed_disconnect.specs.Rows as disconnect
use Rattle.fed_trace.specs.Begun.{CallOptions, ToGet, ToDisconnect}
use Rattle.fed_trace.specs.Call.{Known, OfGet, OfDisconnect, first_row, input_row, get_outcome}
use Rattle.fed_slice.specs.Part.{Part, has, has_triple}
use Rattle.fed_slice_laws.specs.Side.{ConfigSide, ProviderSide, ProgressSide, OfferedSide, GetSide, DisconnectSide, KnownSide}
use Rattle.fed_slice_laws.proofs.lists.Keep.{all_at, all_append}
use Rattle.fed_slice_laws.proofs.calls.Side.{HeardSide, CameSide, ConclusionSide, heard_side, came_at_side, conclusion_side, progress_side}
use Rattle.fed_slice_laws.proofs.calls.Side.{found_side}

-- the URL of a request that carries cookies
abbrev pub AskSide : Part → Bool → Ask → Type 0
AskSide p side (asks.Accounts to) = has p (host_of to) ≡ side
AskSide p side (asks.Disconnect to client hint origin) = has p (host_of to) ≡ side
AskSide p side (asks.Assertion ask) = has p (host_of ask.to) ≡ side
AskSide p side _ = ⊤

abbrev pub OnSide : Part → Bool → CallEffect → Type 0
OnSide p side (acts.Send place ask) = AskSide p side ask
OnSide p side (acts.SetLogin origin status) = has p origin.host ≡ side
OnSide p side (acts.Keep triple) = has_triple p triple ≡ side
OnSide p side (acts.Forget triple) = has_triple p triple ≡ side
OnSide p side (acts.ForgetPair page provider) = (has p page.host ≡ side) × (has p provider.host ≡ side)
OnSide p side (acts.ClearFlag origin) = has p origin.host ≡ side
OnSide p side _ = ⊤

abbrev pub AllOn : Part → Bool → Outcome → Type 0
AllOn p side o = AllByRecursion (OnSide p side) o.effects

-- two parties on one side
pub both_on : (side : Bool) (a b : Bool) → a ≡ side → b ≡ side → (a && b) ≡ side
both_on true a b h k = ap₂ (λ x y. x && y) h k
both_on false a b h k = ap₂ (λ x y. x && y) h k

module _ (p : Part) (side : Bool) where
  -- ---- a get that begins

  start_by_on : (q : ProviderOptions) (r : Answer Parts Closed) (lacking prevented : Bool)
      → AllOn p side (reading.start_by q r lacking prevented)
  start_by_on q (Err NotSecure) lacking prevented = (tt, tt)
  start_by_on q (Err Siteless) true prevented = (tt, tt)
  start_by_on q (Err Gated) true prevented = (tt, tt)
  start_by_on q (Ok wellknown) true prevented = (tt, tt)
  start_by_on q (Err Siteless) false prevented = (tt, tt)
  start_by_on q (Err Gated) false true = (tt, tt)
  start_by_on q (Ok wellknown) false true = (tt, tt)
  start_by_on q (Err Gated) false false = (tt, tt)
  start_by_on q (Ok wellknown) false false = (tt, (tt, tt))

  opens_on : (place : ℕ) (config : Parts) (r : Answer Parts Closed) → AllByRecursion (OnSide p side) (gathering.opens place config r)
  opens_on place config (Err closed) = (tt, tt)
  opens_on place config (Ok wellknown) = (tt, (tt, tt))

  opens_from_on : (w : World) (mode : Mode) (n : ℕ) (qs : List ProviderOptions)
      → AllByRecursion (OnSide p side) (gathering.opens_from w mode n qs)
  opens_from_on w mode n [] = tt
  opens_from_on w mode n (q ∷ qs) =
      all_append (OnSide p side) (gathering.opens n q.config (opening w mode q)) (gathering.opens_from w mode (suc n) qs)
      (opens_on n q.config (opening w mode q)) (opens_from_on w mode (suc n) qs)

  first_settles_on : (c : Conclusion) → AllOn p side (gathering.first_settles c)
  first_settles_on Awaits = tt
  first_settles_on (NoneLeft failure) = (tt, tt)
  first_settles_on (Reselects offered) = tt
  first_settles_on NoneSilent = tt
  first_settles_on (Offers offered) = tt
  first_settles_on (Prompts offered) = tt

  prevented_on : (w : World) (origin : Origin) (options : GetOptions) (prevented : Bool)
      → AllOn p side (gathering.by_prevented w origin options prevented)
  prevented_on w origin options true = (tt, tt)
  prevented_on w origin options false =
      let c = conclusion_of w origin options (map (first_progress w options.mode) options.providers) in
      all_append (OnSide p side) (gathering.opens_from w options.mode 0 options.providers) (gathering.first_settles c).effects
      (opens_from_on w options.mode 0 options.providers) (first_settles_on c)

  twice_on : (w : World) (origin : Origin) (options : GetOptions) (twice : Bool) → AllOn p side (gathering.by_twice w origin options twice)
  twice_on w origin options true = (tt, tt)
  twice_on w origin options false =
      prevented_on w origin options (reading.is_prevented options.mediation (has_flag w.flags origin))

  active_on : (w : World) (origin : Origin) (options : GetOptions) (active : Bool)
      → AllOn p side (gathering.by_active w origin options active)
  active_on w origin options true = (tt, tt)
  active_on w origin options false = twice_on w origin options (gathering.is_twice options)

  start_on : (w : World) (origin : Origin) (options : GetOptions) (qs : List ProviderOptions)
      → AllOn p side (get.start_with w origin options qs)
  start_on w origin options [] = tt
  start_on w origin options (only ∷ []) =
      start_by_on only (opening w options.mode only) (reading.lacks_activation options.mode options.activation)
      (reading.is_prevented options.mediation (has_flag w.flags origin))
  start_on w origin options (first ∷ second ∷ more) = active_on w origin options (gathering.is_active options.mode)

  get_on : (w : World) (busy : Bool) (origin : Origin) (options : GetOptions) → AllOn p side (get_outcome w busy origin options)
  get_on w true origin options = (tt, tt)
  get_on w false origin options = start_on w origin options options.providers

  -- ---- a disconnect that begins

  kept_on : (config wellknown : Parts) (found : Bool) → AllOn p side (disconnect.by_kept config wellknown found)
  kept_on config wellknown false = (tt, tt)
  kept_on config wellknown true = (tt, (tt, tt))

  dsite_on : (config : Parts) (site : Answer Parts ProviderStep) (found : Bool) → AllOn p side (disconnect.by_site config site found)
  dsite_on config (Err step) found = (tt, tt)
  dsite_on config (Ok wellknown) found = kept_on config wellknown found

  dscheme_on : (scheme : Scheme) (config : Parts) (site : Answer Parts ProviderStep) (found : Bool)
      → AllOn p side (disconnect.by_scheme scheme config site found)
  dscheme_on Http config site found = (tt, tt)
  dscheme_on Https config site found = dsite_on config site found

  pub first_on : (w : World) (busy : Bool) (origin : Origin) (options : CallOptions) → AllOn p side (first_row w busy origin options)
  first_on w busy origin (ToGet options) = get_on w busy origin options
  first_on w busy origin (ToDisconnect options) =
      dscheme_on (scheme_of options.config) options.config (WellKnownUrlOf w.rules options.config)
      (kept.has_pair w.kept origin (provider_origin options))

  -- ---- configurations of a get

  config_side : (g : Option Progress) → IfSome g (ProgressSide p side) → IfSome (config_of g) (ConfigSide p side)
  config_side None h = tt
  config_side (Some (progress_is.Reading replies)) h = tt
  config_side (Some (progress_is.Listing config)) h = h
  config_side (Some (progress_is.Listed config accounts)) h = tt
  config_side (Some (progress_is.Dropped failure)) h = tt

  config_at_side : (place : ℕ) (f : Facts) → GetSide p side f → IfSome (config_at place f) (ConfigSide p side)
  config_at_side place f s = config_side (progress_at place f) (all_at (ProgressSide p side) f.progress s.progress place)

  -- ---- a get whose providers are settled

  prompt_on : (w : World) (f : Facts) (o : Offered) (b : Bool) (to : Option Parts) → OnSide p side (dialogs.prompt_effect w f o b to)
  prompt_on w f o true to = tt
  prompt_on w f o false None = tt
  prompt_on w f o false (Some to) = tt

  concludes_on : (w : World) (f : Facts) (c : Conclusion) → ConclusionSide p side c → AllOn p side (settled.concludes w f c)
  concludes_on w f Awaits h = tt
  concludes_on w f (NoneLeft failure) h = (tt, tt)
  concludes_on w f (Reselects o) h = (h.config.assertion, tt)
  concludes_on w f NoneSilent h = (tt, tt)
  concludes_on w f (Offers os) h = (tt, tt)
  concludes_on w f (Prompts o) h = (prompt_on w f o o.candidate.connected o.config.metadata, tt)

  settles_on : (w : World) (place : ℕ) (g : Progress) → ProgressSide p side g → (f : Facts) → GetSide p side f
      → AllOn p side (settled.settles w (with_progress place g f))
  settles_on w place g k f s =
      let after = progress_side p side place g k f s in
      concludes_on w (with_progress place g f) (conclusion_of w f.origin f.options (with_progress place g f).progress)
      (conclusion_side p side w f.origin f.options (with_progress place g f).progress s.providers after.progress)

  -- ---- replies that are awaited

  mismatch_on : (place : ℕ) (site : List ℕ) (failure : Failure) (b : Bool) → AllOn p side (single.by_mismatch place site failure b)
  mismatch_on place site failure true = (tt, tt)
  mismatch_on place site failure false = (tt, tt)

  window_opens_on : (place : ℕ) (config : Option Config) → AllOn p side (window.opens_window place config)
  window_opens_on place None = tt
  window_opens_on place (Some config) = (tt, tt)

  window_on : (place : ℕ) (config : Option Config) (other : Outcome) → AllOn p side other → (b : Bool)
      → AllOn p side (single.by_window place config other b)
  window_on place config other h true = window_opens_on place config
  window_on place config other h false = h

  refused_on : (w : World) (f : Facts) (place : ℕ) (provider : Origin) (failure : Failure)
      → AllOn p side (single.refused w f place provider failure)
  refused_on w f place provider failure =
      window_on place (config_at place f) _
      (mismatch_on place (dialogs.site_of w f.origin) failure
      (single.is_mismatch f.options.mode f.options.mediation (status_of w.login provider)))
      (window.may_sign_in f.options.mode f.options.mediation)

  module _ (w : World) (f : Facts) (s : GetSide p side f) where
    single_on : (place : ℕ) (provider : Origin) → has p provider.host ≡ side → (c : Came) → CameSide p side c
        → AllOn p side (single.single_came w f place provider c)
    single_on place provider h Unawaited k = (tt, tt)
    single_on place provider h (Refused failure) k = (tt, tt)
    single_on place provider h (Waits replies) k = tt
    single_on place provider h (Both config) k = (k.accounts, tt)
    single_on place provider h (NoneFits failure) k = (h, refused_on w f place provider failure)
    single_on place provider h (Fit config accounts) k = (h, settles_on w place (progress_is.Listed config accounts) k f s)

    gathering_on : (place : ℕ) (provider : Origin) → has p provider.host ≡ side → (c : Came) → CameSide p side c
        → AllOn p side (gathering.gathering_came w f place provider c)
    gathering_on place provider h Unawaited k = (tt, tt)
    gathering_on place provider h (Refused failure) k = (tt, settles_on w place (progress_is.Dropped failure) tt f s)
    gathering_on place provider h (Waits replies) k = tt
    gathering_on place provider h (Both config) k = (k.accounts, tt)
    gathering_on place provider h (NoneFits failure) k = (h, (tt, settles_on w place (progress_is.Dropped failure) tt f s))
    gathering_on place provider h (Fit config accounts) k = (h, settles_on w place (progress_is.Listed config accounts) k f s)

    came_on : (place : ℕ) (one : Bool) (provider : Origin) → has p provider.host ≡ side → (c : Came) → CameSide p side c
        → AllOn p side (get.came_row w f place one provider c)
    came_on place true provider h c k = single_on place provider h c k
    came_on place false provider h c k = gathering_on place provider h c k

    provider_on : (place : ℕ) (q : Option ProviderOptions) → IfSome q (ProviderSide p side) → (c : Came) → CameSide p side c
        → AllOn p side (get.provider_row w f place q c)
    provider_on place None h c k = (tt, tt)
    provider_on place (Some q) h c k = came_on place (is_single f.options) (origin_of q.config) h c k

    awaited_on : (place : ℕ) (kind : ReplyKind) (raw : List ℕ) → AllOn p side (get.awaited_reply w f place kind raw)
    awaited_on place kind raw =
        provider_on place (provider_at place f.options) (all_at (ProviderSide p side) f.options.providers s.providers place)
        (came_at w f place kind raw) (came_at_side p side w f s place kind raw)

    -- ---- a get that asks for a token

    clears_on : (auto : Bool) (o : Outcome) → AllOn p side o → AllOn p side (asserting.clears auto f.origin o)
    clears_on true o h = h
    clears_on false o h = (s.page, h)

    token_on : (o : Offered) → OfferedSide p side o → (read : Answer (List ℕ) TokenStep) → AllOn p side (asserting.by_token f o read)
    token_on o h (Ok token) =
        (both_on side (has p f.origin.host) (has p (host_of o.options.config)) s.page h.provider, clears_on f.auto _ (tt, tt))
    token_on o h (Err step) = (tt, tt)

    assertion_on : (o : Option Offered) → IfSome o (OfferedSide p side) → (raw : List ℕ) → AllOn p side (asserting.assertion_reply f o raw)
    assertion_on None h raw = (tt, tt)
    assertion_on (Some o) h raw = token_on o h (AssertionOf raw (origin_text f.origin))

    picked_on : (place : ℕ) (o : Option Offered) → IfSome o (OfferedSide p side) → IfSome (asserting.picked_at place o) (OfferedSide p side)
    picked_on place None h = tt
    picked_on place (Some o) h = go (nat_eq place o.place)
      where
        go : (b : Bool) → IfSome (cond b (Some o) None) (OfferedSide p side)
        go true = h
        go false = tt

    asserting_on : (place : ℕ) (kind : ReplyKind) (raw : List ℕ) → AllOn p side (asserting.asserting_reply f place kind raw)
    asserting_on place kinds.Assertion raw = assertion_on (asserting.picked_at place f.picked) (picked_on place f.picked s.picked) raw
    asserting_on place kinds.WellKnown raw = (tt, tt)
    asserting_on place kinds.Config raw = (tt, tt)
    asserting_on place kinds.Accounts raw = (tt, tt)
    asserting_on place kinds.Metadata raw = (tt, tt)
    asserting_on place kinds.Disconnect raw = (tt, tt)

    -- ---- a get that shows a dialog

    metadata_on : (waits : Bool) (o : Option Offered) (raw : List ℕ) → AllOn p side (dialog.metadata_reply w f waits o raw)
    metadata_on false o raw = (tt, tt)
    metadata_on true None raw = (tt, tt)
    metadata_on true (Some o) raw = (tt, tt)

    prompting_on : (place : ℕ) (kind : ReplyKind) (raw : List ℕ) → AllOn p side (dialog.prompting_reply w f place kind raw)
    prompting_on place kinds.Metadata raw = metadata_on f.waits (asserting.picked_at place f.picked) raw
    prompting_on place kinds.WellKnown raw = (tt, tt)
    prompting_on place kinds.Config raw = (tt, tt)
    prompting_on place kinds.Accounts raw = (tt, tt)
    prompting_on place kinds.Assertion raw = (tt, tt)
    prompting_on place kinds.Disconnect raw = (tt, tt)

    connection_on : (o : Offered) → OfferedSide p side o → (connected : Bool) → AllOn p side (dialog.by_connection w f o connected)
    connection_on o h true = (h.config.assertion, tt)
    connection_on o h false = (prompt_on w f o o.candidate.connected o.config.metadata, tt)

    choice_on : (o : Option Offered) → IfSome o (OfferedSide p side) → AllOn p side (dialog.choice w f o)
    choice_on None h = (tt, tt)
    choice_on (Some o) h = connection_on o h o.candidate.connected

    chose_on : (st : Stage) (place : ℕ) (id : List ℕ) → AllOn p side (dialog.chose w f st place id)
    chose_on stages.Choosing place id = choice_on (found_offered place id f) (found_side p side place id f s)
    chose_on _ place id = (tt, tt)

    goes_on_on : (waits : Bool) (o : Option Offered) → IfSome o (OfferedSide p side) → AllOn p side (dialog.goes_on f waits o)
    goes_on_on true o h = (tt, tt)
    goes_on_on false None h = tt
    goes_on_on false (Some o) h = (h.config.assertion, tt)

    went_on : (st : Stage) → AllOn p side (dialog.went_on f st)
    went_on stages.Prompting = goes_on_on f.waits f.picked s.picked
    went_on _ = (tt, tt)

    cancelled_on : (st : Stage) → AllOn p side (dialog.cancelled st)
    cancelled_on stages.Mismatch = (tt, tt)
    cancelled_on _ = (tt, tt)

    -- ---- a get whose user is to sign in

    sign_in_on : (st : Stage) → AllOn p side (window.asked_to_sign_in f st)
    sign_in_on stages.Mismatch = window_opens_on only_place (config_at only_place f)
    sign_in_on _ = (tt, tt)

    again_on : (config : Option Config) → IfSome config (ConfigSide p side) → AllOn p side (window.asks_again only_place config)
    again_on None h = tt
    again_on (Some config) h = (h.accounts, tt)

    resumed_on : (st : Stage) → AllOn p side (window.resumed f st)
    resumed_on stages.Window = again_on (config_at only_place f) (config_at_side only_place f s)
    resumed_on _ = (tt, tt)

    shut_on : (st : Stage) → AllOn p side (window.window_shut st)
    shut_on stages.Window = (tt, tt)
    shut_on _ = (tt, tt)

    stage_on : (st : Stage) (place : ℕ) (kind : ReplyKind) (raw : List ℕ) → AllOn p side (get.stage_reply w f st place kind raw)
    stage_on stages.Reading place kind raw = awaited_on place kind raw
    stage_on stages.Listing place kind raw = awaited_on place kind raw
    stage_on stages.Gathering place kind raw = awaited_on place kind raw
    stage_on stages.Mismatch place kind raw = (tt, tt)
    stage_on stages.Window place kind raw = (tt, tt)
    stage_on stages.Choosing place kind raw = (tt, tt)
    stage_on stages.Prompting place kind raw = prompting_on place kind raw
    stage_on stages.Asserting place kind raw = asserting_on place kind raw
    stage_on stages.Ended place kind raw = (tt, tt)

    get_input_on : (input : Input) → AllOn p side (get.input_row w f input)
    get_input_on (inputs.Reply place kind raw) = stage_on f.stage place kind raw
    get_input_on (inputs.Choose place id) = chose_on f.stage place id
    get_input_on inputs.GoOn = went_on f.stage
    get_input_on inputs.Cancel = cancelled_on f.stage
    get_input_on inputs.SignIn = sign_in_on f.stage
    get_input_on inputs.Shut = shut_on f.stage
    get_input_on inputs.Resume = resumed_on f.stage
    get_input_on inputs.Abort = (tt, tt)

  -- ---- a disconnect

  module _ (w : World) (f : DisconnectFacts) (s : DisconnectSide p side f) where
    asks_on : (to : Option Parts) → IfSome to (λ u. has p (host_of u) ≡ side)
        → AllOn p side (disconnect.asks_disconnect f.origin f.options to)
    asks_on None h = (tt, tt)
    asks_on (Some to) h = (h, tt)

    heard_on : (heard : Heard) → HeardSide p side heard → AllOn p side (disconnect.by_heard f.origin f.options heard)
    heard_on (heards.Refused step) h = (tt, tt)
    heard_on (heards.Waits replies) h = tt
    heard_on (heards.Both config) h = asks_on config.disconnect h.disconnect
    heard_on (heards.NotWaited replies) h = (tt, tt)

    forgotten_on : (account : List ℕ) (found : Bool)
        → OnSide p side (disconnect.forgotten f.origin (provider_origin f.options) account found)
    forgotten_on account true = both_on side (has p f.origin.host) (has p (host_of f.options.config)) s.page s.provider
    forgotten_on account false = (s.page, s.provider)

    answered_on : (read : Answer (List ℕ) TokenStep)
        → AllOn p side (disconnect.answered w.kept f.origin (provider_origin f.options) read)
    answered_on (Ok account) =
        (forgotten_on account (kept.has_triple w.kept (kept.triple_of f.origin (provider_origin f.options) account)), (tt, tt))
    answered_on (Err step) = ((s.page, s.provider), (tt, tt))

    disconnect_reply_on : (kind : ReplyKind) (raw : List ℕ)
        → AllOn p side (disconnect.asserting_reply w.kept f.origin (provider_origin f.options) kind raw)
    disconnect_reply_on kinds.Disconnect raw = answered_on (DisconnectOf raw (origin_text f.origin))
    disconnect_reply_on kinds.WellKnown raw = (tt, tt)
    disconnect_reply_on kinds.Config raw = (tt, tt)
    disconnect_reply_on kinds.Accounts raw = (tt, tt)
    disconnect_reply_on kinds.Metadata raw = (tt, tt)
    disconnect_reply_on kinds.Assertion raw = (tt, tt)

    dstage_on : (st : Stage) (kind : ReplyKind) (raw : List ℕ) → AllOn p side (disconnect.stage_reply w f st kind raw)
    dstage_on stages.Reading kind raw =
        heard_on (reply_heard w.rules f.replies f.options.config kind raw)
        (heard_side p side w.rules f.replies f.options.config s.config s.provider kind raw)
    dstage_on stages.Asserting kind raw = disconnect_reply_on kind raw
    dstage_on _ kind raw = (tt, tt)

    dprovider_on : (own : Bool) (kind : ReplyKind) (raw : List ℕ) → AllOn p side (disconnect.provider_reply w f own kind raw)
    dprovider_on true kind raw = dstage_on f.stage kind raw
    dprovider_on false kind raw = (tt, tt)

    disconnect_on : (input : Input) → AllOn p side (disconnect.input_row w f input)
    disconnect_on (inputs.Reply place kind raw) = dprovider_on _ kind raw
    disconnect_on _ = (tt, tt)

  pub input_on : (w : World) (k : Known) → KnownSide p side k → (input : Input) → AllOn p side (input_row w k input)
  input_on w (OfGet f) s input = get_input_on w f s input
  input_on w (OfDisconnect f) s input = disconnect_on w f s input
