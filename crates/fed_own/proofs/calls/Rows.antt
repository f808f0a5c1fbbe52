-- What a call does is about its providers, and names no other page than its own.
use Rattle.std.proofs.Common.{◌≡◌, ℕ, zero, suc, ◌<◌, ◌≤◌, Bool, true, false, nat_eq, cond, List, [], ◌∷◌, length}
use Rattle.std.proofs.Common.{slice_get, Option, Some, None, refl, arith}
use Rattle.std.specs.Prelude.{⊤, Result as Answer, Ok, Err}
use Rattle.std.specs.List.{AllByRecursion}
use Rattle.url.specs.Parts.{Parts}
use Rattle.fed_origin.specs.declared.options.ProviderOptions.{ProviderOptions}
use Rattle.fed_origin.specs.declared.origin.Origin.{Origin}
use Rattle.fed_origin.specs.declared.stage.ReplyKind.{ReplyKind}
use Rattle.fed_origin.specs.declared.stage.ReplyKind.TheVariants as kinds
use Rattle.fed_origin.specs.declared.stage.Stage.{Stage}
use Rattle.fed_origin.specs.declared.stage.Stage.TheVariants.{Reading, Listing, Gathering, Mismatch, Window, Choosing, Prompting}
use Rattle.fed_origin.specs.declared.stage.Stage.TheVariants.{Asserting, Ended}
use Rattle.fed_origin.specs.Origin.{origin_text}
use Rattle.fed_origin.specs.WebUrl.{origin_of}
use Rattle.fed_provider.specs.declared.config.Config.{Config}
use Rattle.fed_token.specs.declared.step.TokenStep.{TokenStep}
use Rattle.fed_token.specs.declared.step.TokenStep.TheVariants as token_steps
use Rattle.fed_token.specs.Read.{AssertionOf}
use Rattle.fed_status.specs.Login.{status_of}
use Rattle.fed_status.specs.Shared.{World}
use Rattle.fed_consent.specs.Ask.{named_origin}
use Rattle.fed_consent.specs.declared.table.effect.Effect.{Effect as CallEffect}
use Rattle.fed_consent.specs.declared.table.effect.Effect.TheVariants as does
use Rattle.fed_consent.specs.declared.table.failure.Failure.{Failure}
use Rattle.fed_consent.specs.declared.table.finish.Finish.TheVariants.{Token}
use Rattle.fed_consent.specs.declared.table.input.Input.{Input}
use Rattle.fed_consent.specs.declared.table.input.Input.TheVariants as inputs
use Rattle.fed_consent.specs.Outcomes.{Outcome, finishes, only_place}
use Rattle.fed_call.specs.Accounts.{Offered, provider_at}
use Rattle.fed_call.specs.AssertingRows.{asserting_reply, assertion_reply, by_token, clears, keeps, picked_at, token_refused}
use Rattle.fed_call.specs.DialogRows.{by_connection, cancelled, choice, chose, goes_on, metadata_reply, prompting_reply, went_on}
use Rattle.fed_call.specs.Dialogs.{prompt_effect, prompts, site_of}
use Rattle.fed_call.specs.Facts.{Facts, Conclusion, Awaits, NoneLeft, Reselects, NoneSilent, Offers, Prompts, came_at, conclusion_of}
use Rattle.fed_call.specs.Facts.{config_at, found_offered, is_named, is_single, with_progress}
use Rattle.fed_call.specs.GatheringRows.{gathering_came}
use Rattle.fed_call.specs.Progress.{Came, Unawaited, Refused, Waits, Both, NoneFits, Fit}
use Rattle.fed_call.specs.Row.{came_row, input_row, provider_row, stage_reply}
use Rattle.fed_call.specs.SettledRows.{concludes, settles}
use Rattle.fed_call.specs.SingleRows.{by_mismatch, by_window, is_mismatch, refused, single_came}
use Rattle.fed_call.specs.WindowRows.{asked_to_sign_in, asks_again, may_sign_in, opens_window, resumed, window_shut}
use Rattle.fed_own.specs.Calls.{IsWithin}
use Rattle.fed_own.proofs.calls.Placed.{ConclusionBelow, IfBelow, IsBelow, Placed, concluded_below, found_below}

-- the origin, if there is one, is the page's
abbrev pub IsPage : Origin → Option Origin → Type 0
IsPage page None = ⊤
IsPage page (Some origin) = origin ≡ page

-- an effect is about one of so many providers, and names this page or none
abbrev pub Fits : ℕ → Origin → CallEffect → Type 0
Fits count page (does.Send provider ask) = (provider < count) × IsPage page (named_origin ask)
Fits count page (does.Finish finish) = IsWithin count finish
Fits count page _ = ⊤

abbrev pub AllFit : ℕ → Origin → Outcome → Type 0
AllFit count page o = AllByRecursion (Fits count page) o.effects

-- the provider at a place, if there is one, is below this
abbrev IfPlace : ℕ → ℕ → Option ProviderOptions → Type 0
IfPlace count place None = ⊤
IfPlace count place (Some provider) = place < count

next_place : (count place : ℕ) (o : Option ProviderOptions) → IfPlace count place o → IfPlace (suc count) (suc place) o
next_place count place None h = tt
next_place count place (Some provider) h = omega (arith, h)

got_place : (qs : List ProviderOptions) (place : ℕ) → IfPlace (length qs) place (slice_get qs place)
got_place [] place = tt
got_place (q ∷ qs) zero = omega arith
got_place (q ∷ qs) (suc place) = next_place (length qs) place (slice_get qs place) (got_place qs place)

module _ (world : World) where
  -- ---- where the providers are settled

  prompt_fits : (f : Facts) (o : Offered) (connected : Bool) (endpoint : Option Parts) → IsBelow (length f.options.providers) o
      → Fits (length f.options.providers) f.origin (prompt_effect world f o connected endpoint)
  prompt_fits f o true endpoint below = tt
  prompt_fits f o false None below = tt
  prompt_fits f o false (Some to) below = (below, refl)

  prompts_fit : (f : Facts) (o : Offered) → IsBelow (length f.options.providers) o
      → AllFit (length f.options.providers) f.origin (prompts world f o)
  prompts_fit f o below = (prompt_fits f o o.candidate.connected o.config.metadata below, tt)

  concludes_fit : (f : Facts) (c : Conclusion) → ConclusionBelow (length f.options.providers) c
      → AllFit (length f.options.providers) f.origin (concludes world f c)
  concludes_fit f Awaits below = tt
  concludes_fit f (NoneLeft failure) below = (tt, tt)
  concludes_fit f (Reselects o) below = ((below, refl), tt)
  concludes_fit f NoneSilent below = (tt, tt)
  concludes_fit f (Offers os) below = (tt, tt)
  concludes_fit f (Prompts o) below = prompts_fit f o below

  settles_fit : (f : Facts) → AllFit (length f.options.providers) f.origin (settles world f)
  settles_fit f =
      concludes_fit f (conclusion_of world f.origin f.options f.progress) (concluded_below world f.origin f.options f.progress)

  -- ---- a reply of a provider that is awaited

  mismatch_fits : (count : ℕ) (page : Origin) (place : ℕ) (site : List ℕ) (failure : Failure) (mismatch : Bool)
      → AllFit count page (by_mismatch place site failure mismatch)
  mismatch_fits count page place site failure true = (tt, tt)
  mismatch_fits count page place site failure false = (tt, tt)

  opens_fit : (count : ℕ) (page : Origin) (place : ℕ) (config : Option Config) → AllFit count page (opens_window place config)
  opens_fit count page place None = tt
  opens_fit count page place (Some config) = (tt, tt)

  window_fits : (count : ℕ) (page : Origin) (place : ℕ) (config : Option Config) (other : Outcome) (active : Bool)
      → AllFit count page other → AllFit count page (by_window place config other active)
  window_fits count page place config other true h = opens_fit count page place config
  window_fits count page place config other false h = h

  refused_fits : (f : Facts) (place : ℕ) (provider : Origin) (failure : Failure)
      → AllFit (length f.options.providers) f.origin (refused world f place provider failure)
  refused_fits f place provider failure =
      window_fits (length f.options.providers) f.origin place (config_at place f) _ (may_sign_in f.options.mode f.options.mediation)
      (mismatch_fits (length f.options.providers) f.origin place (site_of world f.origin) failure
      (is_mismatch f.options.mode f.options.mediation (status_of world.login provider)))

  single_fits : (f : Facts) (place : ℕ) (provider : Origin) (c : Came) → place < length f.options.providers
      → AllFit (length f.options.providers) f.origin (single_came world f place provider c)
  single_fits f place provider Unawaited below = (tt, tt)
  single_fits f place provider (Refused failure) below = (tt, tt)
  single_fits f place provider (Waits replies) below = tt
  single_fits f place provider (Both config) below = ((below, tt), tt)
  single_fits f place provider (NoneFits failure) below = (tt, refused_fits f place provider failure)
  single_fits f place provider (Fit config accounts) below = (tt, settles_fit (with_progress place _ f))

  gathering_fits : (f : Facts) (place : ℕ) (provider : Origin) (c : Came) → place < length f.options.providers
      → AllFit (length f.options.providers) f.origin (gathering_came world f place provider c)
  gathering_fits f place provider Unawaited below = (tt, tt)
  gathering_fits f place provider (Refused failure) below = (tt, settles_fit (with_progress place _ f))
  gathering_fits f place provider (Waits replies) below = tt
  gathering_fits f place provider (Both config) below = ((below, tt), tt)
  gathering_fits f place provider (NoneFits failure) below = (tt, (tt, settles_fit (with_progress place _ f)))
  gathering_fits f place provider (Fit config accounts) below = (tt, settles_fit (with_progress place _ f))

  came_fits : (f : Facts) (place : ℕ) (single : Bool) (provider : Origin) (c : Came) → place < length f.options.providers
      → AllFit (length f.options.providers) f.origin (came_row world f place single provider c)
  came_fits f place true provider c below = single_fits f place provider c below
  came_fits f place false provider c below = gathering_fits f place provider c below

  provider_fits : (f : Facts) (place : ℕ) (provider : Option ProviderOptions) (c : Came)
      → IfPlace (length f.options.providers) place provider
      → AllFit (length f.options.providers) f.origin (provider_row world f place provider c)
  provider_fits f place None c below = (tt, tt)
  provider_fits f place (Some provider) c below = came_fits f place (is_single f.options) (origin_of provider.config) c below

  awaited_fits : (f : Facts) (place : ℕ) (kind : ReplyKind) (raw : List ℕ)
      → AllFit (length f.options.providers) f.origin
      (provider_row world f place (provider_at place f.options) (came_at world f place kind raw))
  awaited_fits f place kind raw =
      provider_fits f place (provider_at place f.options) (came_at world f place kind raw) (got_place f.options.providers place)

  -- ---- at a prompt, and in Asserting

  metadata_fits : (f : Facts) (waits : Bool) (o : Option Offered) (raw : List ℕ)
      → AllFit (length f.options.providers) f.origin (metadata_reply world f waits o raw)
  metadata_fits f false o raw = (tt, tt)
  metadata_fits f true None raw = (tt, tt)
  metadata_fits f true (Some o) raw = (tt, tt)

  prompting_fits : (f : Facts) (place : ℕ) (kind : ReplyKind) (raw : List ℕ)
      → AllFit (length f.options.providers) f.origin (prompting_reply world f place kind raw)
  prompting_fits f place kinds.Metadata raw = metadata_fits f f.waits (picked_at place f.picked) raw
  prompting_fits f place kinds.WellKnown raw = (tt, tt)
  prompting_fits f place kinds.Config raw = (tt, tt)
  prompting_fits f place kinds.Accounts raw = (tt, tt)
  prompting_fits f place kinds.Assertion raw = (tt, tt)
  prompting_fits f place kinds.Disconnect raw = (tt, tt)

  refusal_fits : (count : ℕ) (step : TokenStep) → IsWithin count (token_refused step)
  refusal_fits count (token_steps.Reply s) = tt
  refusal_fits count token_steps.Cors = tt
  refusal_fits count token_steps.Shape = tt
  refusal_fits count (token_steps.ProviderError code url) = tt

  token_fits : (f : Facts) (o : Offered) (read : Answer (List ℕ) TokenStep) → IsBelow (length f.options.providers) o
      → AllFit (length f.options.providers) f.origin (by_token f o read)
  token_fits f o (Err step) below = (refusal_fits (length f.options.providers) step, tt)
  token_fits f o (Ok token) below = go f.auto
    where
      go : (auto : Bool)
          → AllFit (length f.options.providers) f.origin (keeps f.origin o (clears auto f.origin (finishes (Token f.auto o.place token))))
      go true = (tt, (below, tt))
      go false = (tt, (tt, (below, tt)))

  at_place : (count place : ℕ) (o : Option Offered) → IfBelow count o → IfBelow count (picked_at place o)
  at_place count place None below = tt
  at_place count place (Some o) below = go (nat_eq place o.place)
    where
      go : (b : Bool) → IfBelow count (cond b (Some o) None)
      go true = below
      go false = tt

  assertion_fits : (f : Facts) (o : Option Offered) (raw : List ℕ) → IfBelow (length f.options.providers) o
      → AllFit (length f.options.providers) f.origin (assertion_reply f o raw)
  assertion_fits f None raw below = (tt, tt)
  assertion_fits f (Some o) raw below = token_fits f o (AssertionOf raw (origin_text f.origin)) below

  asserting_fits : (f : Facts) (place : ℕ) (kind : ReplyKind) (raw : List ℕ) → Placed f
      → AllFit (length f.options.providers) f.origin (asserting_reply f place kind raw)
  asserting_fits f place kinds.Assertion raw h =
      assertion_fits f (picked_at place f.picked) raw (at_place (length f.options.providers) place f.picked h.picked)
  asserting_fits f place kinds.WellKnown raw h = (tt, tt)
  asserting_fits f place kinds.Config raw h = (tt, tt)
  asserting_fits f place kinds.Accounts raw h = (tt, tt)
  asserting_fits f place kinds.Metadata raw h = (tt, tt)
  asserting_fits f place kinds.Disconnect raw h = (tt, tt)

  reply_fits : (f : Facts) (stage : Stage) (place : ℕ) (kind : ReplyKind) (raw : List ℕ) → Placed f
      → AllFit (length f.options.providers) f.origin (stage_reply world f stage place kind raw)
  reply_fits f Reading place kind raw h = awaited_fits f place kind raw
  reply_fits f Listing place kind raw h = awaited_fits f place kind raw
  reply_fits f Gathering place kind raw h = awaited_fits f place kind raw
  reply_fits f Mismatch place kind raw h = (tt, tt)
  reply_fits f Window place kind raw h = (tt, tt)
  reply_fits f Choosing place kind raw h = (tt, tt)
  reply_fits f Prompting place kind raw h = prompting_fits f place kind raw
  reply_fits f Asserting place kind raw h = asserting_fits f place kind raw h
  reply_fits f Ended place kind raw h = (tt, tt)

  -- ---- the user's words

  connection_fits : (f : Facts) (o : Offered) (connected : Bool) → IsBelow (length f.options.providers) o
      → AllFit (length f.options.providers) f.origin (by_connection world f o connected)
  connection_fits f o true below = ((below, refl), tt)
  connection_fits f o false below = prompts_fit f o below

  choice_fits : (f : Facts) (o : Option Offered) → IfBelow (length f.options.providers) o
      → AllFit (length f.options.providers) f.origin (choice world f o)
  choice_fits f None below = (tt, tt)
  choice_fits f (Some o) below = connection_fits f o o.candidate.connected below

  chose_fits : (f : Facts) (stage : Stage) (place : ℕ) (id : List ℕ) → Placed f
      → AllFit (length f.options.providers) f.origin (chose world f stage place id)
  chose_fits f Choosing place id h =
      choice_fits f (found_offered place id f) (found_below (length f.options.providers) (is_named place id) f.offered h.offered)
  chose_fits f Reading place id h = (tt, tt)
  chose_fits f Listing place id h = (tt, tt)
  chose_fits f Gathering place id h = (tt, tt)
  chose_fits f Mismatch place id h = (tt, tt)
  chose_fits f Window place id h = (tt, tt)
  chose_fits f Prompting place id h = (tt, tt)
  chose_fits f Asserting place id h = (tt, tt)
  chose_fits f Ended place id h = (tt, tt)

  goes_fits : (f : Facts) (waits : Bool) (o : Option Offered) → IfBelow (length f.options.providers) o
      → AllFit (length f.options.providers) f.origin (goes_on f waits o)
  goes_fits f true o below = (tt, tt)
  goes_fits f false None below = tt
  goes_fits f false (Some o) below = ((below, refl), tt)

  went_fits : (f : Facts) (stage : Stage) → Placed f → AllFit (length f.options.providers) f.origin (went_on f stage)
  went_fits f Prompting h = goes_fits f f.waits f.picked h.picked
  went_fits f Reading h = (tt, tt)
  went_fits f Listing h = (tt, tt)
  went_fits f Gathering h = (tt, tt)
  went_fits f Mismatch h = (tt, tt)
  went_fits f Window h = (tt, tt)
  went_fits f Choosing h = (tt, tt)
  went_fits f Asserting h = (tt, tt)
  went_fits f Ended h = (tt, tt)

  cancelled_fits : (count : ℕ) (page : Origin) (stage : Stage) → AllFit count page (cancelled stage)
  cancelled_fits count page Reading = (tt, tt)
  cancelled_fits count page Listing = (tt, tt)
  cancelled_fits count page Gathering = (tt, tt)
  cancelled_fits count page Mismatch = (tt, tt)
  cancelled_fits count page Window = (tt, tt)
  cancelled_fits count page Choosing = (tt, tt)
  cancelled_fits count page Prompting = (tt, tt)
  cancelled_fits count page Asserting = (tt, tt)
  cancelled_fits count page Ended = (tt, tt)

  signs_fit : (f : Facts) (stage : Stage) → AllFit (length f.options.providers) f.origin (asked_to_sign_in f stage)
  signs_fit f Mismatch = opens_fit (length f.options.providers) f.origin only_place (config_at only_place f)
  signs_fit f Reading = (tt, tt)
  signs_fit f Listing = (tt, tt)
  signs_fit f Gathering = (tt, tt)
  signs_fit f Window = (tt, tt)
  signs_fit f Choosing = (tt, tt)
  signs_fit f Prompting = (tt, tt)
  signs_fit f Asserting = (tt, tt)
  signs_fit f Ended = (tt, tt)

  shut_fits : (count : ℕ) (page : Origin) (stage : Stage) → AllFit count page (window_shut stage)
  shut_fits count page Window = (tt, tt)
  shut_fits count page Reading = (tt, tt)
  shut_fits count page Listing = (tt, tt)
  shut_fits count page Gathering = (tt, tt)
  shut_fits count page Mismatch = (tt, tt)
  shut_fits count page Choosing = (tt, tt)
  shut_fits count page Prompting = (tt, tt)
  shut_fits count page Asserting = (tt, tt)
  shut_fits count page Ended = (tt, tt)

  again_fits : (count : ℕ) (page : Origin) (config : Option Config) → 1 ≤ count → AllFit count page (asks_again only_place config)
  again_fits count page None some = tt
  again_fits count page (Some config) some = ((omega (arith, some), tt), tt)

  resumed_fits : (f : Facts) (stage : Stage) → 1 ≤ length f.options.providers
      → AllFit (length f.options.providers) f.origin (resumed f stage)
  resumed_fits f Window some = again_fits (length f.options.providers) f.origin (config_at only_place f) some
  resumed_fits f Reading some = (tt, tt)
  resumed_fits f Listing some = (tt, tt)
  resumed_fits f Gathering some = (tt, tt)
  resumed_fits f Mismatch some = (tt, tt)
  resumed_fits f Choosing some = (tt, tt)
  resumed_fits f Prompting some = (tt, tt)
  resumed_fits f Asserting some = (tt, tt)
  resumed_fits f Ended some = (tt, tt)

  pub input_fits : (f : Facts) (input : Input) → Placed f → 1 ≤ length f.options.providers
      → AllFit (length f.options.providers) f.origin (input_row world f input)
  input_fits f (inputs.Reply place kind raw) h some = reply_fits f f.stage place kind raw h
  input_fits f (inputs.Choose place id) h some = chose_fits f f.stage place id h
  input_fits f inputs.GoOn h some = went_fits f f.stage h
  input_fits f inputs.Cancel h some = cancelled_fits (length f.options.providers) f.origin f.stage
  input_fits f inputs.SignIn h some = signs_fit f f.stage
  input_fits f inputs.Shut h some = shut_fits (length f.options.providers) f.origin f.stage
  input_fits f inputs.Resume h some = resumed_fits f f.stage some
  input_fits f inputs.Abort h some = (tt, tt)
