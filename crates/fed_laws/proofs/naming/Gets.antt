-- A get asks for no disconnect.
use Rattle.std.proofs.Common.{◌≡◌, ℕ, Bool, true, false, List, Option, Some, None, refl, ◌||◌, ap}
use Rattle.std.specs.Prelude.{Result as Answer, Ok, Err}
use Rattle.std.specs.List.{list_any}
use Rattle.url.specs.Parts.{Parts}
use Rattle.fed_origin.specs.declared.options.ProviderOptions.{ProviderOptions}
use Rattle.fed_origin.specs.declared.origin.Origin.{Origin}
use Rattle.fed_origin.specs.declared.stage.ReplyKind.{ReplyKind}
use Rattle.fed_origin.specs.declared.stage.ReplyKind.TheVariants as kinds
use Rattle.fed_origin.specs.declared.stage.Stage.{Stage}
use Rattle.fed_origin.specs.declared.stage.Stage.TheVariants.{Reading, Listing, Gathering, Mismatch, Window, Choosing, Prompting}
use Rattle.fed_origin.specs.declared.stage.Stage.TheVariants.{Asserting, Ended}
use Rattle.fed_origin.specs.Origin.{origin_text}
use Rattle.fed_origin.specs.WebUrl.{origin_of}
use Rattle.fed_provider.specs.declared.config.Config.{Config}
use Rattle.fed_token.specs.declared.step.TokenStep.{TokenStep}
use Rattle.fed_token.specs.Read.{AssertionOf}
use Rattle.fed_status.specs.Login.{status_of}
use Rattle.fed_status.specs.Shared.{World}
use Rattle.fed_consent.specs.declared.table.ask.Ask.{Ask}
use Rattle.fed_consent.specs.declared.table.ask.Ask.TheVariants as asks
use Rattle.fed_consent.specs.declared.table.effect.Effect.{Effect as CallEffect}
use Rattle.fed_consent.specs.declared.table.effect.Effect.TheVariants as does
use Rattle.fed_consent.specs.declared.table.failure.Failure.{Failure}
use Rattle.fed_consent.specs.declared.table.finish.Finish.TheVariants.{Token}
use Rattle.fed_consent.specs.declared.table.input.Input.{Input}
use Rattle.fed_consent.specs.declared.table.input.Input.TheVariants as inputs
use Rattle.fed_consent.specs.Outcomes.{Outcome, finishes}
use Rattle.fed_call.specs.Accounts.{Offered, provider_at}
use Rattle.fed_call.specs.AssertingRows.{asserting_reply, assertion_reply, by_token, clears, keeps, picked_at}
use Rattle.fed_call.specs.DialogRows.{by_connection, cancelled, choice, chose, goes_on, metadata_reply, prompting_reply, went_on}
use Rattle.fed_call.specs.Dialogs.{prompt_effect, prompts, site_of}
use Rattle.fed_call.specs.Facts.{Facts, Conclusion, Awaits, NoneLeft, Reselects, NoneSilent, Offers, Prompts, came_at, conclusion_of}
use Rattle.fed_call.specs.Facts.{config_at, found_offered, is_single, with_progress}
use Rattle.fed_call.specs.GatheringRows.{gathering_came}
use Rattle.fed_call.specs.Progress.{Came, Unawaited, Refused, Waits, Both, NoneFits, Fit}
use Rattle.fed_call.specs.Row.{came_row, input_row, provider_row, stage_reply}
use Rattle.fed_call.specs.SettledRows.{concludes, settles}
use Rattle.fed_call.specs.SingleRows.{by_mismatch, by_window, is_mismatch, refused, single_came}
use Rattle.fed_call.specs.WindowRows.{asked_to_sign_in, asks_again, may_sign_in, opens_window, resumed, window_shut}
use Rattle.fed_consent.specs.Outcomes.{only_place}

abbrev pub for_disconnect : Ask → Bool
for_disconnect (asks.Disconnect to client hint origin) = true
for_disconnect _ = false

-- an effect asks for a disconnect
abbrev pub disconnects : CallEffect → Bool
disconnects (does.Send provider ask) = for_disconnect ask
disconnects _ = false

abbrev pub NoDisconnect : Outcome → Type 0
NoDisconnect o = list_any disconnects o.effects ≡ false

module _ (world : World) where
  -- ---- where the providers are settled

  prompt_none : (f : Facts) (offered : Offered) (connected : Bool) (endpoint : Option Parts)
      → disconnects (prompt_effect world f offered connected endpoint) ≡ false
  prompt_none f offered true endpoint = refl
  prompt_none f offered false None = refl
  prompt_none f offered false (Some to) = refl

  prompts_none : (f : Facts) (offered : Offered) → NoDisconnect (prompts world f offered)
  prompts_none f offered =
      ap (λ b. b || false) (prompt_none f offered offered.candidate.connected offered.config.metadata)

  concludes_none : (f : Facts) (c : Conclusion) → NoDisconnect (concludes world f c)
  concludes_none f Awaits = refl
  concludes_none f (NoneLeft failure) = refl
  concludes_none f (Reselects offered) = refl
  concludes_none f NoneSilent = refl
  concludes_none f (Offers offered) = refl
  concludes_none f (Prompts offered) = prompts_none f offered

  settles_none : (f : Facts) → NoDisconnect (settles world f)
  settles_none f = concludes_none f (conclusion_of world f.origin f.options f.progress)

  -- ---- a reply of a provider that is awaited

  mismatch_none : (place : ℕ) (site : List ℕ) (failure : Failure) (mismatch : Bool)
      → NoDisconnect (by_mismatch place site failure mismatch)
  mismatch_none place site failure true = refl
  mismatch_none place site failure false = refl

  opens_none : (place : ℕ) (config : Option Config) → NoDisconnect (opens_window place config)
  opens_none place None = refl
  opens_none place (Some config) = refl

  window_none : (place : ℕ) (config : Option Config) (other : Outcome) (active : Bool) → NoDisconnect other
      → NoDisconnect (by_window place config other active)
  window_none place config other true none = opens_none place config
  window_none place config other false none = none

  refused_none : (f : Facts) (place : ℕ) (provider : Origin) (failure : Failure) → NoDisconnect (refused world f place provider failure)
  refused_none f place provider failure =
      window_none place (config_at place f) _ (may_sign_in f.options.mode f.options.mediation)
      (mismatch_none place (site_of world f.origin) failure
      (is_mismatch f.options.mode f.options.mediation (status_of world.login provider)))

  single_none : (f : Facts) (place : ℕ) (provider : Origin) (c : Came) → NoDisconnect (single_came world f place provider c)
  single_none f place provider Unawaited = refl
  single_none f place provider (Refused failure) = refl
  single_none f place provider (Waits replies) = refl
  single_none f place provider (Both config) = refl
  single_none f place provider (NoneFits failure) = refused_none f place provider failure
  single_none f place provider (Fit config accounts) = settles_none (with_progress place _ f)

  gathering_none : (f : Facts) (place : ℕ) (provider : Origin) (c : Came) → NoDisconnect (gathering_came world f place provider c)
  gathering_none f place provider Unawaited = refl
  gathering_none f place provider (Refused failure) = settles_none (with_progress place _ f)
  gathering_none f place provider (Waits replies) = refl
  gathering_none f place provider (Both config) = refl
  gathering_none f place provider (NoneFits failure) = settles_none (with_progress place _ f)
  gathering_none f place provider (Fit config accounts) = settles_none (with_progress place _ f)

  came_none : (f : Facts) (place : ℕ) (single : Bool) (provider : Origin) (c : Came)
      → NoDisconnect (came_row world f place single provider c)
  came_none f place true provider c = single_none f place provider c
  came_none f place false provider c = gathering_none f place provider c

  provider_none : (f : Facts) (place : ℕ) (provider : Option ProviderOptions) (c : Came)
      → NoDisconnect (provider_row world f place provider c)
  provider_none f place None c = refl
  provider_none f place (Some provider) c = came_none f place (is_single f.options) (origin_of provider.config) c

  -- ---- at a prompt, and in Asserting

  metadata_none : (f : Facts) (waits : Bool) (offered : Option Offered) (raw : List ℕ)
      → NoDisconnect (metadata_reply world f waits offered raw)
  metadata_none f false offered raw = refl
  metadata_none f true None raw = refl
  metadata_none f true (Some offered) raw = refl

  prompting_none : (f : Facts) (place : ℕ) (kind : ReplyKind) (raw : List ℕ) → NoDisconnect (prompting_reply world f place kind raw)
  prompting_none f place kinds.Metadata raw = metadata_none f f.waits (picked_at place f.picked) raw
  prompting_none f place kinds.WellKnown raw = refl
  prompting_none f place kinds.Config raw = refl
  prompting_none f place kinds.Accounts raw = refl
  prompting_none f place kinds.Assertion raw = refl
  prompting_none f place kinds.Disconnect raw = refl

  token_none : (f : Facts) (offered : Offered) (read : Answer (List ℕ) TokenStep) → NoDisconnect (by_token f offered read)
  token_none f offered (Err step) = refl
  token_none f offered (Ok token) = go f.auto
    where
      go : (auto : Bool) → NoDisconnect (keeps f.origin offered (clears auto f.origin (finishes (Token f.auto offered.place token))))
      go true = refl
      go false = refl

  assertion_none : (f : Facts) (offered : Option Offered) (raw : List ℕ) → NoDisconnect (assertion_reply f offered raw)
  assertion_none f None raw = refl
  assertion_none f (Some offered) raw = token_none f offered (AssertionOf raw (origin_text f.origin))

  asserting_none : (f : Facts) (place : ℕ) (kind : ReplyKind) (raw : List ℕ) → NoDisconnect (asserting_reply f place kind raw)
  asserting_none f place kinds.Assertion raw = assertion_none f (picked_at place f.picked) raw
  asserting_none f place kinds.WellKnown raw = refl
  asserting_none f place kinds.Config raw = refl
  asserting_none f place kinds.Accounts raw = refl
  asserting_none f place kinds.Metadata raw = refl
  asserting_none f place kinds.Disconnect raw = refl

  reply_none : (f : Facts) (stage : Stage) (place : ℕ) (kind : ReplyKind) (raw : List ℕ)
      → NoDisconnect (stage_reply world f stage place kind raw)
  reply_none f Reading place kind raw =
      provider_none f place (provider_at place f.options) (came_at world f place kind raw)
  reply_none f Listing place kind raw =
      provider_none f place (provider_at place f.options) (came_at world f place kind raw)
  reply_none f Gathering place kind raw =
      provider_none f place (provider_at place f.options) (came_at world f place kind raw)
  reply_none f Mismatch place kind raw = refl
  reply_none f Window place kind raw = refl
  reply_none f Choosing place kind raw = refl
  reply_none f Prompting place kind raw = prompting_none f place kind raw
  reply_none f Asserting place kind raw = asserting_none f place kind raw
  reply_none f Ended place kind raw = refl

  -- ---- the user's words

  connection_none : (f : Facts) (offered : Offered) (connected : Bool) → NoDisconnect (by_connection world f offered connected)
  connection_none f offered true = refl
  connection_none f offered false = prompts_none f offered

  choice_none : (f : Facts) (offered : Option Offered) → NoDisconnect (choice world f offered)
  choice_none f None = refl
  choice_none f (Some offered) = connection_none f offered offered.candidate.connected

  chose_none : (f : Facts) (stage : Stage) (place : ℕ) (id : List ℕ) → NoDisconnect (chose world f stage place id)
  chose_none f Choosing place id = choice_none f (found_offered place id f)
  chose_none f Reading place id = refl
  chose_none f Listing place id = refl
  chose_none f Gathering place id = refl
  chose_none f Mismatch place id = refl
  chose_none f Window place id = refl
  chose_none f Prompting place id = refl
  chose_none f Asserting place id = refl
  chose_none f Ended place id = refl

  goes_on_none : (f : Facts) (waits : Bool) (picked : Option Offered) → NoDisconnect (goes_on f waits picked)
  goes_on_none f true picked = refl
  goes_on_none f false None = refl
  goes_on_none f false (Some offered) = refl

  went_on_none : (f : Facts) (stage : Stage) → NoDisconnect (went_on f stage)
  went_on_none f Prompting = goes_on_none f f.waits f.picked
  went_on_none f Reading = refl
  went_on_none f Listing = refl
  went_on_none f Gathering = refl
  went_on_none f Mismatch = refl
  went_on_none f Window = refl
  went_on_none f Choosing = refl
  went_on_none f Asserting = refl
  went_on_none f Ended = refl

  cancelled_none : (stage : Stage) → NoDisconnect (cancelled stage)
  cancelled_none Reading = refl
  cancelled_none Listing = refl
  cancelled_none Gathering = refl
  cancelled_none Mismatch = refl
  cancelled_none Window = refl
  cancelled_none Choosing = refl
  cancelled_none Prompting = refl
  cancelled_none Asserting = refl
  cancelled_none Ended = refl

  signs_in_none : (f : Facts) (stage : Stage) → NoDisconnect (asked_to_sign_in f stage)
  signs_in_none f Mismatch = opens_none only_place (config_at only_place f)
  signs_in_none f Reading = refl
  signs_in_none f Listing = refl
  signs_in_none f Gathering = refl
  signs_in_none f Window = refl
  signs_in_none f Choosing = refl
  signs_in_none f Prompting = refl
  signs_in_none f Asserting = refl
  signs_in_none f Ended = refl

  shut_none : (stage : Stage) → NoDisconnect (window_shut stage)
  shut_none Window = refl
  shut_none Reading = refl
  shut_none Listing = refl
  shut_none Gathering = refl
  shut_none Mismatch = refl
  shut_none Choosing = refl
  shut_none Prompting = refl
  shut_none Asserting = refl
  shut_none Ended = refl

  again_none : (config : Option Config) → NoDisconnect (asks_again only_place config)
  again_none None = refl
  again_none (Some config) = refl

  resumed_none : (f : Facts) (stage : Stage) → NoDisconnect (resumed f stage)
  resumed_none f Window = again_none (config_at only_place f)
  resumed_none f Reading = refl
  resumed_none f Listing = refl
  resumed_none f Gathering = refl
  resumed_none f Mismatch = refl
  resumed_none f Choosing = refl
  resumed_none f Prompting = refl
  resumed_none f Asserting = refl
  resumed_none f Ended = refl

  pub no_disconnect : (f : Facts) (input : Input) → NoDisconnect (input_row world f input)
  no_disconnect f (inputs.Reply place kind raw) = reply_none f f.stage place kind raw
  no_disconnect f (inputs.Choose place id) = chose_none f f.stage place id
  no_disconnect f inputs.GoOn = went_on_none f f.stage
  no_disconnect f inputs.Cancel = cancelled_none f.stage
  no_disconnect f inputs.SignIn = signs_in_none f f.stage
  no_disconnect f inputs.Shut = shut_none f.stage
  no_disconnect f inputs.Resume = resumed_none f f.stage
  no_disconnect f inputs.Abort = refl
