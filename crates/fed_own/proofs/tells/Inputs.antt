-- At an input a call sends one request or gives one token at most.
use Rattle.std.proofs.Common.{◌≡◌, ℕ, Bool, true, false, ◌==◌, List, [], ◌∷◌, Option, Some, None, refl}
use Rattle.std.specs.Prelude.{Result as Answer, Ok, Err}
use Rattle.std.specs.List.{cons_option}
use Rattle.url.specs.Parts.{Parts}
use Rattle.fed_origin.specs.declared.options.ProviderOptions.{ProviderOptions}
use Rattle.fed_origin.specs.declared.origin.Origin.{Origin}
use Rattle.fed_origin.specs.declared.stage.ReplyKind.{ReplyKind}
use Rattle.fed_origin.specs.declared.stage.ReplyKind.TheVariants as kinds
use Rattle.fed_origin.specs.declared.stage.Stage.{Stage}
use Rattle.fed_origin.specs.declared.stage.Stage.TheVariants.{Reading, Listing, Gathering, Mismatch, Window, Choosing, Prompting}
use Rattle.fed_origin.specs.declared.stage.Stage.TheVariants.{Asserting, Ended}
use Rattle.fed_origin.specs.declared.status.Triple.{Triple}
use Rattle.fed_origin.specs.Origin.{origin_text}
use Rattle.fed_origin.specs.WebUrl.{origin_of}
use Rattle.fed_provider.specs.declared.config.Config.{Config}
use Rattle.fed_provider.specs.declared.first_replies.Heard.{Heard}
use Rattle.fed_provider.specs.declared.first_replies.Heard.TheVariants as heard
use Rattle.fed_provider.specs.FirstReplies.{reply_heard}
use Rattle.fed_token.specs.declared.step.TokenStep.{TokenStep}
use Rattle.fed_token.specs.Read.{AssertionOf, DisconnectOf}
use Rattle.fed_status.specs.Kept.{has_triple, triple_of}
use Rattle.fed_status.specs.Login.{status_of}
use Rattle.fed_status.specs.Shared.{World}
use Rattle.fed_consent.specs.declared.table.effect.Effect.TheVariants as does
use Rattle.fed_consent.specs.declared.table.failure.Failure.{Failure}
use Rattle.fed_consent.specs.declared.table.finish.Finish.TheVariants.{Token}
use Rattle.fed_consent.specs.declared.table.input.Input.{Input}
use Rattle.fed_consent.specs.declared.table.input.Input.TheVariants as inputs
use Rattle.fed_consent.specs.Outcomes.{Outcome, finishes, only_place}
use Rattle.fed_call.specs.Accounts.{Offered, provider_at}
use Rattle.fed_call.specs.AssertingRows.{asserting_reply, assertion_reply, by_token, clears, keeps, picked_at, token_refused}
use Rattle.fed_call.specs.DialogRows.{by_connection, cancelled, choice, chose, goes_on, metadata_reply, prompting_reply, went_on}
use Rattle.fed_call.specs.Dialogs.{prompt_effect, prompts, site_of}
use Rattle.fed_call.specs.Facts.{Facts, Conclusion, Awaits, NoneLeft, Reselects, NoneSilent, Offers, Prompts, came_at, conclusion_of}
use Rattle.fed_call.specs.Facts.{config_at, found_offered, is_single, with_progress}
use Rattle.fed_call.specs.GatheringRows.{gathering_came}
use Rattle.fed_call.specs.Progress.{Came, Unawaited, Refused, Waits, Both, NoneFits, Fit}
use Rattle.fed_call.specs.Row.{came_row, provider_row, stage_reply}
use Rattle.fed_call.specs.Row as get
use Rattle.fed_call.specs.SettledRows.{concludes, settles}
use Rattle.fed_call.specs.SingleRows.{by_mismatch, by_window, is_mismatch, refused, single_came}
use Rattle.fed_call.specs.WindowRows.{asked_to_sign_in, asks_again, may_sign_in, opens_window, resumed, window_shut}
use Rattle.fed_disconnect.specs.Facts.{DisconnectFacts, DisconnectOptions, provider_origin}
use Rattle.fed_disconnect.specs.Rows as disconnect
use Rattle.fed_trace.specs.Call.{Known, OfGet, OfDisconnect, input_row}
use Rattle.fed_own.proofs.tells.Tells.{AreSplit, call_tells, told_by_call}

-- there is one at most
abbrev pub is_few : {A : Type 0} → List A → Bool
is_few [] = true
is_few (x ∷ []) = true
is_few (x ∷ y ∷ zs) = false

abbrev pub TellsFew : Outcome → Type 0
TellsFew o = is_few (told_by_call o) ≡ true

pub few_split : (ps : List (ℕ × ℕ)) → is_few ps ≡ true → AreSplit ps
few_split [] h = tt
few_split (p ∷ []) h = (refl, tt)
few_split (p ∷ q ∷ ps) h = absurd (cc)

few_at_most : (o : Option (ℕ × ℕ)) → is_few (cons_option o []) ≡ true
few_at_most None = refl
few_at_most (Some p) = refl

module _ (world : World) where
  -- ---- where the providers are settled

  prompts_few : (f : Facts) (offered : Offered) → TellsFew (prompts world f offered)
  prompts_few f offered =
      few_at_most (call_tells (prompt_effect world f offered offered.candidate.connected offered.config.metadata))

  concludes_few : (f : Facts) (c : Conclusion) → TellsFew (concludes world f c)
  concludes_few f Awaits = refl
  concludes_few f (NoneLeft failure) = refl
  concludes_few f (Reselects offered) = refl
  concludes_few f NoneSilent = refl
  concludes_few f (Offers offered) = refl
  concludes_few f (Prompts offered) = prompts_few f offered

  settles_few : (f : Facts) → TellsFew (settles world f)
  settles_few f = concludes_few f (conclusion_of world f.origin f.options f.progress)

  -- ---- a reply of a provider that is awaited

  mismatch_few : (place : ℕ) (site : List ℕ) (failure : Failure) (mismatch : Bool)
      → TellsFew (by_mismatch place site failure mismatch)
  mismatch_few place site failure true = refl
  mismatch_few place site failure false = refl

  opens_few : (place : ℕ) (config : Option Config) → TellsFew (opens_window place config)
  opens_few place None = refl
  opens_few place (Some config) = refl

  window_few : (place : ℕ) (config : Option Config) (other : Outcome) (active : Bool) → TellsFew other
      → TellsFew (by_window place config other active)
  window_few place config other true few = opens_few place config
  window_few place config other false few = few

  refused_few : (f : Facts) (place : ℕ) (provider : Origin) (failure : Failure) → TellsFew (refused world f place provider failure)
  refused_few f place provider failure =
      window_few place (config_at place f) _ (may_sign_in f.options.mode f.options.mediation)
      (mismatch_few place (site_of world f.origin) failure
      (is_mismatch f.options.mode f.options.mediation (status_of world.login provider)))

  single_few : (f : Facts) (place : ℕ) (provider : Origin) (c : Came) → TellsFew (single_came world f place provider c)
  single_few f place provider Unawaited = refl
  single_few f place provider (Refused failure) = refl
  single_few f place provider (Waits replies) = refl
  single_few f place provider (Both config) = refl
  single_few f place provider (NoneFits failure) = refused_few f place provider failure
  single_few f place provider (Fit config accounts) = settles_few (with_progress place _ f)

  gathering_few : (f : Facts) (place : ℕ) (provider : Origin) (c : Came) → TellsFew (gathering_came world f place provider c)
  gathering_few f place provider Unawaited = refl
  gathering_few f place provider (Refused failure) = settles_few (with_progress place _ f)
  gathering_few f place provider (Waits replies) = refl
  gathering_few f place provider (Both config) = refl
  gathering_few f place provider (NoneFits failure) = settles_few (with_progress place _ f)
  gathering_few f place provider (Fit config accounts) = settles_few (with_progress place _ f)

  came_few : (f : Facts) (place : ℕ) (single : Bool) (provider : Origin) (c : Came)
      → TellsFew (came_row world f place single provider c)
  came_few f place true provider c = single_few f place provider c
  came_few f place false provider c = gathering_few f place provider c

  provider_few : (f : Facts) (place : ℕ) (provider : Option ProviderOptions) (c : Came)
      → TellsFew (provider_row world f place provider c)
  provider_few f place None c = refl
  provider_few f place (Some provider) c = came_few f place (is_single f.options) (origin_of provider.config) c

  -- ---- at a prompt, and in Asserting

  metadata_few : (f : Facts) (waits : Bool) (offered : Option Offered) (raw : List ℕ)
      → TellsFew (metadata_reply world f waits offered raw)
  metadata_few f false offered raw = refl
  metadata_few f true None raw = refl
  metadata_few f true (Some offered) raw = refl

  prompting_few : (f : Facts) (place : ℕ) (kind : ReplyKind) (raw : List ℕ) → TellsFew (prompting_reply world f place kind raw)
  prompting_few f place kinds.Metadata raw = metadata_few f f.waits (picked_at place f.picked) raw
  prompting_few f place kinds.WellKnown raw = refl
  prompting_few f place kinds.Config raw = refl
  prompting_few f place kinds.Accounts raw = refl
  prompting_few f place kinds.Assertion raw = refl
  prompting_few f place kinds.Disconnect raw = refl

  token_few : (f : Facts) (offered : Offered) (read : Answer (List ℕ) TokenStep) → TellsFew (by_token f offered read)
  token_few f offered (Err step) = few_at_most (call_tells (does.Finish (token_refused step)))
  token_few f offered (Ok token) = go f.auto
    where
      go : (auto : Bool) → TellsFew (keeps f.origin offered (clears auto f.origin (finishes (Token f.auto offered.place token))))
      go true = refl
      go false = refl

  assertion_few : (f : Facts) (offered : Option Offered) (raw : List ℕ) → TellsFew (assertion_reply f offered raw)
  assertion_few f None raw = refl
  assertion_few f (Some offered) raw = token_few f offered (AssertionOf raw (origin_text f.origin))

  asserting_few : (f : Facts) (place : ℕ) (kind : ReplyKind) (raw : List ℕ) → TellsFew (asserting_reply f place kind raw)
  asserting_few f place kinds.Assertion raw = assertion_few f (picked_at place f.picked) raw
  asserting_few f place kinds.WellKnown raw = refl
  asserting_few f place kinds.Config raw = refl
  asserting_few f place kinds.Accounts raw = refl
  asserting_few f place kinds.Metadata raw = refl
  asserting_few f place kinds.Disconnect raw = refl

  reply_few : (f : Facts) (stage : Stage) (place : ℕ) (kind : ReplyKind) (raw : List ℕ)
      → TellsFew (stage_reply world f stage place kind raw)
  reply_few f Reading place kind raw = provider_few f place (provider_at place f.options) (came_at world f place kind raw)
  reply_few f Listing place kind raw = provider_few f place (provider_at place f.options) (came_at world f place kind raw)
  reply_few f Gathering place kind raw = provider_few f place (provider_at place f.options) (came_at world f place kind raw)
  reply_few f Mismatch place kind raw = refl
  reply_few f Window place kind raw = refl
  reply_few f Choosing place kind raw = refl
  reply_few f Prompting place kind raw = prompting_few f place kind raw
  reply_few f Asserting place kind raw = asserting_few f place kind raw
  reply_few f Ended place kind raw = refl

  -- ---- the user's words

  connection_few : (f : Facts) (offered : Offered) (connected : Bool) → TellsFew (by_connection world f offered connected)
  connection_few f offered true = refl
  connection_few f offered false = prompts_few f offered

  choice_few : (f : Facts) (offered : Option Offered) → TellsFew (choice world f offered)
  choice_few f None = refl
  choice_few f (Some offered) = connection_few f offered offered.candidate.connected

  chose_few : (f : Facts) (stage : Stage) (place : ℕ) (id : List ℕ) → TellsFew (chose world f stage place id)
  chose_few f Choosing place id = choice_few f (found_offered place id f)
  chose_few f Reading place id = refl
  chose_few f Listing place id = refl
  chose_few f Gathering place id = refl
  chose_few f Mismatch place id = refl
  chose_few f Window place id = refl
  chose_few f Prompting place id = refl
  chose_few f Asserting place id = refl
  chose_few f Ended place id = refl

  goes_on_few : (f : Facts) (waits : Bool) (picked : Option Offered) → TellsFew (goes_on f waits picked)
  goes_on_few f true picked = refl
  goes_on_few f false None = refl
  goes_on_few f false (Some offered) = refl

  went_on_few : (f : Facts) (stage : Stage) → TellsFew (went_on f stage)
  went_on_few f Prompting = goes_on_few f f.waits f.picked
  went_on_few f Reading = refl
  went_on_few f Listing = refl
  went_on_few f Gathering = refl
  went_on_few f Mismatch = refl
  went_on_few f Window = refl
  went_on_few f Choosing = refl
  went_on_few f Asserting = refl
  went_on_few f Ended = refl

  cancelled_few : (stage : Stage) → TellsFew (cancelled stage)
  cancelled_few Reading = refl
  cancelled_few Listing = refl
  cancelled_few Gathering = refl
  cancelled_few Mismatch = refl
  cancelled_few Window = refl
  cancelled_few Choosing = refl
  cancelled_few Prompting = refl
  cancelled_few Asserting = refl
  cancelled_few Ended = refl

  signs_in_few : (f : Facts) (stage : Stage) → TellsFew (asked_to_sign_in f stage)
  signs_in_few f Mismatch = opens_few only_place (config_at only_place f)
  signs_in_few f Reading = refl
  signs_in_few f Listing = refl
  signs_in_few f Gathering = refl
  signs_in_few f Window = refl
  signs_in_few f Choosing = refl
  signs_in_few f Prompting = refl
  signs_in_few f Asserting = refl
  signs_in_few f Ended = refl

  shut_few : (stage : Stage) → TellsFew (window_shut stage)
  shut_few Window = refl
  shut_few Reading = refl
  shut_few Listing = refl
  shut_few Gathering = refl
  shut_few Mismatch = refl
  shut_few Choosing = refl
  shut_few Prompting = refl
  shut_few Asserting = refl
  shut_few Ended = refl

  again_few : (config : Option Config) → TellsFew (asks_again only_place config)
  again_few None = refl
  again_few (Some config) = refl

  resumed_few : (f : Facts) (stage : Stage) → TellsFew (resumed f stage)
  resumed_few f Window = again_few (config_at only_place f)
  resumed_few f Reading = refl
  resumed_few f Listing = refl
  resumed_few f Gathering = refl
  resumed_few f Mismatch = refl
  resumed_few f Choosing = refl
  resumed_few f Prompting = refl
  resumed_few f Asserting = refl
  resumed_few f Ended = refl

  get_few : (f : Facts) (input : Input) → TellsFew (get.input_row world f input)
  get_few f (inputs.Reply place kind raw) = reply_few f f.stage place kind raw
  get_few f (inputs.Choose place id) = chose_few f f.stage place id
  get_few f inputs.GoOn = went_on_few f f.stage
  get_few f inputs.Cancel = cancelled_few f.stage
  get_few f inputs.SignIn = signs_in_few f f.stage
  get_few f inputs.Shut = shut_few f.stage
  get_few f inputs.Resume = resumed_few f f.stage
  get_few f inputs.Abort = refl

  -- ---- a disconnect call

  asks_few : (origin : Origin) (options : DisconnectOptions) (to : Option Parts) → TellsFew (disconnect.asks_disconnect origin options to)
  asks_few origin options None = refl
  asks_few origin options (Some to) = refl

  heard_few : (origin : Origin) (options : DisconnectOptions) (h : Heard) → TellsFew (disconnect.by_heard origin options h)
  heard_few origin options (heard.Refused step) = refl
  heard_few origin options (heard.Waits replies) = refl
  heard_few origin options (heard.Both config) = asks_few origin options config.disconnect
  heard_few origin options (heard.NotWaited replies) = refl

  forgotten_few : (page provider : Origin) (account : List ℕ) (there : Bool)
      → is_few (cons_option (call_tells (disconnect.forgotten page provider account there)) []) ≡ true
  forgotten_few page provider account true = refl
  forgotten_few page provider account false = refl

  answered_few : (kept : List Triple) (page provider : Origin) (read : Answer (List ℕ) TokenStep)
      → TellsFew (disconnect.answered kept page provider read)
  answered_few kept page provider (Err step) = refl
  answered_few kept page provider (Ok account) =
      forgotten_few page provider account (has_triple kept (triple_of page provider account))

  answer_few : (kept : List Triple) (page provider : Origin) (kind : ReplyKind) (raw : List ℕ)
      → TellsFew (disconnect.asserting_reply kept page provider kind raw)
  answer_few kept page provider kinds.Disconnect raw = answered_few kept page provider (DisconnectOf raw (origin_text page))
  answer_few kept page provider kinds.WellKnown raw = refl
  answer_few kept page provider kinds.Config raw = refl
  answer_few kept page provider kinds.Accounts raw = refl
  answer_few kept page provider kinds.Metadata raw = refl
  answer_few kept page provider kinds.Assertion raw = refl

  files_few : (f : DisconnectFacts) (stage : Stage) (kind : ReplyKind) (raw : List ℕ)
      → TellsFew (disconnect.stage_reply world f stage kind raw)
  files_few f Reading kind raw = heard_few f.origin f.options (reply_heard world.rules f.replies f.options.config kind raw)
  files_few f Asserting kind raw = answer_few world.kept f.origin (provider_origin f.options) kind raw
  files_few f Listing kind raw = refl
  files_few f Gathering kind raw = refl
  files_few f Mismatch kind raw = refl
  files_few f Window kind raw = refl
  files_few f Choosing kind raw = refl
  files_few f Prompting kind raw = refl
  files_few f Ended kind raw = refl

  its_few : (f : DisconnectFacts) (own : Bool) (kind : ReplyKind) (raw : List ℕ)
      → TellsFew (disconnect.provider_reply world f own kind raw)
  its_few f true kind raw = files_few f f.stage kind raw
  its_few f false kind raw = refl

  disconnect_few : (f : DisconnectFacts) (input : Input) → TellsFew (disconnect.input_row world f input)
  disconnect_few f (inputs.Reply place kind raw) = its_few f (place == only_place) kind raw
  disconnect_few f (inputs.Choose place id) = refl
  disconnect_few f inputs.GoOn = refl
  disconnect_few f inputs.Cancel = refl
  disconnect_few f inputs.SignIn = refl
  disconnect_few f inputs.Shut = refl
  disconnect_few f inputs.Resume = refl
  disconnect_few f inputs.Abort = refl

  -- ---- a call of either kind

  pub input_few : (known : Known) (input : Input) → TellsFew (input_row world known input)
  input_few (OfGet f) input = get_few f input
  input_few (OfDisconnect f) input = disconnect_few f input
