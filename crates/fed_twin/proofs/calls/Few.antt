-- A call does at most three things at an input, and clears a flag only where it waits for a token.
use Rattle.std.proofs.Common.{◌≡◌, ℕ, suc, ◌+◌, ◌≤◌, Bool, true, false, ◌||◌, List, [], ◌∷◌, ◌++◌, map, length, append-nil, Option, Some}
use Rattle.std.proofs.Common.{None, Ok, Err, refl, sym}
use Rattle.std.proofs.Common.{ap, subst, ◌∙◌, arith, lit≤}
use Rattle.std.proofs.lemmas.List.{length-append}
use Rattle.std.proofs.lemmas.List.Elements.{filter_map-append}
use Rattle.std.specs.Prelude.{Result}
use Rattle.std.specs.List.{filter_map, cons_option, list_any}
use Rattle.url.specs.Parts.{Parts}
use Rattle.fed_origin.specs.declared.options.GetOptions.{GetOptions}
use Rattle.fed_origin.specs.declared.options.Mode.{Mode}
use Rattle.fed_origin.specs.declared.options.ProviderOptions.{ProviderOptions}
use Rattle.fed_origin.specs.declared.origin.Origin.{Origin}
use Rattle.fed_origin.specs.declared.stage.ReplyKind.{ReplyKind}
use Rattle.fed_origin.specs.declared.stage.ReplyKind.TheVariants as kinds
use Rattle.fed_origin.specs.declared.stage.Stage.{Stage}
use Rattle.fed_origin.specs.declared.stage.Stage.TheVariants as stages
use Rattle.fed_origin.specs.declared.status.LoginStatus.TheVariants.{LoggedIn, LoggedOut}
use Rattle.fed_origin.specs.Origin.{origin_text}
use Rattle.fed_origin.specs.WebUrl.{origin_of}
use Rattle.fed_provider.specs.declared.config.Config.{Config}
use Rattle.fed_token.specs.declared.step.TokenStep.{TokenStep}
use Rattle.fed_token.specs.Read.{AssertionOf}
use Rattle.fed_status.specs.Flags.{has_flag}
use Rattle.fed_status.specs.Login.{status_of}
use Rattle.fed_status.specs.Shared.{World}
use Rattle.fed_consent.specs.declared.table.effect.Effect.{Effect as CallEffect}
use Rattle.fed_consent.specs.declared.table.effect.Effect.TheVariants as does
use Rattle.fed_consent.specs.declared.table.failure.Failure.{Failure}
use Rattle.fed_consent.specs.declared.table.failure.FailStep.{FailStep}
use Rattle.fed_consent.specs.declared.table.failure.FailStep.TheVariants as steps
use Rattle.fed_consent.specs.declared.table.finish.Finish.TheVariants.{Failed, Token}
use Rattle.fed_consent.specs.declared.table.input.Input.{Input}
use Rattle.fed_consent.specs.declared.table.input.Input.TheVariants as inputs
use Rattle.fed_consent.specs.Failures.{plain}
use Rattle.fed_consent.specs.Outcomes.{Outcome, after, fails, finishes, only_place, stays}
use Rattle.fed_call.specs.declared.progress.Progress.{Progress}
use Rattle.fed_call.specs.declared.progress.Progress.TheVariants as progress_is
use Rattle.fed_call.specs.Accounts.{Offered, provider_at}
use Rattle.fed_call.specs.AssertingRows.{clears, by_token, assertion_reply, asserting_reply, picked_at}
use Rattle.fed_call.specs.DialogRows.{metadata_reply, prompting_reply, by_connection, choice, chose, goes_on, went_on, cancelled}
use Rattle.fed_call.specs.Dialogs.{prompt_effect, prompts, site_of}
use Rattle.fed_call.specs.Facts.{Facts, Conclusion, Awaits, NoneLeft, Reselects, NoneSilent, Offers, Prompts, came_at, conclusion_of}
use Rattle.fed_call.specs.Facts.{config_at}
use Rattle.fed_call.specs.Facts.{by_awaited, found_offered, is_single, with_progress}
use Rattle.fed_call.specs.GatheringRows.{opens, opens_from, gathers, first_settles, start_all, start_several, by_prevented, by_twice}
use Rattle.fed_call.specs.GatheringRows.{by_active, is_twice, is_active, gathering_came}
use Rattle.fed_call.specs.Progress.{Came, Unawaited, Refused, Waits, Both, NoneFits, Fit, Closed, NotSecure, Siteless, Gated}
use Rattle.fed_call.specs.Progress.{first_progress, is_awaited, opened, opening}
use Rattle.fed_call.specs.ReadingRows.{start_by, lacks_activation, is_prevented}
use Rattle.fed_call.specs.Row.{start_with, came_row, provider_row, stage_reply, input_row}
use Rattle.fed_call.specs.SettledRows.{concludes, settles}
use Rattle.fed_call.specs.SingleRows.{single_came, by_mismatch, by_window, is_mismatch}
use Rattle.fed_call.specs.WindowRows.{may_sign_in, opens_window, asked_to_sign_in, asks_again, resumed, window_shut}
use Rattle.fed_trace.specs.Call.{get_outcome}
use Rattle.fed_twin.specs.Same.{is_open}

-- the flag that an effect clears
abbrev pub clears_flag : CallEffect → Option Origin
clears_flag (does.ClearFlag origin) = Some origin
clears_flag _ = None

-- at most so many things, and no flag is cleared
pub record Clears (most : ℕ) (outcome : Outcome) : Type 0 where
  pub few : length outcome.effects ≤ most
  pub flags : filter_map clears_flag outcome.effects ≡ []

-- one thing more, which is no flag
more : (most : ℕ) (effect : CallEffect) → clears_flag effect ≡ None → (outcome : Outcome) → Clears most outcome
    → Clears (suc most) (after effect outcome)
more most effect none outcome h =
    record {
      few = omega (arith, h.few);
      flags = ap (λ o. cons_option o (filter_map clears_flag outcome.effects)) none ∙ h.flags;
    }

-- few are not too many
at_most : (most other : ℕ) (outcome : Outcome) → most ≤ other → Clears most outcome → Clears other outcome
at_most most other outcome e h = record { few = omega (arith, e, h.few); flags = h.flags }

-- ---- a get

small_first : (provider : ProviderOptions) (opening : Result Parts Closed) (lacking prevented : Bool)
    → Clears 2 (start_by provider opening lacking prevented)
small_first provider (Err NotSecure) lacking prevented = record { few = lit≤ tt; flags = refl }
small_first provider (Err Siteless) true prevented = record { few = lit≤ tt; flags = refl }
small_first provider (Err Siteless) false prevented = record { few = lit≤ tt; flags = refl }
small_first provider (Err Gated) true prevented = record { few = lit≤ tt; flags = refl }
small_first provider (Err Gated) false true = record { few = lit≤ tt; flags = refl }
small_first provider (Err Gated) false false = record { few = lit≤ tt; flags = refl }
small_first provider (Ok wellknown) true prevented = record { few = lit≤ tt; flags = refl }
small_first provider (Ok wellknown) false true = record { few = lit≤ tt; flags = refl }
small_first provider (Ok wellknown) false false = record { few = lit≤ tt; flags = refl }

small_opens : (world : World) (mode : Mode) (n : ℕ) (providers : List ProviderOptions)
    → filter_map clears_flag (opens_from world mode n providers) ≡ []
small_opens world mode n [] = refl
small_opens world mode n (provider ∷ providers) = go (opening world mode provider) (small_opens world mode (suc n) providers)
  where
    go : (o : Result Parts Closed) → filter_map clears_flag (opens_from world mode (suc n) providers) ≡ []
        → filter_map clears_flag (opens n provider.config o ++ opens_from world mode (suc n) providers) ≡ []
    go (Ok wellknown) rest = rest
    go (Err closed) rest = rest

-- ---- where all are settled

small_prompt : (world : World) (facts : Facts) (offered : Offered) (connected : Bool) (endpoint : Option Parts)
    → filter_map clears_flag (prompt_effect world facts offered connected endpoint ∷ []) ≡ []
small_prompt world facts offered true endpoint = refl
small_prompt world facts offered false None = refl
small_prompt world facts offered false (Some to) = refl

small_prompts : (world : World) (facts : Facts) (offered : Offered) → Clears 1 (prompts world facts offered)
small_prompts world facts offered =
    record { few = lit≤ tt; flags = small_prompt world facts offered offered.candidate.connected offered.config.metadata }

small_conclusion : (world : World) (facts : Facts) (c : Conclusion) → Clears 1 (concludes world facts c)
small_conclusion world facts Awaits = record { few = lit≤ tt; flags = refl }
small_conclusion world facts (NoneLeft failure) = record { few = lit≤ tt; flags = refl }
small_conclusion world facts (Reselects offered) = record { few = lit≤ tt; flags = refl }
small_conclusion world facts NoneSilent = record { few = lit≤ tt; flags = refl }
small_conclusion world facts (Offers offered) = record { few = lit≤ tt; flags = refl }
small_conclusion world facts (Prompts offered) = small_prompts world facts offered

small_settles : (world : World) (facts : Facts) → Clears 1 (settles world facts)
small_settles world facts = small_conclusion world facts (conclusion_of world facts.origin facts.options facts.progress)

-- ---- a get with several providers

-- two things at most for each, and one where it drops out
few_opens : (world : World) (mode : Mode) (n : ℕ) (providers : List ProviderOptions)
    → length (opens_from world mode n providers) ≤ length providers + length providers
few_opens world mode n [] = lit≤ tt
few_opens world mode n (provider ∷ providers) = go (opening world mode provider) (few_opens world mode (suc n) providers)
  where
    go : (o : Result Parts Closed) → length (opens_from world mode (suc n) providers) ≤ length providers + length providers
        → length (opens n provider.config o ++ opens_from world mode (suc n) providers) ≤ suc (length providers) + suc (length providers)
    go (Ok wellknown) rest = omega (arith, rest)
    go (Err closed) rest = omega (arith, rest)

few_dropped : (world : World) (mode : Mode) (n : ℕ) (providers : List ProviderOptions)
    → list_any is_awaited (map (first_progress world mode) providers) ≡ false
    → length (opens_from world mode n providers) ≤ length providers
few_dropped world mode n [] none = lit≤ tt
few_dropped world mode n (provider ∷ providers) none = go (opening world mode provider) none (few_dropped world mode (suc n) providers)
  where
    go : (o : Result Parts Closed) → is_awaited (opened o) || list_any is_awaited (map (first_progress world mode) providers) ≡ false
        → (list_any is_awaited (map (first_progress world mode) providers) ≡ false
        → length (opens_from world mode (suc n) providers) ≤ length providers)
        → length (opens n provider.config o ++ opens_from world mode (suc n) providers) ≤ suc (length providers)
    go (Ok wellknown) none rest = absurd (cc)
    go (Err closed) none rest = let less = rest none in omega (arith, less)

module _ (world : World) (origin : Origin) (options : GetOptions) (several : 2 ≤ length options.providers) where
  abbrev first : List CallEffect
  first = opens_from world options.mode 0 options.providers

  abbrev most : ℕ
  most = length options.providers + length options.providers

  small_early : (c : Conclusion) → ((failure : Failure) → c ≡ NoneLeft failure → length first ≤ length options.providers)
      → Clears most (gathers first (first_settles c))
  small_early c dropped = by c dropped
    where
      on : Clears most (gathers first stays)
      on =
          let few = few_opens world options.mode 0 options.providers in
          record {
            few = subst (λ es. length es ≤ most) (sym (append-nil first)) few;
            flags = ap (filter_map clears_flag) (append-nil first) ∙ small_opens world options.mode 0 options.providers;
          }

      by : (c : Conclusion) → ((failure : Failure) → c ≡ NoneLeft failure → length first ≤ length options.providers)
          → Clears most (gathers first (first_settles c))
      by (NoneLeft failure) dropped =
          let all = dropped failure refl in
          let longer : length (first ++ does.Finish (Failed failure) ∷ [])
          ≡ length first + 1 = length-append first (does.Finish (Failed failure) ∷ []) in
          record {
            few = omega (arith, all, longer, several);
            flags = filter_map-append clears_flag first (does.Finish (Failed failure) ∷ [])
                ∙ ap (λ xs. xs ++ []) (small_opens world options.mode 0 options.providers);
          }
      by Awaits dropped = on
      by (Reselects offered) dropped = on
      by NoneSilent dropped = on
      by (Offers offered) dropped = on
      by (Prompts offered) dropped = on

  fails_once : (step : FailStep) → Clears most (fails (plain step))
  fails_once step = record { few = omega (arith, several); flags = refl }

  small_all : Clears most (start_all world origin options)
  small_all = small_early (conclusion_of world origin options progress) (λ failure is. by (list_any is_awaited progress) refl failure is)
    where
      progress : List Progress
      progress = map (first_progress world options.mode) options.providers

      by : (awaited : Bool) → list_any is_awaited progress ≡ awaited → (failure : Failure)
          → by_awaited world origin options progress awaited ≡ NoneLeft failure → length first ≤ length options.providers
      by true is failure left = absurd (cc)
      by false is failure left = few_dropped world options.mode 0 options.providers is

  small_prevented : (b : Bool) → Clears most (by_prevented world origin options b)
  small_prevented true = fails_once steps.SilentPrevented
  small_prevented false = small_all

  small_twice : (b : Bool) → Clears most (by_twice world origin options b)
  small_twice true = fails_once steps.ProviderTwice
  small_twice false = small_prevented (is_prevented options.mediation (has_flag world.flags origin))

  small_several : Clears most (start_several world origin options)
  small_several = by (is_active options.mode)
    where
      by : (b : Bool) → Clears most (by_active world origin options b)
      by true = fails_once steps.ActiveMany
      by false = small_twice (is_twice options)

small_start : (world : World) (origin : Origin) (options : GetOptions) (providers : List ProviderOptions) → options.providers ≡ providers
    → 1 ≤ length providers → Clears (length options.providers + length options.providers) (start_with world origin options providers)
small_start world origin options [] are some = absurd (omega (arith, some))
small_start world origin options (provider ∷ []) are some =
    let one : length options.providers ≡ 1 = ap length are in
    at_most 2 _ _ (omega (arith, one)) (small_first provider (opening world options.mode provider)
    (lacks_activation options.mode options.activation) (is_prevented options.mediation (has_flag world.flags origin)))
small_start world origin options (first ∷ second ∷ rest) are some =
    let more : length options.providers ≡ suc (suc (length rest)) = ap length are in
    small_several world origin options (omega (arith, more))

-- a get does two things at most for each provider
pub small_get : (world : World) (busy : Bool) (origin : Origin) (options : GetOptions) → 1 ≤ length options.providers
    → Clears (length options.providers + length options.providers) (get_outcome world busy origin options)
small_get world true origin options some = record { few = omega (arith, some); flags = refl }
small_get world false origin options some = small_start world origin options options.providers refl some

-- and clears no flag
pub get_clears_none : (world : World) (busy : Bool) (origin : Origin) (options : GetOptions)
    → filter_map clears_flag (get_outcome world busy origin options).effects ≡ []
get_clears_none world true origin options = refl
get_clears_none world false origin options = by options.providers refl
  where
    by : (providers : List ProviderOptions) → options.providers ≡ providers
        → filter_map clears_flag (start_with world origin options providers).effects ≡ []
    by [] are = refl
    by (provider ∷ rest) are = (small_start world origin options (provider ∷ rest) are (omega arith)).flags

-- ---- a reply that comes to this

small_shown : (place : ℕ) (site : List ℕ) (failure : Failure) (shown : Bool) → Clears 1 (by_mismatch place site failure shown)
small_shown place site failure true = record { few = lit≤ tt; flags = refl }
small_shown place site failure false = record { few = lit≤ tt; flags = refl }

small_window : (place : ℕ) (config : Option Config) (other : Outcome) (active : Bool) → Clears 1 other
    → Clears 1 (by_window place config other active)
small_window place None other true h = record { few = lit≤ tt; flags = refl }
small_window place (Some config) other true h = record { few = lit≤ tt; flags = refl }
small_window place config other false h = h

small_single : (world : World) (facts : Facts) (place : ℕ) (provider : Origin) (c : Came)
    → Clears 3 (single_came world facts place provider c)
small_single world facts place provider Unawaited = record { few = lit≤ tt; flags = refl }
small_single world facts place provider (Refused failure) = record { few = lit≤ tt; flags = refl }
small_single world facts place provider (Waits replies) = record { few = lit≤ tt; flags = refl }
small_single world facts place provider (Both config) = record { few = lit≤ tt; flags = refl }
small_single world facts place provider (NoneFits failure) =
    at_most 2 3 _ (lit≤ tt)
    (more 1 (does.SetLogin provider LoggedOut) refl _
    (small_window place (config_at place facts) _ (may_sign_in facts.options.mode facts.options.mediation)
    (small_shown place (site_of world facts.origin) failure
    (is_mismatch facts.options.mode facts.options.mediation (status_of world.login provider)))))
small_single world facts place provider (Fit config accounts) =
    at_most 2 3 _ (lit≤ tt) (more 1 (does.SetLogin provider LoggedIn) refl _ (small_settles world (with_progress place
    (progress_is.Listed config accounts) facts)))

small_gathering : (world : World) (facts : Facts) (place : ℕ) (provider : Origin) (c : Came)
    → Clears 3 (gathering_came world facts place provider c)
small_gathering world facts place provider Unawaited = record { few = lit≤ tt; flags = refl }
small_gathering world facts place provider (Refused failure) =
    at_most 2 3 _ (lit≤ tt) (more 1 (does.Dropped place failure) refl _ (small_settles world (with_progress place
    (progress_is.Dropped failure) facts)))
small_gathering world facts place provider (Waits replies) = record { few = lit≤ tt; flags = refl }
small_gathering world facts place provider (Both config) = record { few = lit≤ tt; flags = refl }
small_gathering world facts place provider (NoneFits failure) =
    more 2 (does.SetLogin provider LoggedOut) refl _
    (more 1 (does.Dropped place failure) refl _ (small_settles world (with_progress place (progress_is.Dropped failure) facts)))
small_gathering world facts place provider (Fit config accounts) =
    at_most 2 3 _ (lit≤ tt) (more 1 (does.SetLogin provider LoggedIn) refl _ (small_settles world (with_progress place
    (progress_is.Listed config accounts) facts)))

small_awaited : (world : World) (facts : Facts) (place : ℕ) (q : Option ProviderOptions) (c : Came)
    → Clears 3 (provider_row world facts place q c)
small_awaited world facts place None c = record { few = lit≤ tt; flags = refl }
small_awaited world facts place (Some provider) c = by (is_single facts.options)
  where
    by : (single : Bool) → Clears 3 (came_row world facts place single (origin_of provider.config) c)
    by true = small_single world facts place (origin_of provider.config) c
    by false = small_gathering world facts place (origin_of provider.config) c

small_metadata : (world : World) (facts : Facts) (waits : Bool) (offered : Option Offered) (raw : List ℕ)
    → Clears 3 (metadata_reply world facts waits offered raw)
small_metadata world facts false offered raw = record { few = lit≤ tt; flags = refl }
small_metadata world facts true None raw = record { few = lit≤ tt; flags = refl }
small_metadata world facts true (Some offered) raw = record { few = lit≤ tt; flags = refl }

small_prompting : (world : World) (facts : Facts) (place : ℕ) (kind : ReplyKind) (raw : List ℕ)
    → Clears 3 (prompting_reply world facts place kind raw)
small_prompting world facts place kinds.Metadata raw = small_metadata world facts facts.waits (picked_at place facts.picked) raw
small_prompting world facts place _ raw = record { few = lit≤ tt; flags = refl }

small_reply : (world : World) (facts : Facts) (stage : Stage) (place : ℕ) (kind : ReplyKind) (raw : List ℕ) → is_open stage ≡ true
    → Clears 3 (stage_reply world facts stage place kind raw)
small_reply world facts stages.Reading place kind raw opened =
    small_awaited world facts place (provider_at place facts.options) (came_at world facts place kind raw)
small_reply world facts stages.Listing place kind raw opened =
    small_awaited world facts place (provider_at place facts.options) (came_at world facts place kind raw)
small_reply world facts stages.Gathering place kind raw opened =
    small_awaited world facts place (provider_at place facts.options) (came_at world facts place kind raw)
small_reply world facts stages.Mismatch place kind raw opened = record { few = lit≤ tt; flags = refl }
small_reply world facts stages.Window place kind raw opened = record { few = lit≤ tt; flags = refl }
small_reply world facts stages.Choosing place kind raw opened = record { few = lit≤ tt; flags = refl }
small_reply world facts stages.Prompting place kind raw opened = small_prompting world facts place kind raw
small_reply world facts stages.Asserting place kind raw opened = absurd (cc)
small_reply world facts stages.Ended place kind raw opened = absurd (cc)

-- ---- the user's words

small_chosen : (world : World) (facts : Facts) (offered : Offered) (connected : Bool)
    → Clears 3 (by_connection world facts offered connected)
small_chosen world facts offered true = record { few = lit≤ tt; flags = refl }
small_chosen world facts offered false = at_most 1 3 _ (lit≤ tt) (small_prompts world facts offered)

small_choice : (world : World) (facts : Facts) (offered : Option Offered) → Clears 3 (choice world facts offered)
small_choice world facts None = record { few = lit≤ tt; flags = refl }
small_choice world facts (Some offered) = small_chosen world facts offered offered.candidate.connected

small_chose : (world : World) (facts : Facts) (stage : Stage) (place : ℕ) (id : List ℕ) → Clears 3 (chose world facts stage place id)
small_chose world facts stages.Choosing place id = small_choice world facts (found_offered place id facts)
small_chose world facts _ place id = record { few = lit≤ tt; flags = refl }

small_goes_on : (facts : Facts) (waits : Bool) (picked : Option Offered) → Clears 3 (goes_on facts waits picked)
small_goes_on facts true picked = record { few = lit≤ tt; flags = refl }
small_goes_on facts false None = record { few = lit≤ tt; flags = refl }
small_goes_on facts false (Some offered) = record { few = lit≤ tt; flags = refl }

small_went_on : (facts : Facts) (stage : Stage) → Clears 3 (went_on facts stage)
small_went_on facts stages.Prompting = small_goes_on facts facts.waits facts.picked
small_went_on facts _ = record { few = lit≤ tt; flags = refl }

small_cancelled : (stage : Stage) → Clears 3 (cancelled stage)
small_cancelled stages.Reading = record { few = lit≤ tt; flags = refl }
small_cancelled stages.Listing = record { few = lit≤ tt; flags = refl }
small_cancelled stages.Gathering = record { few = lit≤ tt; flags = refl }
small_cancelled stages.Mismatch = record { few = lit≤ tt; flags = refl }
small_cancelled stages.Window = record { few = lit≤ tt; flags = refl }
small_cancelled stages.Choosing = record { few = lit≤ tt; flags = refl }
small_cancelled stages.Prompting = record { few = lit≤ tt; flags = refl }
small_cancelled stages.Asserting = record { few = lit≤ tt; flags = refl }
small_cancelled stages.Ended = record { few = lit≤ tt; flags = refl }

-- ---- signing in at the provider

small_window_opens : (place : ℕ) (config : Option Config) → Clears 3 (opens_window place config)
small_window_opens place None = record { few = lit≤ tt; flags = refl }
small_window_opens place (Some config) = record { few = lit≤ tt; flags = refl }

small_sign_in : (facts : Facts) (stage : Stage) → Clears 3 (asked_to_sign_in facts stage)
small_sign_in facts stages.Mismatch = small_window_opens only_place (config_at only_place facts)
small_sign_in facts _ = record { few = lit≤ tt; flags = refl }

small_again : (place : ℕ) (config : Option Config) → Clears 3 (asks_again place config)
small_again place None = record { few = lit≤ tt; flags = refl }
small_again place (Some config) = record { few = lit≤ tt; flags = refl }

small_resumed : (facts : Facts) (stage : Stage) → Clears 3 (resumed facts stage)
small_resumed facts stages.Window = small_again only_place (config_at only_place facts)
small_resumed facts _ = record { few = lit≤ tt; flags = refl }

small_shut : (stage : Stage) → Clears 3 (window_shut stage)
small_shut stages.Window = record { few = lit≤ tt; flags = refl }
small_shut _ = record { few = lit≤ tt; flags = refl }

-- a call that goes on, and asked for no token
pub small_input : (world : World) (facts : Facts) (input : Input) → is_open facts.stage ≡ true → Clears 3 (input_row world facts input)
small_input world facts (inputs.Reply place kind raw) opened = small_reply world facts facts.stage place kind raw opened
small_input world facts (inputs.Choose place id) opened = small_chose world facts facts.stage place id
small_input world facts inputs.GoOn opened = small_went_on facts facts.stage
small_input world facts inputs.Cancel opened = small_cancelled facts.stage
small_input world facts inputs.SignIn opened = small_sign_in facts facts.stage
small_input world facts inputs.Shut opened = small_shut facts.stage
small_input world facts inputs.Resume opened = small_resumed facts facts.stage
small_input world facts inputs.Abort opened = record { few = lit≤ tt; flags = refl }

-- ---- a call at any stage

few_clears : (auto : Bool) (origin : Origin) (outcome : Outcome) → length outcome.effects ≤ 1
    → length (clears auto origin outcome).effects ≤ 2
few_clears true origin outcome few = omega (arith, few)
few_clears false origin outcome few = omega (arith, few)

few_token : (facts : Facts) (offered : Offered) (read : Result (List ℕ) TokenStep) → length (by_token facts offered read).effects ≤ 3
few_token facts offered (Ok token) =
    let two = few_clears facts.auto facts.origin (finishes (Token facts.auto offered.place token)) (lit≤ tt) in omega (arith, two)
few_token facts offered (Err step) = lit≤ tt

few_assertion : (facts : Facts) (offered : Option Offered) (raw : List ℕ) → length (assertion_reply facts offered raw).effects ≤ 3
few_assertion facts None raw = lit≤ tt
few_assertion facts (Some offered) raw = few_token facts offered (AssertionOf raw (origin_text facts.origin))

few_asserting : (facts : Facts) (place : ℕ) (kind : ReplyKind) (raw : List ℕ) → length (asserting_reply facts place kind raw).effects ≤ 3
few_asserting facts place kinds.Assertion raw = few_assertion facts (picked_at place facts.picked) raw
few_asserting facts place kinds.WellKnown raw = lit≤ tt
few_asserting facts place kinds.Config raw = lit≤ tt
few_asserting facts place kinds.Accounts raw = lit≤ tt
few_asserting facts place kinds.Metadata raw = lit≤ tt
few_asserting facts place kinds.Disconnect raw = lit≤ tt

few_reply : (world : World) (facts : Facts) (stage : Stage) (place : ℕ) (kind : ReplyKind) (raw : List ℕ)
    → length (stage_reply world facts stage place kind raw).effects ≤ 3
few_reply world facts stages.Reading place kind raw = (small_reply world facts stages.Reading place kind raw refl).few
few_reply world facts stages.Listing place kind raw = (small_reply world facts stages.Listing place kind raw refl).few
few_reply world facts stages.Gathering place kind raw = (small_reply world facts stages.Gathering place kind raw refl).few
few_reply world facts stages.Mismatch place kind raw = lit≤ tt
few_reply world facts stages.Window place kind raw = lit≤ tt
few_reply world facts stages.Choosing place kind raw = lit≤ tt
few_reply world facts stages.Prompting place kind raw = (small_reply world facts stages.Prompting place kind raw refl).few
few_reply world facts stages.Asserting place kind raw = few_asserting facts place kind raw
few_reply world facts stages.Ended place kind raw = lit≤ tt

pub few_input : (world : World) (facts : Facts) (input : Input) → length (input_row world facts input).effects ≤ 3
few_input world facts (inputs.Reply place kind raw) = few_reply world facts facts.stage place kind raw
few_input world facts (inputs.Choose place id) = (small_chose world facts facts.stage place id).few
few_input world facts inputs.GoOn = (small_went_on facts facts.stage).few
few_input world facts inputs.Cancel = (small_cancelled facts.stage).few
few_input world facts inputs.SignIn = (small_sign_in facts facts.stage).few
few_input world facts inputs.Shut = (small_shut facts.stage).few
few_input world facts inputs.Resume = (small_resumed facts facts.stage).few
few_input world facts inputs.Abort = lit≤ tt
