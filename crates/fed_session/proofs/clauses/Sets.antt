-- The session can do what a call does.
use Rattle.std.proofs.Common.{◌≡◌, ◌≢◌, ◌==◌, ℕ, suc, Bool, true, false, List, [], ◌∷◌, ◌++◌, map, refl, Some, None, Ok, Err}
use Rattle.std.specs.List.{AllByRecursion}
use Rattle.std.specs.Prelude.{Option, Result, ⊤}
use Rattle.url.specs.Parts.{Parts}
use Rattle.fed_origin.specs.declared.options.GetOptions.{GetOptions}
use Rattle.fed_origin.specs.declared.options.Mode.{Mode}
use Rattle.fed_origin.specs.declared.options.ProviderOptions.{ProviderOptions}
use Rattle.fed_origin.specs.declared.origin.Origin.{Origin}
use Rattle.fed_origin.specs.declared.scheme.Scheme.{Scheme}
use Rattle.fed_origin.specs.declared.scheme.Scheme.TheVariants.{Http, Https}
use Rattle.fed_origin.specs.declared.stage.ReplyKind.{ReplyKind}
use Rattle.fed_origin.specs.declared.stage.ReplyKind.TheVariants as kinds
use Rattle.fed_origin.specs.declared.stage.Stage.{Stage}
use Rattle.fed_origin.specs.declared.stage.Stage.TheVariants as stages
use Rattle.fed_origin.specs.declared.status.LoginStatus.TheVariants.{Unknown, LoggedIn, LoggedOut}
use Rattle.fed_origin.specs.declared.status.Triple.{Triple}
use Rattle.fed_origin.specs.Origin.{origin_text}
use Rattle.fed_origin.specs.WebUrl.{origin_of, scheme_of}
use Rattle.fed_provider.specs.declared.config.Config.{Config}
use Rattle.fed_provider.specs.declared.first_replies.Heard.{Heard}
use Rattle.fed_provider.specs.declared.first_replies.Heard.TheVariants as heard
use Rattle.fed_provider.specs.declared.step.ProviderStep.{ProviderStep}
use Rattle.fed_provider.specs.FirstReplies.{reply_heard}
use Rattle.fed_provider.specs.WellKnown.{WellKnownUrlOf}
use Rattle.fed_token.specs.declared.step.TokenStep.{TokenStep}
use Rattle.fed_token.specs.Read.{AssertionOf, DisconnectOf}
use Rattle.fed_status.specs.Flags.{has_flag}
use Rattle.fed_status.specs.Kept.{has_pair, has_triple, triple_of}
use Rattle.fed_status.specs.Login.{status_of}
use Rattle.fed_status.specs.Shared.{World}
use Rattle.fed_consent.specs.declared.table.effect.Effect.{Effect as CallEffect}
use Rattle.fed_consent.specs.declared.table.effect.Effect.TheVariants as does
use Rattle.fed_consent.specs.declared.table.failure.Failure.{Failure}
use Rattle.fed_consent.specs.declared.table.finish.Finish.TheVariants.{Token}
use Rattle.fed_consent.specs.declared.table.input.Input.{Input}
use Rattle.fed_consent.specs.declared.table.input.Input.TheVariants as inputs
use Rattle.fed_consent.specs.Outcomes.{Outcome, finishes, only_place}
use Rattle.fed_call.specs.declared.progress.Progress.TheVariants as progress_is
use Rattle.fed_call.specs.Accounts.{Offered}
use Rattle.fed_call.specs.AssertingRows.{clears, by_token, picked_at, assertion_reply, asserting_reply}
use Rattle.fed_call.specs.DialogRows.{metadata_reply, prompting_reply, by_connection, choice, chose, goes_on, went_on, cancelled}
use Rattle.fed_call.specs.Dialogs.{site_of, prompt_effect, prompts}
use Rattle.fed_call.specs.Facts.{Facts, Conclusion, Awaits, NoneLeft, Reselects, NoneSilent, Offers, Prompts, conclusion_of, config_at}
use Rattle.fed_call.specs.Facts.{provider_at, came_at, found_offered, is_single, with_progress}
use Rattle.fed_call.specs.GatheringRows.{opens, opens_from, first_settles, start_all, by_prevented, by_twice, by_active, is_twice, is_active}
use Rattle.fed_call.specs.GatheringRows.{gathering_came}
use Rattle.fed_call.specs.Progress.{Came, Unawaited, Refused, Waits, Both, NoneFits, Fit, Closed, NotSecure, Siteless, Gated, opening, first_progress}
use Rattle.fed_call.specs.ReadingRows.{start_by, lacks_activation, is_prevented}
use Rattle.fed_call.specs.Row.{start_with, came_row, provider_row, awaited_reply, stage_reply}
use Rattle.fed_call.specs.Row as get
use Rattle.fed_call.specs.SettledRows.{concludes, settles}
use Rattle.fed_call.specs.SingleRows.{single_came, refused, by_window, by_mismatch, is_mismatch}
use Rattle.fed_call.specs.WindowRows.{may_sign_in, opens_window, asked_to_sign_in, asks_again, resumed, window_shut}
use Rattle.fed_disconnect.specs.Facts.{DisconnectOptions, DisconnectFacts, provider_origin}
use Rattle.fed_disconnect.specs.Rows as disconnect
use Rattle.fed_script.specs.Used.{IsKnown}
use Rattle.fed_trace.specs.Begun.{CallOptions, ToGet, ToDisconnect}
use Rattle.fed_trace.specs.Call.{Known, OfGet, OfDisconnect, get_outcome, first_row, input_row}
use Rattle.fed_session.specs.declared.sight.Sight.{Sight}
use Rattle.fed_session.specs.StepParts.{CanApplyAll, CanApply, sight_after}

-- what may follow the first thing that a call does: a status that was said, and no pair goes
abbrev pub Next : CallEffect → Type 0
Next (does.SetLogin origin status) = IsKnown status
Next (does.ForgetPair origin provider) = ⊥
Next _ = ⊤

-- all of it can be done, and only the first may be that a pair goes
abbrev pub SetsAll : List CallEffect → Type 0
SetsAll [] = ⊤
SetsAll (effect ∷ effects) = CanApply effect × AllByRecursion Next effects

abbrev pub Sets : Outcome → Type 0
Sets outcome = SetsAll outcome.effects

in_known : LoggedIn ≢ Unknown
in_known is = absurd (cc)

out_known : LoggedOut ≢ Unknown
out_known is = absurd (cc)

-- ---- what sets nothing

-- the effect sets no status, no permission and no flag
abbrev pub SetsNone : CallEffect → Type 0
SetsNone (does.Send place ask) = ⊤
SetsNone (does.Dropped place failure) = ⊤
SetsNone (does.Dialog dialog) = ⊤
SetsNone (does.Window place url) = ⊤
SetsNone (does.Finish finish) = ⊤
SetsNone (does.Ignored why) = ⊤
SetsNone _ = ⊥

-- the outcome sets none
abbrev pub SetsNothing : Outcome → Type 0
SetsNothing outcome = AllByRecursion SetsNone outcome.effects

none_next : (effect : CallEffect) → SetsNone effect → Next effect
none_next (does.Send place ask) none = tt
none_next (does.Dropped place failure) none = tt
none_next (does.Dialog dialog) none = tt
none_next (does.Window place url) none = tt
none_next (does.Finish finish) none = tt
none_next (does.Ignored why) none = tt
none_next (does.SetLogin origin status) none = absurd none
none_next (does.ForgetPair origin provider) none = absurd none
none_next (does.Keep triple) none = absurd none
none_next (does.Forget triple) none = absurd none
none_next (does.ClearFlag origin) none = absurd none

none_applies : (effect : CallEffect) → SetsNone effect → CanApply effect
none_applies (does.Send place ask) none = tt
none_applies (does.Dropped place failure) none = tt
none_applies (does.Dialog dialog) none = tt
none_applies (does.Window place url) none = tt
none_applies (does.Finish finish) none = tt
none_applies (does.Ignored why) none = tt
none_applies (does.SetLogin origin status) none = absurd none
none_applies (does.ForgetPair origin provider) none = absurd none
none_applies (does.Keep triple) none = absurd none
none_applies (does.Forget triple) none = absurd none
none_applies (does.ClearFlag origin) none = absurd none

all_next : (effects : List CallEffect) → AllByRecursion SetsNone effects → AllByRecursion Next effects
all_next [] none = tt
all_next (effect ∷ effects) none = (none_next effect none.0, all_next effects none.1)

none_sets : (effects : List CallEffect) → AllByRecursion SetsNone effects → SetsAll effects
none_sets [] none = tt
none_sets (effect ∷ effects) none = (none_applies effect none.0, all_next effects none.1)

-- all that is looked at stays as it is
pub none_still : (effects : List CallEffect) → AllByRecursion SetsNone effects → (sight : Sight) → sight_after effects sight ≡ sight
none_still [] none sight = refl
none_still (does.Send place ask ∷ effects) none sight = none_still effects none.1 sight
none_still (does.Dropped place failure ∷ effects) none sight = none_still effects none.1 sight
none_still (does.Dialog dialog ∷ effects) none sight = none_still effects none.1 sight
none_still (does.Window place url ∷ effects) none sight = none_still effects none.1 sight
none_still (does.Finish finish ∷ effects) none sight = none_still effects none.1 sight
none_still (does.Ignored why ∷ effects) none sight = none_still effects none.1 sight
none_still (does.SetLogin origin status ∷ effects) none sight = absurd none.0
none_still (does.ForgetPair origin provider ∷ effects) none sight = absurd none.0
none_still (does.Keep triple ∷ effects) none sight = absurd none.0
none_still (does.Forget triple ∷ effects) none sight = absurd none.0
none_still (does.ClearFlag origin ∷ effects) none sight = absurd none.0

none_both : (xs ys : List CallEffect) → AllByRecursion SetsNone xs → AllByRecursion SetsNone ys → AllByRecursion SetsNone (xs ++ ys)
none_both [] ys first second = second
none_both (x ∷ xs) ys first second = (first.0, none_both xs ys first.1 second)

-- ---- a get

by_none : (provider : ProviderOptions) (opening : Result Parts Closed) (lacking prevented : Bool)
    → SetsNothing (start_by provider opening lacking prevented)
by_none provider (Err NotSecure) lacking prevented = (tt, tt)
by_none provider (Err Siteless) true prevented = (tt, tt)
by_none provider (Err Siteless) false prevented = (tt, tt)
by_none provider (Err Gated) true prevented = (tt, tt)
by_none provider (Err Gated) false true = (tt, tt)
by_none provider (Err Gated) false false = (tt, tt)
by_none provider (Ok wellknown) true prevented = (tt, tt)
by_none provider (Ok wellknown) false true = (tt, tt)
by_none provider (Ok wellknown) false false = (tt, (tt, tt))

opens_none : (place : ℕ) (config : Parts) (opening : Result Parts Closed) → AllByRecursion SetsNone (opens place config opening)
opens_none place config (Err closed) = (tt, tt)
opens_none place config (Ok wellknown) = (tt, (tt, tt))

opens_all_none : (world : World) (mode : Mode) (n : ℕ) (providers : List ProviderOptions)
    → AllByRecursion SetsNone (opens_from world mode n providers)
opens_all_none world mode n [] = tt
opens_all_none world mode n (provider ∷ providers) =
    none_both (opens n provider.config (opening world mode provider)) (opens_from world mode (suc n) providers)
    (opens_none n provider.config (opening world mode provider)) (opens_all_none world mode (suc n) providers)

first_none : (c : Conclusion) → SetsNothing (first_settles c)
first_none Awaits = tt
first_none (NoneLeft failure) = (tt, tt)
first_none (Reselects offered) = tt
first_none NoneSilent = tt
first_none (Offers offered) = tt
first_none (Prompts offered) = tt

pub start_all_none : (world : World) (origin : Origin) (options : GetOptions) → SetsNothing (start_all world origin options)
start_all_none world origin options =
    let c = conclusion_of world origin options (map (first_progress world options.mode) options.providers) in
    none_both (opens_from world options.mode 0 options.providers) (first_settles c).effects
    (opens_all_none world options.mode 0 options.providers) (first_none c)

prevented_none : (world : World) (origin : Origin) (options : GetOptions) (prevented : Bool)
    → SetsNothing (by_prevented world origin options prevented)
prevented_none world origin options true = (tt, tt)
prevented_none world origin options false = start_all_none world origin options

twice_none : (world : World) (origin : Origin) (options : GetOptions) (twice : Bool) → SetsNothing (by_twice world origin options twice)
twice_none world origin options true = (tt, tt)
twice_none world origin options false =
    prevented_none world origin options (is_prevented options.mediation (has_flag world.flags origin))

active_none : (world : World) (origin : Origin) (options : GetOptions) (active : Bool) → SetsNothing (by_active world origin options active)
active_none world origin options true = (tt, tt)
active_none world origin options false = twice_none world origin options (is_twice options)

start_none : (world : World) (origin : Origin) (options : GetOptions) (providers : List ProviderOptions)
    → SetsNothing (start_with world origin options providers)
start_none world origin options [] = tt
start_none world origin options (only ∷ []) =
    by_none only (opening world options.mode only) (lacks_activation options.mode options.activation)
    (is_prevented options.mediation (has_flag world.flags origin))
start_none world origin options (first ∷ second ∷ more) = active_none world origin options (is_active options.mode)

get_none : (world : World) (busy : Bool) (origin : Origin) (options : GetOptions) → SetsNothing (get_outcome world busy origin options)
get_none world true origin options = (tt, tt)
get_none world false origin options = start_none world origin options options.providers

-- ---- what a settled call comes to

prompt_none : (world : World) (facts : Facts) (offered : Offered) (connected : Bool) (endpoint : Option Parts)
    → SetsNone (prompt_effect world facts offered connected endpoint)
prompt_none world facts offered true endpoint = tt
prompt_none world facts offered false None = tt
prompt_none world facts offered false (Some to) = tt

prompts_none : (world : World) (facts : Facts) (offered : Offered) → SetsNothing (prompts world facts offered)
prompts_none world facts offered = (prompt_none world facts offered offered.candidate.connected offered.config.metadata, tt)

concludes_none : (world : World) (facts : Facts) (c : Conclusion) → SetsNothing (concludes world facts c)
concludes_none world facts Awaits = tt
concludes_none world facts (NoneLeft failure) = (tt, tt)
concludes_none world facts (Reselects offered) = (tt, tt)
concludes_none world facts NoneSilent = (tt, tt)
concludes_none world facts (Offers offered) = (tt, tt)
concludes_none world facts (Prompts offered) = prompts_none world facts offered

settles_next : (world : World) (facts : Facts) → AllByRecursion Next (settles world facts).effects
settles_next world facts =
    let c = conclusion_of world facts.origin facts.options facts.progress in
    all_next (concludes world facts c).effects (concludes_none world facts c)

-- ---- replies that are awaited

opens_window_none : (place : ℕ) (config : Option Config) → SetsNothing (opens_window place config)
opens_window_none place None = tt
opens_window_none place (Some config) = (tt, tt)

mismatch_none : (place : ℕ) (site : List ℕ) (failure : Failure) (shown : Bool) → SetsNothing (by_mismatch place site failure shown)
mismatch_none place site failure true = (tt, tt)
mismatch_none place site failure false = (tt, tt)

window_none : (place : ℕ) (config : Option Config) (other : Outcome) (signs_in : Bool) → SetsNothing other
    → SetsNothing (by_window place config other signs_in)
window_none place config other true none = opens_window_none place config
window_none place config other false none = none

refused_next : (world : World) (facts : Facts) (place : ℕ) (provider : Origin) (failure : Failure)
    → AllByRecursion Next (refused world facts place provider failure).effects
refused_next world facts place provider failure =
    let shown = is_mismatch facts.options.mode facts.options.mediation (status_of world.login provider) in
    all_next (refused world facts place provider failure).effects
    (window_none place (config_at place facts) (by_mismatch place (site_of world facts.origin) failure shown)
    (may_sign_in facts.options.mode facts.options.mediation) (mismatch_none place (site_of world facts.origin) failure shown))

single_sets : (world : World) (facts : Facts) (place : ℕ) (provider : Origin) (came : Came) → Sets (single_came world facts place provider came)
single_sets world facts place provider Unawaited = (tt, tt)
single_sets world facts place provider (Refused failure) = (tt, tt)
single_sets world facts place provider (Waits replies) = tt
single_sets world facts place provider (Both config) = (tt, tt)
single_sets world facts place provider (NoneFits failure) = (out_known, refused_next world facts place provider failure)
single_sets world facts place provider (Fit config accounts) =
    (in_known, settles_next world (with_progress place (progress_is.Listed config accounts) facts))

gathering_sets : (world : World) (facts : Facts) (place : ℕ) (provider : Origin) (came : Came)
    → Sets (gathering_came world facts place provider came)
gathering_sets world facts place provider Unawaited = (tt, tt)
gathering_sets world facts place provider (Refused failure) =
    (tt, settles_next world (with_progress place (progress_is.Dropped failure) facts))
gathering_sets world facts place provider (Waits replies) = tt
gathering_sets world facts place provider (Both config) = (tt, tt)
gathering_sets world facts place provider (NoneFits failure) =
    (out_known, (tt, settles_next world (with_progress place (progress_is.Dropped failure) facts)))
gathering_sets world facts place provider (Fit config accounts) =
    (in_known, settles_next world (with_progress place (progress_is.Listed config accounts) facts))

came_sets : (world : World) (facts : Facts) (place : ℕ) (single : Bool) (provider : Origin) (came : Came)
    → Sets (came_row world facts place single provider came)
came_sets world facts place true provider came = single_sets world facts place provider came
came_sets world facts place false provider came = gathering_sets world facts place provider came

provider_sets : (world : World) (facts : Facts) (place : ℕ) (provider : Option ProviderOptions) (came : Came)
    → Sets (provider_row world facts place provider came)
provider_sets world facts place None came = (tt, tt)
provider_sets world facts place (Some provider) came =
    came_sets world facts place (is_single facts.options) (origin_of provider.config) came

awaited_sets : (world : World) (facts : Facts) (place : ℕ) (kind : ReplyKind) (raw : List ℕ)
    → Sets (awaited_reply world facts place kind raw)
awaited_sets world facts place kind raw =
    provider_sets world facts place (provider_at place facts.options) (came_at world facts place kind raw)

-- ---- dialogs

metadata_sets : (world : World) (facts : Facts) (waits : Bool) (offered : Option Offered) (raw : List ℕ)
    → Sets (metadata_reply world facts waits offered raw)
metadata_sets world facts false offered raw = (tt, tt)
metadata_sets world facts true None raw = (tt, tt)
metadata_sets world facts true (Some offered) raw = (tt, tt)

prompting_sets : (world : World) (facts : Facts) (place : ℕ) (kind : ReplyKind) (raw : List ℕ)
    → Sets (prompting_reply world facts place kind raw)
prompting_sets world facts place kinds.Metadata raw = metadata_sets world facts facts.waits (picked_at place facts.picked) raw
prompting_sets world facts place kinds.WellKnown raw = (tt, tt)
prompting_sets world facts place kinds.Config raw = (tt, tt)
prompting_sets world facts place kinds.Accounts raw = (tt, tt)
prompting_sets world facts place kinds.Assertion raw = (tt, tt)
prompting_sets world facts place kinds.Disconnect raw = (tt, tt)

connection_sets : (world : World) (facts : Facts) (offered : Offered) (connected : Bool)
    → Sets (by_connection world facts offered connected)
connection_sets world facts offered true = (tt, tt)
connection_sets world facts offered false = none_sets (prompts world facts offered).effects (prompts_none world facts offered)

choice_sets : (world : World) (facts : Facts) (offered : Option Offered) → Sets (choice world facts offered)
choice_sets world facts None = (tt, tt)
choice_sets world facts (Some offered) = connection_sets world facts offered offered.candidate.connected

chose_sets : (world : World) (facts : Facts) (stage : Stage) (place : ℕ) (id : List ℕ) → Sets (chose world facts stage place id)
chose_sets world facts stages.Choosing place id = choice_sets world facts (found_offered place id facts)
chose_sets world facts stages.Reading place id = (tt, tt)
chose_sets world facts stages.Listing place id = (tt, tt)
chose_sets world facts stages.Gathering place id = (tt, tt)
chose_sets world facts stages.Mismatch place id = (tt, tt)
chose_sets world facts stages.Window place id = (tt, tt)
chose_sets world facts stages.Prompting place id = (tt, tt)
chose_sets world facts stages.Asserting place id = (tt, tt)
chose_sets world facts stages.Ended place id = (tt, tt)

goes_on_sets : (facts : Facts) (waits : Bool) (picked : Option Offered) → Sets (goes_on facts waits picked)
goes_on_sets facts true picked = (tt, tt)
goes_on_sets facts false None = tt
goes_on_sets facts false (Some offered) = (tt, tt)

went_on_sets : (facts : Facts) (stage : Stage) → Sets (went_on facts stage)
went_on_sets facts stages.Prompting = goes_on_sets facts facts.waits facts.picked
went_on_sets facts stages.Reading = (tt, tt)
went_on_sets facts stages.Listing = (tt, tt)
went_on_sets facts stages.Gathering = (tt, tt)
went_on_sets facts stages.Mismatch = (tt, tt)
went_on_sets facts stages.Window = (tt, tt)
went_on_sets facts stages.Choosing = (tt, tt)
went_on_sets facts stages.Asserting = (tt, tt)
went_on_sets facts stages.Ended = (tt, tt)

-- ---- the login window

opens_sets : (place : ℕ) (config : Option Config) → Sets (opens_window place config)
opens_sets place None = tt
opens_sets place (Some config) = (tt, tt)

sign_in_sets : (facts : Facts) (stage : Stage) → Sets (asked_to_sign_in facts stage)
sign_in_sets facts stages.Mismatch = opens_sets only_place (config_at only_place facts)
sign_in_sets facts stages.Reading = (tt, tt)
sign_in_sets facts stages.Listing = (tt, tt)
sign_in_sets facts stages.Gathering = (tt, tt)
sign_in_sets facts stages.Window = (tt, tt)
sign_in_sets facts stages.Choosing = (tt, tt)
sign_in_sets facts stages.Prompting = (tt, tt)
sign_in_sets facts stages.Asserting = (tt, tt)
sign_in_sets facts stages.Ended = (tt, tt)

again_sets : (place : ℕ) (config : Option Config) → Sets (asks_again place config)
again_sets place None = tt
again_sets place (Some config) = (tt, tt)

resumed_sets : (facts : Facts) (stage : Stage) → Sets (resumed facts stage)
resumed_sets facts stages.Window = again_sets only_place (config_at only_place facts)
resumed_sets facts stages.Reading = (tt, tt)
resumed_sets facts stages.Listing = (tt, tt)
resumed_sets facts stages.Gathering = (tt, tt)
resumed_sets facts stages.Mismatch = (tt, tt)
resumed_sets facts stages.Choosing = (tt, tt)
resumed_sets facts stages.Prompting = (tt, tt)
resumed_sets facts stages.Asserting = (tt, tt)
resumed_sets facts stages.Ended = (tt, tt)

shut_sets : (stage : Stage) → Sets (window_shut stage)
shut_sets stages.Window = (tt, tt)
shut_sets stages.Reading = (tt, tt)
shut_sets stages.Listing = (tt, tt)
shut_sets stages.Gathering = (tt, tt)
shut_sets stages.Mismatch = (tt, tt)
shut_sets stages.Choosing = (tt, tt)
shut_sets stages.Prompting = (tt, tt)
shut_sets stages.Asserting = (tt, tt)
shut_sets stages.Ended = (tt, tt)

-- ---- the token

clears_next : (auto : Bool) (origin : Origin) (outcome : Outcome) → AllByRecursion Next outcome.effects
    → AllByRecursion Next (clears auto origin outcome).effects
clears_next true origin outcome next = next
clears_next false origin outcome next = (tt, next)

token_sets : (facts : Facts) (offered : Offered) (read : Result (List ℕ) TokenStep) → Sets (by_token facts offered read)
token_sets facts offered (Ok token) =
    (tt, clears_next facts.auto facts.origin (finishes (Token facts.auto offered.place token)) (tt, tt))
token_sets facts offered (Err step) = (tt, tt)

assertion_sets : (facts : Facts) (offered : Option Offered) (raw : List ℕ) → Sets (assertion_reply facts offered raw)
assertion_sets facts None raw = (tt, tt)
assertion_sets facts (Some offered) raw = token_sets facts offered (AssertionOf raw (origin_text facts.origin))

asserting_sets : (facts : Facts) (place : ℕ) (kind : ReplyKind) (raw : List ℕ) → Sets (asserting_reply facts place kind raw)
asserting_sets facts place kinds.Assertion raw = assertion_sets facts (picked_at place facts.picked) raw
asserting_sets facts place kinds.WellKnown raw = (tt, tt)
asserting_sets facts place kinds.Config raw = (tt, tt)
asserting_sets facts place kinds.Accounts raw = (tt, tt)
asserting_sets facts place kinds.Metadata raw = (tt, tt)
asserting_sets facts place kinds.Disconnect raw = (tt, tt)

cancel_sets : (stage : Stage) → Sets (cancelled stage)
cancel_sets stages.Reading = (tt, tt)
cancel_sets stages.Listing = (tt, tt)
cancel_sets stages.Gathering = (tt, tt)
cancel_sets stages.Mismatch = (tt, tt)
cancel_sets stages.Window = (tt, tt)
cancel_sets stages.Choosing = (tt, tt)
cancel_sets stages.Prompting = (tt, tt)
cancel_sets stages.Asserting = (tt, tt)
cancel_sets stages.Ended = (tt, tt)

-- ---- all inputs

reply_sets : (world : World) (facts : Facts) (stage : Stage) (place : ℕ) (kind : ReplyKind) (raw : List ℕ)
    → Sets (stage_reply world facts stage place kind raw)
reply_sets world facts stages.Reading place kind raw = awaited_sets world facts place kind raw
reply_sets world facts stages.Listing place kind raw = awaited_sets world facts place kind raw
reply_sets world facts stages.Gathering place kind raw = awaited_sets world facts place kind raw
reply_sets world facts stages.Mismatch place kind raw = (tt, tt)
reply_sets world facts stages.Window place kind raw = (tt, tt)
reply_sets world facts stages.Choosing place kind raw = (tt, tt)
reply_sets world facts stages.Prompting place kind raw = prompting_sets world facts place kind raw
reply_sets world facts stages.Asserting place kind raw = asserting_sets facts place kind raw
reply_sets world facts stages.Ended place kind raw = (tt, tt)

input_sets : (world : World) (facts : Facts) (input : Input) → Sets (get.input_row world facts input)
input_sets world facts (inputs.Reply place kind raw) = reply_sets world facts facts.stage place kind raw
input_sets world facts inputs.Cancel = cancel_sets facts.stage
input_sets world facts inputs.Abort = (tt, tt)
input_sets world facts (inputs.Choose place account) = chose_sets world facts facts.stage place account
input_sets world facts inputs.GoOn = went_on_sets facts facts.stage
input_sets world facts inputs.SignIn = sign_in_sets facts facts.stage
input_sets world facts inputs.Shut = shut_sets facts.stage
input_sets world facts inputs.Resume = resumed_sets facts facts.stage

-- ---- a disconnect

by_site_sets : (config : Parts) (wellknown : Result Parts ProviderStep) (kept : Bool) → Sets (disconnect.by_site config wellknown kept)
by_site_sets config (Err step) kept = (tt, tt)
by_site_sets config (Ok wellknown) false = (tt, tt)
by_site_sets config (Ok wellknown) true = (tt, (tt, tt))

by_scheme_sets : (scheme : Scheme) (config : Parts) (wellknown : Result Parts ProviderStep) (kept : Bool)
    → Sets (disconnect.by_scheme scheme config wellknown kept)
by_scheme_sets Http config wellknown kept = (tt, tt)
by_scheme_sets Https config wellknown kept = by_site_sets config wellknown kept

asks_sets : (origin : Origin) (options : DisconnectOptions) (to : Option Parts) → Sets (disconnect.asks_disconnect origin options to)
asks_sets origin options None = (tt, tt)
asks_sets origin options (Some to) = (tt, tt)

heard_sets : (origin : Origin) (options : DisconnectOptions) (h : Heard) → Sets (disconnect.by_heard origin options h)
heard_sets origin options (heard.Refused step) = (tt, tt)
heard_sets origin options (heard.Waits replies) = tt
heard_sets origin options (heard.Both config) = asks_sets origin options config.disconnect
heard_sets origin options (heard.NotWaited replies) = (tt, tt)

forgotten_sets : (page provider : Origin) (account : List ℕ) (kept : Bool) → CanApply (disconnect.forgotten page provider account kept)
forgotten_sets page provider account true = tt
forgotten_sets page provider account false = tt

answered_sets : (kept : List Triple) (page provider : Origin) (read : Result (List ℕ) TokenStep)
    → Sets (disconnect.answered kept page provider read)
answered_sets kept page provider (Ok account) =
    (forgotten_sets page provider account (has_triple kept (triple_of page provider account)), (tt, tt))
answered_sets kept page provider (Err step) = (tt, (tt, tt))

sending_sets : (kept : List Triple) (page provider : Origin) (kind : ReplyKind) (raw : List ℕ)
    → Sets (disconnect.asserting_reply kept page provider kind raw)
sending_sets kept page provider kinds.Disconnect raw = answered_sets kept page provider (DisconnectOf raw (origin_text page))
sending_sets kept page provider kinds.WellKnown raw = (tt, tt)
sending_sets kept page provider kinds.Config raw = (tt, tt)
sending_sets kept page provider kinds.Accounts raw = (tt, tt)
sending_sets kept page provider kinds.Metadata raw = (tt, tt)
sending_sets kept page provider kinds.Assertion raw = (tt, tt)

disconnect_stage_sets : (world : World) (facts : DisconnectFacts) (stage : Stage) (kind : ReplyKind) (raw : List ℕ)
    → Sets (disconnect.stage_reply world facts stage kind raw)
disconnect_stage_sets world facts stages.Reading kind raw =
    heard_sets facts.origin facts.options (reply_heard world.rules facts.replies facts.options.config kind raw)
disconnect_stage_sets world facts stages.Asserting kind raw = sending_sets world.kept facts.origin (provider_origin facts.options) kind raw
disconnect_stage_sets world facts stages.Listing kind raw = (tt, tt)
disconnect_stage_sets world facts stages.Gathering kind raw = (tt, tt)
disconnect_stage_sets world facts stages.Mismatch kind raw = (tt, tt)
disconnect_stage_sets world facts stages.Window kind raw = (tt, tt)
disconnect_stage_sets world facts stages.Choosing kind raw = (tt, tt)
disconnect_stage_sets world facts stages.Prompting kind raw = (tt, tt)
disconnect_stage_sets world facts stages.Ended kind raw = (tt, tt)

own_sets : (world : World) (facts : DisconnectFacts) (own : Bool) (kind : ReplyKind) (raw : List ℕ)
    → Sets (disconnect.provider_reply world facts own kind raw)
own_sets world facts true kind raw = disconnect_stage_sets world facts facts.stage kind raw
own_sets world facts false kind raw = (tt, tt)

disconnect_sets : (world : World) (facts : DisconnectFacts) (input : Input) → Sets (disconnect.input_row world facts input)
disconnect_sets world facts (inputs.Reply place kind raw) = own_sets world facts (place == only_place) kind raw
disconnect_sets world facts inputs.Cancel = (tt, tt)
disconnect_sets world facts inputs.Abort = (tt, tt)
disconnect_sets world facts (inputs.Choose place account) = (tt, tt)
disconnect_sets world facts inputs.GoOn = (tt, tt)
disconnect_sets world facts inputs.SignIn = (tt, tt)
disconnect_sets world facts inputs.Shut = (tt, tt)
disconnect_sets world facts inputs.Resume = (tt, tt)

-- ---- a call of either kind

pub first_sets : (world : World) (busy : Bool) (origin : Origin) (options : CallOptions) → Sets (first_row world busy origin options)
first_sets world busy origin (ToGet options) =
    none_sets (get_outcome world busy origin options).effects (get_none world busy origin options)
first_sets world busy origin (ToDisconnect options) =
    by_scheme_sets (scheme_of options.config) options.config (WellKnownUrlOf world.rules options.config)
    (has_pair world.kept origin (provider_origin options))

pub row_sets : (world : World) (known : Known) (input : Input) → Sets (input_row world known input)
row_sets world (OfGet facts) input = input_sets world facts input
row_sets world (OfDisconnect facts) input = disconnect_sets world facts input

-- what comes next can be done
next_apply : (effects : List CallEffect) → AllByRecursion Next effects → CanApplyAll effects
next_apply [] next = tt
next_apply (does.SetLogin origin status ∷ effects) next = (next.0, next_apply effects next.1)
next_apply (does.ForgetPair p q ∷ effects) next = (tt, next_apply effects next.1)
next_apply (does.Send provider ask ∷ effects) next = (tt, next_apply effects next.1)
next_apply (does.Dropped place failure ∷ effects) next = (tt, next_apply effects next.1)
next_apply (does.Finish finish ∷ effects) next = (tt, next_apply effects next.1)
next_apply (does.Ignored why ∷ effects) next = (tt, next_apply effects next.1)
next_apply (does.Dialog dialog ∷ effects) next = (tt, next_apply effects next.1)
next_apply (does.Window place url ∷ effects) next = (tt, next_apply effects next.1)
next_apply (does.Keep triple ∷ effects) next = (tt, next_apply effects next.1)
next_apply (does.Forget triple ∷ effects) next = (tt, next_apply effects next.1)
next_apply (does.ClearFlag origin ∷ effects) next = (tt, next_apply effects next.1)

pub sets_apply : (effects : List CallEffect) → SetsAll effects → CanApplyAll effects
sets_apply [] sets = tt
sets_apply (effect ∷ effects) sets = (sets.0, next_apply effects sets.1)
