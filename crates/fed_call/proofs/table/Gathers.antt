-- What a call with several providers does at a reply is by what the reply comes to.
use Rattle.std.proofs.Common.{◌≡◌, ℕ, Bool, true, false, List, ◌++◌, Option, Some, None, ◌⊎◌, inl, inr, refl}
use Rattle.std.specs.Prelude.{slice_get, slice_set, unwrap_or}
use Rattle.std.specs.List.{list_any}
use Rattle.url.specs.Parts.{Parts}
use Rattle.fed_origin.specs.declared.options.ProviderOptions.{ProviderOptions}
use Rattle.fed_origin.specs.declared.origin.Origin.{Origin}
use Rattle.fed_origin.specs.declared.stage.ReplyKind.{ReplyKind}
use Rattle.fed_origin.specs.declared.stage.ReplyKind.TheVariants as kinds
use Rattle.fed_origin.specs.declared.stage.Stage.TheVariants as stages
use Rattle.fed_origin.specs.WebUrl.{origin_of}
use Rattle.fed_suffix.specs.Rule.{RuleSet}
use Rattle.fed_status.specs.Shared.{World}
use Rattle.fed_consent.specs.declared.table.input.Input.TheVariants as inputs
use Rattle.fed_consent.specs.Outcomes.{is_ignored}
use Rattle.fed_call.specs.declared.progress.Progress.{Progress}
use Rattle.fed_call.specs.declared.progress.Progress.TheVariants as progress_is
use Rattle.fed_call.specs.declared.stages.At.TheVariants as ats
use Rattle.fed_call.specs.Accounts.{Offered}
use Rattle.fed_call.specs.Begun.{Begun, options_of}
use Rattle.fed_call.specs.Dialogs.{prompt_effect}
use Rattle.fed_call.specs.Facts.{Facts, Conclusion, Awaits, NoneLeft, Reselects, NoneSilent, Offers, Prompts, at_stage}
use Rattle.fed_call.specs.Facts.{conclusion_of, provider_at, with_came, with_input, with_progress, with_reply, with_settled}
use Rattle.fed_call.specs.Fits.{is_one}
use Rattle.fed_call.specs.Gathering.{came_settled, said}
use Rattle.fed_call.specs.GatheringRows.{gathering_came}
use Rattle.fed_call.specs.Progress.{Came, Unawaited, Refused, Waits, Both, NoneFits, Fit, came, is_awaited}
use Rattle.fed_call.specs.Row.{input_facts, stage_reply}
use Rattle.fed_call.specs.SettledRows.{concludes, settles}
use Rattle.fed_call.specs.State.{at_facts}

-- ---- the row

pub row_of : (world : World) (begun : Begun) (progress : List Progress) (place : ℕ) (provider : ProviderOptions) (kind : ReplyKind)
    (raw : List ℕ)
    → is_one begun ≡ false → provider_at place (options_of begun) ≡ Some provider
    → stage_reply world (at_facts begun (ats.Gathering progress)) stages.Gathering place kind raw
    ≡ gathering_came world (at_facts begun (ats.Gathering progress)) place (origin_of provider.config)
    (came world.rules (slice_get progress place) (Some provider) kind raw)
row_of world begun progress place provider kind raw several there = rw (there, several) refl

-- ---- what it leaves known

prompt_taken : (world : World) (facts : Facts) (offered : Offered) (connected : Bool) (endpoint : Option Parts)
    → is_ignored (prompt_effect world facts offered connected endpoint) ≡ false
prompt_taken world facts offered true endpoint = refl
prompt_taken world facts offered false None = refl
prompt_taken world facts offered false (Some to) = refl

concludes_taken : (world : World) (facts : Facts) (conclusion : Conclusion)
    → list_any is_ignored (concludes world facts conclusion).effects ≡ false
concludes_taken world facts Awaits = refl
concludes_taken world facts (NoneLeft failure) = refl
concludes_taken world facts (Reselects offered) = refl
concludes_taken world facts NoneSilent = refl
concludes_taken world facts (Offers offered) = refl
concludes_taken world facts (Prompts offered) =
    rw (prompt_taken world facts offered offered.candidate.connected offered.config.metadata) refl

settles_taken : (world : World) (facts : Facts) → list_any is_ignored (settles world facts).effects ≡ false
settles_taken world facts = concludes_taken world facts (conclusion_of world facts.origin facts.options facts.progress)

taken : (world : World) (facts : Facts) (place : ℕ) (provider : Origin) (comes : Came)
    → (list_any is_ignored (gathering_came world facts place provider comes).effects ≡ false) ⊎ (comes ≡ Unawaited)
taken world facts place provider Unawaited = inr refl
taken world facts place provider (Refused failure) =
    inl (settles_taken world (with_progress place (progress_is.Dropped failure) facts))
taken world facts place provider (Waits replies) = inl refl
taken world facts place provider (Both config) = inl refl
taken world facts place provider (NoneFits failure) =
    inl (settles_taken world (with_progress place (progress_is.Dropped failure) facts))
taken world facts place provider (Fit config accounts) =
    inl (settles_taken world (with_progress place (progress_is.Listed config accounts) facts))

by_taken : (world : World) (facts : Facts) (place : ℕ) (provider : Origin) (kind : ReplyKind) (raw : List ℕ) (comes : Came)
    → with_reply world place kind raw facts ≡ with_came world place comes facts
    → with_input world (list_any is_ignored (gathering_came world facts place provider comes).effects) (inputs.Reply place kind raw) facts
    ≡ with_came world place comes facts
by_taken world facts place provider kind raw comes reply = go (taken world facts place provider comes)
  where
    go : (list_any is_ignored (gathering_came world facts place provider comes).effects ≡ false) ⊎ (comes ≡ Unawaited)
        → with_input world (list_any is_ignored (gathering_came world facts place provider comes).effects) (inputs.Reply place kind raw)
        facts
        ≡ with_came world place comes facts
    go (inl not) = rw not reply
    go (inr is) = rw is refl

never : (world : World) (facts : Facts) (place : ℕ) (provider : Origin) (kind : ReplyKind) (raw : List ℕ) (comes : Came)
    → comes ≡ Unawaited
    → with_input world (list_any is_ignored (gathering_came world facts place provider comes).effects) (inputs.Reply place kind raw) facts
    ≡ with_came world place comes facts
never world facts place provider kind raw comes is = rw is refl

no_metadata : (rules : RuleSet) (progress : Option Progress) (provider : ProviderOptions) (raw : List ℕ)
    → came rules progress (Some provider) kinds.Metadata raw ≡ Unawaited
no_metadata rules None provider raw = refl
no_metadata rules (Some (progress_is.Reading replies)) provider raw = refl
no_metadata rules (Some (progress_is.Listing config)) provider raw = refl
no_metadata rules (Some (progress_is.Listed config accounts)) provider raw = refl
no_metadata rules (Some (progress_is.Dropped failure)) provider raw = refl

no_assertion : (rules : RuleSet) (progress : Option Progress) (provider : ProviderOptions) (raw : List ℕ)
    → came rules progress (Some provider) kinds.Assertion raw ≡ Unawaited
no_assertion rules None provider raw = refl
no_assertion rules (Some (progress_is.Reading replies)) provider raw = refl
no_assertion rules (Some (progress_is.Listing config)) provider raw = refl
no_assertion rules (Some (progress_is.Listed config accounts)) provider raw = refl
no_assertion rules (Some (progress_is.Dropped failure)) provider raw = refl

no_disconnect : (rules : RuleSet) (progress : Option Progress) (provider : ProviderOptions) (raw : List ℕ)
    → came rules progress (Some provider) kinds.Disconnect raw ≡ Unawaited
no_disconnect rules None provider raw = refl
no_disconnect rules (Some (progress_is.Reading replies)) provider raw = refl
no_disconnect rules (Some (progress_is.Listing config)) provider raw = refl
no_disconnect rules (Some (progress_is.Listed config accounts)) provider raw = refl
no_disconnect rules (Some (progress_is.Dropped failure)) provider raw = refl

with_one : (world : World) (begun : Begun) (progress : List Progress) (place : ℕ) (provider : ProviderOptions) (kind : ReplyKind)
    (raw : List ℕ)
    → provider_at place (options_of begun) ≡ Some provider
    → with_input world
    (list_any is_ignored (gathering_came world (at_facts begun (ats.Gathering progress)) place (origin_of provider.config)
    (came world.rules (slice_get progress place) (Some provider) kind raw)).effects)
    (inputs.Reply place kind raw) (at_facts begun (ats.Gathering progress))
    ≡ with_came world place (came world.rules (slice_get progress place) (Some provider) kind raw) (at_facts begun (ats.Gathering progress))
with_one world begun progress place provider kinds.WellKnown raw there =
    by_taken world (at_facts begun (ats.Gathering progress)) place (origin_of provider.config) kinds.WellKnown raw
    (came world.rules (slice_get progress place) (Some provider) kinds.WellKnown raw) (rw there refl)
with_one world begun progress place provider kinds.Config raw there =
    by_taken world (at_facts begun (ats.Gathering progress)) place (origin_of provider.config) kinds.Config raw
    (came world.rules (slice_get progress place) (Some provider) kinds.Config raw) (rw there refl)
with_one world begun progress place provider kinds.Accounts raw there =
    by_taken world (at_facts begun (ats.Gathering progress)) place (origin_of provider.config) kinds.Accounts raw
    (came world.rules (slice_get progress place) (Some provider) kinds.Accounts raw) (rw there refl)
with_one world begun progress place provider kinds.Metadata raw there =
    never world (at_facts begun (ats.Gathering progress)) place (origin_of provider.config) kinds.Metadata raw
    (came world.rules (slice_get progress place) (Some provider) kinds.Metadata raw)
    (no_metadata world.rules (slice_get progress place) provider raw)
with_one world begun progress place provider kinds.Assertion raw there =
    never world (at_facts begun (ats.Gathering progress)) place (origin_of provider.config) kinds.Assertion raw
    (came world.rules (slice_get progress place) (Some provider) kinds.Assertion raw)
    (no_assertion world.rules (slice_get progress place) provider raw)
with_one world begun progress place provider kinds.Disconnect raw there =
    never world (at_facts begun (ats.Gathering progress)) place (origin_of provider.config) kinds.Disconnect raw
    (came world.rules (slice_get progress place) (Some provider) kinds.Disconnect raw)
    (no_disconnect world.rules (slice_get progress place) provider raw)

-- what is known of a call with several providers after a reply that came to this
abbrev pub gathered_facts : World → Begun → List Progress → ℕ → ProviderOptions → Came → Option Facts
gathered_facts world begun progress place provider comes =
    at_stage
    (unwrap_or (gathering_came world (at_facts begun (ats.Gathering progress)) place (origin_of provider.config) comes).stage
    stages.Gathering)
    (with_came world place comes (at_facts begun (ats.Gathering progress)))

pub facts_after_reply : (world : World) (begun : Begun) (progress : List Progress) (place : ℕ) (provider : ProviderOptions)
    (kind : ReplyKind) (raw : List ℕ) (comes : Came)
    → is_one begun ≡ false → provider_at place (options_of begun) ≡ Some provider
    → comes ≡ came world.rules (slice_get progress place) (Some provider) kind raw
    → gathered_facts world begun progress place provider comes
    ≡ input_facts world (at_facts begun (ats.Gathering progress)) (inputs.Reply place kind raw)
facts_after_reply world begun progress place provider kind raw comes several there is =
    rw (is, row_of world begun progress place provider kind raw several there, with_one world begun progress place provider kind raw there)
    refl

-- ---- an accounts reply

pub settled_row : (world : World) (begun : Begun) (progress : List Progress) (place : ℕ) (provider : ProviderOptions) (one : Progress)
    → is_awaited one ≡ false
    → said place (origin_of provider.config) one
    ++ (settles world (at_facts begun (ats.Gathering (slice_set progress place one)))).effects
    ≡ (gathering_came world (at_facts begun (ats.Gathering progress)) place (origin_of provider.config) (came_settled one)).effects
settled_row world begun progress place provider (progress_is.Reading replies) settled = absurd (cc)
settled_row world begun progress place provider (progress_is.Listing config) settled = absurd (cc)
settled_row world begun progress place provider (progress_is.Listed config accounts) settled = refl
settled_row world begun progress place provider (progress_is.Dropped failure) settled = refl

pub settled_facts : (world : World) (begun : Begun) (progress : List Progress) (place : ℕ) (provider : ProviderOptions) (one : Progress)
    → is_one begun ≡ false → is_awaited one ≡ false
    → at_stage
    (unwrap_or (settles world (at_facts begun (ats.Gathering (slice_set progress place one)))).stage stages.Gathering)
    (with_settled world (at_facts begun (ats.Gathering (slice_set progress place one))))
    ≡ gathered_facts world begun progress place provider (came_settled one)
settled_facts world begun progress place provider (progress_is.Reading replies) several settled = absurd (cc)
settled_facts world begun progress place provider (progress_is.Listing config) several settled = absurd (cc)
settled_facts world begun progress place provider (progress_is.Listed config accounts) several settled = refl
settled_facts world begun progress place provider (progress_is.Dropped failure) several settled = rw several refl
