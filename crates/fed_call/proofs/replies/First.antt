-- A reply of the only provider, while its well-known file or its configuration is awaited.
use Rattle.std.proofs.Common.{◌≡◌, ℕ, zero, suc, Bool, true, false, cond, ◌&&◌, ◌==◌, List, [], ◌∷◌, length, Option, Some, None}
use Rattle.std.proofs.Common.{Result, Ok, Err, refl, sym, ap, subst, ◌∙◌, arith}
use Rattle.std.specs.Prelude.{is_some, slice_get, unwrap_or}
use Rattle.std.specs.List.{list_any}
use Rattle.std.proofs.lemmas.Bool.{eqb-true}
use Rattle.std.proofs.lemmas.Option.{same_Some}
use Rattle.fed_origin.specs.declared.origin.Origin.{Origin}
use Rattle.fed_origin.specs.declared.options.ProviderOptions.{ProviderOptions}
use Rattle.fed_origin.specs.declared.stage.Endpoint.{Endpoint}
use Rattle.fed_origin.specs.declared.stage.ReplyKind.{ReplyKind}
use Rattle.fed_origin.specs.declared.stage.ReplyKind.TheVariants as kinds
use Rattle.fed_origin.specs.declared.stage.Stage.TheVariants.{Reading}
use Rattle.fed_origin.specs.WebUrl.{origin_of, scheme_of}
use Rattle.fed_provider.specs.declared.config.Config.{Config}
use Rattle.fed_provider.specs.declared.first_replies.FirstReplies.{FirstReplies}
use Rattle.fed_provider.specs.declared.first_replies.Heard.{Heard}
use Rattle.fed_provider.specs.declared.first_replies.Heard.TheVariants as heards
use Rattle.fed_provider.specs.declared.step.ProviderStep.{ProviderStep}
use Rattle.fed_provider.specs.declared.wellknown.WellKnown.{WellKnown}
use Rattle.fed_provider.specs.Config.{ConfigOf}
use Rattle.fed_provider.specs.FirstReplies.{by_agreement, config_heard, reply_heard, wellknown_heard, wellknown_read}
use Rattle.fed_provider.specs.WellKnown.{agrees}
use Rattle.fed_consent.specs.declared.table.input.Input.TheVariants.{Reply}
use Rattle.fed_consent.specs.Outcomes.{is_ignored, only_place}
use Rattle.fed_status.specs.Shared.{World}
use Rattle.fed_call.specs.declared.stages.At.{At}
use Rattle.fed_call.specs.declared.stages.At.TheVariants as ats
use Rattle.fed_call.specs.Awaits.{awaits, has_place, is_first}
use Rattle.fed_call.specs.Begun.{Begun, options_of}
use Rattle.fed_call.specs.Facts.{Facts, at_stage, came_at, provider_at, with_came, with_input, with_reply}
use Rattle.fed_call.specs.Fits.{fits, is_https, is_one}
use Rattle.fed_call.specs.Heard.{by_heard, facts_heard}
use Rattle.fed_call.specs.Progress.{came_heard}
use Rattle.fed_call.specs.Row.{input_facts, input_row, stage_reply}
use Rattle.fed_call.specs.SingleRows.{single_came}
use Rattle.fed_call.specs.State.{at_facts}

-- ---- the only provider

alone : (providers : List ProviderOptions) (place : ℕ) (provider : ProviderOptions) → (length providers == 1) ≡ true
    → slice_get providers place ≡ Some provider → providers ≡ provider ∷ []
alone [] place provider one at = absurd (cc)
alone (p ∷ []) zero provider one at = ap (λ x. x ∷ []) (same_Some p provider at)
alone (p ∷ []) (suc n) provider one at = absurd (cc)
alone (p ∷ q ∷ providers) place provider one at =
    let more : length (p ∷ q ∷ providers) ≡ 1 = eqb-true (length (p ∷ q ∷ providers)) 1 one in
    absurd (omega arith)

-- the list of a call of one is the provider that it is about
pub only : (begun : Begun) → is_one begun ≡ true → provider_at begun.place (options_of begun) ≡ Some begun.provider
    → begun.providers ≡ begun.provider ∷ []
only begun one at = alone begun.providers begun.place begun.provider one at

place_of_one : (provider : ProviderOptions) (place : ℕ) → is_some (slice_get (provider ∷ []) place) ≡ true → place ≡ only_place
place_of_one provider zero has = refl
place_of_one provider (suc n) has = absurd (cc)

and_parts : (a b : Bool) → (a && b) ≡ true → (a ≡ true) × (b ≡ true)
and_parts true b e = (refl, e)
and_parts false b e = absurd (cc)

-- a reply that is awaited of a call of one is its only provider's, and of an awaited kind
pub awaited_place : (begun : Begun) (place : ℕ) (kind : Bool) → begun.providers ≡ begun.provider ∷ []
    → (kind && has_place begun place) ≡ true
    → (kind ≡ true) × (place ≡ only_place)
awaited_place begun place kind one e =
    let both = and_parts kind (has_place begun place) e in
    (both.0, place_of_one begun.provider place (rw one at both.1))

-- ---- what the call does

heard_row : (world : World) (facts : Facts) (provider : Origin) (heard : Heard)
    → single_came world facts only_place provider (came_heard heard) ≡ by_heard heard
heard_row world facts provider (heards.Refused step) = refl
heard_row world facts provider (heards.Waits replies) = refl
heard_row world facts provider (heards.Both config) = refl
heard_row world facts provider (heards.NotWaited replies) = refl

pub reply_row : (world : World) (begun : Begun) (replies : FirstReplies) (place : ℕ) (kind : ReplyKind) (raw : List ℕ)
    → begun.providers ≡ begun.provider ∷ [] → place ≡ only_place
    → stage_reply world (at_facts begun (ats.Reading replies)) Reading place kind raw
    ≡ by_heard (reply_heard world.rules replies begun.provider.config kind raw)
reply_row world begun replies place kind raw one at =
    rw (at, one)
    (heard_row world (at_facts (record begun { providers = begun.provider ∷ [] }) (ats.Reading replies)) (origin_of begun.provider.config)
    (reply_heard world.rules replies begun.provider.config kind raw))

-- ---- what is known of it then

-- two good files are awaited, whether they agree or not
unawaited : (config : Config) (other : Option Endpoint) (replies : FirstReplies) → by_agreement config other ≡ heards.NotWaited replies → ⊥
unawaited config None replies e = absurd (cc)
unawaited config (Some endpoint) replies e = absurd (cc)

wellknown_kept : (heard : Option WellKnown) (config : Option Config) (read : Result WellKnown ProviderStep) (replies : FirstReplies)
    → wellknown_heard heard config read ≡ heards.NotWaited replies → replies ≡ record { wellknown = heard; config = config }
wellknown_kept (Some file) config read replies e = cc
wellknown_kept None config (Err step) replies e = absurd (cc)
wellknown_kept None None (Ok file) replies e = absurd (cc)
wellknown_kept None (Some config) (Ok file) replies e = absurd (unawaited config (agrees file config) replies e)

config_kept : (heard : Option WellKnown) (config : Option Config) (read : Result Config ProviderStep) (replies : FirstReplies)
    → config_heard heard config read ≡ heards.NotWaited replies → replies ≡ record { wellknown = heard; config = config }
config_kept heard (Some config) read replies e = cc
config_kept heard None (Err step) replies e = absurd (cc)
config_kept None None (Ok config) replies e = absurd (cc)
config_kept (Some file) None (Ok config) replies e = absurd (unawaited config (agrees file config) replies e)

heard_facts : (world : World) (begun : Begun) (replies : FirstReplies) (heard : Heard)
    → ((left : FirstReplies) → heard ≡ heards.NotWaited left → left ≡ replies)
    → at_stage (unwrap_or (by_heard heard).stage Reading)
    (cond (list_any is_ignored (by_heard heard).effects) (at_facts begun (ats.Reading replies))
    (with_came world only_place (came_heard heard) (at_facts begun (ats.Reading replies))))
    ≡ facts_heard begun heard
heard_facts world begun replies (heards.Refused step) kept = refl
heard_facts world begun replies (heards.Waits left) kept = refl
heard_facts world begun replies (heards.Both config) kept = refl
heard_facts world begun replies (heards.NotWaited left) kept = rw (kept left refl) refl

by_ignored : (world : World) (ignored : Bool) (place : ℕ) (kind : ReplyKind) (raw : List ℕ) (facts : Facts)
    → with_input world ignored (Reply place kind raw) facts ≡ cond ignored facts (with_reply world place kind raw facts)
by_ignored world true place kind raw facts = refl
by_ignored world false place kind raw facts = refl

came_first : (world : World) (begun : Begun) (replies : FirstReplies) (place : ℕ) (kind : ReplyKind) (raw : List ℕ)
    → begun.providers ≡ begun.provider ∷ [] → place ≡ only_place
    → came_at world (at_facts begun (ats.Reading replies)) place kind raw
    ≡ came_heard (reply_heard world.rules replies begun.provider.config kind raw)
came_first world begun replies place kind raw one at = rw (at, one) refl

by_came : (world : World) (begun : Begun) (replies : FirstReplies) (place : ℕ) (kind : ReplyKind) (raw : List ℕ) (heard : Heard)
    → is_first kind ≡ true → place ≡ only_place
    → came_at world (at_facts begun (ats.Reading replies)) place kind raw ≡ came_heard heard
    → with_reply world place kind raw (at_facts begun (ats.Reading replies))
    ≡ with_came world only_place (came_heard heard) (at_facts begun (ats.Reading replies))
by_came world begun replies place kinds.WellKnown raw heard first at came =
    ap (λ x. with_came world place x (at_facts begun (ats.Reading replies))) came
    ∙ ap (λ n. with_came world n (came_heard heard) (at_facts begun (ats.Reading replies))) at
by_came world begun replies place kinds.Config raw heard first at came =
    ap (λ x. with_came world place x (at_facts begun (ats.Reading replies))) came
    ∙ ap (λ n. with_came world n (came_heard heard) (at_facts begun (ats.Reading replies))) at
by_came world begun replies place kinds.Accounts raw heard first at came = absurd (cc)
by_came world begun replies place kinds.Metadata raw heard first at came = absurd (cc)
by_came world begun replies place kinds.Assertion raw heard first at came = absurd (cc)
by_came world begun replies place kinds.Disconnect raw heard first at came = absurd (cc)

left_as_was : (world : World) (begun : Begun) (replies : FirstReplies) (kind : ReplyKind) (raw : List ℕ) (left : FirstReplies)
    → is_first kind ≡ true → reply_heard world.rules replies begun.provider.config kind raw ≡ heards.NotWaited left → left ≡ replies
left_as_was world begun replies kinds.WellKnown raw left first e =
    wellknown_kept replies.wellknown replies.config (wellknown_read world.rules begun.provider.config raw) left e
left_as_was world begun replies kinds.Config raw left first e =
    config_kept replies.wellknown replies.config (ConfigOf raw begun.provider.config) left e
left_as_was world begun replies kinds.Accounts raw left first e = absurd (cc)
left_as_was world begun replies kinds.Metadata raw left first e = absurd (cc)
left_as_was world begun replies kinds.Assertion raw left first e = absurd (cc)
left_as_was world begun replies kinds.Disconnect raw left first e = absurd (cc)

pub reply_facts : (world : World) (begun : Begun) (replies : FirstReplies) (place : ℕ) (kind : ReplyKind) (raw : List ℕ)
    → begun.providers ≡ begun.provider ∷ [] → place ≡ only_place → is_first kind ≡ true
    → input_facts world (at_facts begun (ats.Reading replies)) (Reply place kind raw)
    ≡ facts_heard begun (reply_heard world.rules replies begun.provider.config kind raw)
reply_facts world begun replies place kind raw one at first =
    let facts : Facts = at_facts begun (ats.Reading replies) in
    let heard : Heard = reply_heard world.rules replies begun.provider.config kind raw in
    ap (λ row. at_stage (unwrap_or row.stage Reading) (with_input world (list_any is_ignored row.effects) (Reply place kind raw) facts))
    (reply_row world begun replies place kind raw one at)
    ∙ (ap (at_stage (unwrap_or (by_heard heard).stage Reading))
    (by_ignored world (list_any is_ignored (by_heard heard).effects) place kind raw facts)
    ∙ (ap (λ f. at_stage (unwrap_or (by_heard heard).stage Reading) (cond (list_any is_ignored (by_heard heard).effects) facts f))
    (by_came world begun replies place kind raw heard first at (came_first world begun replies place kind raw one at))
    ∙ heard_facts world begun replies heard (λ left e. left_as_was world begun replies kind raw left first e)))

-- ---- by the stage

pub read_row : (world : World) (begun : Begun) (at : At) (replies : FirstReplies) (place : ℕ) (kind : ReplyKind) (raw : List ℕ)
    → at ≡ ats.Reading replies → fits begun at ≡ true → provider_at begun.place (options_of begun) ≡ Some begun.provider
    → awaits begun at place kind ≡ true
    → input_row world (at_facts begun at) (Reply place kind raw)
    ≡ by_heard (reply_heard world.rules replies begun.provider.config kind raw)
read_row world begun at replies place kind raw is fit about waits =
    let fit_there = subst (λ a. fits begun a ≡ true) is fit in
    let one = only begun (and_parts (is_one begun) (is_https (scheme_of begun.provider.config)) fit_there).0 about in
    let here = awaited_place begun place (is_first kind) one (subst (λ a. awaits begun a place kind ≡ true) is waits) in
    subst (λ a. input_row world (at_facts begun a) (Reply place kind raw)
    ≡ by_heard (reply_heard world.rules replies begun.provider.config kind raw))
    (sym is) (reply_row world begun replies place kind raw one here.1)

pub read_facts : (world : World) (begun : Begun) (at : At) (replies : FirstReplies) (place : ℕ) (kind : ReplyKind) (raw : List ℕ)
    → at ≡ ats.Reading replies → fits begun at ≡ true → provider_at begun.place (options_of begun) ≡ Some begun.provider
    → awaits begun at place kind ≡ true
    → input_facts world (at_facts begun at) (Reply place kind raw)
    ≡ facts_heard begun (reply_heard world.rules replies begun.provider.config kind raw)
read_facts world begun at replies place kind raw is fit about waits =
    let fit_there = subst (λ a. fits begun a ≡ true) is fit in
    let one = only begun (and_parts (is_one begun) (is_https (scheme_of begun.provider.config)) fit_there).0 about in
    let here = awaited_place begun place (is_first kind) one (subst (λ a. awaits begun a place kind ≡ true) is waits) in
    subst (λ a. input_facts world (at_facts begun a) (Reply place kind raw)
    ≡ facts_heard begun (reply_heard world.rules replies begun.provider.config kind raw))
    (sym is) (reply_facts world begun replies place kind raw one here.1 here.0)
