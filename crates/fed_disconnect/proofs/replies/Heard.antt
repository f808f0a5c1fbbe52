-- What a reply says of the first replies that were taken.
use Rattle.std.proofs.Common.{◌≡◌, ℕ, Bool, false, List, Option, Some, None, Ok, Err, refl, sym, ap, ◌∙◌}
use Rattle.std.specs.Prelude.{Result, unwrap_or}
use Rattle.std.specs.List.{list_any}
use Rattle.url.specs.Parts.{Parts}
use Rattle.fed_origin.specs.declared.stage.ReplyKind.{ReplyKind}
use Rattle.fed_origin.specs.declared.stage.ReplyKind.TheVariants as kinds
use Rattle.fed_origin.specs.declared.stage.Stage.{Stage}
use Rattle.fed_origin.specs.declared.stage.Stage.TheVariants as stages
use Rattle.fed_origin.specs.declared.stage.Stage.TheVariants.{Reading}
use Rattle.fed_suffix.specs.Rule.{RuleSet}
use Rattle.fed_provider.specs.declared.config.Config.{Config}
use Rattle.fed_provider.specs.declared.first_replies.FirstReplies.{FirstReplies}
use Rattle.fed_provider.specs.declared.first_replies.Heard.{Heard}
use Rattle.fed_provider.specs.declared.first_replies.Heard.TheVariants as heard
use Rattle.fed_provider.specs.declared.step.ProviderStep.{ProviderStep}
use Rattle.fed_provider.specs.FirstReplies.{by_agreement, reply_heard, wellknown_heard, config_heard, wellknown_read}
use Rattle.fed_provider.specs.WellKnown.{agrees}
use Rattle.fed_origin.specs.declared.stage.Endpoint.{Endpoint}
use Rattle.fed_provider.specs.declared.wellknown.WellKnown.{WellKnown}
use Rattle.fed_provider.specs.Config.{ConfigOf}
use Rattle.fed_consent.specs.Outcomes.{is_ignored, only_place}
use Rattle.fed_consent.specs.declared.table.input.Input.TheVariants.{Reply}
use Rattle.fed_status.specs.Shared.{World}
use Rattle.fed_disconnect.specs.Facts.{DisconnectFacts, at_stage, facts_after, taken, with_input}
use Rattle.fed_disconnect.specs.Rows.{by_heard, asks_disconnect}

-- two good files are awaited, whether they agree or not
unawaited : (config : Config) (other : Option Endpoint) (kept : FirstReplies) → by_agreement config other ≡ heard.NotWaited kept → ⊥
unawaited config None kept e = absurd (cc)
unawaited config (Some endpoint) kept e = absurd (cc)

wellknown_not_waited : (rules : RuleSet) (url : Parts) (raw : List ℕ) (replies kept : FirstReplies)
    → reply_heard rules replies url kinds.WellKnown raw ≡ heard.NotWaited kept → replies ≡ kept
wellknown_not_waited rules url raw replies kept h = go replies.wellknown refl replies.config refl (wellknown_read rules url raw) h
  where
    go : (taken : Option WellKnown) → replies.wellknown ≡ taken → (config : Option Config) → replies.config ≡ config
        → (read : Result WellKnown ProviderStep)
        → wellknown_heard taken config read ≡ heard.NotWaited kept → replies ≡ kept
    go (Some file) is config is' read h =
        let whole : record { wellknown = Some file; config = config } ≡ kept = cc in
        ap (λ w. record { wellknown = w; config = replies.config }) is ∙ ap (λ c. record { wellknown = Some file; config = c }) is' ∙ whole
    go None is config is' (Err step) h = absurd (cc)
    go None is None is' (Ok u) h = absurd (cc)
    go None is (Some config) is' (Ok u) h = absurd (unawaited config (agrees u config) kept h)

config_not_waited : (rules : RuleSet) (url : Parts) (raw : List ℕ) (replies kept : FirstReplies)
    → reply_heard rules replies url kinds.Config raw ≡ heard.NotWaited kept → replies ≡ kept
config_not_waited rules url raw replies kept h = go replies.wellknown refl replies.config refl (ConfigOf raw url) h
  where
    go : (taken : Option WellKnown) → replies.wellknown ≡ taken → (config : Option Config) → replies.config ≡ config
        → (read : Result Config ProviderStep)
        → config_heard taken config read ≡ heard.NotWaited kept → replies ≡ kept
    go taken is (Some config) is' read h =
        let whole : record { wellknown = taken; config = Some config } ≡ kept = cc in
        ap (λ w. record { wellknown = w; config = replies.config }) is ∙ ap (λ c. record { wellknown = taken; config = c }) is'
        ∙ whole
    go taken is None is' (Err step) h = absurd (cc)
    go None is None is' (Ok config) h = absurd (cc)
    go (Some file) is None is' (Ok config) h = absurd (unawaited config (agrees file config) kept h)

-- a reply that is not awaited leaves what was taken
not_waited : (rules : RuleSet) (url : Parts) (kind : ReplyKind) (raw : List ℕ) (replies kept : FirstReplies)
    → reply_heard rules replies url kind raw ≡ heard.NotWaited kept → replies ≡ kept
not_waited rules url kinds.WellKnown raw replies kept h = wellknown_not_waited rules url raw replies kept h
not_waited rules url kinds.Config raw replies kept h = config_not_waited rules url raw replies kept h
not_waited rules url kinds.Accounts raw replies kept h = cc
not_waited rules url kinds.Metadata raw replies kept h = cc
not_waited rules url kinds.Assertion raw replies kept h = cc
not_waited rules url kinds.Disconnect raw replies kept h = cc

-- what a call that awaits its first replies knows after one, ignored or not, is what the reply comes to
pub heard_says : (world : World) (facts : DisconnectFacts) (kind : ReplyKind) (raw : List ℕ)
    → with_input world (list_any is_ignored (by_heard facts.origin facts.options
    (reply_heard world.rules facts.replies facts.options.config kind raw)).effects) (Reply only_place kind raw) facts
    ≡ record facts { replies = taken (reply_heard world.rules facts.replies facts.options.config kind raw) }
heard_says world facts kind raw = go (reply_heard world.rules facts.replies facts.options.config kind raw) refl
  where
    says : (ignored : Bool) → ignored ≡ false → with_input world ignored (Reply only_place kind raw) facts
        ≡ record facts { replies = taken (reply_heard world.rules facts.replies facts.options.config kind raw) }
    says ignored is = ap (λ b. with_input world b (Reply only_place kind raw) facts) is

    asked : (to : Option Parts) → list_any is_ignored (asks_disconnect facts.origin facts.options to).effects ≡ false
    asked None = refl
    asked (Some to) = refl

    go : (h : Heard) → reply_heard world.rules facts.replies facts.options.config kind raw ≡ h
        → with_input world (list_any is_ignored (by_heard facts.origin facts.options h).effects) (Reply only_place kind raw) facts
        ≡ record facts { replies = taken (reply_heard world.rules facts.replies facts.options.config kind raw) }
    go (heard.Refused step) is = says false refl
    go (heard.Waits replies) is = says false refl
    go (heard.Both config) is = says _ (asked config.disconnect)
    go (heard.NotWaited replies) is =
        ap (λ r. record facts { replies = r }) (not_waited world.rules facts.options.config kind raw facts.replies replies is)
        ∙ sym (ap (λ h. record facts { replies = taken h }) is)

-- a stage that is set twice is the later one
set_twice : (stage : Stage) (facts : DisconnectFacts) → at_stage stage (record facts { stage = Reading }) ≡ at_stage stage facts
set_twice stages.Reading facts = refl
set_twice stages.Listing facts = refl
set_twice stages.Window facts = refl
set_twice stages.Choosing facts = refl
set_twice stages.Prompting facts = refl
set_twice stages.Mismatch facts = refl
set_twice stages.Gathering facts = refl
set_twice stages.Asserting facts = refl
set_twice stages.Ended facts = refl

-- so is what is known, after a reply that comes to this, of a call that began so
pub reading_hears : (world : World) (begun : DisconnectFacts) (replies : FirstReplies) (kind : ReplyKind) (raw : List ℕ) (h : Heard)
    → h ≡ reply_heard world.rules replies begun.options.config kind raw
    → at_stage (unwrap_or (by_heard begun.origin begun.options h).stage Reading) (record begun { replies = taken h })
    ≡ facts_after world (record begun { stage = Reading; replies = replies }) (Reply only_place kind raw)
    (by_heard begun.origin begun.options (reply_heard world.rules replies begun.options.config kind raw))
reading_hears world begun replies kind raw h is =
    ap (λ h. at_stage (stage_of h) (record begun { replies = taken h })) is
    ∙ sym (ap (at_stage (stage_of heard)) (heard_says world (record begun { stage = Reading; replies = replies }) kind raw)
    ∙ set_twice (stage_of heard) (record begun { replies = taken heard }))
  where
    heard : Heard
    heard = reply_heard world.rules replies begun.options.config kind raw

    stage_of : Heard → Stage
    stage_of h = unwrap_or (by_heard begun.origin begun.options h).stage Reading
