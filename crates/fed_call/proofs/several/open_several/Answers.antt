use Rattle.std.proofs.Common.{◌≡◌, ◌∙◌, sym, ap, List}
use Rattle.std.proofs.lemmas.List.{append-nil}
use Rattle.std.specs.Prelude.{map, Option, Some, None}
use Rattle.fed_origin.specs.declared.origin.Origin.{Origin}
use Rattle.fed_origin.specs.declared.options.GetOptions.{GetOptions}
use Rattle.fed_origin.specs.declared.options.ProviderOptions.{ProviderOptions}
use Rattle.fed_origin.specs.declared.stage.Stage.TheVariants as stages
use Rattle.fed_status.specs.Shared.{World, world_of}
use Rattle.fed_consent.specs.declared.table.effect.Effect.{Effect}
use Rattle.fed_consent.specs.declared.table.failure.Failure.{Failure}
use Rattle.fed_consent.specs.Outcomes.{Outcome}
use Rattle.fed_call.specs.declared.progress.Progress.{Progress}
use Rattle.fed_call.specs.Gathering.{all_dropped}
use Rattle.fed_call.specs.GatheringRows.{opens_from, gathers, start_all}
use Rattle.fed_call.specs.Progress.{first_progress}
use Rattle.fed_call.proofs.beginning.Settled.{by_dropped, settled_first}
use Rattle.fed_call.proofs.several.open_several.Goals as goal

begins : (world : World) (origin : Origin) (options : GetOptions) (providers : List ProviderOptions) (progress : List Progress)
    (effects : List Effect) (how : Option Failure) → providers ≡ options.providers
    → progress ≡ map (first_progress world options.mode) providers → effects ≡ opens_from world options.mode 0 providers
    → all_dropped progress ≡ how → gathers effects (by_dropped how) ≡ start_all world origin options
begins world origin options providers progress effects how same so_far done is =
    ap (λ e. gathers e (by_dropped how)) (done ∙ ap (opens_from world options.mode 0) same)
    ∙ ap (gathers (opens_from world options.mode 0 options.providers))
    (ap by_dropped (sym is ∙ ap all_dropped (so_far ∙ ap (map (first_progress world options.mode)) same))
    ∙ sym (settled_first world origin options))

abbrev ended : List Effect → Outcome
ended effects = record { effects = effects; stage = Some stages.Ended }

abbrev gathering : List Effect → Outcome
gathering effects = record { effects = effects; stage = Some stages.Gathering }

pub returns-in_ok-push-in-Some-clause-value : goal.returns-in_ok-push-in-Some-clause-value
returns-in_ok-push-in-Some-clause-value c =
    ap ended c.in_ok-push-in-Some.ensures.ok
    ∙ begins (world_of c.args.shared.now) c.args.origin.now c.args.options.now c.as_slice-providers.result.now
    c.in_ok-progress.field-0.progress c.in_ok-progress.field-0.effects (Some c.in-Some.failure)
    c.as_slice-providers.ensures c.in_ok-progress.ensures.progress c.in_ok-progress.ensures.effects
    (sym (c.all_dropped.ensures ∙ ap all_dropped c.as_slice.ensures) ∙ c.in-Some.is)

pub returns-in-None-clause-value : goal.returns-in-None-clause-value
returns-in-None-clause-value c =
    ap gathering (sym (append-nil c.in_ok-progress.field-0.effects))
    ∙ begins (world_of c.args.shared.now) c.args.origin.now c.args.options.now c.as_slice-providers.result.now
    c.in_ok-progress.field-0.progress c.in_ok-progress.field-0.effects None
    c.as_slice-providers.ensures c.in_ok-progress.ensures.progress c.in_ok-progress.ensures.effects
    (sym (c.all_dropped.ensures ∙ ap all_dropped c.as_slice.ensures) ∙ c.in-None.is)
