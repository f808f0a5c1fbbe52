-- For private clauses: how a call begins.
use Rattle.std.specs.Prelude.{◌≡◌, ℕ, false, List, [], ◌∷◌, Some, None, Result, Ok, Err}
use Rattle.url.specs.Parts.{Parts}
use Rattle.fed_origin.specs.declared.options.ProviderOptions.{ProviderOptions}
use Rattle.fed_origin.specs.declared.scheme.Scheme.TheVariants.{Https}
use Rattle.fed_origin.specs.declared.stage.Stage.TheVariants as stages
use Rattle.fed_origin.specs.WebUrl.{scheme_of}
use Rattle.fed_suffix.specs.Rule.{RuleSet}
use Rattle.fed_provider.specs.declared.step.ProviderStep.{ProviderStep}
use Rattle.fed_provider.specs.WellKnown.{WellKnownUrlOf}
use Rattle.fed_consent.specs.declared.table.effect.Effect.{Effect}
use Rattle.fed_consent.specs.declared.table.effect.Effect.TheVariants.{Dropped}
use Rattle.fed_consent.specs.declared.table.failure.FailStep.{FailStep}
use Rattle.fed_consent.specs.Failures.{plain}
use Rattle.fed_consent.specs.Outcomes.{Outcome}
use Rattle.fed_call.specs.declared.progress.Progress.{Progress}
use Rattle.fed_call.specs.declared.progress.Progress.TheVariants as progress_is
use Rattle.fed_call.specs.Progress.{Closed, step_of}
use Rattle.fed_call.specs.ReadingRows.{first_requests}

-- the well-known URL of a provider is known, where its configuration URL is https
abbrev pub Knows : RuleSet → ProviderOptions → Result Parts ProviderStep → Type 0
Knows rules provider wellknown = scheme_of provider.config ≡ Https → wellknown ≡ WellKnownUrlOf rules provider.config

-- the well-known URL of a provider, or the step at which no request goes out to it
abbrev pub by_step : Result Parts Closed → Result Parts FailStep
by_step (Ok wellknown) = Ok wellknown
by_step (Err closed) = Err (step_of closed)

-- how far it has come then, and what is done for it, where it has this place and this configuration URL
abbrev pub opened_by : Result Parts FailStep → Progress
opened_by (Ok wellknown) = progress_is.Reading (record { wellknown = None; config = None })
opened_by (Err step) = progress_is.Dropped (plain step)

abbrev pub opens_by : ℕ → Parts → Result Parts FailStep → List Effect
opens_by place config (Ok wellknown) = first_requests place config wellknown
opens_by place config (Err step) = Dropped place (plain step) ∷ []

-- how a call with several providers begins: how far each has come, with what is done, or what is done as the call fails
abbrev pub several_outcome : Result (List Progress × List Effect) (List Effect) → Outcome
several_outcome (Ok begun) = record { effects = begun.1; stage = Some stages.Gathering }
several_outcome (Err effects) = record { effects = effects; stage = Some stages.Ended }
