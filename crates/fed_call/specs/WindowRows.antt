-- The rows of a call whose user is to sign in at the provider.
use Rattle.std.specs.Prelude.{ℕ, Bool, true, false, Option, Some, None, option_and_then, option_map}
use Rattle.fed_origin.specs.declared.options.GetOptions.{GetOptions}
use Rattle.fed_origin.specs.declared.options.Mediation.{Mediation}
use Rattle.fed_origin.specs.declared.options.Mediation.TheVariants.{Silent, Optional, Required}
use Rattle.fed_origin.specs.declared.options.Mode.{Mode}
use Rattle.fed_origin.specs.declared.options.Mode.TheVariants.{Passive, Active}
use Rattle.fed_origin.specs.declared.origin.Origin.{Origin}
use Rattle.fed_origin.specs.declared.stage.Stage.{Stage}
use Rattle.fed_origin.specs.declared.stage.Stage.TheVariants as stages
use Rattle.fed_origin.specs.WebUrl.{origin_of}
use Rattle.fed_provider.specs.declared.config.Config.{Config as Configuration}
use Rattle.fed_consent.specs.declared.table.effect.Effect.TheVariants.{Window}
use Rattle.fed_consent.specs.declared.table.failure.FailStep.TheVariants as steps
use Rattle.fed_consent.specs.declared.table.why.Why.TheVariants.{NotOffered}
use Rattle.fed_consent.specs.Failures.{plain}
use Rattle.fed_consent.specs.Outcomes.{Outcome, fails, ignored, stays, moves, only_place}
use Rattle.fed_call.specs.Facts.{Facts, config_at, provider_at}
use Rattle.fed_call.specs.ReadingRows.{asks_accounts}

-- ---- the window opens

-- the call is active and not silent: the user may be sent to the provider
abbrev pub may_sign_in : Mode → Mediation → Bool
may_sign_in Passive mediation = false
may_sign_in Active Silent = false
may_sign_in Active Optional = true
may_sign_in Active Required = true

-- the login window of the provider at this place opens at the login URL of the configuration, which there always is
abbrev pub opens_window : ℕ → Option Configuration → Outcome
opens_window place None = stays
opens_window place (Some config) = moves stages.Window (Window place config.login)

-- the user asked for the login window, by the stage (row C28, else C36)
abbrev pub asked_to_sign_in : Facts → Stage → Outcome
asked_to_sign_in facts stages.Mismatch = opens_window only_place (config_at only_place facts)
asked_to_sign_in facts _ = ignored NotOffered

-- ---- the window stands open

-- the origin of the provider at this place, if the call has that provider
abbrev pub origin_at : ℕ → GetOptions → Option Origin
origin_at place options = option_map (λ provider. origin_of provider.config) (provider_at place options)

-- the origin whose page a call with these options waits for, by its stage
abbrev pub awaited : GetOptions → Stage → Option Origin
awaited options stages.Window = origin_at only_place options
awaited options _ = None

-- the same of a call that may be over
abbrev pub awaited_by : Option Facts → Option Origin
awaited_by facts = option_and_then (λ f. awaited f.options f.stage) facts

-- the accounts are asked for again at the endpoint of the configuration, which there always is
abbrev pub asks_again : ℕ → Option Configuration → Outcome
asks_again place None = stays
asks_again place (Some config) = asks_accounts place config

-- the provider's page said that the user has signed in, by the stage (row C29, else C36)
abbrev pub resumed : Facts → Stage → Outcome
resumed facts stages.Window = asks_again only_place (config_at only_place facts)
resumed facts _ = ignored NotOffered

-- the user closed the login window, by the stage (row C30, else C36)
abbrev pub window_shut : Stage → Outcome
window_shut stages.Window = fails (plain steps.WindowShut)
window_shut _ = ignored NotOffered
