-- The first rows of a get, and those of a call with one provider up to its accounts.
use Rattle.std.specs.Prelude.{ℕ, Bool, true, false, not, List, [], ◌∷◌, Some, Result, Ok, Err}
use Rattle.url.specs.Parts.{Parts}
use Rattle.fed_origin.specs.declared.origin.Origin.{Origin}
use Rattle.fed_origin.specs.declared.options.GetOptions.{GetOptions}
use Rattle.fed_origin.specs.declared.options.ProviderOptions.{ProviderOptions}
use Rattle.fed_origin.specs.declared.options.Mediation.{Mediation}
use Rattle.fed_origin.specs.declared.options.Mediation.TheVariants.{Silent, Optional, Required}
use Rattle.fed_origin.specs.declared.options.Mode.{Mode}
use Rattle.fed_origin.specs.declared.options.Mode.TheVariants.{Passive, Active}
use Rattle.fed_origin.specs.declared.stage.Stage.TheVariants as stages
use Rattle.fed_provider.specs.declared.config.Config.{Config as Configuration}
use Rattle.fed_status.specs.Flags.{has_flag}
use Rattle.fed_status.specs.Shared.{World}
use Rattle.fed_consent.specs.declared.table.ask.Ask.TheVariants.{WellKnown, Config, Accounts}
use Rattle.fed_consent.specs.declared.table.effect.Effect.{Effect}
use Rattle.fed_consent.specs.declared.table.effect.Effect.TheVariants.{Send}
use Rattle.fed_consent.specs.declared.table.failure.FailStep.{FailStep}
use Rattle.fed_consent.specs.declared.table.failure.FailStep.TheVariants as steps
use Rattle.fed_consent.specs.Outcomes.{Outcome, fails, moves, only_place}
use Rattle.fed_consent.specs.Failures.{plain}
use Rattle.fed_call.specs.Progress.{Closed, NotSecure, Siteless, Gated, opening}

-- ---- a get, from row C2 on

-- the call is active, and the user did nothing at the page
abbrev pub lacks_activation : Mode → Bool → Bool
lacks_activation Passive activation = false
lacks_activation Active activation = not activation

-- the call is silent, and the flag of its page's origin is set
abbrev pub is_prevented : Mediation → Bool → Bool
is_prevented Silent flag = flag
is_prevented Optional flag = false
is_prevented Required flag = false

-- the first requests to the provider at this place
abbrev pub first_requests : ℕ → Parts → Parts → List Effect
first_requests place config wellknown = Send place (WellKnown wellknown) ∷ Send place (Config config) ∷ []

-- By why no request goes out to the only provider, if so; by whether the user's act is missing, and by whether silent access is
-- prevented. The first row that holds counts.
abbrev pub start_by : ProviderOptions → Result Parts Closed → Bool → Bool → Outcome
-- C2
start_by provider (Err NotSecure) lacking prevented = fails (plain steps.ConfigScheme)
-- C3
start_by provider (Err Siteless) true prevented = fails (plain steps.NoActivation)
start_by provider (Err Gated) true prevented = fails (plain steps.NoActivation)
start_by provider (Ok wellknown) true prevented = fails (plain steps.NoActivation)
-- C4
start_by provider (Err Siteless) false prevented = fails (plain steps.NoSite)
-- C5
start_by provider (Err Gated) false true = fails (plain steps.SilentPrevented)
start_by provider (Ok wellknown) false true = fails (plain steps.SilentPrevented)
-- C6
start_by provider (Err Gated) false false = fails (plain steps.LoggedOut)
-- C7
start_by provider (Ok wellknown) false false =
    record { effects = first_requests only_place provider.config wellknown; stage = Some stages.Reading }

-- a get of a page of this origin with one provider that no earlier row fails
abbrev pub start_single : World → Origin → GetOptions → ProviderOptions → Outcome
start_single world origin options provider =
    start_by provider (opening world options.mode provider) (lacks_activation options.mode options.activation)
    (is_prevented options.mediation (has_flag world.flags origin))

-- both files are good, and the accounts of the provider at this place are asked for
abbrev pub asks_accounts : ℕ → Configuration → Outcome
asks_accounts place config = moves stages.Listing (Send place (Accounts config.accounts))

-- ---- for private clauses

-- the first requests, or the step at which the call fails
abbrev pub first_outcome : Result (List Effect) FailStep → Outcome
first_outcome (Ok effects) = record { effects = effects; stage = Some stages.Reading }
first_outcome (Err step) = fails (plain step)
