-- Why a call fails, by what was refused.
use Rattle.std.specs.Prelude.{Some, None}
use Rattle.fed_provider.specs.declared.step.ProviderStep.{ProviderStep}
use Rattle.fed_provider.specs.declared.step.ProviderStep.TheVariants as provider_steps
use Rattle.fed_accounts.specs.declared.step.AccountsStep.{AccountsStep}
use Rattle.fed_accounts.specs.declared.step.AccountsStep.TheVariants as accounts_steps
use Rattle.fed_consent.specs.declared.table.failure.Detail.{Detail}
use Rattle.fed_consent.specs.declared.table.failure.Detail.TheVariants as details
use Rattle.fed_consent.specs.declared.table.failure.FailStep.{FailStep}
use Rattle.fed_consent.specs.declared.table.failure.FailStep.TheVariants as steps
use Rattle.fed_consent.specs.declared.table.failure.Failure.{Failure}

-- a failure of which nothing else is known
abbrev pub plain : FailStep → Failure
plain step = record { step = step; detail = None }

-- a failure with the step of a reply, or with an endpoint
abbrev pub detailed : FailStep → Detail → Failure
detailed step detail = record { step = step; detail = Some detail }

-- the failure where a provider's file is refused, with the step of its reply or the endpoint
abbrev pub provider_failure : ProviderStep → Failure
provider_failure provider_steps.NoSite = plain steps.NoSite
provider_failure (provider_steps.WellKnownReply s) = detailed steps.WellKnownReply (details.Reply s)
provider_failure provider_steps.WellKnownShape = plain steps.WellKnownShape
provider_failure provider_steps.WellKnownOther = plain steps.WellKnownOther
provider_failure (provider_steps.ConfigReply s) = detailed steps.ConfigReply (details.Reply s)
provider_failure provider_steps.ConfigShape = plain steps.ConfigShape
provider_failure (provider_steps.EndpointOrigin e) = detailed steps.EndpointOrigin (details.Member e)
provider_failure (provider_steps.ConfigOther e) = detailed steps.ConfigOther (details.Member e)

-- the failure where the accounts are refused, or none fits the hints
abbrev pub accounts_failure : AccountsStep → Failure
accounts_failure (accounts_steps.Reply s) = detailed steps.AccountsReply (details.Reply s)
accounts_failure accounts_steps.Shape = plain steps.AccountsShape
accounts_failure accounts_steps.Empty = plain steps.AccountsEmpty
accounts_failure accounts_steps.HintsNone = plain steps.AccountsHints
