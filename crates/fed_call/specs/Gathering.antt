-- For private clauses: what is made of a reply of one of several providers, and of what all have said.
use Rattle.std.specs.Prelude.{ℕ, ◌<◌, length, not, Bool, true, false, List, [], ◌∷◌, Option, Some, None, Result, Ok, Err}
use Rattle.std.specs.Prelude.{if◌then◌else◌, option_and_then, slice_get}
use Rattle.std.specs.List.{list_all}
use Rattle.fed_origin.specs.declared.origin.Origin.{Origin}
use Rattle.fed_origin.specs.declared.status.LoginStatus.TheVariants.{LoggedIn, LoggedOut}
use Rattle.fed_provider.specs.declared.config.Config.{Config}
use Rattle.fed_accounts.specs.declared.account.Account.{Account}
use Rattle.fed_accounts.specs.declared.offer.Offer.{Offer}
use Rattle.fed_accounts.specs.Offers.{IsWhole}
use Rattle.fed_accounts.specs.declared.step.AccountsStep.{AccountsStep}
use Rattle.fed_consent.specs.declared.table.effect.Effect.{Effect}
use Rattle.fed_consent.specs.declared.table.effect.Effect.TheVariants.{SetLogin, Dropped}
use Rattle.fed_consent.specs.declared.table.failure.Failure.{Failure}
use Rattle.fed_consent.specs.Failures.{accounts_failure}
use Rattle.fed_origin.specs.declared.options.ProviderOptions.{ProviderOptions}
use Rattle.fed_origin.specs.WebUrl.{scheme_of}
use Rattle.fed_call.specs.declared.gathering.Taken.{Taken}
use Rattle.fed_call.specs.declared.gathering.Taken.TheVariants as taken
use Rattle.fed_call.specs.declared.progress.Progress.{Progress}
use Rattle.fed_call.specs.declared.progress.Progress.TheVariants as progress_is
use Rattle.fed_call.specs.Fits.{is_https}
use Rattle.fed_call.specs.Progress.{Came, Unawaited, NoneFits, Fit, came_heard, is_awaited}

-- how far the provider of an accounts reply has come, by what was read
abbrev pub progress_read : Config → Result (List Account) AccountsStep → Progress
progress_read config (Ok accounts) = progress_is.Listed config accounts
progress_read config (Err step) = progress_is.Dropped (accounts_failure step)

-- what is done first then, of the provider at this place and of this origin
abbrev pub said : ℕ → Origin → Progress → List Effect
said place provider (progress_is.Dropped failure) = SetLogin provider LoggedOut ∷ Dropped place failure ∷ []
said place provider (progress_is.Reading replies) = SetLogin provider LoggedIn ∷ []
said place provider (progress_is.Listing config) = SetLogin provider LoggedIn ∷ []
said place provider (progress_is.Listed config accounts) = SetLogin provider LoggedIn ∷ []

-- an accounts reply, by how far its provider has come then
abbrev pub came_settled : Progress → Came
came_settled (progress_is.Listed config accounts) = Fit config accounts
came_settled (progress_is.Dropped failure) = NoneFits failure
came_settled (progress_is.Reading replies) = Unawaited
came_settled (progress_is.Listing config) = Unawaited

-- a reply, as it was read
abbrev pub came_as : Taken → Came
came_as taken.Nothing = Unawaited
came_as (taken.First heard) = came_heard heard
came_as (taken.Accounts progress) = came_settled progress

-- a first reply comes from a provider whose configuration URL is https; an accounts reply leaves none awaited
abbrev pub is_sound : ProviderOptions → Taken → Bool
is_sound provider taken.Nothing = true
is_sound provider (taken.First heard) = is_https (scheme_of provider.config)
is_sound provider (taken.Accounts progress) = not (is_awaited progress)

-- the configuration of a provider that gave accounts
abbrev pub listed_config : Progress → Option Config
listed_config (progress_is.Listed config accounts) = Some config
listed_config (progress_is.Reading replies) = None
listed_config (progress_is.Listing config) = None
listed_config (progress_is.Dropped failure) = None

-- its accounts too
abbrev pub listed_of : Progress → Option (Config × List Account)
listed_of (progress_is.Listed config accounts) = Some (config, accounts)
listed_of (progress_is.Reading replies) = None
listed_of (progress_is.Listing config) = None
listed_of (progress_is.Dropped failure) = None

abbrev pub is_dropped : Progress → Bool
is_dropped (progress_is.Dropped failure) = true
is_dropped (progress_is.Reading replies) = false
is_dropped (progress_is.Listing config) = false
is_dropped (progress_is.Listed config accounts) = false

-- how it dropped out, if it did
abbrev pub failure_of : Progress → Option Failure
failure_of (progress_is.Dropped failure) = Some failure
failure_of (progress_is.Reading replies) = None
failure_of (progress_is.Listing config) = None
failure_of (progress_is.Listed config accounts) = None

-- how the first dropped out, where all did
abbrev pub all_dropped : List Progress → Option Failure
all_dropped progress = if list_all is_dropped progress then option_and_then failure_of (slice_get progress 0) else None

-- there is an account, and of each it is said whether its permission is kept
pub record HasSome (offer : Offer) : Type 0 where
  pub some : 0 < length offer.accounts
  pub whole : IsWhole offer
