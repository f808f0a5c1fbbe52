-- How far a provider of a call has come, and what a reply of it comes to.
use Rattle.std.specs.Prelude.{ℕ, Bool, true, false, List, Option, Some, None, Result, Ok, Err}
use Rattle.url.specs.Parts.{Parts}
use Rattle.fed_origin.specs.declared.options.Mode.{Mode}
use Rattle.fed_origin.specs.declared.options.Mode.TheVariants.{Passive, Active}
use Rattle.fed_origin.specs.declared.options.ProviderOptions.{ProviderOptions}
use Rattle.fed_origin.specs.declared.scheme.Scheme.{Scheme}
use Rattle.fed_origin.specs.declared.scheme.Scheme.TheVariants.{Http, Https}
use Rattle.fed_origin.specs.declared.stage.ReplyKind.{ReplyKind}
use Rattle.fed_origin.specs.declared.stage.ReplyKind.TheVariants as kinds
use Rattle.fed_origin.specs.declared.status.LoginStatus.{LoginStatus}
use Rattle.fed_origin.specs.declared.status.LoginStatus.TheVariants.{Unknown, LoggedIn, LoggedOut}
use Rattle.fed_origin.specs.WebUrl.{origin_of, scheme_of}
use Rattle.fed_suffix.specs.Rule.{RuleSet}
use Rattle.fed_provider.specs.declared.config.Config.{Config}
use Rattle.fed_provider.specs.declared.first_replies.FirstReplies.{FirstReplies}
use Rattle.fed_provider.specs.declared.first_replies.Heard.{Heard}
use Rattle.fed_provider.specs.declared.first_replies.Heard.TheVariants as heards
use Rattle.fed_provider.specs.declared.step.ProviderStep.{ProviderStep}
use Rattle.fed_provider.specs.FirstReplies.{reply_heard}
use Rattle.fed_provider.specs.WellKnown.{WellKnownUrlOf}
use Rattle.fed_accounts.specs.declared.account.Account.{Account}
use Rattle.fed_accounts.specs.declared.step.AccountsStep.{AccountsStep}
use Rattle.fed_status.specs.Login.{status_of}
use Rattle.fed_status.specs.Shared.{World}
use Rattle.fed_consent.specs.declared.table.failure.FailStep.{FailStep}
use Rattle.fed_consent.specs.declared.table.failure.FailStep.TheVariants as steps
use Rattle.fed_consent.specs.declared.table.failure.Failure.{Failure}
use Rattle.fed_consent.specs.Failures.{plain, provider_failure, accounts_failure}
use Rattle.fed_call.specs.declared.progress.Progress.{Progress}
use Rattle.fed_call.specs.declared.progress.Progress.TheVariants.{Reading, Listing, Listed, Dropped}
use Rattle.fed_call.specs.Accounts.{accounts_of}

-- ---- at the beginning of a call

-- the call is passive, and the user is logged out at the provider
abbrev pub is_gated : Mode → LoginStatus → Bool
is_gated Passive LoggedOut = true
is_gated Passive LoggedIn = false
is_gated Passive Unknown = false
is_gated Active status = false

-- why no request goes out to a provider as a call begins
pub data Closed : Type 0 where
  -- its configuration URL is not https
  NotSecure : Closed
  -- its host has no site
  Siteless : Closed
  -- the user is logged out there
  Gated : Closed

-- the step at which it fails so, or drops out of several
abbrev pub step_of : Closed → FailStep
step_of NotSecure = steps.ConfigScheme
step_of Siteless = steps.NoSite
step_of Gated = steps.LoggedOut

-- by the scheme, the well-known URL if there is one, and whether the status lets no request out; the first that holds counts
abbrev pub opening_by : Scheme → Result Parts ProviderStep → Bool → Result Parts Closed
opening_by Http wellknown gated = Err NotSecure
opening_by Https (Err step) gated = Err Siteless
opening_by Https (Ok wellknown) true = Err Gated
opening_by Https (Ok wellknown) false = Ok wellknown

-- the well-known URL of a provider of a call in this mode, or why no request goes out to it
abbrev pub opening : World → Mode → ProviderOptions → Result Parts Closed
opening world mode provider =
    opening_by (scheme_of provider.config) (WellKnownUrlOf world.rules provider.config)
    (is_gated mode (status_of world.login (origin_of provider.config)))

abbrev pub opened : Result Parts Closed → Progress
opened (Ok wellknown) = Reading (record { wellknown = None; config = None })
opened (Err closed) = Dropped (plain (step_of closed))

-- how far it has come then
abbrev pub first_progress : World → Mode → ProviderOptions → Progress
first_progress world mode provider = opened (opening world mode provider)

-- ---- at a reply

-- what a reply of a provider comes to
pub data Came : Type 0 where
  -- it is not awaited
  Unawaited : Came
  -- it is refused, as one of the first two, or these do not agree
  Refused : (failure : Failure) → Came
  -- it is good, and the other of the first two is awaited
  Waits : (replies : FirstReplies) → Came
  -- it is good, and so was the other
  Both : (config : Config) → Came
  -- as accounts it is refused, or none of them fits the hints
  NoneFits : (failure : Failure) → Came
  -- these accounts fit
  Fit : (config : Config) → (accounts : List Account) → Came

abbrev pub came_heard : Heard → Came
came_heard (heards.Refused step) = Refused (provider_failure step)
came_heard (heards.Waits replies) = Waits replies
came_heard (heards.Both config) = Both config
came_heard (heards.NotWaited replies) = Unawaited

-- by what was read of the accounts
abbrev pub came_read : Config → Result (List Account) AccountsStep → Came
came_read config (Err step) = NoneFits (accounts_failure step)
came_read config (Ok accounts) = Fit config accounts

-- a reply of this kind, where the accounts are awaited
abbrev pub came_listing : Config → ProviderOptions → ReplyKind → List ℕ → Came
came_listing config provider kinds.Accounts raw = came_read config (accounts_of raw provider)
came_listing config provider _ raw = Unawaited

-- a reply of this kind, by how far the provider has come
abbrev pub came_to : RuleSet → Progress → ProviderOptions → ReplyKind → List ℕ → Came
came_to rules (Reading replies) provider kind raw = came_heard (reply_heard rules replies provider.config kind raw)
came_to rules (Listing config) provider kind raw = came_listing config provider kind raw
came_to rules (Listed config accounts) provider kind raw = Unawaited
came_to rules (Dropped failure) provider kind raw = Unawaited

-- the same, if the call has the provider
abbrev pub came : RuleSet → Option Progress → Option ProviderOptions → ReplyKind → List ℕ → Came
came rules (Some progress) (Some provider) kind raw = came_to rules progress provider kind raw
came rules (Some progress) None kind raw = Unawaited
came rules None provider kind raw = Unawaited

-- ---- of all providers of a call

-- the provider is neither dropped, nor are its accounts there
abbrev pub is_awaited : Progress → Bool
is_awaited (Reading replies) = true
is_awaited (Listing config) = true
is_awaited (Listed config accounts) = false
is_awaited (Dropped failure) = false

-- the configuration of a provider whose accounts are awaited
abbrev pub config_of : Option Progress → Option Config
config_of (Some (Listing config)) = Some config
config_of _ = None
