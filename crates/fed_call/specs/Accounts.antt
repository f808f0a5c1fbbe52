-- The accounts that a call is about.
use Rattle.std.specs.Prelude.{ℕ, Bool, true, false, List, map, slice_get, option_map, option_and_then, Option, Some, None, Result}
use Rattle.std.specs.List.{flat_map}
use Rattle.url.specs.Parts.{Parts}
use Rattle.fed_origin.specs.declared.origin.Origin.{Origin}
use Rattle.fed_origin.specs.declared.options.GetOptions.{GetOptions}
use Rattle.fed_origin.specs.declared.options.Mediation.{Mediation}
use Rattle.fed_origin.specs.declared.options.ProviderOptions.{ProviderOptions}
use Rattle.fed_origin.specs.declared.status.Triple.{Triple}
use Rattle.fed_origin.specs.WebUrl.{origin_of}
use Rattle.fed_provider.specs.declared.config.Config.{Config}
use Rattle.fed_reply.specs.Steps.{◌>>=◌}
use Rattle.fed_accounts.specs.declared.account.Account.{Account}
use Rattle.fed_accounts.specs.declared.offer.Offer.{Offer}
use Rattle.fed_accounts.specs.declared.step.AccountsStep.{AccountsStep}
use Rattle.fed_accounts.specs.Connection.{Reselect}
use Rattle.fed_accounts.specs.Hints.{Hinted}
use Rattle.fed_accounts.specs.Read.{AccountsOf}
use Rattle.fed_status.specs.Kept.{has_triple, triple_of}
use Rattle.fed_consent.specs.Consent.{Candidate, candidates}

-- the accounts in the reply `raw` that the hints of the call ask for, or the first step
unfoldable pub accounts_of : List ℕ → ProviderOptions → Result (List Account) AccountsStep
accounts_of raw provider = do
  accounts ← AccountsOf raw
  Hinted accounts provider.login_hint provider.domain_hint

-- the permission of an account of the provider's origin at pages of an origin is kept
abbrev pub is_kept : List Triple → Origin → Origin → Account → Bool
is_kept kept page provider account = has_triple kept (triple_of page provider account.id)

-- these accounts of the provider at a place of the call's list, by the permissions that are kept
abbrev pub offer_of : List Triple → Origin → ℕ → ProviderOptions → List Account → Offer
offer_of kept page place provider accounts =
    record {
      provider = place;
      client = provider.client;
      accounts = accounts;
      kept = map (is_kept kept page (origin_of provider.config)) accounts;
    }

-- the provider at this place in the call's list, if there is one
abbrev pub provider_at : ℕ → GetOptions → Option ProviderOptions
provider_at place options = slice_get options.providers place

-- an account that is offered, with what the call says of its provider and with the configuration of that
pub record Offered : Type 0 where
  -- the provider's place in the call's list
  pub place : ℕ
  pub options : ProviderOptions
  pub config : Config
  pub candidate : Candidate

-- what a provider offers, with what the call says of the provider and with its configuration
pub record Shortlist : Type 0 where
  pub options : ProviderOptions
  pub config : Config
  pub offer : Offer

-- one of its accounts
abbrev pub offered_by : Shortlist → Candidate → Offered
offered_by list candidate =
    record { place = list.offer.provider; options = list.options; config = list.config; candidate = candidate }

-- its accounts, in their order
abbrev pub offered_of : Shortlist → List Offered
offered_of list = map (offered_by list) (candidates list.offer)

-- all pairs of a provider and an account of its, in their order
abbrev pub all_offered : List Shortlist → List Offered
all_offered lists = flat_map offered_of lists

-- the account at this place of a list, which the rules of reselection name, so it is connected
abbrev pub reselected_of : ℕ → Shortlist → Option Offered
reselected_of n list =
    option_map (λ account. offered_by list (record { account = account; connected = true })) (slice_get list.offer.accounts n)

-- the account that is signed in again without the user, if the rules name one
abbrev pub reselected : Mediation → Bool → List Shortlist → Option Offered
reselected mediation flag lists =
    option_and_then (λ places. option_and_then (reselected_of places.1) (slice_get lists places.0))
    (Reselect (map (λ list. list.offer) lists) flag mediation)

-- a prompt needs the metadata of the client: the account is not connected, and there is an endpoint
abbrev pub needs_metadata : Bool → Option Parts → Bool
needs_metadata true endpoint = false
needs_metadata false None = false
needs_metadata false (Some to) = true
