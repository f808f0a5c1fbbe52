-- What a call began with.
use Rattle.std.specs.Prelude.{ℕ, Bool, List, ◌∷◌, slice_get, unwrap_or}
use Rattle.fed_origin.specs.declared.origin.Origin.{Origin}
use Rattle.fed_origin.specs.declared.options.Context.{Context}
use Rattle.fed_origin.specs.declared.options.GetOptions.{GetOptions}
use Rattle.fed_origin.specs.declared.options.Mediation.{Mediation}
use Rattle.fed_origin.specs.declared.options.Mode.{Mode}
use Rattle.fed_origin.specs.declared.options.ProviderOptions.{ProviderOptions}

pub record Begun : Type 0 where
  -- its number, and that of its page
  pub call : ℕ
  pub page : ℕ
  -- the origin of its page
  pub origin : Origin
  pub mediation : Mediation
  pub mode : Mode
  pub activation : Bool
  pub context : Context
  pub providers : List ProviderOptions
  -- the provider that it is about, with its place: the first, until an account is settled on
  pub place : ℕ
  pub provider : ProviderOptions

-- the options of the call
abbrev pub options_of : Begun → GetOptions
options_of begun =
    record {
      mediation = begun.mediation;
      mode = begun.mode;
      activation = begun.activation;
      context = begun.context;
      providers = begun.providers;
    }

-- the call is about the provider at this place from now on
abbrev pub about : ℕ → ProviderOptions → Begun → Begun
about place provider begun = record begun { place = place; provider = provider }

-- the provider at this place of a list of one and more
abbrev pub provider_in : ProviderOptions → List ProviderOptions → ℕ → ProviderOptions
provider_in first others place = unwrap_or (slice_get (first ∷ others) place) first
