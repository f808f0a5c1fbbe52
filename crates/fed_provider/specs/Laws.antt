-- What the definitions promise.
use Rattle.std.specs.Prelude.{◌≡◌, ℕ, true, List, IfSome, None, Ok}
use Rattle.url.specs.Parts.{Parts, serialize}
use Rattle.fed_origin.specs.Origin.{same_origin}
use Rattle.fed_origin.specs.WebUrl.{origin_of}
use Rattle.fed_provider.specs.declared.config.Config.{Config}
use Rattle.fed_provider.specs.declared.wellknown.WellKnown.TheVariants.{Listed, Direct}
use Rattle.fed_provider.specs.WellKnown.{WellKnownOf, agrees}
use Rattle.fed_provider.specs.Config.{ConfigOf}

-- two configuration URLs that one well-known file lists have one text
abbrev pub OneConfiguration : Type 0
OneConfiguration =
    (raw : List ℕ) (base u v : Parts) → WellKnownOf raw base u ≡ Ok Listed → WellKnownOf raw base v ≡ Ok Listed
    → serialize u ≡ serialize v

-- the endpoints that a file names are told by the file and its URL alone
abbrev pub FormIsOfFile : Type 0
FormIsOfFile =
    (raw : List ℕ) (base u v accounts login : Parts) → WellKnownOf raw base u ≡ Ok (Direct accounts login)
    → WellKnownOf raw base v ≡ Ok (Direct accounts login)

-- a configuration that agrees with such a file has their texts
abbrev pub OneAccountsUrl : Type 0
OneAccountsUrl =
    (accounts login : Parts) (config : Config) → agrees (Direct accounts login) config ≡ None
    → (serialize config.accounts ≡ serialize accounts) × (serialize config.login ≡ serialize login)

-- a URL is same-origin with the configuration URL
abbrev pub IsOwn : Parts → Parts → Type 0
IsOwn config url = same_origin (origin_of url) (origin_of config) ≡ true

-- each endpoint is same-origin with the configuration URL
pub record HasOwnEndpoints (config : Parts) (read : Config) : Type 0 where
  pub accounts : IsOwn config read.accounts
  pub assertion : IsOwn config read.assertion
  pub login : IsOwn config read.login
  pub metadata : IfSome read.metadata (IsOwn config)
  pub disconnect : IfSome read.disconnect (IsOwn config)

abbrev pub EndpointsAreOwn : Type 0
EndpointsAreOwn = (raw : List ℕ) (config : Parts) (read : Config) → ConfigOf raw config ≡ Ok read → HasOwnEndpoints config read
