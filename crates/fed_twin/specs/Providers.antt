-- The parties of providers.
use Rattle.std.specs.Prelude.{ℕ, Bool, List, bytes_eq}
use Rattle.std.specs.List.{list_any}
use Rattle.fed_suffix.specs.Rule.{RuleSet}
use Rattle.fed_suffix.specs.Registrable.{party}

-- the suffix rules, and the parties of the providers' configuration URLs
pub record Providers : Type 0 where
  pub rules : RuleSet
  pub parties : List (List ℕ)

-- the host is of the party of a provider
unfoldable pub is_provider : Providers → List ℕ → Bool
is_provider p host = list_any (bytes_eq (party p.rules host)) p.parties
