-- The configurations of a call's providers.
use Rattle.std.specs.Prelude.{ℕ, List, [], ◌∷◌, slice_get, option_and_then, Option, Some}
use Rattle.fed_provider.specs.declared.config.Config.{Config}
use Rattle.fed_call.specs.declared.configs.Held.{Held}
use Rattle.fed_call.specs.declared.configs.Held.TheVariants.{One, Several}

abbrev pub configs_in : Held → List (Option Config)
configs_in (One config) = Some config ∷ []
configs_in (Several configs) = configs

-- the configuration of the provider at this place, if it is kept
abbrev pub config_for : List (Option Config) → ℕ → Option Config
config_for configs place = option_and_then (λ config. config) (slice_get configs place)
