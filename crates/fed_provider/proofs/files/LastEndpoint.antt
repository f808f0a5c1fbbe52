-- The last endpoint, after the others were taken.
use Rattle.std.proofs.Common.{◌≡◌, Option, Ok, refl}
use Rattle.url.specs.Parts.{Parts}
use Rattle.fed_io.specs.declared.error.Fault.{Fault}
use Rattle.fed_io.specs.declared.error.Fault.TheVariants.{Step, NoRoom}
use Rattle.fed_io.specs.Fault.{Refuses}
use Rattle.fed_origin.specs.declared.stage.Endpoint.TheVariants.{Accounts, Assertion, Login, Metadata, Disconnect}
use Rattle.fed_provider.specs.declared.step.ProviderStep.{ProviderStep}
use Rattle.fed_provider.specs.Config.{ConfigTexts, endpoint_url, optional_url, endpoints}

pub refused_last : (config : Parts) (texts : ConfigTexts) (a b l : Parts) (m : Option Parts) (fault : Fault ProviderStep)
    → endpoint_url config Accounts texts.accounts ≡ Ok a → endpoint_url config Assertion texts.assertion ≡ Ok b
    → endpoint_url config Login texts.login ≡ Ok l → optional_url config Metadata texts.metadata ≡ Ok m
    → Refuses fault (optional_url config Disconnect texts.disconnect) → Refuses fault (endpoints config texts)
unfolding endpoints
refused_last config texts a b l m NoRoom is_a is_b is_l is_m refuses = tt
refused_last config texts a b l m (Step step) is_a is_b is_l is_m refuses = rw (is_a, is_b, is_l, is_m, refuses) refl
