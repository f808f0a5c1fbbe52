-- What is kept beside the public suffix rules of a configuration URL.
use Rattle.std.specs.Prelude.{◌≡◌, ℕ, List, Option, IfSome, Result}
use Rattle.url.specs.Parts.{Parts}
use Rattle.fed_suffix.specs.Rule.{RuleSet}
use Rattle.fed_provider.specs.declared.rules.Site.{Site}
use Rattle.fed_provider.specs.Config.{ConfigOf}
use Rattle.fed_provider.specs.FirstReplies.{wellknown_read}
use Rattle.fed_provider.specs.WellKnown.{WellKnownOf, WellKnownUrlOf}
use Rattle.fed_provider.specs.declared.step.ProviderStep.{ProviderStep}
use Rattle.fed_provider.specs.declared.wellknown.WellKnown.{WellKnown}
use Rattle.fed_reply.specs.Steps.{◌>>=◌}

-- what a reply with the well-known file says, by its URL
abbrev pub file_by : Result Parts ProviderStep → Parts → List ℕ → Result WellKnown ProviderStep
file_by base config raw = base >>= (λ url. WellKnownOf raw url config)

-- its well-known URL is the one by these rules, and its files say what is kept of them
pub record IsSite (rules : RuleSet) (site : Site) : Type 0 where
  pub wellknown : site.wellknown ≡ WellKnownUrlOf rules site.config
  pub file : IfSome site.file (λ f. f.said ≡ wellknown_read rules site.config f.raw)
  pub read : IfSome site.read (λ r. r.said ≡ ConfigOf r.raw site.config)

-- what stands at a place is such a site, where something does
abbrev pub IsKept : RuleSet → Option Site → Type 0
IsKept rules kept = IfSome kept (IsSite rules)
