-- The first two replies of a provider, with its well-known file and with its configuration, and what each comes to.
use Rattle.std.specs.Prelude.{ℕ, List, Option, Some, None, option_map, Result, Ok, Err}
use Rattle.url.specs.Parts.{Parts}
use Rattle.fed_origin.specs.declared.options.ProviderOptions.{ProviderOptions}
use Rattle.fed_origin.specs.declared.stage.ReplyKind.{ReplyKind}
use Rattle.fed_origin.specs.declared.stage.ReplyKind.TheVariants as kinds
use Rattle.fed_suffix.specs.Rule.{RuleSet}
use Rattle.fed_reply.specs.Steps.{◌>>=◌}
use Rattle.fed_provider.specs.declared.config.Config.{Config}
use Rattle.fed_provider.specs.declared.first_replies.FirstReplies.{FirstReplies}
use Rattle.fed_provider.specs.declared.first_replies.Heard.{Heard}
use Rattle.fed_provider.specs.declared.first_replies.Heard.TheVariants.{Refused, Waits, Both, NotWaited}
use Rattle.fed_origin.specs.declared.stage.Endpoint.{Endpoint}
use Rattle.fed_provider.specs.declared.step.ProviderStep.{ProviderStep}
use Rattle.fed_provider.specs.declared.step.ProviderStep.TheVariants.{ConfigOther}
use Rattle.fed_provider.specs.declared.wellknown.WellKnown.{WellKnown}
use Rattle.fed_provider.specs.Config.{ConfigOf}
use Rattle.fed_provider.specs.WellKnown.{WellKnownUrlOf, WellKnownOf, agrees}

-- ---- what a reply says

-- what a well-known reply says: its URL is made by the rules, and its file lists the configuration URL or names endpoints
abbrev pub wellknown_read : RuleSet → Parts → List ℕ → Result WellKnown ProviderStep
wellknown_read rules config raw = do
  base ← WellKnownUrlOf rules config
  WellKnownOf raw base config

-- the same of the provider, if the call has it
abbrev pub wellknown_of : RuleSet → List ℕ → Option ProviderOptions → Option (Result WellKnown ProviderStep)
wellknown_of rules raw provider = option_map (λ p. wellknown_read rules p.config raw) provider

-- what the config reply `raw` of the provider holds, if the call has it: the configuration, or the step at which it is refused
abbrev pub config_read : List ℕ → Option ProviderOptions → Option (Result Config ProviderStep)
config_read raw provider = option_map (λ p. ConfigOf raw p.config) provider

-- ---- what it comes to

-- both files are good, by the endpoint in which they differ, if there is one
abbrev pub by_agreement : Config → Option Endpoint → Heard
by_agreement config None = Both config
by_agreement config (Some endpoint) = Refused (ConfigOther endpoint)

abbrev pub both : WellKnown → Config → Heard
both file config = by_agreement config (agrees file config)

-- the first well-known reply, by the configuration, if there is one
abbrev pub first_wellknown : Option Config → Result WellKnown ProviderStep → Heard
first_wellknown config (Err step) = Refused step
first_wellknown None (Ok file) = Waits (record { wellknown = Some file; config = None })
first_wellknown (Some config) (Ok file) = both file config

-- the first config reply, by the well-known file that was taken, if one was
abbrev pub first_config : Option WellKnown → Result Config ProviderStep → Heard
first_config wellknown (Err step) = Refused step
first_config None (Ok config) = Waits (record { wellknown = None; config = Some config })
first_config (Some file) (Ok config) = both file config

-- a well-known reply, by the one that was taken before, if any
abbrev pub wellknown_heard : Option WellKnown → Option Config → Result WellKnown ProviderStep → Heard
wellknown_heard (Some file) config read = NotWaited (record { wellknown = Some file; config = config })
wellknown_heard None config read = first_wellknown config read

-- a config reply, by the configuration that was taken before, if any
abbrev pub config_heard : Option WellKnown → Option Config → Result Config ProviderStep → Heard
config_heard wellknown (Some config) read = NotWaited (record { wellknown = wellknown; config = Some config })
config_heard wellknown None read = first_config wellknown read

-- a reply of this kind, from the provider with this configuration URL
abbrev pub reply_heard : RuleSet → FirstReplies → Parts → ReplyKind → List ℕ → Heard
reply_heard rules replies config kinds.WellKnown raw = wellknown_heard replies.wellknown replies.config (wellknown_read rules config raw)
reply_heard rules replies config kinds.Config raw = config_heard replies.wellknown replies.config (ConfigOf raw config)
reply_heard rules replies config _ raw = NotWaited replies
