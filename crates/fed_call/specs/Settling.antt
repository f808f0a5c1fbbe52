-- For private clauses: what a call comes to by what its providers offer.
use Rattle.std.specs.Prelude.{Bool, false, true, ◌==◌, ◌<◌, List, [], ◌∷◌, length, slice_get, is_some, IsTrue, Option, Some, None}
use Rattle.std.specs.List.{filter_map}
use Rattle.fed_origin.specs.declared.options.ProviderOptions.{ProviderOptions}
use Rattle.fed_origin.specs.declared.stage.Stage.TheVariants as stages
use Rattle.fed_provider.specs.declared.config.Config.{Config}
use Rattle.fed_accounts.specs.declared.offer.Offer.{Offer}
use Rattle.fed_status.specs.Flags.{has_flag}
use Rattle.fed_status.specs.Shared.{World}
use Rattle.fed_consent.specs.declared.table.effect.Effect.{Effect}
use Rattle.fed_call.specs.Accounts.{Offered, Shortlist, needs_metadata}
use Rattle.fed_call.specs.Begun.{Begun}
use Rattle.fed_call.specs.Configs.{config_for}
use Rattle.fed_call.specs.Facts.{Facts, Conclusion, Awaits, NoneLeft, Reselects, NoneSilent, Offers, Prompts, by_number, concluded}
use Rattle.fed_call.specs.SettledRows.{concludes}
use Rattle.fed_call.specs.State.{begun_facts}

-- an offer, with what the call says of its provider and with the configuration of that
abbrev pub shortlist_with : Offer → Option ProviderOptions → Option Config → Option Shortlist
shortlist_with offer (Some options) (Some config) = Some (record { options = options; config = config; offer = offer })
shortlist_with offer (Some options) None = None
shortlist_with offer None config = None

abbrev pub shortlist_as : List ProviderOptions → List (Option Config) → Offer → Option Shortlist
shortlist_as providers configs offer =
    shortlist_with offer (slice_get providers offer.provider) (config_for configs offer.provider)

abbrev pub lists_in : List ProviderOptions → List (Option Config) → List Offer → List Shortlist
lists_in providers configs offers = filter_map (shortlist_as providers configs) offers

-- its provider is one of these, and has a configuration; and there is an account
pub record IsKnown (providers : List ProviderOptions) (configs : List (Option Config)) (offer : Offer) : Type 0 where
  pub known : IsTrue (is_some (shortlist_as providers configs offer))
  pub some : 0 < length offer.accounts

-- what a call that began so comes to
abbrev pub settling : World → Begun → List (Option Config) → List Offer → Conclusion
settling world begun configs offers =
    concluded begun.mediation [] (has_flag world.flags begun.origin) (lists_in begun.providers configs offers)

-- the user is asked about these accounts, of which there is one at least
abbrev pub asked : List Offered → Conclusion
asked [] = Awaits
asked (first ∷ more) = by_number first more

-- there is one account in all
abbrev pub is_alone : List Offer → Bool
is_alone (offer ∷ []) = length offer.accounts == 1
is_alone _ = false

-- what it does then
abbrev pub settled_effects : World → Begun → Conclusion → List Effect
settled_effects world begun conclusion = (concludes world (begun_facts begun stages.Reading []) conclusion).effects

-- an account is settled on without the user
abbrev pub reselected_facts : Begun → Offered → Facts
reselected_facts begun offered = record (begun_facts begun stages.Asserting []) { picked = Some offered; auto = true }

-- the user is to choose one of these
abbrev pub choosing_facts : Begun → List Offered → Facts
choosing_facts begun offered = record (begun_facts begun stages.Choosing []) { offered = offered }

-- the user is to go on with this one
abbrev pub prompting_facts : Begun → Offered → Facts
prompting_facts begun offered =
    record (begun_facts begun stages.Prompting []) {
      picked = Some offered;
      waits = needs_metadata offered.candidate.connected offered.config.metadata;
    }

-- what is known of it then
abbrev pub settled_facts : Begun → Conclusion → Option Facts
settled_facts begun Awaits = None
settled_facts begun (NoneLeft failure) = None
settled_facts begun (Reselects offered) = Some (reselected_facts begun offered)
settled_facts begun NoneSilent = None
settled_facts begun (Offers offered) = Some (choosing_facts begun offered)
settled_facts begun (Prompts offered) = Some (prompting_facts begun offered)
