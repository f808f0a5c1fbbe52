-- What the private clauses of the twin test name.
use Rattle.std.specs.Prelude.{◌≡◌, ℕ, true, false, ◌||◌, List, map, bytes_eq, Option, Some, None, IfSome}
use Rattle.std.specs.List.{list_any}
use Rattle.std.specs.Option.{option_map_or}
use Rattle.url.specs.Parts.{Parts}
use Rattle.fed_origin.specs.declared.options.ProviderOptions.{ProviderOptions}
use Rattle.fed_origin.specs.declared.origin.Origin.{Origin}
use Rattle.fed_origin.specs.Origin.{is_trustworthy}
use Rattle.fed_origin.specs.WebUrl.{host_of}
use Rattle.fed_suffix.specs.Registrable.{party}
use Rattle.fed_suffix.specs.Rule.{RuleSet}
use Rattle.fed_script.specs.declared.event.Event.{Event}
use Rattle.fed_script.specs.declared.event.Header.{Header}
use Rattle.fed_twin.specs.declared.fault.TwinClause.{TwinClause}
use Rattle.fed_twin.specs.declared.fault.TwinClause.TheVariants.{Header as HeaderClause, Kind, Member, Load, Origins, Count}
use Rattle.fed_twin.specs.Origins.{Named, and_named, have_one_number}
use Rattle.fed_twin.specs.Providers.{Providers, is_provider}
use Rattle.fed_twin.specs.Twin.{SharesMembers, SharesLoad, kind_of, origin_named, both_named}

-- ---- headers

abbrev pub SameHeaders : Header → Header → Type 0
SameHeaders a b = (a.now ≡ b.now) × (a.rules ≡ b.rules)

-- ---- parties

-- the parties of the hosts of these URLs
abbrev pub parties_of : RuleSet → List Parts → List (List ℕ)
parties_of rules urls = map (λ url. party rules (host_of url)) urls

-- those of providers
abbrev pub provider_parties : RuleSet → List ProviderOptions → List (List ℕ)
provider_parties rules ps = parties_of rules (map (λ p. p.config) ps)

abbrev pub known_by : RuleSet → List (List ℕ) → Providers
known_by rules parties = record { rules = rules; parties = parties }

-- the new list has what the old one and these have, in whatever order and however often
pub record Gathers (old more new : List (List ℕ)) : Type 0 where
  pub each : (q : List ℕ) → list_any (bytes_eq q) new ≡ (list_any (bytes_eq q) old || list_any (bytes_eq q) more)

-- ---- loads and origins

-- both origins are trustworthy or neither is, and no provider has the party of either
pub record AreFarOrigins (p : Providers) (o u : Origin) : Type 0 where
  pub trust : is_trustworthy o ≡ is_trustworthy u
  pub far : is_provider p o.host ≡ false
  pub far' : is_provider p u.host ≡ false

-- the origins that two events name have one number after those that were named, if both name one
abbrev pub HaveOneNumber : Named → Event → Event → Type 0
HaveOneNumber n e f = IfSome (both_named (origin_named e) (origin_named f)) (λ o. have_one_number n o ≡ true)

-- what is named after two events
abbrev pub named_after : Named → Event → Event → Named
named_after n e f = option_map_or (λ o. and_named n o) (both_named (origin_named e) (origin_named f)) n

-- ---- a pair of events

-- this is the first clause that two events break, where these origins were named before; None: they break none
abbrev pub BreaksFirst : Providers → Named → Event → Event → Option TwinClause → Type 0
BreaksFirst p n e f None = (kind_of e ≡ kind_of f) × SharesMembers e f × SharesLoad p e f × HaveOneNumber n e f
BreaksFirst p n e f (Some Kind) = ¬ (kind_of e ≡ kind_of f)
BreaksFirst p n e f (Some Member) = (kind_of e ≡ kind_of f) × ¬ SharesMembers e f
BreaksFirst p n e f (Some Load) = (kind_of e ≡ kind_of f) × SharesMembers e f × ¬ SharesLoad p e f
BreaksFirst p n e f (Some Origins) = (kind_of e ≡ kind_of f) × SharesMembers e f × SharesLoad p e f × ¬ HaveOneNumber n e f
BreaksFirst p n e f (Some HeaderClause) = ⊥
BreaksFirst p n e f (Some Count) = ⊥
