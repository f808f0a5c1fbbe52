-- The account that the code reselects is the one that the table names.
use Rattle.std.proofs.Common.{◌≡◌, ℕ, zero, suc, Bool, true, List, [], ◌∷◌, Option, Some, None, refl, ap, subst, ◌∙◌, option_and_then}
use Rattle.std.specs.Prelude.{is_some, option_map, slice_get}
use Rattle.std.specs.List.{AllByRecursion}
use Rattle.std.proofs.lemmas.Option.{option_and_then_some, same_Some}
use Rattle.fed_origin.specs.declared.options.Mediation.{Mediation}
use Rattle.fed_origin.specs.declared.options.ProviderOptions.{ProviderOptions}
use Rattle.fed_provider.specs.declared.config.Config.{Config}
use Rattle.fed_accounts.specs.declared.account.Account.{Account}
use Rattle.fed_accounts.specs.declared.offer.Offer.{Offer}
use Rattle.fed_accounts.specs.Connection.{Reselect}
use Rattle.fed_consent.specs.Consent.{Pick, eligible_pick, pick_at, reselection_on}
use Rattle.fed_call.specs.Accounts.{Offered, offered_by, reselected, reselected_of}
use Rattle.fed_call.specs.Configs.{config_for}
use Rattle.fed_call.specs.Settling.{IsKnown, lists_in, shortlist_as, shortlist_with}
use Rattle.fed_call.specs.State.{offered_as, offered_with}
use Rattle.fed_call.proofs.shortlists.Offered.{lists_of, same_offers}

-- ---- of one provider

by_account : (call : ℕ) (offer : Offer) (p : ProviderOptions) (c : Config) (account : Option Account)
    → option_map (λ a. offered_by (record { options = p; config = c; offer = offer }) (record { account = a; connected = true })) account
    ≡ option_and_then (λ pick. offered_with pick (Some p) (Some c)) (option_map (eligible_pick call offer) account)
by_account call offer p c None = refl
by_account call offer p c (Some a) = refl

by_parts : (call n : ℕ) (offer : Offer) (provider : Option ProviderOptions) (config : Option Config)
    → is_some (shortlist_with offer provider config) ≡ true
    → option_and_then (reselected_of n) (shortlist_with offer provider config)
    ≡ option_and_then (λ pick. offered_with pick provider config) (option_map (eligible_pick call offer) (slice_get offer.accounts n))
by_parts call n offer None config known = absurd (cc)
by_parts call n offer (Some p) None known = absurd (cc)
by_parts call n offer (Some p) (Some c) known = by_account call offer p c (slice_get offer.accounts n)

same_lookup : (providers : List ProviderOptions) (configs : List (Option Config)) (call : ℕ) (offer : Offer) (account : Option Account)
    → option_and_then (λ pick. offered_with pick (slice_get providers offer.provider) (config_for configs offer.provider))
    (option_map (eligible_pick call offer) account)
    ≡ option_and_then (offered_as providers configs) (option_map (eligible_pick call offer) account)
same_lookup providers configs call offer None = refl
same_lookup providers configs call offer (Some a) = refl

-- ---- of all

at_places : (providers : List ProviderOptions) (configs : List (Option Config)) (call : ℕ) (offers : List Offer) (i n : ℕ)
    → AllByRecursion (IsKnown providers configs) offers
    → option_and_then (reselected_of n) (slice_get (lists_in providers configs offers) i)
    ≡ option_and_then (offered_as providers configs) (pick_at call offers (i, n))
at_places providers configs call [] i n known = refl
at_places providers configs call (offer ∷ offers) zero n known =
    let here = lists_of providers configs offer known.0 in
    let first : slice_get (lists_in providers configs (offer ∷ offers)) 0 ≡ shortlist_as providers configs offer =
    rw here.is refl in
    ap (option_and_then (reselected_of n)) first
    ∙ (by_parts call n offer (slice_get providers offer.provider) (config_for configs offer.provider) known.0.known
    ∙ same_lookup providers configs call offer (slice_get offer.accounts n))
at_places providers configs call (offer ∷ offers) (suc i) n known =
    let here = lists_of providers configs offer known.0 in
    let later : slice_get (lists_in providers configs (offer ∷ offers)) (suc i) ≡ slice_get (lists_in providers configs offers) i =
    rw here.is refl in
    ap (option_and_then (reselected_of n)) later ∙ at_places providers configs call offers i n known.1

by_places : (providers : List ProviderOptions) (configs : List (Option Config)) (call : ℕ) (offers : List Offer) (places : Option (ℕ × ℕ))
    → AllByRecursion (IsKnown providers configs) offers
    → option_and_then (λ places. option_and_then (reselected_of places.1) (slice_get (lists_in providers configs offers) places.0)) places
    ≡ option_and_then (offered_as providers configs) (option_and_then (pick_at call offers) places)
by_places providers configs call offers None known = refl
by_places providers configs call offers (Some places) known = at_places providers configs call offers places.0 places.1 known

pub named : (providers : List ProviderOptions) (configs : List (Option Config)) (call : ℕ) (offers : List Offer) (flag : Bool)
    (mediation : Mediation)
    → AllByRecursion (IsKnown providers configs) offers
    → reselected mediation flag (lists_in providers configs offers)
    ≡ option_and_then (offered_as providers configs)
    (reselection_on (record { call = call; offers = offers; flag = flag; mediation = mediation }))
named providers configs call offers flag mediation known =
    ap (λ os. option_and_then (λ places. option_and_then (reselected_of places.1) (slice_get (lists_in providers configs offers) places.0))
    (Reselect os flag mediation))
    (same_offers providers configs offers known)
    ∙ by_places providers configs call offers (Reselect offers flag mediation) known

-- ---- what is known of it

known_at : (providers : List ProviderOptions) (configs : List (Option Config)) (offers : List Offer) (i : ℕ) (offer : Offer)
    → AllByRecursion (IsKnown providers configs) offers → slice_get offers i ≡ Some offer → IsKnown providers configs offer
known_at providers configs [] i offer known e = absurd (cc)
known_at providers configs (o ∷ offers) zero offer known e = subst (IsKnown providers configs) (same_Some o offer e) known.0
known_at providers configs (o ∷ offers) (suc i) offer known e = known_at providers configs offers i offer known.1 e

-- an account that is reselected is connected, and its provider is known with its configuration
pub record Reselectable (providers : List ProviderOptions) (configs : List (Option Config)) (pick : Pick) : Type 0 where
  pub connected : pick.candidate.connected ≡ true
  pub provider : is_some (slice_get providers pick.provider) ≡ true
  pub config : is_some (config_for configs pick.provider) ≡ true

parts_known : (offer : Offer) (provider : Option ProviderOptions) (config : Option Config)
    → is_some (shortlist_with offer provider config) ≡ true → (is_some provider ≡ true) × (is_some config ≡ true)
parts_known offer None config known = absurd (cc)
parts_known offer (Some p) None known = absurd (cc)
parts_known offer (Some p) (Some c) known = (refl, refl)

pub known_parts : (providers : List ProviderOptions) (configs : List (Option Config)) (offer : Offer)
    → is_some (shortlist_as providers configs offer) ≡ true
    → (is_some (slice_get providers offer.provider) ≡ true) × (is_some (config_for configs offer.provider) ≡ true)
known_parts providers configs offer known =
    parts_known offer (slice_get providers offer.provider) (config_for configs offer.provider) known

of_account : (providers : List ProviderOptions) (configs : List (Option Config)) (call : ℕ) (offer : Offer) (account : Option Account)
    (pick : Pick)
    → IsKnown providers configs offer → option_map (eligible_pick call offer) account ≡ Some pick → Reselectable providers configs pick
of_account providers configs call offer None pick known e = absurd (cc)
of_account providers configs call offer (Some a) pick known e =
    let same : eligible_pick call offer a ≡ pick = same_Some (eligible_pick call offer a) pick e in
    let parts = known_parts providers configs offer known.known in
    subst (Reselectable providers configs) same (record { connected = refl; provider = parts.0; config = parts.1 })

pub reselectable : (providers : List ProviderOptions) (configs : List (Option Config)) (call : ℕ) (offers : List Offer) (flag : Bool)
    (mediation : Mediation) (pick : Pick)
    → AllByRecursion (IsKnown providers configs) offers
    → reselection_on (record { call = call; offers = offers; flag = flag; mediation = mediation }) ≡ Some pick
    → Reselectable providers configs pick
reselectable providers configs call offers flag mediation pick known e =
    option_and_then_some (pick_at call offers) (Reselect offers flag mediation) pick e
    (λ places was at. option_and_then_some (λ offer. option_map (eligible_pick call offer) (slice_get offer.accounts places.1))
    (slice_get offers places.0) pick at
    (λ offer here of. of_account providers configs call offer (slice_get offer.accounts places.1) pick
    (known_at providers configs offers places.0 offer known here) of))

-- a pick of a known provider is one of the table's
with_known : (pick : Pick) (provider : Option ProviderOptions) (config : Option Config) → is_some provider ≡ true → is_some config ≡ true
    → (offered : Offered) × (offered_with pick provider config ≡ Some offered)
with_known pick None config p c = absurd (cc)
with_known pick (Some provider) None p c = absurd (cc)
with_known pick (Some provider) (Some config) p c = (_, refl)

pub offered_known : (providers : List ProviderOptions) (configs : List (Option Config)) (pick : Pick)
    → is_some (slice_get providers pick.provider) ≡ true → is_some (config_for configs pick.provider) ≡ true
    → (offered : Offered) × (offered_as providers configs pick ≡ Some offered)
offered_known providers configs pick p c = with_known pick (slice_get providers pick.provider) (config_for configs pick.provider) p c
