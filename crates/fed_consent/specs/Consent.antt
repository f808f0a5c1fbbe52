-- What the user is offered, what the user agreed to, and the request that it makes.
use Rattle.std.specs.Prelude.{ℕ, suc, ◌≤◌, ⊤, Bool, true, false, not, ◌&&◌, nat_eq, List, [], ◌∷◌, map, zip, Option, slice_get}
use Rattle.std.specs.Prelude.{option_and_then, option_map}
use Rattle.std.specs.Prelude.{Result, Ok, Err, bytes_eq, if◌then◌else◌}
use Rattle.std.specs.List.{find, flat_map}
use Rattle.url.specs.Parts.{Parts}
use Rattle.fed_origin.specs.declared.options.Mediation.{Mediation}
use Rattle.fed_origin.specs.declared.origin.Origin.{Origin}
use Rattle.fed_origin.specs.declared.options.ProviderOptions.{ProviderOptions}
use Rattle.fed_accounts.specs.declared.account.Account.{Account}
use Rattle.fed_accounts.specs.declared.offer.Offer.{Offer}
use Rattle.fed_accounts.specs.Connection.{Connected, Reselect}
use Rattle.fed_consent.specs.declared.consent.manner.Manner.{Manner}
use Rattle.fed_consent.specs.declared.consent.manner.Manner.TheVariants.{Chosen, Prompted, Reselected}

-- ---- what is offered

-- an account, and whether it is connected
pub record Candidate : Type 0 where
  pub account : Account
  pub connected : Bool

-- an account of an offer and whether its permission is kept, by the client of the offer
abbrev pub candidate_by : List ℕ → Account × Bool → Candidate
candidate_by client entry = record { account = entry.0; connected = Connected entry.0 client entry.1 }

-- the accounts of an offer, in their order
abbrev pub candidates : Offer → List Candidate
candidates offer = map (candidate_by offer.client) (zip offer.accounts offer.kept)

abbrev pub has_id : List ℕ → Candidate → Bool
has_id id candidate = bytes_eq candidate.account.id id

-- the accounts among which the user is to choose, of each provider that offers some
pub record Choices : Type 0 where
  pub call : ℕ
  pub offers : List Offer

-- the places of these providers rise, from n on
abbrev pub RiseFrom : ℕ → List Offer → Type 0
RiseFrom n [] = ⊤
RiseFrom n (offer ∷ offers) = (n ≤ offer.provider) × RiseFrom (suc offer.provider) offers

-- each provider has one offer, in the order of their places
abbrev pub AreRising : List Offer → Type 0
AreRising offers = RiseFrom 0 offers

-- the account that the user is asked about
pub record Pick : Type 0 where
  pub call : ℕ
  pub provider : ℕ
  pub candidate : Candidate

-- the accounts of an offer to a call
abbrev pub picks_of : ℕ → Offer → List Pick
picks_of call offer = map (λ candidate. record { call = call; provider = offer.provider; candidate = candidate }) (candidates offer)

-- all pairs of a provider and an account of its, in their order
abbrev pub picks : Choices → List Pick
picks choices = flat_map (picks_of choices.call) choices.offers

-- the account with this id of the provider
abbrev pub is_pick : ℕ → List ℕ → Pick → Bool
is_pick provider id pick = nat_eq provider pick.provider && has_id id pick.candidate

-- the account that is named, if it is offered
abbrev pub chosen : ℕ → List ℕ → Choices → Option Pick
chosen provider id choices = find (is_pick provider id) (picks choices)

-- whether the user goes on with an account
pub record Question : Type 0 where
  pub pick : Pick
  -- the metadata of the client are awaited
  pub waits : Bool

-- ---- what needs no user

-- what is offered, and what the rules of reselection look at
pub record Grounds : Type 0 where
  pub call : ℕ
  pub offers : List Offer
  -- silent access is prevented at the origin of the page
  pub flag : Bool
  pub mediation : Mediation

-- an eligible account, which is connected
abbrev pub eligible_pick : ℕ → Offer → Account → Pick
eligible_pick call offer account =
    record { call = call; provider = offer.provider; candidate = record { account = account; connected = true } }

-- the account at these places of an offer and in it
abbrev pub pick_at : ℕ → List Offer → ℕ × ℕ → Option Pick
pick_at call offers places =
    option_and_then (λ offer. option_map (eligible_pick call offer) (slice_get offer.accounts places.1)) (slice_get offers places.0)

-- the only eligible account of all, where neither the flag nor the mediation is against it
abbrev pub reselection_on : Grounds → Option Pick
reselection_on found = option_and_then (pick_at found.call found.offers) (Reselect found.offers found.flag found.mediation)

-- ---- what was agreed to

-- a call may name its page to the provider for this account
pub record Agreement : Type 0 where
  pub call : ℕ
  pub provider : ℕ
  -- the account's id
  pub account : List ℕ
  pub manner : Manner
  -- the user was shown what the provider tells the page
  pub disclosure : Bool

abbrev pub agreement : Pick → Manner → Bool → Agreement
agreement pick manner disclosure =
    record { call = pick.call; provider = pick.provider; account = pick.candidate.account.id; manner = manner; disclosure = disclosure }

-- a choice of a connected account suffices
abbrev pub by_choice : Pick → Result Agreement Pick
by_choice pick = if pick.candidate.connected then Ok (agreement pick Chosen false) else Err pick

-- a prompt suffices that waits for nothing; it disclosed something where the account is not connected
abbrev pub by_prompt : Question → Result Agreement Question
by_prompt question =
    if question.waits then Err question else Ok (agreement question.pick Prompted (not question.pick.candidate.connected))

-- an account that is reselected suffices; the user was shown nothing
abbrev pub by_reselection : Pick → Agreement
by_reselection pick = agreement pick Reselected false

-- ---- the request for a token

pub record AssertionFields : Type 0 where
  -- the assertion endpoint
  pub to : Parts
  -- the origin of the page
  pub origin : Origin
  pub client : List ℕ
  pub nonce : Option (List ℕ)
  pub params : Option (List ℕ)
  -- the account's id
  pub account : List ℕ
  pub disclosure : Bool
  -- the account was chosen without the user
  pub auto : Bool

-- the account was chosen without the user
abbrev pub is_auto : Manner → Bool
is_auto Chosen = false
is_auto Prompted = false
is_auto Reselected = true

-- the request that an agreement makes
abbrev pub assertion_fields : Agreement → Parts → Origin → ProviderOptions → AssertionFields
assertion_fields agreed to origin options =
    record {
      to = to;
      origin = origin;
      client = options.client;
      nonce = options.nonce;
      params = options.params;
      account = agreed.account;
      disclosure = agreed.disclosure;
      auto = is_auto agreed.manner;
    }
