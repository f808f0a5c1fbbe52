-- How the code finds the account that is chosen.
use Rattle.std.specs.Prelude.{ℕ, Bool, nat_eq, bytes_eq, List, slice_get, option_and_then, option_map, Option}
use Rattle.std.specs.List.{position}
use Rattle.fed_accounts.specs.declared.account.Account.{Account}
use Rattle.fed_accounts.specs.declared.offer.Offer.{Offer}
use Rattle.fed_consent.specs.Consent.{Pick, picks_of}

-- the offer is of this provider
abbrev pub is_of : ℕ → Offer → Bool
is_of provider offer = nat_eq provider offer.provider

-- the place of the account with this id
abbrev pub place_in : List ℕ → List Account → Option ℕ
place_in id accounts = position (λ account. bytes_eq account.id id) accounts

-- the place of the offer of this provider, and of the account with this id in it
abbrev pub places_of : ℕ → List ℕ → List Offer → Option (ℕ × ℕ)
places_of provider id offers =
    option_and_then
    (λ n. option_and_then (λ offer. option_map (λ place. (n, place)) (place_in id offer.accounts)) (slice_get offers n))
    (position (is_of provider) offers)

-- the account at these places of an offer and in it
abbrev pub offered_at : ℕ → List Offer → ℕ × ℕ → Option Pick
offered_at call offers places =
    option_and_then (λ offer. slice_get (picks_of call offer) places.1) (slice_get offers places.0)
