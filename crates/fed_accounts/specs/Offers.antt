-- What providers offer to a call.
use Rattle.std.specs.Prelude.{ℕ, ◌≡◌, ◌<◌, List, [], ◌∷◌, length, Option, Some, None}
use Rattle.std.specs.List.{All}
use Rattle.fed_accounts.specs.declared.offer.Offer.{Offer}
use Rattle.fed_accounts.specs.declared.offer.Held.{Held}
use Rattle.fed_accounts.specs.declared.offer.Held.TheVariants.{One, Several}

-- of each account it is said whether its permission is kept
abbrev pub IsWhole : Offer → Type 0
IsWhole offer = length offer.kept ≡ length offer.accounts

abbrev pub AreWhole : List Offer → Type 0
AreWhole offers = All IsWhole offers

-- the offer is there, and has an account at this place
abbrev pub HasAccount : ℕ → Option Offer → Type 0
HasAccount place None = ⊥
HasAccount place (Some offer) = place < length offer.accounts

abbrev pub offers_in : Held → List Offer
offers_in (One offer) = offer ∷ []
offers_in (Several offers) = offers
