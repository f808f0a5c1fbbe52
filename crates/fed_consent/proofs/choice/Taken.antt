-- The account that is taken out of an offer is the pick at its place.
use Rattle.std.proofs.Common.{◌≡◌, ℕ, zero, suc, Bool, List, [], ◌∷◌, map, zip, length, Option, Some, None, refl, ap, ◌∙◌}
use Rattle.std.proofs.Common.{arith, ◌<◌, subst}
use Rattle.std.proofs.lemmas.Option.{slice_get-map, slice_get_within}
use Rattle.std.specs.Prelude.{option_map, slice_get}
use Rattle.fed_accounts.specs.declared.account.Account.{Account}
use Rattle.fed_accounts.specs.declared.offer.Offer.{Offer}
use Rattle.fed_accounts.specs.Connection.{Connected}
use Rattle.fed_accounts.specs.Offers.{HasAccount}
use Rattle.fed_consent.specs.Consent.{Candidate, candidate_by, candidates, Pick, picks_of}

-- the account at a place, and whether it is connected
taken_from : (client : List ℕ) (accounts : List Account) (kept : List Bool) (place : ℕ) (account : Account) (connected : Bool)
    → slice_get accounts place ≡ Some account
    → option_map (λ entry. Connected entry.0 client entry.1) (slice_get (zip accounts kept) place) ≡ Some connected
    → slice_get (map (candidate_by client) (zip accounts kept)) place ≡ Some (record { account = account; connected = connected })
taken_from client [] kept place account connected here says = cc
taken_from client (a ∷ accounts) [] place account connected here says = cc
taken_from client (a ∷ accounts) (k ∷ kept) zero account connected here says = cc
taken_from client (a ∷ accounts) (k ∷ kept) (suc place) account connected here says =
    taken_from client accounts kept place account connected here says

-- the pick of a candidate
abbrev pick_with : ℕ → ℕ → Candidate → Pick
pick_with call provider candidate = record { call = call; provider = provider; candidate = candidate }

pub pick_taken : (call : ℕ) (offer : Offer) (place : ℕ) (account : Account) (connected : Bool)
    → slice_get offer.accounts place ≡ Some account
    → option_map (λ entry. Connected entry.0 offer.client entry.1) (slice_get (zip offer.accounts offer.kept) place) ≡ Some connected
    → slice_get (picks_of call offer) place
    ≡ Some (record { call = call; provider = offer.provider; candidate = record { account = account; connected = connected } })
pick_taken call offer place account connected here says =
    slice_get-map (pick_with call offer.provider) (candidates offer) place
    ∙ ap (option_map (pick_with call offer.provider)) (taken_from offer.client offer.accounts offer.kept place account connected here says)

-- the only one
pub pick_alone : (call : ℕ) (offer : Offer) (account : Account) (connected : Bool) → length offer.accounts ≡ 1 → length offer.kept ≡ 1
    → slice_get offer.accounts 0 ≡ Some account
    → option_map (λ entry. Connected entry.0 offer.client entry.1) (slice_get (zip offer.accounts offer.kept) 0) ≡ Some connected
    → picks_of call offer
    ≡ record { call = call; provider = offer.provider; candidate = record { account = account; connected = connected } } ∷ []
pick_alone call offer account connected one each here says = alone offer.accounts offer.kept one each here says
  where
    alone : (accounts : List Account) (kept : List Bool) → length accounts ≡ 1 → length kept ≡ 1 → slice_get accounts 0 ≡ Some account
        → option_map (λ entry. Connected entry.0 offer.client entry.1) (slice_get (zip accounts kept) 0) ≡ Some connected
        → map (pick_with call offer.provider) (map (candidate_by offer.client) (zip accounts kept))
        ≡ record { call = call; provider = offer.provider; candidate = record { account = account; connected = connected } } ∷ []
    alone [] kept one each here says = cc
    alone (a ∷ accounts) [] one each here says = cc
    alone (a ∷ []) (k ∷ kept) one each here says = cc
    alone (a ∷ b ∷ accounts) (k ∷ kept) one each here says = absurd (omega (arith, one))

-- ---- the offer that is taken out

pub offer_within : (offers : List Offer) (n place : ℕ) → HasAccount place (slice_get offers n) → n < length offers
offer_within offers n place has = by (slice_get offers n) refl has
  where
    by : (o : Option Offer) → slice_get offers n ≡ o → HasAccount place o → n < length offers
    by None is has = absurd has
    by (Some offer) is has = slice_get_within offers n offer is

pub account_within : (offers : List Offer) (n place : ℕ) (offer : Offer) → HasAccount place (slice_get offers n)
    → slice_get offers n ≡ Some offer → place < length offer.accounts
account_within offers n place offer has here = subst (λ o. HasAccount place o) here has
