-- The places of the account that is reselected are those of an offer and of an account of it.
use Rattle.std.proofs.Common.{◌≡◌, ◌<◌, ◌+◌, ℕ, suc, Bool, true, false, cond, ◌||◌, List, [], ◌∷◌, ◌++◌, map, filter, zip}
use Rattle.std.proofs.Common.{length, Some, None, arith, subst}
use Rattle.std.specs.List.{AllByRecursion, enumerate_from, slice_get}
use Rattle.fed_origin.specs.declared.options.Mediation.{Mediation}
use Rattle.fed_accounts.specs.declared.account.Account.{Account}
use Rattle.fed_accounts.specs.declared.offer.Offer.{Offer}
use Rattle.fed_accounts.specs.Offers.{HasAccount}
use Rattle.fed_accounts.specs.Connection.{is_eligible, eligible_places, eligible_pairs, only, is_required, Reselect}

-- no place is past the end
abbrev AreWithin : ℕ → List ℕ → Type 0
AreWithin end places = AllByRecursion (λ place. place < end) places

places_within : (client : List ℕ) (end n : ℕ) (accounts : List Account) (kept : List Bool) → n + length accounts ≡ end
    → AreWithin end (eligible_places n client accounts kept)
places_within client end n [] kept e = tt
places_within client end n (a ∷ accounts) [] e = tt
places_within client end n (a ∷ accounts) (k ∷ kept) e =
    pick (is_eligible client (n, (a, k))) (places_within client end (n + 1) accounts kept (omega (arith, e)))
  where
    others : List (ℕ × (Account × Bool))
    others = filter (is_eligible client) (enumerate_from (n + 1) (zip accounts kept))

    pick : (b : Bool) → AreWithin end (map (λ entry. entry.0) others)
        → AreWithin end (map (λ entry. entry.0) (cond b ((n, (a, k)) ∷ others) others))
    pick true h = (omega (arith, e), h)
    pick false h = h

-- these are places of an offer, where the first has the place n, and of an account of it
record IsPair (n : ℕ) (offers : List Offer) (places : ℕ × ℕ) : Type 0 where
  index : ℕ
  same : n + index ≡ places.0
  account : HasAccount places.1 (slice_get offers index)

abbrev ArePairs : ℕ → List Offer → List (ℕ × ℕ) → Type 0
ArePairs n offers pairs = AllByRecursion (IsPair n offers) pairs

-- those of the first offer, and those of the offers after it
joined : (n : ℕ) (offer : Offer) (offers : List Offer) (places : List ℕ) (more : List (ℕ × ℕ)) → AreWithin (length offer.accounts) places
    → ArePairs (suc n) offers more → ArePairs n (offer ∷ offers) (map (λ place. (n, place)) places ++ more)
joined n offer offers [] [] here there = tt
joined n offer offers [] (pair ∷ more) here there = (
  record { index = suc there.0.index; same = omega (arith, there.0.same); account = there.0.account },
  joined n offer offers [] more here there.1,
)
joined n offer offers (place ∷ places) more here there =
    (record { index = 0; same = omega arith; account = here.0 }, joined n offer offers places more here.1 there)

pairs_within : (n : ℕ) (offers : List Offer) → ArePairs n offers (eligible_pairs n offers)
pairs_within n [] = tt
pairs_within n (offer ∷ offers) =
    joined n offer offers (eligible_places 0 offer.client offer.accounts offer.kept) (eligible_pairs (suc n) offers)
    (places_within offer.client (length offer.accounts) 0 offer.accounts offer.kept (omega arith)) (pairs_within (suc n) offers)

only_within : (offers : List Offer) (pairs : List (ℕ × ℕ)) (pair : ℕ × ℕ) → ArePairs 0 offers pairs → only pairs ≡ Some pair
    → IsPair 0 offers pair
only_within offers [] pair all e = cc
only_within offers (p ∷ []) pair all e =
    let same : p ≡ pair = cc in
    subst (λ m. IsPair 0 offers m) same all.0
only_within offers (p ∷ q ∷ ps) pair all e = cc

pub reselect_within : (offers : List Offer) (flag : Bool) (mediation : Mediation) (pair : ℕ × ℕ)
    → Reselect offers flag mediation ≡ Some pair → HasAccount pair.1 (slice_get offers pair.0)
reselect_within offers flag mediation pair e = placed (by (flag || is_required mediation) e)
  where
    by : (b : Bool) → cond b None (only (eligible_pairs 0 offers)) ≡ Some pair → IsPair 0 offers pair
    by true f = cc
    by false f = only_within offers _ pair (pairs_within 0 offers) f

    placed : IsPair 0 offers pair → HasAccount pair.1 (slice_get offers pair.0)
    placed is =
        let same : is.index ≡ pair.0 = omega (arith, is.same) in
        subst (λ k. HasAccount pair.1 (slice_get offers k)) same is.account
