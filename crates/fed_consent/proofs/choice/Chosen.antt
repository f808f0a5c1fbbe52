-- The account that the code finds, in the offer of its provider, is the one that is chosen among all.
use Rattle.std.proofs.Common.{◌≡◌, ◌<◌, ◌≤◌, ◌+◌, ℕ, suc, Bool, true, false, cond, not, nat_eq, List, [], ◌∷◌, map, zip}
use Rattle.std.proofs.Common.{length, Option, Some, None, refl, sym, ap, ◌∙◌, arith}
use Rattle.std.specs.Prelude.{bytes_eq, nat_lt, option_map, option_and_then, slice_get}
use Rattle.std.specs.List.{find, flat_map, position, position_or_len}
use Rattle.std.specs.Option.{option_or}
use Rattle.std.proofs.lemmas.Bool.{eqb-true, ltb-false}
use Rattle.std.proofs.Common.{get_or, subst}
use Rattle.std.proofs.lemmas.List.Quantifiers.{position-Some}
use Rattle.std.proofs.lemmas.List.Folds.{find-append, find_at}
use Rattle.std.proofs.lemmas.Option.{slice_get_past, get_or_from_slice_get, option_and_then_some}
use Rattle.fed_accounts.specs.declared.account.Account.{Account}
use Rattle.fed_accounts.specs.declared.offer.Offer.{Offer}
use Rattle.fed_accounts.specs.Offers.{IsWhole, AreWhole, HasAccount}
use Rattle.fed_consent.specs.Consent.{Candidate, candidate_by, candidates, Pick, picks_of, is_pick, chosen, RiseFrom, AreRising}
use Rattle.fed_consent.specs.Choice.{is_of, place_in, places_of, offered_at}

unlike : (a b : ℕ) → a < b → nat_eq a b ≡ false
unlike a b less = go (nat_eq a b) refl
  where
    go : (t : Bool) → nat_eq a b ≡ t → t ≡ false
    go true e =
        let same : a ≡ b = eqb-true a b e in
        absurd (omega arith)
    go false e = refl

abbrev pick_with : ℕ → ℕ → Candidate → Pick
pick_with call provider candidate = record { call = call; provider = provider; candidate = candidate }

-- ---- the offer of the provider

-- another provider's has no such account
none_elsewhere : (call provider : ℕ) (id : List ℕ) (offer : Offer) → is_of provider offer ≡ false
    → find (is_pick provider id) (picks_of call offer) ≡ None
none_elsewhere call provider id offer other = go (candidates offer)
  where
    go : (list : List Candidate) → find (is_pick provider id) (map (pick_with call offer.provider) list) ≡ None
    go [] = refl
    go (candidate ∷ list) = rw other (go list)

none_above : (call provider : ℕ) (id : List ℕ) (n : ℕ) (offers : List Offer) → provider < n → RiseFrom n offers
    → find (is_pick provider id) (flat_map (picks_of call) offers) ≡ None
none_above call provider id n [] below rise = refl
none_above call provider id n (offer ∷ offers) below rise =
    find-append (is_pick provider id) (picks_of call offer) (flat_map (picks_of call) offers)
    ∙ ap (λ o. option_or o (find (is_pick provider id) (flat_map (picks_of call) offers)))
    (none_elsewhere call provider id offer (unlike provider offer.provider (omega (arith, rise.0))))
    ∙ none_above call provider id (suc offer.provider) offers (omega (arith, rise.0)) rise.1

or_none : (o : Option Pick) → option_or o None ≡ o
or_none None = refl
or_none (Some x) = refl

-- what is chosen stands in the first offer of the provider, or nowhere
found_in : (call provider : ℕ) (id : List ℕ) (n : ℕ) (offers : List Offer) → RiseFrom n offers
    → find (is_pick provider id) (flat_map (picks_of call) offers)
    ≡ option_and_then (λ offer. find (is_pick provider id) (picks_of call offer)) (find (is_of provider) offers)
found_in call provider id n [] rise = refl
found_in call provider id n (offer ∷ offers) rise =
    find-append (is_pick provider id) (picks_of call offer) (flat_map (picks_of call) offers)
    ∙ go (is_of provider offer) refl (found_in call provider id (suc offer.provider) offers rise.1)
  where
    go : (t : Bool) → is_of provider offer ≡ t
        → find (is_pick provider id) (flat_map (picks_of call) offers)
        ≡ option_and_then (λ o. find (is_pick provider id) (picks_of call o)) (find (is_of provider) offers)
        → option_or (find (is_pick provider id) (picks_of call offer)) (find (is_pick provider id) (flat_map (picks_of call) offers))
        ≡ option_and_then (λ o. find (is_pick provider id) (picks_of call o)) (cond t (Some offer) (find (is_of provider) offers))
    go true is next =
        let same : provider ≡ offer.provider = eqb-true provider offer.provider is in
        ap (option_or (find (is_pick provider id) (picks_of call offer)))
        (none_above call provider id (suc offer.provider) offers (omega arith) rise.1)
        ∙ or_none (find (is_pick provider id) (picks_of call offer))
    go false is next =
        ap (λ o. option_or o (find (is_pick provider id) (flat_map (picks_of call) offers))) (none_elsewhere call provider id offer is)
        ∙ next

-- ---- its place in it

at_position : {A : Type 0} (p : A → Bool) (xs : List A) → option_and_then (slice_get xs) (position p xs) ≡ find p xs
at_position p xs = go (nat_lt (position_or_len p xs) (length xs)) refl
  where
    go : (t : Bool) → nat_lt (position_or_len p xs) (length xs) ≡ t
        → option_and_then (slice_get xs) (cond t (Some (position_or_len p xs)) None) ≡ find p xs
    go true is = sym (find_at p xs)
    go false is =
        let past : length xs ≤ position_or_len p xs = ltb-false _ _ is in
        sym (find_at p xs ∙ slice_get_past xs (position_or_len p xs) past)

-- the account has the place in the list of accounts that its pick has among the picks
same_place : (call provider : ℕ) (id : List ℕ) (offer : Offer) → IsWhole offer → is_of provider offer ≡ true
    → position (is_pick provider id) (picks_of call offer) ≡ place_in id offer.accounts
same_place call provider id offer whole own = joined (places offer.accounts offer.kept whole) (lengths offer.accounts offer.kept whole)
  where
    lengths : (accounts : List Account) (kept : List Bool) → length kept ≡ length accounts
        → length (map (pick_with call offer.provider) (map (candidate_by offer.client) (zip accounts kept))) ≡ length accounts
    lengths [] kept each = refl
    lengths (a ∷ accounts) [] each = absurd (omega (arith, each))
    lengths (a ∷ accounts) (k ∷ kept) each = ap suc (lengths accounts kept (omega (arith, each)))

    places : (accounts : List Account) (kept : List Bool) → length kept ≡ length accounts
        → position_or_len (is_pick provider id) (map (pick_with call offer.provider) (map (candidate_by offer.client) (zip accounts kept)))
        ≡ position_or_len (λ account. bytes_eq account.id id) accounts
    places [] kept each = refl
    places (a ∷ accounts) [] each = absurd (omega (arith, each))
    places (a ∷ accounts) (k ∷ kept) each =
        let next = places accounts kept (omega (arith, each)) in
        rw own (ap (λ n. cond (not (bytes_eq a.id id)) (1 + n) 0) next)

    joined : position_or_len (is_pick provider id) (picks_of call offer)
        ≡ position_or_len (λ account. bytes_eq account.id id) offer.accounts
        → length (picks_of call offer) ≡ length offer.accounts
        → position (is_pick provider id) (picks_of call offer) ≡ place_in id offer.accounts
    joined place end =
        ap (λ n. cond (nat_lt n (length (picks_of call offer))) (Some n) None) place
        ∙ ap (λ m. cond (nat_lt (position_or_len (λ account. bytes_eq account.id id) offer.accounts) m)
        (Some (position_or_len (λ account. bytes_eq account.id id) offer.accounts)) None) end

position_within : (id : List ℕ) (accounts : List Account) (k : ℕ) → place_in id accounts ≡ Some k → k < length accounts
position_within id [] k is = absurd (cc)
position_within id (a ∷ accounts) k is = (position-Some (λ account. bytes_eq account.id id) (a ∷ accounts) k a is).0

-- ---- both

-- at the place of an offer, by what stands there
at_offer : (call provider : ℕ) (id : List ℕ) (offers : List Offer) (n : ℕ) (o : Option Offer) → slice_get offers n ≡ o
    → ((offer : Offer) → o ≡ Some offer → IsWhole offer × (is_of provider offer ≡ true))
    → option_and_then (offered_at call offers)
    (option_and_then (λ offer. option_map (λ place. (n, place)) (place_in id offer.accounts)) o)
    ≡ option_and_then (λ offer. find (is_pick provider id) (picks_of call offer)) o
at_offer call provider id offers n None is facts = refl
at_offer call provider id offers n (Some offer) is facts =
    by (place_in id offer.accounts)
    ∙ ap (option_and_then (slice_get (picks_of call offer)))
    (sym (same_place call provider id offer (facts offer refl).0 (facts offer refl).1))
    ∙ at_position (is_pick provider id) (picks_of call offer)
  where
    by : (place : Option ℕ) → option_and_then (offered_at call offers) (option_map (λ k. (n, k)) place)
        ≡ option_and_then (slice_get (picks_of call offer)) place
    by None = refl
    by (Some k) = ap (option_and_then (λ o. slice_get (picks_of call o) k)) is

-- the offer at the place of the provider is whole, and the provider's
own_at : (provider : ℕ) (offers : List Offer) (n : ℕ) → AreWhole offers → position (is_of provider) offers ≡ Some n → (offer : Offer)
    → slice_get offers n ≡ Some offer → IsWhole offer × (is_of provider offer ≡ true)
own_at provider offers n whole found offer here =
    let facts = position-Some (is_of provider) offers n offer found in
    let is : get_or offers n offer ≡ offer = get_or_from_slice_get offers n offer offer here in
    (subst (λ o. IsWhole o) is (whole n offer facts.0), subst (λ o. is_of provider o ≡ true) is facts.1)

pub chosen_places : (call provider : ℕ) (id : List ℕ) (offers : List Offer) → AreRising offers → AreWhole offers
    → option_and_then (offered_at call offers) (places_of provider id offers)
    ≡ chosen provider id (record { call = call; offers = offers })
chosen_places call provider id offers rising whole =
    by (position (is_of provider) offers) refl
    ∙ ap (option_and_then (λ offer. find (is_pick provider id) (picks_of call offer))) (at_position (is_of provider) offers)
    ∙ sym (found_in call provider id 0 offers rising)
  where
    by : (m : Option ℕ) → position (is_of provider) offers ≡ m
        → option_and_then (offered_at call offers)
        (option_and_then
        (λ n. option_and_then (λ offer. option_map (λ place. (n, place)) (place_in id offer.accounts)) (slice_get offers n)) m)
        ≡ option_and_then (λ offer. find (is_pick provider id) (picks_of call offer)) (option_and_then (slice_get offers) m)
    by None is = refl
    by (Some n) is = at_offer call provider id offers n (slice_get offers n) refl (own_at provider offers n whole is)

-- the places of an account that is found are those of one
pub places_held : (provider : ℕ) (id : List ℕ) (offers : List Offer) (places : ℕ × ℕ) → places_of provider id offers ≡ Some places
    → HasAccount places.1 (slice_get offers places.0)
places_held provider id offers places found =
    option_and_then_some _ (position (is_of provider) offers) places found (λ n at found.
    option_and_then_some _ (slice_get offers n) places found (λ offer here found. by n offer here (place_in id offer.accounts) refl found))
  where
    by : (n : ℕ) (offer : Offer) → slice_get offers n ≡ Some offer → (place : Option ℕ) → place_in id offer.accounts ≡ place
        → option_map (λ k. (n, k)) place ≡ Some places → HasAccount places.1 (slice_get offers places.0)
    by n offer here None is found = absurd (cc)
    by n offer here (Some k) is found =
        let same : (n, k) ≡ places = cc in
        let inside : k < length offer.accounts = position_within id offer.accounts k is in
        subst (λ p. HasAccount p.1 (slice_get offers p.0)) same (subst (λ o. HasAccount k o) (sym here) inside)
