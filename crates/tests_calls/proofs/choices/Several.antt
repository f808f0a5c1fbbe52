-- A choice is among several accounts where the first provider offers two.
use Rattle.std.proofs.Common.{◌≡◌, ℕ, suc, ◌<◌, ◌≤◌, Bool, List, [], ◌∷◌, length, zip, refl, ap, ◌∙◌, arith}
use Rattle.std.proofs.Common.{length-append}
use Rattle.std.specs.List.{flat_map}
use Rattle.std.specs.Prelude.{slice_index_or}
use Rattle.std.proofs.lemmas.List.{length-map}
use Rattle.fed_accounts.specs.declared.account.Account.{Account}
use Rattle.fed_accounts.specs.declared.offer.Offer.{Offer}
use Rattle.fed_accounts.specs.Offers.{AreWhole, IsWhole}
use Rattle.fed_consent.specs.Consent.{Candidate, Pick, candidate_by, candidates, picks, picks_of}

length_zip : (accounts : List Account) (kept : List Bool) → length kept ≡ length accounts
    → length (zip accounts kept) ≡ length accounts
length_zip [] kept whole = refl
length_zip (a ∷ accounts) [] whole = absurd (omega arith)
length_zip (a ∷ accounts) (k ∷ kept) whole = ap (λ n. suc n) (length_zip accounts kept (omega arith))

abbrev pick_with : ℕ → ℕ → Candidate → Pick
pick_with call provider candidate = record { call = call; provider = provider; candidate = candidate }

length_picks : (call : ℕ) (offer : Offer) → IsWhole offer → length (picks_of call offer) ≡ length offer.accounts
length_picks call offer whole =
    length-map (candidates offer) (pick_with call offer.provider)
    ∙ (length-map (zip offer.accounts offer.kept) (candidate_by offer.client) ∙ length_zip offer.accounts offer.kept whole)

pub several_picks : (call : ℕ) (offers : List Offer) (d : Offer) → AreWhole offers → 0 < length offers
    → length (slice_index_or offers 0 d).accounts ≡ 2 → 2 ≤ length (picks (record { call = call; offers = offers }))
several_picks call [] d whole some two = absurd (omega arith)
several_picks call (offer ∷ offers) d whole some two =
    omega (
      arith,
      length-append (picks_of call offer) (flat_map (picks_of call) offers),
      length_picks call offer (whole 0 offer (omega arith)),
      two,
    )
