-- Which accounts are connected to a client, and which one is signed in again without a choice.
use Rattle.std.specs.Prelude.{ℕ, suc, Bool, true, false, ◌&&◌, ◌||◌, List, [], ◌∷◌, ◌++◌, map, filter, zip, bytes_eq, Option, Some}
use Rattle.std.specs.Prelude.{None}
use Rattle.std.specs.Prelude.{if◌then◌else◌}
use Rattle.std.specs.List.{list_any, enumerate_from}
use Rattle.fed_origin.specs.declared.options.Mediation.{Mediation}
use Rattle.fed_origin.specs.declared.options.Mediation.TheVariants.{Silent, Optional, Required}
use Rattle.fed_accounts.specs.declared.account.Account.{Account}
use Rattle.fed_accounts.specs.declared.offer.Offer.{Offer}

abbrev pub has_text : List ℕ → List (List ℕ) → Bool
has_text text texts = list_any (λ t. bytes_eq t text) texts

-- the client is among the approved ones, where they are listed, and else `unlisted` says
abbrev pub approves : List ℕ → Bool → Option (List (List ℕ)) → Bool
approves client unlisted None = unlisted
approves client unlisted (Some clients) = has_text client clients

-- The account is connected to the client: by its list of approved clients, and where it has none by
-- the permission that is kept.
abbrev pub Connected : Account → List ℕ → Bool → Bool
Connected account client kept = approves client kept account.approved

-- the permission is kept, and the client is approved or the account has no list of approved clients
abbrev pub Eligible : Account → List ℕ → Bool → Bool
Eligible account client kept = kept && approves client true account.approved

-- an account that stands at a place, and whether its permission is kept
abbrev pub is_eligible : List ℕ → ℕ × (Account × Bool) → Bool
is_eligible client entry = Eligible entry.1.0 client entry.1.1

-- the places of the eligible accounts, where the first has the place n
abbrev pub eligible_places : ℕ → List ℕ → List Account → List Bool → List ℕ
eligible_places n client accounts kept =
    map (λ entry. entry.0) (filter (is_eligible client) (enumerate_from n (zip accounts kept)))

-- the item of a list of exactly one
abbrev pub only : {A : Type 0} → List A → Option A
only [] = None
only (n ∷ []) = Some n
only (n ∷ m ∷ ns) = None

abbrev pub is_required : Mediation → Bool
is_required Silent = false
is_required Optional = false
is_required Required = true

-- the places of the eligible accounts of these offers, each with that of its offer, where the first offer has the place n
abbrev pub eligible_pairs : ℕ → List Offer → List (ℕ × ℕ)
eligible_pairs n [] = []
eligible_pairs n (offer ∷ offers) =
    map (λ place. (n, place)) (eligible_places 0 offer.client offer.accounts offer.kept) ++ eligible_pairs (suc n) offers

-- the places of the only eligible account of all; none where the flag is set or mediation is required
abbrev pub Reselect : List Offer → Bool → Mediation → Option (ℕ × ℕ)
Reselect offers flag mediation = if flag || is_required mediation then None else only (eligible_pairs 0 offers)
