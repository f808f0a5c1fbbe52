-- The numbers under which the origins in kept permissions are known.
use Rattle.std.specs.Prelude.{◌≡◌, ℕ, ◌^◌, Bool, true, false, ◌&&◌, ◌==◌, nat_lt, List, position, bytes_eq, if◌then◌else◌}
use Rattle.std.specs.Prelude.{Option, Some, None, is_some, option_and_then, option_map}
use Rattle.std.specs.Option.{option_map_or}
use Rattle.fed_origin.specs.declared.origin.Origin.{Origin}
use Rattle.fed_origin.specs.declared.status.Triple.{Triple}
use Rattle.fed_origin.specs.Origin.{same_origin}
use Rattle.fed_status.specs.declared.names.Names.{Names}
use Rattle.fed_status.specs.declared.names.Pair.{Pair}

-- a number that 32 bits hold
abbrev pub small : ℕ → Option ℕ
small number = if nat_lt number (2 ^ 32) then Some number else None

abbrev pub origin_number : Names → Origin → Option ℕ
origin_number names origin = option_and_then small (position (same_origin origin) names.origins.keys)

-- what has a number keeps it
abbrev pub KeepsNumbers : {K : Type 0} → (K → K → Bool) → List K → List K → Type 0
KeepsNumbers {K} same old new =
    (key : K) (number : ℕ) → position (same key) old ≡ Some number → position (same key) new ≡ Some number

-- names were added at most
abbrev pub Grows : Names → Names → Type 0
Grows old new = KeepsNumbers same_origin old.origins.keys new.origins.keys

-- ---- pairs of a page's origin and a provider

abbrev pub same_pair : Pair → Pair → Bool
same_pair a b = a.page == b.page && a.provider == b.provider

-- the numbers of a pair, where each part has one
abbrev pub pair_of : Names → Origin → Origin → Option Pair
pair_of names page provider =
    option_and_then (λ p. option_map (λ q. record { page = p; provider = q }) (origin_number names provider)) (origin_number names page)

-- both origins of the permission have a number
abbrev pub HasNumbers : Names → ℕ × Triple → Type 0
HasNumbers names entry = is_some (pair_of names entry.1.page entry.1.provider) ≡ true

-- the permission is of the pair with these numbers
abbrev pub is_numbered : Names → Pair → Triple → Bool
is_numbered names pair triple = option_map_or (same_pair pair) (pair_of names triple.page triple.provider) false

-- and it is for this account
abbrev pub is_for : Names → Pair → List ℕ → Triple → Bool
is_for names pair account triple = is_numbered names pair triple && bytes_eq account triple.account
