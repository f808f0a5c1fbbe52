-- Kept permissions, in order of entering, none twice.
use Rattle.std.specs.Prelude.{ℕ, Bool, not, ◌&&◌, List, [], ◌∷◌, ◌++◌, filter, fold, if◌then◌else◌}
use Rattle.std.specs.List.{list_any, IsDistinct}
use Rattle.indexmap.specs.IndexSet.{remove_key}
use Rattle.fed_origin.specs.declared.origin.Origin.{Origin}
use Rattle.fed_origin.specs.declared.status.Triple.{Triple}
use Rattle.fed_origin.specs.Origin.{same_origin}
use Rattle.fed_origin.specs.Status.{same_triple}

-- the permission of these parts
abbrev pub triple_of : Origin → Origin → List ℕ → Triple
triple_of page provider account = record { page = page; provider = provider; account = account }

-- the permission is among them
abbrev pub has_triple : List Triple → Triple → Bool
has_triple kept triple = list_any (same_triple triple) kept

-- the permissions with this one: one that is there keeps its place, and a new one goes last
abbrev pub with_triple : List Triple → Triple → List Triple
with_triple kept triple = if has_triple kept triple then kept else kept ++ triple ∷ []

-- the permissions without this one, the others in their order
abbrev pub without_triple : List Triple → Triple → List Triple
without_triple kept triple = remove_key (same_triple triple) kept

-- the other permissions
abbrev pub but_triple : Triple → List Triple → List Triple
but_triple triple kept = filter (λ other. not (same_triple triple other)) kept

-- the permission lets accounts of the provider sign in at pages of this origin
abbrev pub is_of_pair : Origin → Origin → Triple → Bool
is_of_pair page provider triple = same_origin page triple.page && same_origin provider triple.provider

-- some permission is of the pair
abbrev pub has_pair : List Triple → Origin → Origin → Bool
has_pair kept page provider = list_any (is_of_pair page provider) kept

-- the permissions that are not of the pair, in their order
abbrev pub without_pair : List Triple → Origin → Origin → List Triple
without_pair kept page provider = filter (λ triple. not (is_of_pair page provider triple)) kept

-- the permissions of the pair, in their order
abbrev pub triples_of_pair : List Triple → Origin → Origin → List Triple
triples_of_pair kept page provider = filter (is_of_pair page provider) kept

-- the permissions without each of these, which go one after the other
abbrev pub without_each : List Triple → List Triple → List Triple
without_each kept triples = fold without_triple kept triples

-- no permission stands twice
abbrev pub HasDistinctTriples : List Triple → Type 0
HasDistinctTriples kept = IsDistinct same_triple kept
