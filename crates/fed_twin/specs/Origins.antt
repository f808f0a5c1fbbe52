-- Which origins two scripts name together, event by event.
use Rattle.std.specs.Prelude.{◌≡◌, Bool, true, nat_eq, ◌&&◌, List, [], ◌∷◌, ◌↔◌}
use Rattle.std.specs.List.{position_or_len}
use Rattle.indexmap.specs.IndexSet.{insert_key}
use Rattle.fed_origin.specs.declared.origin.Origin.{Origin}
use Rattle.fed_origin.specs.Origin.{same_origin}
use Rattle.fed_twin.specs.Twin.{AreOneToOne}

-- the origins that each script named so far, in the order of their first naming
pub record Named : Type 0 where
  pub first : List Origin
  pub second : List Origin

abbrev pub nobody : Named
nobody = record { first = []; second = [] }

-- after two events name these
abbrev pub and_named : Named → Origin × Origin → Named
and_named n p = record { first = insert_key same_origin n.first p.0; second = insert_key same_origin n.second p.1 }

-- the two origins have one number, or are both new
abbrev pub have_one_number : Named → Origin × Origin → Bool
have_one_number n p = nat_eq (position_or_len (same_origin p.0) n.first) (position_or_len (same_origin p.1) n.second)

abbrev pub all_have : Named → List (Origin × Origin) → Bool
all_have n [] = true
all_have n (p ∷ ps) = have_one_number n p && all_have (and_named n p) ps

-- the test by numbers decides the clause on origins
abbrev pub NumbersDecide : Type 0
NumbersDecide = (ps : List (Origin × Origin)) → (all_have nobody ps ≡ true) ↔ AreOneToOne ps

-- a pair is equal to one that was named before in both scripts or in neither
abbrev pub Agree : Origin × Origin → Origin × Origin → Type 0
Agree p q = same_origin p.0 q.0 ≡ same_origin p.1 q.1

-- the names after these pairs
abbrev pub names_after : Named → List (Origin × Origin) → Named
names_after n [] = n
names_after n (p ∷ ps) = names_after (and_named n p) ps
