-- The bytes of a label that the tree keeps, for private clauses.
use Rattle.std.specs.Prelude.{ℕ, ◌≤◌, List, take}
use Rattle.fed_suffix.specs.declared.stored_label.Place.{Place}
use Rattle.fed_suffix.specs.declared.stored_label.Place.TheVariants.{Here, There}

abbrev pub bytes_at : Place → List ℕ
bytes_at (Here len bytes) = take len bytes
bytes_at (There bytes) = bytes.value.items

-- what stands in the label itself stands in its array
abbrev pub FitsHere : Place → Type 0
FitsHere (Here len bytes) = len ≤ 14
FitsHere (There bytes) = Unit {0}
