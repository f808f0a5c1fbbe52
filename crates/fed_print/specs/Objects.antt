-- Objects of a transcript as JSON data.
use Rattle.std.specs.Prelude.{ℕ, List, [], ◌∷◌, Option, Some, None, map}
use Rattle.serde_json.specs.View.{items_of}
use Rattle.serde_json.specs.Data.{Data, number, unsigned, array, object, Members, no_members, member, put}

abbrev pub count : ℕ → Data
count n = number (unsigned n)

-- a member's name, and its value where it has one
abbrev pub Named : Type 0
Named = List ℕ × Option Data

-- the member before those that follow, where it has a value
abbrev pub member_if : List ℕ → Option Data → Members → Members
member_if name None members = members
member_if name (Some value) members = member name value members

-- the members that have a value, in their order
abbrev pub present : List Named → Members
present [] = no_members
present (m ∷ ms) = member_if m.0 m.1 (present ms)

-- the list of the objects
abbrev pub objects : List Members → Data
objects os = array (items_of (map object os))

-- the members with the value at its name, where there is one
abbrev pub put_if : List ℕ → Option Data → Members → Members
put_if name None members = members
put_if name (Some value) members = put name value members
