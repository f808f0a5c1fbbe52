-- The origins whose prevent-silent flag is set, in order of setting, none twice.
use Rattle.std.specs.Prelude.{Bool, not, List, [], ◌∷◌, ◌++◌, filter, if◌then◌else◌}
use Rattle.std.specs.List.{list_any, IsDistinct}
use Rattle.indexmap.specs.IndexSet.{remove_key}
use Rattle.fed_origin.specs.declared.origin.Origin.{Origin}
use Rattle.fed_origin.specs.Origin.{same_origin}

-- the flag of the origin is set
abbrev pub has_flag : List Origin → Origin → Bool
has_flag flags origin = list_any (same_origin origin) flags

-- the flags with this one: one that is there keeps its place, and a new one goes last
abbrev pub with_flag : List Origin → Origin → List Origin
with_flag flags origin = if has_flag flags origin then flags else flags ++ origin ∷ []

-- the flags without this one, the others in their order
abbrev pub without_flag : List Origin → Origin → List Origin
without_flag flags origin = remove_key (same_origin origin) flags

-- the flags of the other origins
abbrev pub but_flag : Origin → List Origin → List Origin
but_flag origin flags = filter (λ flag. not (same_origin origin flag)) flags

-- no origin stands twice
abbrev pub HasDistinctFlags : List Origin → Type 0
HasDistinctFlags flags = IsDistinct same_origin flags
