-- Values that come and go under keys.
use Rattle.std.specs.Prelude.{Bool, List, [], ◌∷◌, Option, Some, None, if◌then◌else◌}
use Rattle.std.specs.Option.{option_or}
use Rattle.indexmap.specs.IndexMap.{insert_entry, shift_remove_entry}

-- What is said of a key: it has this value from now on, or it has none.
abbrev pub Change : Type 0 → Type 0 → Type 0
Change K V = K × Option V

-- the entries after a value comes under a key or goes: a key that is there keeps its place, and a new one goes last
abbrev pub put_or_drop : {K V : Type 0} → (K → K → Bool) → K → Option V → List (K × V) → List (K × V)
put_or_drop same k (Some v) entries = insert_entry same entries k v
put_or_drop same k None entries = shift_remove_entry (same k) entries

abbrev pub changed : {K V : Type 0} → (K → K → Bool) → Option (Change K V) → List (K × V) → List (K × V)
changed same None entries = entries
changed same (Some c) entries = put_or_drop same c.0 c.1 entries

-- the entries after what happened, in its order
abbrev pub entries_after : {E K V : Type 0} → (K → K → Bool) → (E → Option (Change K V)) → List E → List (K × V) → List (K × V)
entries_after same change [] entries = entries
entries_after same change (e ∷ es) entries = entries_after same change es (changed same (change e) entries)

abbrev pub says : {K V : Type 0} → (K → K → Bool) → K → Option (Change K V) → Option (Option V)
says same k None = None
says same k (Some c) = if same k c.0 then Some c.1 else None

-- the last that is said of the key
abbrev pub last_said : {E K V : Type 0} → (K → K → Bool) → (E → Option (Change K V)) → K → List E → Option (Option V)
last_said same change k [] = None
last_said same change k (e ∷ es) = option_or (last_said same change k es) (says same k (change e))
