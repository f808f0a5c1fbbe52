-- What the tokens that are left of a text hold, read from left to right.
use Rattle.std.specs.Prelude.{◌≡◌, ℕ, suc, List, [], ◌∷◌, length, Option, Some, None, option_and_then, Result, Ok, Err, ⊤}
use Rattle.json.specs.Token.{Token}
use Rattle.json.specs.Json as json
use Rattle.json.specs.Json.{parse_map}
use Rattle.serde_json.specs.Data.{Data, null, boolean, string, array, object, Items, Members, no_members}
use Rattle.serde_json.specs.Read.{number_of, of_json, of_items, of_members, converted}
use Rattle.fed_io.specs.declared.error.Fault.{Fault}
use Rattle.fed_io.specs.declared.error.Fault.TheVariants.{Step, NoRoom}
use Rattle.fed_json.specs.Value.{number_or_negative}
use Rattle.fed_json.specs.declared.reading.Begun.{Begun}
use Rattle.fed_json.specs.declared.reading.Invalid.{Invalid}
use Rattle.fed_json.specs.declared.reading.Begun.TheVariants.{Null, Bool, Number, Text, Array, Object}

-- the data of the value that the tokens begin with, of at most so many levels, and the tokens after it
unfoldable pub value_in : ℕ → List Token → Option (Data × List Token)
value_in depth ts = converted of_json (json.value depth ts)

-- the same of the items that are left of an array
unfoldable pub items_in : ℕ → List Token → Option (Items × List Token)
items_in depth ts = converted of_items (json.items (json.value depth) (length ts) ts)

-- the members of an object, those found and then those that are left; of several of one name the last
unfoldable pub members_in : ℕ → Members → List Token → Option (Members × List Token)
members_in depth found ts = converted (λ ms. of_members ms found) (json.members (json.value depth) (length ts) ts)

-- the same of a value of which this was taken
abbrev pub begun_in : Begun → List Token → Option (Data × List Token)
begun_in Null ts = Some (null, ts)
begun_in (Bool b) ts = Some (boolean b, ts)
begun_in (Number s) ts = Some (number_or_negative (number_of s.now), ts)
begun_in (Text s) ts = Some (string s.now, ts)
begun_in (Array depth) ts = parse_map array (items_in depth ts)
begun_in (Object depth) ts = parse_map object (members_in depth no_members ts)

abbrev pub if_done : Data × List Token → Option Data
if_done (d, []) = Some d
if_done (d, t ∷ ts) = None

-- the data of the value that the tokens are, where nothing is left after it
abbrev pub whole_in : List Token → Option Data
whole_in ts = option_and_then if_done (value_in 127 ts)

-- what was read is such data, and these tokens are left
abbrev pub Took : {D : Type 0} → (D → Type 0) → Option (D × List Token) → List Token → Type 0
Took {D} P read left = (d : D) × (read ≡ Some (d, left)) × P d

-- nothing was read, unless there was no memory
abbrev pub Refused : {D : Type 0} → Option (D × List Token) → Fault Invalid → Type 0
Refused read (Step invalid) = read ≡ None
Refused read NoRoom = ⊤

-- such data was read as x, or none
abbrev pub Takes : {X D : Type 0} → (X → D → Type 0) → Option (D × List Token) → Result X (Fault Invalid) → List Token → Type 0
Takes P read (Ok x) left = Took (P x) read left
Takes P read (Err fault) left = Refused read fault

-- data of a value that begins so
abbrev pub IsBegun : Begun → Data → Type 0
IsBegun Null d = d ≡ null
IsBegun (Bool b) d = d ≡ boolean b
IsBegun (Number s) d = d ≡ number_or_negative (number_of s.now)
IsBegun (Text s) d = d ≡ string s.now
IsBegun (Array depth) d = (ds : Items) × (d ≡ array ds)
IsBegun (Object depth) d = (ms : Members) × (d ≡ object ms)

-- how many levels a value that begins so may have
abbrev pub levels : Begun → ℕ
levels Null = 0
levels (Bool b) = 0
levels (Number s) = 0
levels (Text s) = 0
levels (Array depth) = suc depth
levels (Object depth) = suc depth
