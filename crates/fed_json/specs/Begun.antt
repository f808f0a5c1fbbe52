-- What is asked of a value of which the beginning was taken.
use Rattle.serde_json.specs.Data.{Data, null, boolean, string, array, object, no_items, no_members}
use Rattle.serde_json.specs.Read.{number_of}
use Rattle.fed_json.specs.declared.reading.Begun.{Begun}
use Rattle.fed_json.specs.declared.reading.Begun.TheVariants.{Null, Bool, Number, Text, Array, Object}
use Rattle.fed_json.specs.Value.{number_or_negative}

-- the data of a value that begins so; an array and an object stand for all such
abbrev pub begun_data : Begun → Data
begun_data Null = null
begun_data (Bool b) = boolean b
begun_data (Number s) = number_or_negative (number_of s.now)
begun_data (Text s) = string s.now
begun_data (Array depth) = array no_items
begun_data (Object depth) = object no_members
