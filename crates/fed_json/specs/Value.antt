-- The value that bytes are, and what a number is.
use Rattle.std.specs.Prelude.{ℕ, negsuc, List, Option, Some, None, if◌then◌else◌}
use Rattle.std.specs.Str.{is_utf8}
use Rattle.serde_json.specs.Data.{Num, negative, Data, number}
use Rattle.serde_json.specs.Read.{read}

-- what `serde_json` reads of the bytes, where they are UTF-8
abbrev pub value_of : List ℕ → Option Data
value_of bytes = if is_utf8 bytes then read bytes else None

-- what a number is; one out of range, which stands in no text that is read, is one below zero, which no call asks for
abbrev pub number_or_negative : Option Num → Data
number_or_negative None = number (negative (negsuc 0))
number_or_negative (Some n) = number n
