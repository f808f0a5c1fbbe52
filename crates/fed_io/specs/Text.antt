-- The bytes of a text, wherever they stand.
use Rattle.std.specs.Prelude.{ℕ, List, string_bytes}
use Rattle.fed_io.specs.declared.text.Place.{Place}
use Rattle.fed_io.specs.declared.text.Place.TheVariants.{Here, There}

abbrev pub bytes_at : Place → List ℕ
bytes_at (Here text) = text.bytes
bytes_at (There text) = string_bytes text
