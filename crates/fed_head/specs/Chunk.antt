-- The size line before a chunk, read from the front.
use Rattle.std.specs.Prelude.{ℕ, Bool, ◌&&◌, ◌==◌, nat_lt, nat_le, List, [], ◌∷◌, length, if◌then◌else◌, Option, Some, None, option_map}
use Rattle.std.specs.Char.{is_ascii_hexdigit}
use Rattle.std.specs.Str.Parse.{digits_value}
use Rattle.httparse.specs.Grammar.{skip_ows}

-- the hexadecimal digits at the front
abbrev pub hex_front : List ℕ → List ℕ
hex_front [] = []
hex_front (b ∷ bs) = if is_ascii_hexdigit b then b ∷ hex_front bs else []

-- what follows them
abbrev pub hex_rest : List ℕ → List ℕ
hex_rest [] = []
hex_rest (b ∷ bs) = if is_ascii_hexdigit b then hex_rest bs else b ∷ bs

-- what follows a line feed at the front
abbrev pub after_lf : List ℕ → Option (List ℕ)
after_lf [] = None
after_lf (b ∷ bs) = if b == 10 then Some bs else None

-- what follows the first CR, which a line feed follows
unfoldable pub after_extension : List ℕ → Option (List ℕ)
after_extension [] = None
after_extension (b ∷ bs) =
    if b == 13 then after_lf bs else (if b == 10 then None else after_extension bs)

-- what follows the end of the line, after the digits and blanks
abbrev pub after_digits : List ℕ → Option (List ℕ)
after_digits [] = None
after_digits (b ∷ bs) =
    if b == 13 then after_lf bs else (if b == 59 then after_extension bs else None)

-- one to sixteen digits
abbrev pub is_size : List ℕ → Bool
is_size digits = nat_lt 0 (length digits) && nat_le (length digits) 16

-- the size that the line at the front gives, and what follows the line
unfoldable pub size_line : List ℕ → Option (ℕ × List ℕ)
size_line bytes =
    if is_size (hex_front bytes)
    then option_map (λ rest. (digits_value 16 (hex_front bytes), rest)) (after_digits (skip_ows (hex_rest bytes)))
    else None
