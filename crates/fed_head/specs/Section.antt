-- A block of field lines, read line by line.
use Rattle.std.specs.Prelude.{ℕ, Bool, true, false, ◌&&◌, ◌==◌, nat_lt, nat_le, List, [], ◌∷◌, ◌++◌, length, if◌then◌else◌, Option, Some}
use Rattle.std.specs.Prelude.{None, option_map, option_and_then}
use Rattle.std.specs.List.{list_all}
use Rattle.httparse.specs.Grammar.{is_token_byte, is_value_byte, trim_ows, Field}

-- a name, and the value with the white space around it
abbrev pub FieldPair : Type 0
FieldPair = List ℕ × List ℕ

-- the name and the raw value of a field
abbrev pub field_pair : Field → FieldPair
field_pair f = (f.name, f.raw)

-- the name, and the value without white space at its ends
abbrev pub name_and_trimmed : FieldPair → FieldPair
name_and_trimmed p = (p.0, trim_ows p.1)

-- the bytes without one CR at the end
unfoldable pub without_cr : List ℕ → List ℕ
without_cr [] = []
without_cr (b ∷ []) = if b == 13 then [] else b ∷ []
without_cr (b ∷ c ∷ bs) = b ∷ without_cr (c ∷ bs)

-- the token bytes before the first colon, and what follows the colon
unfoldable pub name_split : List ℕ → Option FieldPair
name_split [] = None
name_split (b ∷ bs) =
    if b == 58 then Some ([], bs)
    else (if is_token_byte b then option_map (λ p. (b ∷ p.0, p.1)) (name_split bs) else None)

-- a field line
unfoldable pub field_of : List ℕ → Option FieldPair
field_of line =
    option_and_then (λ p. if nat_lt 0 (length p.0) && list_all is_value_byte p.1 then Some p else None) (name_split line)

-- there are no bytes
abbrev pub is_blank : List ℕ → Bool
is_blank [] = true
is_blank (b ∷ bs) = false

-- the fields up to the first empty line, and what follows it; line is what was read of the present line
unfoldable pub section_from : List ℕ → List ℕ → Option (List FieldPair × List ℕ)
section_from line [] = None
section_from line (b ∷ bs) =
    if b == 10
    then (if is_blank (without_cr line) then Some ([], bs)
    else option_and_then (λ f. option_map (λ r. (f ∷ r.0, r.1)) (section_from [] bs)) (field_of (without_cr line)))
    else section_from (line ++ b ∷ []) bs

-- the fields of a block, and what follows it
abbrev pub section_of : List ℕ → Option (List FieldPair × List ℕ)
section_of bytes = section_from [] bytes

-- the number of fields is at most n
abbrev pub is_section_within : ℕ → Option (List FieldPair × List ℕ) → Bool
is_section_within n None = false
is_section_within n (Some s) = nat_le (length s.0) n

-- the bytes begin with a block of at most n fields
abbrev pub has_section : ℕ → List ℕ → Bool
has_section n bytes = is_section_within n (section_of bytes)
