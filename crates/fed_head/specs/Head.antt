-- The head of a response, read line by line.
use Rattle.std.specs.Prelude.{◌≡◌, ℕ, Bool, true, ◌&&◌, ◌||◌, ◌==◌, List, [], ◌∷◌, ◌++◌, if◌then◌else◌, Option, Some, None, option_map}
use Rattle.std.specs.Prelude.{option_and_then, map, length, nat_le, codes, bytes_eq}
use Rattle.std.specs.List.{list_all}
use Rattle.std.specs.Char.{is_ascii_digit}
use Rattle.std.specs.Str.Parse.{digits_value}
use Rattle.httparse.specs.Grammar.{is_value_byte, ResponseHead, ReadsResponse, status_code}
use Rattle.fed_head.specs.Section.{FieldPair, field_pair, without_cr, is_blank, section_of}

-- the first line that is not empty, and what follows it; line is what was read of the present line
unfoldable pub first_line : List ℕ → List ℕ → Option (List ℕ × List ℕ)
first_line line [] = None
first_line line (b ∷ bs) =
    if b == 10 then (if is_blank (without_cr line) then first_line [] bs else Some (without_cr line, bs))
    else first_line (line ++ b ∷ []) bs

-- nothing, or a space and a phrase
abbrev pub is_reason : List ℕ → Bool
is_reason [] = true
is_reason (b ∷ bs) = b == 32 && list_all is_value_byte bs

-- HTTP/1.0 or HTTP/1.1 and a space
abbrev pub is_version : List ℕ → Bool
is_version bytes = bytes_eq bytes (codes "HTTP/1.0 ") || bytes_eq bytes (codes "HTTP/1.1 ")

-- three digits
abbrev pub is_code : ℕ → ℕ → ℕ → Bool
is_code x y z = is_ascii_digit x && (is_ascii_digit y && is_ascii_digit z)

-- the code of a status line
unfoldable pub status_of : List ℕ → Option ℕ
status_of (a ∷ b ∷ c ∷ d ∷ e ∷ f ∷ g ∷ m ∷ s ∷ x ∷ y ∷ z ∷ rest) =
    if is_version (a ∷ b ∷ c ∷ d ∷ e ∷ f ∷ g ∷ m ∷ s ∷ []) && (is_code x y z && is_reason rest)
    then Some (digits_value 10 (x ∷ y ∷ z ∷ [])) else None
status_of line = None

-- status, fields and what follows the head
pub record HeadParts : Type 0 where
  pub status : ℕ
  pub fields : List FieldPair
  pub rest : List ℕ

-- the head that the bytes begin with
unfoldable pub head_of : List ℕ → Option HeadParts
head_of raw =
    option_and_then (λ l. option_and_then
    (λ code. option_map (λ s. record { status = code; fields = s.0; rest = s.1 }) (section_of l.1))
    (status_of l.0)) (first_line [] raw)

-- what was found is a head of the grammar
pub record IsHeadOf (buf : List ℕ) (found : HeadParts) : Type 0 where
  pub head : ResponseHead
  pub reads : ReadsResponse buf head found.rest
  pub status : found.status ≡ status_code head
  pub fields : found.fields ≡ map field_pair head.fields

-- the head, unless it has more than n fields
abbrev pub within : ℕ → Option HeadParts → Option HeadParts
within n None = None
within n (Some h) = if nat_le (length h.fields) n then Some h else None
