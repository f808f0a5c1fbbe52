-- The fields of a reply: a multimap from names in lower case to values.
use Rattle.std.specs.Prelude.{ℕ, Bool, false, ◌&&◌, List, [], ◌∷◌, map, filter, slice_get, bytes_eq, Option, Result, Ok, Err, if◌then◌else◌}
use Rattle.std.specs.List.{list_all}
use Rattle.http_header.specs.Token.{lowercase, is_value_byte}
use Rattle.http_header.specs.FieldName.{is_field_name}
use Rattle.http_header.specs.FieldValue.{FieldValue, plain_value}
use Rattle.http_header.specs.HeaderMap.{Entries, append_all, get_all}
use Rattle.fed_head.specs.Section.{FieldPair}
use Rattle.fed_reply.specs.declared.step.ReplyStep.{ReplyStep}
use Rattle.fed_reply.specs.declared.step.ReplyStep.TheVariants.{Head}

-- each name with its values, in the order in which they stand in the reply
abbrev pub Fields : Type 0
Fields = Entries FieldValue

-- a field as it is kept: its name in lower case, and its value
abbrev pub kept_field : FieldPair → List ℕ × FieldValue
kept_field p = (lowercase p.0, plain_value p.1)

-- the multimap of some fields, in their order
abbrev pub fields_of : List FieldPair → Fields
fields_of pairs = append_all [] (map kept_field pairs)

-- `http_header` takes the name, of at most 65,535 bytes, and the value
unfoldable pub is_taken_field : FieldPair → Bool
is_taken_field p = is_field_name p.0 && list_all is_value_byte p.1

-- the values under a name in lower case, in the reply's order
abbrev pub values : List ℕ → Fields → List (List ℕ)
values name fields = map (λ v. v.bytes) (get_all fields name)

-- the k-th of these values, from 0
abbrev pub value_at : List ℕ → ℕ → Fields → Option (List ℕ)
value_at name k fields = slice_get (values name fields) k

-- there is exactly one value, and it is this one
abbrev pub is_only : List ℕ → List (List ℕ) → Bool
is_only value [] = false
is_only value (v ∷ []) = bytes_eq v value
is_only value (v ∷ w ∷ vs) = false

-- the bytes are the word, in any case
abbrev pub is_word : List ℕ → List ℕ → Bool
is_word word bytes = bytes_eq (lowercase bytes) word

-- for private clauses: the values of the fields of a name in lower case, in their order
unfoldable pub values_in : List ℕ → List FieldPair → List (List ℕ)
values_in name pairs = map (λ p. p.1) (filter (λ p. is_word name p.0) pairs)

-- the multimap of fields that are all taken
abbrev pub taken_fields : List FieldPair → Result Fields ReplyStep
taken_fields pairs = if list_all is_taken_field pairs then Ok (fields_of pairs) else Err Head
