-- How a reply's body is framed (RFC 9112, 6 and 7.1), and the body.
use Rattle.std.specs.Prelude.{ℕ, zero, suc, Bool, false, ◌&&◌, ◌==◌, nat_lt, nat_le, List, [], ◌∷◌, ◌++◌, length, take}
use Rattle.std.specs.Prelude.{drop, codes}
use Rattle.std.specs.Prelude.{bytes_eq, Option, Some, None, Result, Ok, Err, if◌then◌else◌}
use Rattle.std.specs.List.{list_all}
use Rattle.std.specs.Char.{is_ascii_digit}
use Rattle.std.specs.Str.Parse.{digits_value}
use Rattle.fed_head.specs.Chunk.{size_line}
use Rattle.fed_head.specs.Section.{has_section}
use Rattle.fed_reply.specs.declared.framing.Framing.{Framing}
use Rattle.fed_reply.specs.declared.framing.Framing.TheVariants.{Chunked, Counted, ToTheEnd}
use Rattle.fed_reply.specs.declared.step.ReplyStep.{ReplyStep}
use Rattle.fed_reply.specs.declared.step.ReplyStep.TheVariants.{Coding, Length, Chunk, Short}
use Rattle.fed_reply.specs.Fields.{Fields, values, is_word}
use Rattle.fed_reply.specs.Steps.{and_then, with_ok}

-- ---- framing

-- the one value `chunked`
abbrev pub is_chunked : List (List ℕ) → Bool
is_chunked [] = false
is_chunked (v ∷ []) = is_word (codes "chunked") v
is_chunked (v ∷ w ∷ vs) = false

-- 1 to 19 decimal digits
abbrev pub is_length : List ℕ → Bool
is_length v = nat_lt 0 (length v) && (nat_le (length v) 19 && list_all is_ascii_digit v)

-- the number that they write
abbrev pub length_of : List ℕ → Option ℕ
length_of v = if is_length v then Some (digits_value 10 v) else None

-- a body of that length, where it is one
abbrev pub counted : Option ℕ → Result Framing ReplyStep
counted None = Err Length
counted (Some n) = Ok (Counted n)

-- the framing by the `content-length` values, which have to be one and the same
abbrev pub counted_by : List (List ℕ) → Result Framing ReplyStep
counted_by [] = Ok ToTheEnd
counted_by (v ∷ vs) = if list_all (bytes_eq v) vs then counted (length_of v) else Err Length

-- the framing by the `transfer-encoding` values, which count before the `content-length` values
abbrev pub framed_by : List (List ℕ) → List (List ℕ) → Result Framing ReplyStep
framed_by [] lengths = counted_by lengths
framed_by (v ∷ vs) lengths = if is_chunked (v ∷ vs) then Ok Chunked else Err Coding

-- the framing of a body by the reply's fields
unfoldable pub framing_of : Fields → Result Framing ReplyStep
framing_of fields =
    if list_all (is_word (codes "identity")) (values (codes "content-encoding") fields)
    then framed_by (values (codes "transfer-encoding") fields) (values (codes "content-length") fields)
    else Err Coding

-- ---- chunks

-- what follows the LF that should stand here
abbrev pub after_lf : List ℕ → Result (List ℕ) ReplyStep
after_lf [] = Err Short
after_lf (b ∷ bytes) = if b == 10 then Ok bytes else Err Chunk

-- what follows the CRLF that should stand here
abbrev pub after_crlf : List ℕ → Result (List ℕ) ReplyStep
after_crlf [] = Err Short
after_crlf (b ∷ bytes) = if b == 13 then after_lf bytes else Err Chunk

-- what follows a chunk of that size and its CRLF
abbrev pub after_chunk : ℕ → List ℕ → Result (List ℕ) ReplyStep
after_chunk size bytes = if nat_le (length bytes) size then Err Short else after_crlf (drop size bytes)

-- the end of the chunks, where a trailer of at most 128 fields should stand
abbrev pub last_chunk : List ℕ → Result (List ℕ) ReplyStep
last_chunk bytes = if has_section 128 bytes then Ok [] else Err Chunk

-- the chunk whose size line was found, and those that follow it, which `further` reads
abbrev pub chunk_and : (List ℕ → Result (List ℕ) ReplyStep) → Option (ℕ × List ℕ) → Result (List ℕ) ReplyStep
chunk_and further None = Err Chunk
chunk_and further (Some line) =
    if line.0 == 0 then last_chunk line.1
    else and_then (λ rest. with_ok (λ body. take line.0 line.1 ++ body) (further rest)) (after_chunk line.0 line.1)

-- the bytes of the chunks, where n is at least the number of size lines
unfoldable pub chunks_within : ℕ → List ℕ → Result (List ℕ) ReplyStep
chunks_within zero bytes = Err Chunk
chunks_within (suc n) bytes = chunk_and (chunks_within n) (size_line bytes)

-- the bytes of the chunks, whose size lines are not empty
abbrev pub chunks : List ℕ → Result (List ℕ) ReplyStep
chunks bytes = chunks_within (length bytes) bytes

-- ---- the body

-- the body that is framed so, at the front of the bytes after the head
abbrev pub framed : List ℕ → Framing → Result (List ℕ) ReplyStep
framed rest Chunked = chunks rest
framed rest (Counted n) = if nat_le n (length rest) then Ok (take n rest) else Err Short
framed rest ToTheEnd = Ok rest

-- the body of a reply with those fields and those bytes after its head
abbrev pub body_of : Fields → List ℕ → Result (List ℕ) ReplyStep
body_of fields rest = and_then (framed rest) (framing_of fields)
