-- What the definitions of a reply promise of each other.
use Rattle.std.specs.Prelude.{◌≡◌, ℕ, List, map, filter, Some, Ok}
use Rattle.fed_head.specs.Head.{HeadParts, head_of}
use Rattle.fed_head.specs.Section.{FieldPair}
use Rattle.httparse.specs.Grammar.{trim_ows}
use Rattle.fed_reply.specs.Parts.{ReplyParts}
use Rattle.fed_reply.specs.Fields.{values, is_word}
use Rattle.fed_reply.specs.Body.{chunks}
use Rattle.fed_reply.specs.Chunked.{IsChunkedBody}
use Rattle.fed_reply.specs.Reply.{ReplyOf}

-- the values of the fields of that name, in any case, in the order in which they stand
abbrev pub named_values : List ℕ → List FieldPair → List (List ℕ)
named_values name pairs = map (λ p. trim_ows p.1) (filter (λ p. is_word name p.0) pairs)

-- a reply has the head that its bytes begin with, and under each name in lower case the values of
-- the fields of that name
pub record HasFieldsOf (raw : List ℕ) (reply : ReplyParts) : Type 0 where
  pub head : HeadParts
  pub is : head_of raw ≡ Some head
  pub status : reply.status ≡ head.status
  pub fields : (name : List ℕ) → values name reply.fields ≡ named_values name head.fields

abbrev pub ReplyHasItsFields : Type 0
ReplyHasItsFields = (raw : List ℕ) (reply : ReplyParts) → ReplyOf raw ≡ Ok reply → HasFieldsOf raw reply

-- a chunked body that is written as it should be is read as the bytes of its chunks
abbrev pub ChunkedBodyIsRead : Type 0
ChunkedBodyIsRead = (raw body : List ℕ) → IsChunkedBody raw body → chunks raw ≡ Ok body

-- what is read as a chunked body is written as one
abbrev pub ChunkedBodyIsThere : Type 0
ChunkedBodyIsThere = (raw body : List ℕ) → chunks raw ≡ Ok body → IsChunkedBody raw body
