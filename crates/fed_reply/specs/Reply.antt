-- Replies, as functions of their bytes.
use Rattle.std.specs.Prelude.{◌≡◌, ◌≤◌, length, drop, ℕ, Bool, ◌&&◌, nat_le, nat_lt, List, [], map, Option, Some, None}
use Rattle.std.specs.Prelude.{Result, Ok, Err}
use Rattle.std.specs.Prelude.{if◌then◌else◌}
use Rattle.std.specs.List.{list_all}
use Rattle.fed_io.specs.declared.error.Fault.{Fault}
use Rattle.fed_io.specs.Fault.{Refuses}
use Rattle.fed_reply.specs.declared.read.Front.{Front}
use Rattle.fed_head.specs.Head.{HeadParts, head_of, within}
use Rattle.fed_head.specs.Section.{name_and_trimmed}
use Rattle.fed_reply.specs.declared.step.ReplyStep.{ReplyStep}
use Rattle.fed_reply.specs.declared.step.ReplyStep.TheVariants.{Head}
use Rattle.fed_reply.specs.Parts.{ReplyParts}
use Rattle.fed_reply.specs.Fields.{fields_of, is_taken_field}
use Rattle.fed_reply.specs.Body.{framing_of, body_of}
use Rattle.fed_reply.specs.Steps.{and_then, with_ok}

-- a status code (RFC 9110, 15): three digits, the first of them not 0
abbrev pub is_status : ℕ → Bool
is_status n = nat_le 100 n && nat_lt n 1000

-- the status is one, and each field is taken
abbrev pub is_taken_head : HeadParts → Bool
is_taken_head h = is_status h.status && list_all is_taken_field (map name_and_trimmed h.fields)

-- the head, if there is one that is taken
abbrev pub taken_head : Option HeadParts → Result HeadParts ReplyStep
taken_head None = Err Head
taken_head (Some h) = if is_taken_head h then Ok h else Err Head

-- the head of at most 128 fields at the front of the bytes
unfoldable pub FrontOf : List ℕ → Result HeadParts ReplyStep
FrontOf raw = taken_head (within 128 (head_of raw))

-- a reply with that head and that body
abbrev pub reply_with : HeadParts → List ℕ → ReplyParts
reply_with h body = record { status = h.status; fields = fields_of (map name_and_trimmed h.fields); body = body }

-- the head alone, with an empty body
unfoldable pub HeadOf : List ℕ → Result ReplyParts ReplyStep
HeadOf raw = with_ok (λ h. reply_with h []) (FrontOf raw)

-- the head and the body
unfoldable pub ReplyOf : List ℕ → Result ReplyParts ReplyStep
ReplyOf raw =
    and_then (λ h. with_ok (reply_with h) (body_of (fields_of (map name_and_trimmed h.fields)) h.rest)) (FrontOf raw)

-- the status, the fields, the framing of the body and the end of the head are those
pub record IsFrontOf (raw : List ℕ) (head : HeadParts) (front : Front) : Type 0 where
  pub status : front.status ≡ head.status
  pub fields : front.fields ≡ fields_of (map name_and_trimmed head.fields)
  pub framing : front.framing ≡ framing_of (fields_of (map name_and_trimmed head.fields))
  pub rest : drop front.len raw ≡ head.rest
  pub len : front.len ≤ length raw

-- the head that was read is the expected one, unless there was no memory
abbrev pub FindsFront : List ℕ → Result HeadParts ReplyStep → Result Front (Fault ReplyStep) → Type 0
FindsFront raw expected (Ok front) = (head : HeadParts) × (expected ≡ Ok head) × IsFrontOf raw head front
FindsFront raw expected (Err fault) = Refuses fault expected
