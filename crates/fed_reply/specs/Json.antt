-- The JSON value of a reply.
use Rattle.std.specs.Prelude.{◌≡◌, ◌≤◌, ℕ, Bool, false, not, ◌&&◌, ◌||◌, ◌==◌, ◌-◌, nat_eq, nat_le, nat_lt, List, [], ◌∷◌}
use Rattle.std.specs.Prelude.{length, take, drop, map, codes}
use Rattle.std.specs.Prelude.{Option, Some, None, ok_or, Result, Ok, Err, if◌then◌else◌}
use Rattle.std.specs.Borrow.{Bor}
use Rattle.std.specs.List.{before_first, after_first, list_all}
use Rattle.std.specs.Cmp.Lexicographic.{pointwise}
use Rattle.httparse.specs.Grammar.{is_token, trim_ows}
use Rattle.json.specs.Token.{Token}
use Rattle.serde_json.specs.Data.{Data}
use Rattle.fed_io.specs.declared.error.Fault.{Fault}
use Rattle.fed_io.specs.Fault.{Refuses}
use Rattle.fed_json.specs.Value.{value_of}
use Rattle.fed_json.specs.Values.{whole_in}
use Rattle.fed_reply.specs.declared.step.ReplyStep.{ReplyStep}
use Rattle.fed_reply.specs.declared.step.ReplyStep.TheVariants.{Status, Mime, Json}
use Rattle.fed_reply.specs.Parts.{ReplyParts}
use Rattle.fed_head.specs.Head.{HeadParts}
use Rattle.fed_head.specs.Section.{FieldPair, name_and_trimmed}
use Rattle.http_header.specs.Token.{lowercase}
use Rattle.fed_reply.specs.declared.json_head.JsonHead.{JsonHead}
use Rattle.fed_reply.specs.Body.{framing_of}
use Rattle.fed_reply.specs.Fields.{Fields, fields_of, is_only, value_at, values, is_word}
use Rattle.fed_reply.specs.Steps.{and_then, with_ok}
use Rattle.fed_reply.specs.Reply.{ReplyOf}

-- a status of the class 2xx
abbrev pub is_success : ℕ → Bool
is_success status = nat_le 200 status && nat_lt status 300

-- what a field's value says before its parameters: of `content-type` the media type
abbrev pub essence : List ℕ → List ℕ
essence value = trim_ows (before_first (λ b. b == 59) value)

-- what stands before the first slash of a media type, and what stands after it
abbrev pub type_part : List ℕ → List ℕ
type_part media = before_first (λ b. b == 47) media

abbrev pub subtype_part : List ℕ → List ℕ
subtype_part media = after_first (λ b. b == 47) media

-- the last five bytes are `+json`, in any case
abbrev pub has_json_suffix : List ℕ → Bool
has_json_suffix subtype = is_word (codes "+json") (drop (length subtype - 5) subtype)

-- the media type with that subtype names JSON (WHATWG MIME Sniffing, 4.6)
abbrev pub names_json : List ℕ → List ℕ → Bool
names_json media subtype =
    is_word (codes "application/json") media
    || (is_word (codes "text/json") media || has_json_suffix subtype)

-- two tokens round one slash, which name JSON
unfoldable pub is_json_media : List ℕ → Bool
is_json_media media =
    is_token (type_part media)
    && (is_token (subtype_part media) && names_json media (subtype_part media))

-- the first `content-type` value names JSON
abbrev pub is_json_type : Option (List ℕ) → Bool
is_json_type None = false
is_json_type (Some value) = is_json_media (essence value)

-- the bytes without the byte order mark that they may begin with
abbrev pub without_mark : List ℕ → List ℕ
without_mark body =
    if pointwise nat_eq (take 3 body) (239 ∷ 187 ∷ 191 ∷ []) then drop 3 body else body

-- the value of a reply's body, or the first of the three steps
unfoldable pub JsonOf : ReplyParts → Result Data ReplyStep
JsonOf reply =
    if not (is_success reply.status) then Err Status
    else (if is_json_type (value_at (codes "content-type") 0 reply.fields)
    then ok_or (value_of (without_mark reply.body)) Json
    else Err Mime)

-- the value that the bytes of a reply carry, or the first step
abbrev pub ReplyJsonOf : List ℕ → Result Data ReplyStep
ReplyJsonOf raw = and_then JsonOf (ReplyOf raw)

-- each of these fields stands exactly once, with the value beside its name
abbrev pub has_each : List FieldPair → Fields → Bool
has_each only fields = list_all (λ f. is_only f.1 (values (lowercase f.0) fields)) only

-- the value of a reply that has each of these fields; none where it has not
abbrev pub json_with : List FieldPair → ReplyParts → Result (Option Data) ReplyStep
json_with only reply = if has_each only reply.fields then with_ok Some (JsonOf reply) else Ok None

-- the same, by the bytes of the reply
abbrev pub ReplyJsonWith : List FieldPair → List ℕ → Result (Option Data) ReplyStep
ReplyJsonWith only raw = and_then (json_with only) (ReplyOf raw)

-- the value that is expected is the one that the tokens hold, and the step `no_value` where they hold none, unless it is refused before
abbrev pub Opens : {S : Type 0} → S → Result (List Token) (Fault S) → Result Data S → Type 0
Opens no_value (Ok values) expected = expected ≡ ok_or (whole_in values) no_value
Opens no_value (Err fault) expected = Refuses fault expected

-- the value that the tokens hold, if the reply has the fields
abbrev pub opened : Option (List Token) → Result (Option Data) ReplyStep
opened None = Ok None
opened (Some values) = with_ok Some (ok_or (whole_in values) Json)

-- the value that is expected is that one, unless it is refused before
abbrev pub OpensWith : Result (Option (List Token)) (Fault ReplyStep) → Result (Option Data) ReplyStep → Type 0
OpensWith (Ok values) expected = expected ≡ opened values
OpensWith (Err fault) expected = Refuses fault expected

-- ---- for private clauses

-- the names and values that the code asks for
abbrev pub asked : List (Bor (List ℕ) × Bor (List ℕ)) → List FieldPair
asked only = map (λ f. (f.0.now, f.1.now)) only

-- the step of a reply of that status, whose first content type is JSON or not
abbrev pub refusal : ℕ → Bool → Option ReplyStep
refusal status is_json = if is_success status then (if is_json then None else Some Mime) else Some Status

-- the value that a body is
abbrev pub body_value : List ℕ → Result Data ReplyStep
body_value body = ok_or (value_of (without_mark body)) Json

-- the value that a body is, or the step at which its reply is refused
abbrev pub unless_refused : Option ReplyStep → List ℕ → Result Data ReplyStep
unless_refused None body = body_value body
unless_refused (Some step) body = Err step

-- the status, the content type, the fields that are asked for, the framing of the body and the end of the head are those
pub record IsJsonHeadOf (only : List FieldPair) (raw : List ℕ) (head : HeadParts) (found : JsonHead) : Type 0 where
  pub status : found.status ≡ head.status
  pub is_json : found.is_json ≡ is_json_type (value_at (codes "content-type") 0 (fields_of (map name_and_trimmed head.fields)))
  pub has_each : found.has_each ≡ has_each only (fields_of (map name_and_trimmed head.fields))
  pub framing : found.framing ≡ framing_of (fields_of (map name_and_trimmed head.fields))
  pub rest : drop found.len raw ≡ head.rest
  pub len : found.len ≤ length raw

-- the head that was read is the expected one, and the step exactly where there is none
abbrev pub FindsJsonHead : List FieldPair → List ℕ → Result HeadParts ReplyStep → Result JsonHead ReplyStep → Type 0
FindsJsonHead only raw expected (Ok found) = (head : HeadParts) × (expected ≡ Ok head) × IsJsonHeadOf only raw head found
FindsJsonHead only raw expected (Err step) = expected ≡ Err step
