-- What is found of a record, for private clauses.
use Rattle.std.specs.Prelude.{ℕ, ◌==◌, ◌&&◌, Bool, true, false, List, codes, bytes_eq, Option, Some, None, Result, Ok, Err, if◌then◌else◌}
use Rattle.url.specs.Parts.{Parts}
use Rattle.fed_head.specs.Section.{FieldPair}
use Rattle.fed_origin.specs.declared.origin.Origin.{Origin}
use Rattle.fed_origin.specs.declared.stage.ReplyKind.{ReplyKind}
use Rattle.fed_origin.specs.declared.stage.ReplyKind.TheVariants as kinds
use Rattle.fed_origin.specs.Origin.{origin_text}
use Rattle.fed_script.specs.declared.event.Event.{Event}
use Rattle.fed_script.specs.declared.event.Event.TheVariants.{Reply}
use Rattle.fed_token.specs.declared.step.TokenStep.{TokenStep}
use Rattle.fed_token.specs.Read.{AssertionOf}
use Rattle.fed_reply.specs.Fields.{values_in}
use Rattle.fed_trace.specs.Trace.{Trace}
use Rattle.fed_audit.specs.declared.fault.AuditClause.{AuditClause}
use Rattle.fed_audit.specs.declared.fault.AuditClause.TheVariants as clauses
use Rattle.fed_audit.specs.declared.record.Record.{Record}
use Rattle.fed_audit.specs.Clauses.{Meets, FailsFirst, cookies_for}
use Rattle.fed_audit.specs.Front.{are_due, cookie_due, names_page}
use Rattle.fed_audit.specs.Scene.{Scene}

-- whether it holds
abbrev pub IsTest : Bool → Type 0 → Type 0
IsTest true P = P
IsTest false P = ¬ P

-- both texts are there and the same
abbrev pub same_text : Option (List ℕ) → Option (List ℕ) → Bool
same_text None other = false
same_text (Some text) None = false
same_text (Some text) (Some other) = bytes_eq text other

-- it is this call and this provider
abbrev pub is_pair : ℕ → ℕ → Option (ℕ × ℕ) → Bool
is_pair call provider None = false
is_pair call provider (Some pair) = (pair.0 == call) && (pair.1 == provider)

-- the kind asks for a token
abbrev pub asks_token : ReplyKind → Bool
asks_token kinds.Assertion = true
asks_token _ = false

-- the clause that is failed first, if one is
abbrev pub IsFirst : Scene → Record → Option AuditClause → Type 0
IsFirst s r None = (c : AuditClause) → Meets c s r
IsFirst s r (Some clause) = FailsFirst clause s r

-- the fields have the cookies of the URL
abbrev pub has_cookies : Trace → ReplyKind → Parts → List FieldPair → Bool
has_cookies T kind url fields = are_due (cookie_due kind (cookies_for T url)) (values_in (codes "cookie") fields)

-- the first clause that the head of a request fails, by the URL that it goes to
abbrev pub head_fault : Trace → ReplyKind → Origin → Option Parts → List FieldPair → Option AuditClause
head_fault T kind page None fields = Some clauses.Head
head_fault T kind page (Some url) fields =
    if names_page kind page fields then (if has_cookies T kind url fields then None else Some clauses.Cookie) else Some clauses.Origin

-- ---- a token

-- what was read is this token
abbrev pub is_read : Result (List ℕ) TokenStep → List ℕ → Bool
is_read (Ok read) token = bytes_eq read token
is_read (Err step) token = false

-- the token that bytes hold, which came for a page of this origin, is this
abbrev pub is_token : List ℕ → Origin → List ℕ → Bool
is_token raw page token = is_read (AssertionOf raw (origin_text page)) token

-- the bytes of the reply for a token that an event brings to the call from the provider
abbrev pub reply_in : ℕ → ℕ → Event → Option (List ℕ)
reply_in call provider (Reply c p kinds.Assertion raw) = if (c == call) && (p == provider) then Some raw else None
reply_in call provider _ = None

-- such a reply has the token
abbrev pub has_token : Option (List ℕ) → Origin → List ℕ → Bool
has_token None page token = false
has_token (Some raw) page token = is_token raw page token

abbrev pub is_reply : ℕ → ℕ → Event → Origin → List ℕ → Bool
is_reply call provider event page token = has_token (reply_in call provider event) page token
