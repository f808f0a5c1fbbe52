-- The clauses that a record has to meet, in their order.
use Rattle.std.specs.Prelude.{◌≡◌, ℕ, ◌<◌, true, List, codes, Some, ⊤}
use Rattle.url.specs.Parts.{Parts}
use Rattle.fed_origin.specs.declared.stage.ReplyKind.{ReplyKind}
use Rattle.fed_origin.specs.declared.stage.ReplyKind.TheVariants as kinds
use Rattle.fed_jar.specs.Send.{jar_text}
use Rattle.fed_reply.specs.Fields.{values_in}
use Rattle.fed_trace.specs.Begun.{Begun}
use Rattle.fed_trace.specs.Trace.{Trace, now_at, cookies}
use Rattle.fed_audit.specs.declared.fault.AuditClause.{AuditClause}
use Rattle.fed_audit.specs.declared.fault.AuditClause.TheVariants as clauses
use Rattle.fed_audit.specs.declared.record.Record.{Record}
use Rattle.fed_audit.specs.declared.record.Record.TheVariants.{Request, Token, Answer}
use Rattle.fed_audit.specs.Scene.{Scene, Began, provider_count, trace_through}
use Rattle.fed_audit.specs.Front.{Front, fields_of, are_due, url_of, names_page, cookie_due}
use Rattle.fed_audit.specs.Consent.{HasConsent}
use Rattle.fed_audit.specs.Token.{IsGiven}

-- the call began
abbrev pub HasBegun : Scene → ℕ → Type 0
HasBegun s call = (begun : Begun) × Began s call begun

-- it has a provider at this place
abbrev pub HasProvider : Scene → ℕ → ℕ → Type 0
HasProvider s call provider = (begun : Begun) × Began s call begun × (provider < provider_count begun.options)

-- the bytes begin with the head of a request of the kind, to some URL
abbrev pub HasHead : ReplyKind → List ℕ → Type 0
HasHead kind bytes = (front : Front bytes) × (url : Parts) × (url_of kind front.head ≡ Some url)

-- that head names the page of the call where the kind does, and nowhere else
abbrev pub HasOrigin : Scene → ℕ → ReplyKind → List ℕ → Type 0
HasOrigin s call kind bytes =
    (front : Front bytes) × (begun : Begun) × Began s call begun × (names_page kind begun.origin (fields_of front.head) ≡ true)

-- the text of the cookies for a URL after what happened
abbrev pub cookies_for : Trace → Parts → List ℕ
cookies_for T url = jar_text T.header.rules url (now_at T) (cookies T)

-- the head has the cookies of the URL that it goes to, as they are after the event of the line
abbrev pub HasCookies : Scene → ReplyKind → List ℕ → Type 0
HasCookies s kind bytes =
    (front : Front bytes) × (url : Parts) × (url_of kind front.head ≡ Some url)
    × (are_due (cookie_due kind (cookies_for (trace_through s) url)) (values_in (codes "cookie") (fields_of front.head)) ≡ true)

-- what a request for a token has to be
abbrev pub IfAssertion : ReplyKind → Type 0 → Type 0
IfAssertion kinds.Assertion P = P
IfAssertion _ P = ⊤

-- the user agreed to the request
abbrev pub MayAsk : Scene → ℕ → ℕ → List ℕ → Type 0
MayAsk s call provider bytes = (front : Front bytes) × HasConsent s call provider front.body

-- what a record has to be, clause by clause
abbrev pub Meets : AuditClause → Scene → Record → Type 0
Meets clauses.Call s (Request line call provider kind bytes) = HasProvider s call provider
Meets clauses.Call s (Token line call provider token page auto) = HasProvider s call provider
Meets clauses.Call s (Answer line call) = HasBegun s call
Meets clauses.Head s (Request line call provider kind bytes) = HasHead kind bytes
Meets clauses.Origin s (Request line call provider kind bytes) = HasOrigin s call kind bytes
Meets clauses.Cookie s (Request line call provider kind bytes) = HasCookies s kind bytes
Meets clauses.Consent s (Request line call provider kind bytes) = IfAssertion kind (MayAsk s call provider bytes)
Meets clauses.Token s (Token line call provider token page auto) = IsGiven s call provider token
Meets _ s _ = ⊤

-- the place of a clause in their order
abbrev pub place : AuditClause → ℕ
place clauses.Record = 0
place clauses.Call = 1
place clauses.Head = 2
place clauses.Origin = 3
place clauses.Cookie = 4
place clauses.Consent = 5
place clauses.Token = 6

-- the first clause that a record fails
pub record FailsFirst (clause : AuditClause) (s : Scene) (r : Record) : Type 0 where
  pub before : (c : AuditClause) → place c < place clause → Meets c s r
  pub fails : ¬ (Meets clause s r)
