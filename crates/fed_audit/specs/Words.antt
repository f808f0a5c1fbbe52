-- The words of records.
use Rattle.std.specs.Prelude.{ℕ, List, codes}
use Rattle.fed_origin.specs.declared.stage.ReplyKind.{ReplyKind}
use Rattle.fed_origin.specs.declared.stage.ReplyKind.TheVariants as kinds
use Rattle.fed_origin.specs.Words.{kind_text}
use Rattle.fed_audit.specs.declared.aspect.Aspect.{Aspect}
use Rattle.fed_audit.specs.declared.aspect.Aspect.TheVariants as aspects
use Rattle.fed_audit.specs.declared.aspect.Subject.{Subject}
use Rattle.fed_audit.specs.declared.aspect.Subject.TheVariants as subjects
use Rattle.fed_audit.specs.declared.fault.AuditClause.{AuditClause}
use Rattle.fed_audit.specs.declared.fault.AuditClause.TheVariants as clauses

abbrev pub clause_text : AuditClause → List ℕ
clause_text clauses.Record = codes "record"
clause_text clauses.Call = codes "call"
clause_text clauses.Head = codes "head"
clause_text clauses.Origin = codes "origin"
clause_text clauses.Cookie = codes "cookie"
clause_text clauses.Consent = codes "consent"
clause_text clauses.Token = codes "token"

-- what a request of a kind is about
abbrev pub subject_of : ReplyKind → Subject
subject_of kinds.WellKnown = subjects.WellKnown
subject_of kinds.Config = subjects.Config
subject_of kinds.Accounts = subjects.Accounts
subject_of kinds.Metadata = subjects.Metadata
subject_of kinds.Assertion = subjects.Assertion
subject_of kinds.Disconnect = subjects.Disconnect

abbrev pub subject_place : Subject → ℕ
subject_place subjects.WellKnown = 0
subject_place subjects.Config = 1
subject_place subjects.Accounts = 2
subject_place subjects.Metadata = 3
subject_place subjects.Assertion = 4
subject_place subjects.Disconnect = 5
subject_place subjects.Token = 6

abbrev pub subject_text : Subject → List ℕ
subject_text subjects.WellKnown = kind_text kinds.WellKnown
subject_text subjects.Config = kind_text kinds.Config
subject_text subjects.Accounts = kind_text kinds.Accounts
subject_text subjects.Metadata = kind_text kinds.Metadata
subject_text subjects.Assertion = kind_text kinds.Assertion
subject_text subjects.Disconnect = kind_text kinds.Disconnect
subject_text subjects.Token = codes "token"

-- a field's name in lower case, a member's name, or what else differs
abbrev pub aspect_text : Aspect → List ℕ
aspect_text aspects.Record = codes "record"
aspect_text aspects.Missing = codes "missing"
aspect_text aspects.Further = codes "further"
aspect_text aspects.Head = codes "head"
aspect_text aspects.Method = codes "method"
aspect_text aspects.Target = codes "target"
aspect_text aspects.Host = codes "host"
aspect_text aspects.Accept = codes "accept"
aspect_text aspects.Destination = codes "sec-fetch-dest"
aspect_text aspects.Origin = codes "origin"
aspect_text aspects.ContentType = codes "content-type"
aspect_text aspects.ContentLength = codes "content-length"
aspect_text aspects.Cookie = codes "cookie"
aspect_text aspects.Client = codes "client_id"
aspect_text aspects.Nonce = codes "nonce"
aspect_text aspects.Account = codes "account_id"
aspect_text aspects.Disclosure = codes "disclosure_text_shown"
aspect_text aspects.Selected = codes "is_auto_selected"
aspect_text aspects.Params = codes "params"
aspect_text aspects.Hint = codes "account_hint"
aspect_text aspects.Body = codes "body"
aspect_text aspects.Token = codes "token"
aspect_text aspects.Page = codes "page"
aspect_text aspects.Auto = codes "auto"
