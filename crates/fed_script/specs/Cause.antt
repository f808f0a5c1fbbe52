-- The names of members, and the words of the causes of bad lines.
use Rattle.std.specs.Prelude.{ℕ, List, codes, Option, Some, None}
use Rattle.fed_script.specs.declared.cause.LineCause.{LineCause}
use Rattle.fed_script.specs.declared.cause.LineCause.TheVariants.{NotJson, NoKind, Member, BadUrl, CallTwice}
use Rattle.fed_script.specs.declared.cause.LineCause.TheVariants.{HaveLate, TimeBack, TooManyEvents}
use Rattle.fed_script.specs.declared.cause.MemberName.{MemberName}
use Rattle.fed_script.specs.declared.cause.PairCause.{PairCause}
use Rattle.fed_script.specs.declared.cause.PairCause.TheVariants.{Line, NoNext}
use Rattle.fed_script.specs.declared.cause.MemberName.TheVariants as names

-- a member's name as it is written in a line
abbrev pub name_text : MemberName → List ℕ
name_text names.Do = codes "do"
name_text names.Fedcm = codes "fedcm"
name_text names.Now = codes "now"
name_text names.Rules = codes "rules"
name_text names.What = codes "what"
name_text names.Origin = codes "origin"
name_text names.Status = codes "status"
name_text names.Time = codes "time"
name_text names.Page = codes "page"
name_text names.Url = codes "url"
name_text names.Text = codes "text"
name_text names.Raw = codes "raw"
name_text names.Call = codes "call"
name_text names.Mediation = codes "mediation"
name_text names.Mode = codes "mode"
name_text names.Activation = codes "activation"
name_text names.Context = codes "context"
name_text names.Providers = codes "providers"
name_text names.Config = codes "config"
name_text names.Client = codes "client"
name_text names.Nonce = codes "nonce"
name_text names.LoginHint = codes "login_hint"
name_text names.DomainHint = codes "domain_hint"
name_text names.Params = codes "params"
name_text names.Provider = codes "provider"
name_text names.To = codes "to"
name_text names.Account = codes "account"
name_text names.Hint = codes "hint"

-- the word of a cause
abbrev pub cause_text : LineCause → List ℕ
cause_text NotJson = codes "not-json"
cause_text NoKind = codes "no-kind"
cause_text (Member name) = codes "member"
cause_text BadUrl = codes "bad-url"
cause_text CallTwice = codes "call-twice"
cause_text HaveLate = codes "have-late"
cause_text TimeBack = codes "time-back"
cause_text TooManyEvents = codes "too-many"

-- the member that a cause names
abbrev pub member_named : LineCause → Option MemberName
member_named (Member name) = Some name
member_named NotJson = None
member_named NoKind = None
member_named BadUrl = None
member_named CallTwice = None
member_named HaveLate = None
member_named TimeBack = None
member_named TooManyEvents = None

-- the word of a cause for which bytes are not two scripts
abbrev pub pair_cause_text : PairCause → List ℕ
pair_cause_text (Line cause) = cause_text cause
pair_cause_text NoNext = codes "no-next"

-- the member that it names
abbrev pub pair_member_named : PairCause → Option MemberName
pair_member_named (Line cause) = member_named cause
pair_member_named NoNext = None
