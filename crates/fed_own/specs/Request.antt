-- How a server reads an own request.
use Rattle.std.specs.Prelude.{◌≡◌, ℕ, ◌<◌, true, List, [], ◌∷◌, ◌++◌, codes, decimal, length, Option, Some, None, ⊤}
use Rattle.std.specs.List.{list_all}
use Rattle.std.specs.Str.{IsUtf8}
use Rattle.httparse.specs.Grammar.{is_uri_byte, is_value_byte, trim_ows}
use Rattle.url.specs.Parts.{Parts}
use Rattle.fed_head.specs.Section.{FieldPair}
use Rattle.fed_origin.specs.declared.origin.Origin.{Origin}
use Rattle.fed_origin.specs.Origin.{origin_text}
use Rattle.fed_origin.specs.WebUrl.{path_query_of}
use Rattle.fed_consent.specs.declared.table.ask.Ask.{Ask}
use Rattle.fed_consent.specs.declared.table.ask.Ask.TheVariants.{WellKnown, Config, Accounts, Metadata, Assertion, Disconnect}
use Rattle.fed_consent.specs.Ask.{kind_of, named_origin, url_of}
use Rattle.fed_request.specs.Form.{assertion_form, disconnect_form, metadata_target}
use Rattle.fed_request.specs.Request.{TakesCookies, host_field, request_bytes}
use Rattle.fed_trace.specs.Begun.{Begun}
use Rattle.fed_audit.specs.Clauses.{HasCookies, HasHead, HasOrigin, cookies_for}
use Rattle.fed_audit.specs.Front.{Front, fields_of, method_of, url_at}
use Rattle.fed_audit.specs.Scene.{Began, Scene, trace_through}

-- a text that stands as a field's value: no control byte but the tab, and no white space at its ends
pub record IsValue (text : List ℕ) : Type 0 where
  pub visible : list_all is_value_byte text ≡ true
  pub trimmed : trim_ows text ≡ text

-- a target that `httparse` takes
pub record IsTarget (target : List ℕ) : Type 0 where
  pub some : 0 < length target
  pub visible : list_all is_uri_byte target ≡ true
  pub utf8 : IsUtf8 target

-- the target of a request
abbrev pub target_of : Ask → List ℕ
target_of (WellKnown to) = codes "/.well-known/web-identity"
target_of (Config to) = path_query_of to
target_of (Accounts to) = path_query_of to
target_of (Metadata to client origin) = metadata_target to client
target_of (Assertion ask) = path_query_of ask.to
target_of (Disconnect to client hint origin) = path_query_of to

-- the form that it posts, if it posts one
abbrev pub posted : Ask → Option (List ℕ)
posted (Assertion ask) = Some (assertion_form ask)
posted (Disconnect to client hint origin) = Some (disconnect_form client hint)
posted _ = None

abbrev pub body_of : Option (List ℕ) → List ℕ
body_of None = []
body_of (Some form) = form

-- ---- its fields, in their order

abbrev pub origin_fields : Option Origin → List FieldPair
origin_fields None = []
origin_fields (Some origin) = (codes "Origin", origin_text origin) ∷ []

abbrev pub form_fields : Option (List ℕ) → List FieldPair
form_fields None = []
form_fields (Some form) =
    (codes "Content-Type", codes "application/x-www-form-urlencoded") ∷ (codes "Content-Length", decimal (length form)) ∷ []

abbrev pub cookie_fields : List ℕ → List FieldPair
cookie_fields [] = []
cookie_fields (b ∷ cookies) = (codes "Cookie", b ∷ cookies) ∷ []

abbrev pub fields_sent : Ask → List ℕ → List FieldPair
fields_sent ask cookies =
    (codes "Host", host_field (url_of ask))
    ∷ (codes "Accept", codes "application/json")
    ∷ (codes "Sec-Fetch-Dest", codes "webidentity")
    ∷ (origin_fields (named_origin ask) ++ (form_fields (posted ask) ++ cookie_fields cookies))

-- ---- how it is read

-- its parts can stand in a head
pub record IsServed (ask : Ask) (sent : List ℕ) : Type 0 where
  pub target : IsTarget (target_of ask)
  pub host : IsValue (host_field (url_of ask))
  pub origin : (named : Origin) → named_origin ask ≡ Some named → IsValue (origin_text named)
  pub form : (body : List ℕ) → posted ask ≡ Some body → IsValue (decimal (length body))
  pub cookies : IsValue sent

-- the head and the body are those that are sent
pub record IsAsSent (ask : Ask) (sent : List ℕ) (front : Front (request_bytes ask sent)) : Type 0 where
  pub method : front.head.method ≡ method_of (kind_of ask)
  pub target : front.head.target ≡ target_of ask
  pub fields : fields_of front.head ≡ fields_sent ask sent
  pub body : front.body ≡ body_of (posted ask)

-- a request is read as it is sent
abbrev pub OwnRequestsAreRead : Type 0
OwnRequestsAreRead =
    (ask : Ask) (cookies : List ℕ) → TakesCookies ask cookies → IsServed ask cookies
    → (front : Front (request_bytes ask cookies)) × IsAsSent ask cookies front

-- ---- what an audit asks of it

-- it has a head of its kind, to the URL as which its host and its target are read
abbrev pub OwnRequestsHaveHeads : Type 0
OwnRequestsHaveHeads =
    (ask : Ask) (cookies : List ℕ) (url : Parts) → TakesCookies ask cookies → IsServed ask cookies
    → url_at (target_of ask) (host_field (url_of ask)) ≡ Some url → HasHead (kind_of ask) (request_bytes ask cookies)

-- it names the page of its call where its kind does, and nowhere else
abbrev pub OwnRequestsNamePages : Type 0
OwnRequestsNamePages =
    (s : Scene) (call : ℕ) (begun : Begun) (ask : Ask) (cookies : List ℕ) → TakesCookies ask cookies → IsServed ask cookies
    → Began s call begun → ((origin : Origin) → named_origin ask ≡ Some origin → origin ≡ begun.origin)
    → HasOrigin s call (kind_of ask) (request_bytes ask cookies)

-- the cookies of a kind that carries them are this text
abbrev pub CarriesText : Ask → List ℕ → List ℕ → Type 0
CarriesText (WellKnown to) cookies text = ⊤
CarriesText (Config to) cookies text = ⊤
CarriesText (Metadata to client origin) cookies text = ⊤
CarriesText (Accounts to) cookies text = cookies ≡ text
CarriesText (Assertion ask) cookies text = cookies ≡ text
CarriesText (Disconnect to client hint origin) cookies text = cookies ≡ text

-- it has the cookies that are due, where those that it carries are the jar's for the URL as which its host and its target are read
abbrev pub OwnRequestsCarryCookies : Type 0
OwnRequestsCarryCookies =
    (s : Scene) (ask : Ask) (cookies : List ℕ) (url : Parts) → TakesCookies ask cookies → IsServed ask cookies
    → url_at (target_of ask) (host_field (url_of ask)) ≡ Some url → CarriesText ask cookies (cookies_for (trace_through s) url)
    → HasCookies s (kind_of ask) (request_bytes ask cookies)
