-- A request as a server reads it: its head, where it goes, and which fields it has.
use Rattle.std.specs.Prelude.{◌≡◌, ℕ, ◌≤◌, Bool, true, false, ◌&&◌, List, [], ◌∷◌, ◌++◌, length, map, codes, bytes_eq}
use Rattle.std.specs.Prelude.{Option, Some, None, option_and_then, if◌then◌else◌}
use Rattle.std.specs.Result.{result_ok}
use Rattle.std.specs.Str.{is_utf8}
use Rattle.httparse.specs.Grammar.{RequestHead, ReadsRequest}
use Rattle.httparse.specs.Spans.{name_and_value, header_bytes, IsRequestAt, IsRequestWithin}
use Rattle.httparse.specs.declared.spans.HeaderSpan.{HeaderSpan}
use Rattle.httparse.specs.declared.spans.RequestSpans.{RequestSpans}
use Rattle.url.specs.Parts.{Parts}
use Rattle.fed_head.specs.Section.{FieldPair}
use Rattle.fed_origin.specs.declared.origin.Origin.{Origin}
use Rattle.fed_origin.specs.declared.stage.ReplyKind.{ReplyKind}
use Rattle.fed_origin.specs.declared.stage.ReplyKind.TheVariants as kinds
use Rattle.fed_origin.specs.Origin.{origin_text}
use Rattle.fed_origin.specs.WebUrl.{web_url}
use Rattle.fed_reply.specs.Fields.{is_only, values_in}
use Rattle.fed_audit.specs.declared.parts.Request.{Request}

-- the head that bytes begin with, and the body after it
pub record Front (bytes : List ℕ) : Type 0 where
  pub head : RequestHead
  pub body : List ℕ
  pub reads : ReadsRequest bytes head body
  pub few : length head.fields ≤ 128

-- the names and values of a head, in their order
abbrev pub fields_of : RequestHead → List FieldPair
fields_of head = map name_and_value head.fields

-- the first value, if there is one
abbrev pub first_value : List (List ℕ) → Option (List ℕ)
first_value [] = None
first_value (v ∷ vs) = Some v

-- the values of a field are none where none is due, and else exactly that one
abbrev pub are_due : Option (List ℕ) → List (List ℕ) → Bool
are_due None [] = true
are_due None (v ∷ vs) = false
are_due (Some due) values = is_only due values

-- ---- where it goes

-- a form is posted to ask for a token or to disconnect
abbrev pub method_of : ReplyKind → List ℕ
method_of kinds.Assertion = codes "POST"
method_of kinds.Disconnect = codes "POST"
method_of kinds.WellKnown = codes "GET"
method_of kinds.Config = codes "GET"
method_of kinds.Accounts = codes "GET"
method_of kinds.Metadata = codes "GET"

-- the URL of bytes that are a text
abbrev pub url_in : List ℕ → Option Parts
url_in bytes = if is_utf8 bytes then result_ok (web_url bytes) else None

-- that of a target at a host
abbrev pub url_at : List ℕ → List ℕ → Option Parts
url_at target host = url_in (codes "https://" ++ host ++ target)

-- the only value, if there is just one
abbrev pub only_value : List (List ℕ) → Option (List ℕ)
only_value [] = None
only_value (v ∷ []) = Some v
only_value (v ∷ w ∷ vs) = None

-- the URL that a request of the kind goes to, by its method, its target and its one Host field; none where the method is another
abbrev pub url_by : ReplyKind → List ℕ → List ℕ → List FieldPair → Option Parts
url_by kind method target fields =
    if bytes_eq method (method_of kind) then option_and_then (url_at target) (only_value (values_in (codes "host") fields)) else None

abbrev pub url_of : ReplyKind → RequestHead → Option Parts
url_of kind head = url_by kind head.method head.target (fields_of head)

-- ---- whom it names

-- the Origin field of a request of a page of this origin; the first three requests do not name the page
abbrev pub origin_due : ReplyKind → List ℕ → Option (List ℕ)
origin_due kinds.WellKnown page = None
origin_due kinds.Config page = None
origin_due kinds.Accounts page = None
origin_due kinds.Metadata page = Some page
origin_due kinds.Assertion page = Some page
origin_due kinds.Disconnect page = Some page

-- the request names the page in its Origin field where it is due, and nowhere else
abbrev pub names_page : ReplyKind → Origin → List FieldPair → Bool
names_page kind page fields =
    are_due None (values_in (codes "referer") fields) && are_due (origin_due kind (origin_text page)) (values_in (codes "origin") fields)

-- ---- its cookies

-- a text, unless it is empty
abbrev pub unless_empty : List ℕ → Option (List ℕ)
unless_empty [] = None
unless_empty (b ∷ text) = Some (b ∷ text)

-- the Cookie field of a request, where the jar's text for its URL is this; the first two requests and that for links carry none
abbrev pub cookie_due : ReplyKind → List ℕ → Option (List ℕ)
cookie_due kinds.WellKnown text = None
cookie_due kinds.Config text = None
cookie_due kinds.Metadata text = None
cookie_due kinds.Accounts text = unless_empty text
cookie_due kinds.Assertion text = unless_empty text
cookie_due kinds.Disconnect text = unless_empty text

-- ---- for private clauses

-- the bytes begin with a head of at most so many fields
pub record FrontWithin (most : ℕ) (bytes : List ℕ) : Type 0 where
  pub head : RequestHead
  pub body : List ℕ
  pub reads : ReadsRequest bytes head body
  pub few : length head.fields ≤ most

-- the fields of what is read of a request
abbrev pub fields_read : Request → List FieldPair
fields_read r = map (header_bytes r.raw.now) r.fields.now

-- what is read of a request are the parts of its front
pub record IsRead (bytes : List ℕ) (front : Front bytes) (r : Request) : Type 0 where
  pub method : r.method.now ≡ front.head.method
  pub target : r.target.now ≡ front.head.target
  pub fields : fields_read r ≡ fields_of front.head
  pub body : r.body.now ≡ front.body

-- the spans are those of the head that the bytes begin with
pub record IsFrontAt (bytes : List ℕ) (spans : List HeaderSpan) (found : RequestSpans) (front : Front bytes) : Type 0 where
  pub within : IsRequestWithin bytes spans found
  pub at : IsRequestAt bytes spans found front.head
