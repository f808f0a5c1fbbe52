-- An own request is a head and a body in the grammar of `httparse`.
use Rattle.std.proofs.Common.{◌≡◌, ℕ, ◌<◌, ◌≤◌, true, All, List, [], ◌∷◌, ◌++◌, append-nil, codes, decimal, length, map}
use Rattle.std.proofs.Common.{Some, refl, sym, ap, ap₂, ◌∙◌, subst, arith}
use Rattle.std.proofs.lemmas.List.{append_assoc}
use Rattle.std.proofs.lemmas.List.Elements.{All-cons, All-nil}
use Rattle.std.proofs.lemmas.List.Sums.{AllPass-from_list_all}
use Rattle.std.specs.List.{flat_map, list_all}
use Rattle.httparse.specs.Grammar.{Field, IsField, IsRequestHead, RequestHead, crlf, is_token_byte, is_uri_byte}
use Rattle.httparse.specs.Grammar.{is_value_byte, print_field, print_request, trim_ows}
use Rattle.httparse.specs.Ascii.{crlf_bytes}
use Rattle.httparse.specs.Spans.{name_and_value}
use Rattle.fed_head.specs.Section.{FieldPair}
use Rattle.fed_origin.specs.Origin.{origin_text}
use Rattle.fed_consent.specs.declared.table.ask.Ask.{Ask}
use Rattle.fed_consent.specs.declared.table.ask.Ask.TheVariants.{WellKnown, Config, Accounts, Metadata, Assertion, Disconnect}
use Rattle.fed_request.specs.Form.{assertion_form, disconnect_form}
use Rattle.fed_request.specs.Request.{host_field, request_bytes}
use Rattle.fed_request.specs.Text.{first_lines, form_lines, get_text, last_lines, line, named_get_text, post_text}
use Rattle.fed_audit.specs.Front.{Front}
use Rattle.fed_own.specs.Request.{IsAsSent, IsTarget, IsValue, OwnRequestsAreRead, cookie_fields, form_fields, target_of}

-- ---- fields

-- the field of a name and a value, after a space
abbrev field : FieldPair → Field
field pair = record { name = pair.0; raw = 32 ∷ pair.1; end = crlf }

-- it can be read, and gives them back
record IsSentField (pair : FieldPair) : Type 0 where
  is_field : IsField (field pair)
  reads : name_and_value (field pair) ≡ pair

trims : (text : List ℕ) → trim_ows (32 ∷ text) ≡ trim_ows text
unfolding trim_ows
trims text = refl

sent_field : (name value : List ℕ) → 0 < length name → list_all is_token_byte name ≡ true → IsValue value → IsSentField (name, value)
sent_field name value some token v =
    record {
      is_field = record {
        name = (some, AllPass-from_list_all is_token_byte name token);
        raw = AllPass-from_list_all is_value_byte (32 ∷ value) v.visible;
      };
      reads = ap (λ (x : List ℕ). let p : FieldPair = (name, x) in p) (trims value ∙ v.trimmed);
    }

record AreSent (pairs : List FieldPair) : Type 0 where
  are_fields : All IsField (map field pairs)
  read : map name_and_value (map field pairs) ≡ pairs

none_sent : AreSent []
none_sent = record { are_fields = All-nil IsField; read = refl }

one_sent : (pair : FieldPair) (pairs : List FieldPair) → IsSentField pair → AreSent pairs → AreSent (pair ∷ pairs)
one_sent pair pairs h rest =
    record {
      are_fields = All-cons IsField (field pair) (map field pairs) h.is_field rest.are_fields;
      read = ap₂ (λ (p : FieldPair) ps. p ∷ ps) h.reads rest.read;
    }

-- ---- names and fixed values

json_value : IsValue (codes "application/json")
unfolding trim_ows
json_value = record { visible = refl; trimmed = refl }

destination_value : IsValue (codes "webidentity")
unfolding trim_ows
destination_value = record { visible = refl; trimmed = refl }

form_value : IsValue (codes "application/x-www-form-urlencoded")
unfolding trim_ows
form_value = record { visible = refl; trimmed = refl }

host_sent : (value : List ℕ) → IsValue value → IsSentField (codes "Host", value)
unfolding is_token_byte
host_sent value v = sent_field (codes "Host") value (omega arith) refl v

accept_sent : IsSentField (codes "Accept", codes "application/json")
unfolding is_token_byte
accept_sent = sent_field (codes "Accept") (codes "application/json") (omega arith) refl json_value

destination_sent : IsSentField (codes "Sec-Fetch-Dest", codes "webidentity")
unfolding is_token_byte
destination_sent = sent_field (codes "Sec-Fetch-Dest") (codes "webidentity") (omega arith) refl destination_value

origin_sent : (value : List ℕ) → IsValue value → IsSentField (codes "Origin", value)
unfolding is_token_byte
origin_sent value v = sent_field (codes "Origin") value (omega arith) refl v

type_sent : IsSentField (codes "Content-Type", codes "application/x-www-form-urlencoded")
unfolding is_token_byte
type_sent = sent_field (codes "Content-Type") (codes "application/x-www-form-urlencoded") (omega arith) refl form_value

length_sent : (value : List ℕ) → IsValue value → IsSentField (codes "Content-Length", value)
unfolding is_token_byte
length_sent value v = sent_field (codes "Content-Length") value (omega arith) refl v

cookie_sent : (value : List ℕ) → IsValue value → IsSentField (codes "Cookie", value)
unfolding is_token_byte
cookie_sent value v = sent_field (codes "Cookie") value (omega arith) refl v

-- ---- heads

abbrev head_with : List ℕ → List ℕ → List FieldPair → RequestHead
head_with method target pairs =
    record {
      blank = [];
      method = method;
      target = target;
      minor = 1;
      line_end = crlf;
      fields = map field pairs;
      last = crlf;
    }

is_head : (method target : List ℕ) (pairs : List FieldPair) → 0 < length method → list_all is_token_byte method ≡ true → IsTarget target
    → AreSent pairs → IsRequestHead (head_with method target pairs)
is_head method target pairs some token t fields =
    record {
      method = (some, AllPass-from_list_all is_token_byte method token);
      target = (t.some, AllPass-from_list_all is_uri_byte target t.visible);
      target_text = t.utf8;
      minor = omega arith;
      fields = fields.are_fields;
    }

get_is_token : list_all is_token_byte (codes "GET") ≡ true
unfolding is_token_byte
get_is_token = refl

post_is_token : list_all is_token_byte (codes "POST") ≡ true
unfolding is_token_byte
post_is_token = refl

abbrev first_fields : List ℕ → List FieldPair → List FieldPair
first_fields host more =
    (codes "Host", host) ∷ (codes "Accept", codes "application/json") ∷ (codes "Sec-Fetch-Dest", codes "webidentity") ∷ more

first_sent : (host : List ℕ) (more : List FieldPair) → IsValue host → AreSent more → AreSent (first_fields host more)
first_sent host more v rest =
    one_sent (codes "Host", host) _ (host_sent host v)
    (one_sent (codes "Accept", codes "application/json") _ accept_sent
    (one_sent (codes "Sec-Fetch-Dest", codes "webidentity") more destination_sent rest))

cookies_sent : (cookies : List ℕ) → IsValue cookies → AreSent (cookie_fields cookies)
cookies_sent [] v = none_sent
cookies_sent (b ∷ cookies) v = one_sent (codes "Cookie", b ∷ cookies) [] (cookie_sent (b ∷ cookies) v) none_sent

-- ---- their bytes

lines_are : (a b c d z : List ℕ) → a ++ b ++ c ++ d ++ z ≡ a ++ (b ++ (c ++ (d ++ z)))
lines_are a b c d z = simp append_assoc

front_is : (g target version end more : List ℕ) → (g ++ ((target ++ version) ++ end)) ++ more ≡ g ++ (target ++ (version ++ (end ++ more)))
front_is g target version end more = simp append_assoc

tail_is : (a b c more end : List ℕ) → (a ++ (b ++ (c ++ more))) ++ end ≡ a ++ (b ++ (c ++ (more ++ end)))
tail_is a b c more end = simp append_assoc

-- the lines of fields
abbrev fields_text : List FieldPair → List ℕ
fields_text pairs = flat_map print_field (map field pairs)

abbrev version_text : List ℕ
version_text = codes " HTTP/1.1"

-- what stands after the version
abbrev rest_text : List ℕ → List FieldPair → List ℕ
rest_text host more =
    line (codes "Host: ") host
    ++ (line (codes "Accept: ") (codes "application/json")
    ++ (line (codes "Sec-Fetch-Dest: ") (codes "webidentity") ++ (fields_text more ++ crlf_bytes)))

sent_bytes : (method target host : List ℕ) (more : List FieldPair)
    → first_lines (method ++ 32 ∷ []) target host ++ (fields_text more ++ crlf_bytes)
    ≡ (method ++ 32 ∷ []) ++ (target ++ (version_text ++ (crlf_bytes ++ rest_text host more)))
unfolding first_lines line
sent_bytes method target host more =
    lines_are (line (method ++ 32 ∷ []) (target ++ version_text)) (line (codes "Host: ") host)
    (line (codes "Accept: ") (codes "application/json")) (line (codes "Sec-Fetch-Dest: ") (codes "webidentity"))
    (fields_text more ++ crlf_bytes)
    ∙ front_is (method ++ 32 ∷ []) target version_text crlf_bytes (rest_text host more)

printed_bytes : (method target host : List ℕ) (more : List FieldPair)
    → print_request (head_with method target (first_fields host more))
    ≡ method ++ ((32 ∷ target) ++ (version_text ++ (crlf_bytes ++ rest_text host more)))
unfolding line print_request
printed_bytes method target host more =
    let fields = line (codes "Host: ") host
    ++ (line (codes "Accept: ") (codes "application/json")
    ++ (line (codes "Sec-Fetch-Dest: ") (codes "webidentity") ++ fields_text more)) in
    lines_are method (32 ∷ target) version_text crlf_bytes (fields ++ crlf_bytes)
    ∙ ap (λ (r : List ℕ). method ++ ((32 ∷ target) ++ (version_text ++ (crlf_bytes ++ r))))
    (tail_is (line (codes "Host: ") host) (line (codes "Accept: ") (codes "application/json"))
    (line (codes "Sec-Fetch-Dest: ") (codes "webidentity")) (fields_text more) crlf_bytes)

same_bytes : (method target host : List ℕ) (more : List FieldPair)
    → first_lines (method ++ 32 ∷ []) target host ++ (fields_text more ++ crlf_bytes)
    ≡ print_request (head_with method target (first_fields host more))
same_bytes method target host more =
    sent_bytes method target host more
    ∙ (append_assoc method (32 ∷ []) (target ++ (version_text ++ (crlf_bytes ++ rest_text host more)))
    ∙ sym (printed_bytes method target host more))

-- the line of a Cookie field, if there is one, and the empty line
cookies_text : (cookies : List ℕ) → fields_text (cookie_fields cookies) ++ crlf_bytes ≡ last_lines cookies
unfolding line
cookies_text [] = refl
cookies_text (b ∷ cookies) = ap (λ t. t ++ crlf_bytes) (append-nil (print_field (field (codes "Cookie", b ∷ cookies))))

get_bytes : (target host cookies : List ℕ)
    → get_text target host cookies ≡ print_request (head_with (codes "GET") target (first_fields host (cookie_fields cookies))) ++ []
get_bytes target host cookies =
    ap (λ t. first_lines (codes "GET ") target host ++ t) (sym (cookies_text cookies))
    ∙ (same_bytes (codes "GET") target host (cookie_fields cookies)
    ∙ sym (append-nil (print_request (head_with (codes "GET") target (first_fields host (cookie_fields cookies))))))

origin_text_is : (origin : List ℕ) → fields_text ((codes "Origin", origin) ∷ []) ≡ line (codes "Origin: ") origin
unfolding line
origin_text_is origin = append-nil (print_field (field (codes "Origin", origin)))

named_bytes : (target host origin : List ℕ)
    → named_get_text target host origin
    ≡ print_request (head_with (codes "GET") target (first_fields host ((codes "Origin", origin) ∷ []))) ++ []
named_bytes target host origin =
    append_assoc (first_lines (codes "GET ") target host) (line (codes "Origin: ") origin) crlf_bytes
    ∙ (ap (λ t. first_lines (codes "GET ") target host ++ (t ++ crlf_bytes)) (sym (origin_text_is origin))
    ∙ (same_bytes (codes "GET") target host ((codes "Origin", origin) ∷ [])
    ∙ sym (append-nil (print_request (head_with (codes "GET") target (first_fields host ((codes "Origin", origin) ∷ [])))))))

abbrev post_fields : List ℕ → List ℕ → List ℕ → List ℕ → List FieldPair
post_fields host origin form cookies =
    first_fields host ((codes "Origin", origin) ∷ (form_fields (Some form) ++ cookie_fields cookies))

more_fields : (origin form cookies : List ℕ)
    → fields_text ((codes "Origin", origin) ∷ (form_fields (Some form) ++ cookie_fields cookies)) ++ crlf_bytes
    ≡ line (codes "Origin: ") origin ++ (form_lines form ++ last_lines cookies)
unfolding line form_lines
more_fields origin form cookies =
    tail_is (line (codes "Origin: ") origin) (line (codes "Content-Type: ") (codes "application/x-www-form-urlencoded"))
    (line (codes "Content-Length: ") (decimal (length form))) (fields_text (cookie_fields cookies)) crlf_bytes
    ∙ (ap (λ t. line (codes "Origin: ") origin ++ (line (codes "Content-Type: ") (codes "application/x-www-form-urlencoded")
    ++ (line (codes "Content-Length: ") (decimal (length form)) ++ t))) (cookies_text cookies)
    ∙ ap (λ t. line (codes "Origin: ") origin ++ t)
    (sym (append_assoc (line (codes "Content-Type: ") (codes "application/x-www-form-urlencoded"))
    (line (codes "Content-Length: ") (decimal (length form))) (last_lines cookies))))

parts_are : (a b c d e : List ℕ) → a ++ b ++ c ++ d ++ e ≡ (a ++ (b ++ (c ++ d))) ++ e
parts_are a b c d e = simp append_assoc

post_bytes : (target host origin form cookies : List ℕ)
    → post_text target host origin form cookies
    ≡ print_request (head_with (codes "POST") target (post_fields host origin form cookies)) ++ form
post_bytes target host origin form cookies =
    parts_are (first_lines (codes "POST ") target host) (line (codes "Origin: ") origin) (form_lines form) (last_lines cookies) form
    ∙ ap (λ t. t ++ form)
    (ap (λ t. first_lines (codes "POST ") target host ++ t) (sym (more_fields origin form cookies))
    ∙ same_bytes (codes "POST") target host ((codes "Origin", origin) ∷ (form_fields (Some form) ++ cookie_fields cookies)))

-- ---- requests

few_cookies : (cookies : List ℕ) → length (map field (cookie_fields cookies)) ≤ 1
few_cookies [] = omega arith
few_cookies (b ∷ cookies) = omega arith

get_front : (target host cookies : List ℕ) → IsTarget target → IsValue host → IsValue cookies → Front (get_text target host cookies)
get_front target host cookies t h c =
    let few = few_cookies cookies in
    record {
      head = head_with (codes "GET") target (first_fields host (cookie_fields cookies));
      body = [];
      reads = (
        is_head (codes "GET") target (first_fields host (cookie_fields cookies)) (omega arith) get_is_token t
            (first_sent host (cookie_fields cookies) h (cookies_sent cookies c)),
        get_bytes target host cookies,
      );
      few = omega (arith, few);
    }

named_front : (target host origin : List ℕ) → IsTarget target → IsValue host → IsValue origin → Front (named_get_text target host origin)
named_front target host origin t h o =
    record {
      head = head_with (codes "GET") target (first_fields host ((codes "Origin", origin) ∷ []));
      body = [];
      reads = (
        is_head (codes "GET") target (first_fields host ((codes "Origin", origin) ∷ [])) (omega arith) get_is_token t
            (first_sent host ((codes "Origin", origin) ∷ []) h (one_sent (codes "Origin", origin) [] (origin_sent origin o) none_sent)),
        named_bytes target host origin,
      );
      few = omega arith;
    }

post_sent : (host origin form cookies : List ℕ) → IsValue host → IsValue origin → IsValue (decimal (length form)) → IsValue cookies
    → AreSent (post_fields host origin form cookies)
post_sent host origin form cookies h o l c =
    first_sent host ((codes "Origin", origin) ∷ (form_fields (Some form) ++ cookie_fields cookies)) h
    (one_sent (codes "Origin", origin) (form_fields (Some form) ++ cookie_fields cookies) (origin_sent origin o)
    (one_sent (codes "Content-Type", codes "application/x-www-form-urlencoded") _ type_sent
    (one_sent (codes "Content-Length", decimal (length form)) (cookie_fields cookies) (length_sent (decimal (length form)) l)
    (cookies_sent cookies c))))

post_front : (target host origin form cookies : List ℕ) → IsTarget target → IsValue host → IsValue origin
    → IsValue (decimal (length form)) → IsValue cookies → Front (post_text target host origin form cookies)
post_front target host origin form cookies t h o l c =
    let few = few_cookies cookies in
    record {
      head = head_with (codes "POST") target (post_fields host origin form cookies);
      body = form;
      reads = (
        is_head (codes "POST") target (post_fields host origin form cookies) (omega arith) post_is_token t
            (post_sent host origin form cookies h o l c),
        post_bytes target host origin form cookies,
      );
      few = omega (arith, few);
    }

get_fields : (host cookies : List ℕ) → IsValue host → IsValue cookies
    → map name_and_value (map field (first_fields host (cookie_fields cookies))) ≡ first_fields host (cookie_fields cookies)
get_fields host cookies h c = (first_sent host (cookie_fields cookies) h (cookies_sent cookies c)).read

-- a request of a kind that takes no cookies
no_cookies : (ask : Ask) (cookies : List ℕ) (P : List ℕ → Type 0) → cookies ≡ [] → P [] → P cookies
no_cookies ask cookies P is h = subst P (sym is) h

empty_value : IsValue []
unfolding trim_ows
empty_value = record { visible = refl; trimmed = refl }

pub read_lem : OwnRequestsAreRead
unfolding get_front named_front post_front
read_lem (WellKnown to) cookies takes s =
    let none = empty_value in
    subst (λ c. (front : Front (request_bytes (WellKnown to) c)) × IsAsSent (WellKnown to) c front) (sym takes) (
      get_front (target_of (WellKnown to)) (host_field to) [] s.target s.host none,
      record { method = refl; target = refl; fields = get_fields (host_field to) [] s.host none; body = refl },
    )
read_lem (Config to) cookies takes s =
    let none = empty_value in
    subst (λ c. (front : Front (request_bytes (Config to) c)) × IsAsSent (Config to) c front) (sym takes) (
      get_front (target_of (Config to)) (host_field to) [] s.target s.host none,
      record { method = refl; target = refl; fields = get_fields (host_field to) [] s.host none; body = refl },
    )
read_lem (Accounts to) cookies takes s = (
  get_front (target_of (Accounts to)) (host_field to) cookies s.target s.host s.cookies,
  record { method = refl; target = refl; fields = get_fields (host_field to) cookies s.host s.cookies; body = refl },
)
read_lem (Metadata to client origin) cookies takes s =
    let named = s.origin origin refl in
    subst (λ c. (front : Front (request_bytes (Metadata to client origin) c)) × IsAsSent (Metadata to client origin) c front) (sym takes) (
      named_front (target_of (Metadata to client origin)) (host_field to) (origin_text origin) s.target s.host named,
      record {
        method = refl;
        target = refl;
        fields = (first_sent (host_field to) ((codes "Origin", origin_text origin) ∷ []) s.host
            (one_sent (codes "Origin", origin_text origin) [] (origin_sent (origin_text origin) named) none_sent)).read;
        body = refl;
      },
    )
read_lem (Assertion ask) cookies takes s =
    let named = s.origin ask.origin refl in
    let form = s.form (assertion_form ask) refl in (
      post_front (target_of (Assertion ask)) (host_field ask.to) (origin_text ask.origin) (assertion_form ask) cookies s.target s.host named
          form s.cookies,
      record {
        method = refl;
        target = refl;
        fields = (post_sent (host_field ask.to) (origin_text ask.origin) (assertion_form ask) cookies s.host named form s.cookies).read;
        body = refl;
      },
    )
read_lem (Disconnect to client hint origin) cookies takes s =
    let named = s.origin origin refl in
    let form = s.form (disconnect_form client hint) refl in (
      post_front (target_of (Disconnect to client hint origin)) (host_field to) (origin_text origin) (disconnect_form client hint) cookies
          s.target s.host named form s.cookies,
      record {
        method = refl;
        target = refl;
        fields = (post_sent (host_field to) (origin_text origin) (disconnect_form client hint) cookies s.host named form s.cookies).read;
        body = refl;
      },
    )
