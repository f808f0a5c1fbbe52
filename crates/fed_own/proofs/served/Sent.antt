-- A good request is of bytes, where its cookies are.
use Rattle.std.proofs.Common.{◌≡◌, ℕ, ◌^◌, ◌<◌, Bool, true, false, cond, List, [], ◌∷◌, ◌++◌, length, Option, Some, None}
use Rattle.std.proofs.Common.{arith, codes, decimal, refl}
use Rattle.std.specs.Prelude.{nat_lt}
use Rattle.std.specs.List.{list_all}
use Rattle.std.proofs.lemmas.Bool.{and_parts, ltb-true}
use Rattle.form_urlencoded.specs.Form.{append_pair, byte_serialize, is_nonempty, separator}
use Rattle.form_urlencoded.proofs.FormLemmas.{IsAscii-byte_serialize}
use Rattle.fed_origin.specs.declared.origin.Origin.{Origin}
use Rattle.fed_origin.specs.Origin.{origin_text}
use Rattle.fed_consent.specs.declared.table.ask.Ask.{Ask}
use Rattle.fed_consent.specs.declared.table.ask.Ask.TheVariants.{WellKnown, Config, Accounts, Metadata, Assertion, Disconnect}
use Rattle.fed_consent.specs.Ask.{url_of}
use Rattle.fed_consent.specs.Consent.{AssertionFields}
use Rattle.fed_request.specs.Form.{account_form, assertion_form, client_form, disconnect_form, truth_text, with_pair}
use Rattle.fed_request.specs.Request.{host_field, request_bytes}
use Rattle.fed_request.specs.Text.{crlf, first_lines, form_lines, get_text, last_lines, line, named_get_text, post_text}
use Rattle.fed_own.specs.Request.{target_of}
use Rattle.fed_own.proofs.plain.Lists.{AreBytes}
use Rattle.fed_own.proofs.plain.Results.{all_both}
use Rattle.fed_own.proofs.plain.Sites.{AreLow, low_of}
use Rattle.fed_own.proofs.served.Asks.{target_uri, url_good}
use Rattle.fed_own.proofs.served.Bytes.{AreInk, field_ink, number_ink, page_ink, uri_low}
use Rattle.fed_own.proofs.walk.Does.{GoodAsk, IsPage}

low_bytes : (xs : List ℕ) → AreLow xs → AreBytes xs
low_bytes [] low = tt
low_bytes (x ∷ xs) low = (let h = low.0 in omega (arith, h), low_bytes xs low.1)

ink_low : (xs : List ℕ) → AreInk xs → AreLow xs
ink_low [] ink = tt
ink_low (x ∷ xs) ink = (let h = ink.0.below in omega (arith, h), ink_low xs ink.1)

abbrev is_low : ℕ → Bool
is_low b = nat_lt b 128

tested : (xs : List ℕ) → list_all is_low xs ≡ true → AreLow xs
tested [] is = tt
tested (x ∷ xs) is =
    let both = and_parts (is_low x) (list_all is_low xs) is in (ltb-true x 128 both.0, tested xs both.1)

both_low : (xs ys : List ℕ) → AreLow xs → AreLow ys → AreLow (xs ++ ys)
both_low xs ys a b = all_both (λ b. b < 128) xs ys a b

-- ---- lines

line_low : (name value : List ℕ) → AreLow name → AreLow value → AreLow (line name value)
unfolding line
line_low name value a b = both_low name (value ++ crlf) a (both_low value crlf b (tested crlf refl))

first_low : (method target host : List ℕ) → AreLow method → AreLow target → AreLow host → AreLow (first_lines method target host)
unfolding first_lines
first_low method target host m t h =
    both_low _ (line (codes "Sec-Fetch-Dest: ") (codes "webidentity"))
    (both_low _ (line (codes "Accept: ") (codes "application/json"))
    (both_low (line method (target ++ codes " HTTP/1.1")) (line (codes "Host: ") host)
    (line_low method (target ++ codes " HTTP/1.1") m (both_low target (codes " HTTP/1.1") t (tested (codes " HTTP/1.1") refl)))
    (line_low (codes "Host: ") host (tested (codes "Host: ") refl) h))
    (line_low (codes "Accept: ") (codes "application/json") (tested (codes "Accept: ") refl) (tested (codes "application/json") refl)))
    (line_low (codes "Sec-Fetch-Dest: ") (codes "webidentity") (tested (codes "Sec-Fetch-Dest: ") refl) (tested (codes "webidentity") refl))

form_low : (form : List ℕ) → AreLow (form_lines form)
unfolding form_lines
form_low form =
    both_low (line (codes "Content-Type: ") (codes "application/x-www-form-urlencoded"))
    (line (codes "Content-Length: ") (decimal (length form)))
    (line_low (codes "Content-Type: ") (codes "application/x-www-form-urlencoded") (tested (codes "Content-Type: ") refl)
    (tested (codes "application/x-www-form-urlencoded") refl))
    (line_low (codes "Content-Length: ") (decimal (length form)) (tested (codes "Content-Length: ") refl)
    (ink_low (decimal (length form)) (number_ink (length form))))

both_bytes : (xs ys : List ℕ) → AreBytes xs → AreBytes ys → AreBytes (xs ++ ys)
both_bytes xs ys a b = all_both (λ b. b < 2 ^ 8) xs ys a b

last_bytes : (cookies : List ℕ) → AreBytes cookies → AreBytes (last_lines cookies)
unfolding line
last_bytes [] all = low_bytes crlf (tested crlf refl)
last_bytes (b ∷ cookies) all =
    both_bytes (line (codes "Cookie: ") (b ∷ cookies)) crlf
    (both_bytes (codes "Cookie: ") ((b ∷ cookies) ++ crlf) (low_bytes (codes "Cookie: ") (tested (codes "Cookie: ") refl))
    (both_bytes (b ∷ cookies) crlf all (low_bytes crlf (tested crlf refl)))) (low_bytes crlf (tested crlf refl))

-- ---- forms

serialized_low : (text : List ℕ) → AreLow (byte_serialize text)
serialized_low text = low_of (byte_serialize text) (IsAscii-byte_serialize text)

pair_low : (form name value : List ℕ) → AreLow form → AreLow (append_pair form name value)
pair_low form name value low =
    both_low (form ++ separator form) _ (both_low form (separator form) low (joint (is_nonempty form)))
    (both_low (byte_serialize name ++ 61 ∷ []) (byte_serialize value)
    (both_low (byte_serialize name) (61 ∷ []) (serialized_low name) (tested (61 ∷ []) refl)) (serialized_low value))
  where
    joint : (b : Bool) → AreLow (cond b (38 ∷ []) [])
    joint true = tested (38 ∷ []) refl
    joint false = tt

with_low : (name : List ℕ) (value : Option (List ℕ)) (form : List ℕ) → AreLow form → AreLow (with_pair name value form)
with_low name None form low = low
with_low name (Some value) form low = pair_low form name value low

assertion_low : (ask : AssertionFields) → AreLow (assertion_form ask)
unfolding account_form
assertion_low ask =
    with_low (codes "params") ask.params (account_form ask)
    (pair_low _ (codes "is_auto_selected") (truth_text ask.auto) (pair_low _ (codes "disclosure_text_shown") (truth_text ask.disclosure)
    (pair_low (client_form ask) (codes "account_id") ask.account
    (with_low (codes "nonce") ask.nonce _ (pair_low [] (codes "client_id") ask.client tt)))))

disconnect_low : (client hint : List ℕ) → AreLow (disconnect_form client hint)
disconnect_low client hint = pair_low _ (codes "account_hint") hint (pair_low [] (codes "client_id") client tt)

-- ---- requests

get_bytes : (target host cookies : List ℕ) → AreLow target → AreLow host → AreBytes cookies → AreBytes (get_text target host cookies)
get_bytes target host cookies t h all =
    both_bytes (first_lines (codes "GET ") target host) (last_lines cookies)
    (low_bytes (first_lines (codes "GET ") target host) (first_low (codes "GET ") target host (tested (codes "GET ") refl) t h))
    (last_bytes cookies all)

named_bytes : (target host origin : List ℕ) → AreLow target → AreLow host → AreLow origin → AreBytes (named_get_text target host origin)
named_bytes target host origin t h o =
    low_bytes (named_get_text target host origin)
    (both_low (first_lines (codes "GET ") target host ++ line (codes "Origin: ") origin) (last_lines [])
    (both_low (first_lines (codes "GET ") target host) (line (codes "Origin: ") origin)
    (first_low (codes "GET ") target host (tested (codes "GET ") refl) t h)
    (line_low (codes "Origin: ") origin (tested (codes "Origin: ") refl) o)) (tested crlf refl))

post_bytes : (target host origin form cookies : List ℕ) → AreLow target → AreLow host → AreLow origin → AreLow form → AreBytes cookies
    → AreBytes (post_text target host origin form cookies)
post_bytes target host origin form cookies t h o f all =
    both_bytes _ form
    (both_bytes _ (last_lines cookies)
    (low_bytes _ (both_low _ (form_lines form)
    (both_low (first_lines (codes "POST ") target host) (line (codes "Origin: ") origin)
    (first_low (codes "POST ") target host (tested (codes "POST ") refl) t h)
    (line_low (codes "Origin: ") origin (tested (codes "Origin: ") refl) o)) (form_low form)))
    (last_bytes cookies all)) (low_bytes form f)

pub request_is_bytes : (ask : Ask) (cookies : List ℕ) → GoodAsk ask → AreBytes cookies → AreBytes (request_bytes ask cookies)
request_is_bytes ask cookies g all = go ask g (uri_low (target_of ask) (target_uri ask g))
    (ink_low _ (field_ink (url_of ask) (url_good ask g)))
  where
    page : (origin : Origin) → IsPage origin → AreLow (origin_text origin)
    page origin p = ink_low (origin_text origin) (page_ink origin p)

    go : (ask : Ask) → GoodAsk ask → AreLow (target_of ask) → AreLow (host_field (url_of ask)) → AreBytes (request_bytes ask cookies)
    go (WellKnown to) g t h = get_bytes (codes "/.well-known/web-identity") (host_field to) [] t h tt
    go (Config to) g t h = get_bytes (target_of (Config to)) (host_field to) [] t h tt
    go (Accounts to) g t h = get_bytes (target_of (Accounts to)) (host_field to) cookies t h all
    go (Metadata to client origin) g t h = named_bytes (target_of (Metadata to client origin)) (host_field to) (origin_text origin) t h
        (page origin g.1)
    go (Assertion ask) g t h =
        post_bytes (target_of (Assertion ask)) (host_field ask.to) (origin_text ask.origin) (assertion_form ask) cookies t h
        (page ask.origin g.origin) (assertion_low ask) all
    go (Disconnect to client hint origin) g t h =
        post_bytes (target_of (Disconnect to client hint origin)) (host_field to) (origin_text origin) (disconnect_form client hint)
        cookies t h
        (page origin g.1) (disconnect_low client hint) all
