-- URLs of the web are valid.
use Rattle.std.proofs.Common.{◌≡◌, ℕ, ◌+◌, ◌/◌, ◌%◌, ◌<◌, Bool, true, false, cond, not, nat_lt, List, [], ◌∷◌, All, Some, None}
use Rattle.std.proofs.Common.{refl, sym, subst, ⊎_elim, arith}
use Rattle.std.specs.Prelude.{bytes_eq, codes, Ok, Err}
use Rattle.std.specs.Str.{IsUtf8}
use Rattle.std.proofs.Math.Utf8.{encode, encodes, scalar, scalar_cases, scalars}
use Rattle.std.proofs.lemmas.Bool.{and_parts, cond_both, ltb-true, or_cases}
use Rattle.std.proofs.lemmas.List.Elements.{All-append, All-cons, All-nil}
use Rattle.std.proofs.lemmas.Slice.Eq.{bytes_eq-Decides}
use Rattle.std.proofs.lemmas.Str.{IsUtf8-from_ascii}
use Rattle.percent_encoding.proofs.PercentLemmas.{IsByte}
use Rattle.url.specs.declared.scheme.SchemeType.TheVariants.{SpecialNotFile}
use Rattle.url.specs.Origin.{is_http}
use Rattle.url.specs.Parser.{Parsed, parse_url}
use Rattle.url.specs.Parts.{IsValid, Parts, has_credentials, kind_of, serialize}
use Rattle.url.specs.Scheme.{default_port, scheme_type}
use Rattle.url.proofs.ValidLemmas.{IsAscii-serialize}
use Rattle.fed_origin.specs.declared.refusal.UrlRefusal.{UrlRefusal}
use Rattle.fed_origin.specs.declared.refusal.UrlRefusal.TheVariants.{HasUser, NotWeb}
use Rattle.fed_origin.specs.WebUrl.{joined_url, web_part, web_url}
use Rattle.fed_own.proofs.plain.Results.{IfOk}
use Rattle.fed_own.proofs.urls.Parsed.{IfParsed, SpecialValid, url_read}

-- a URL of the web, as `url` gives one
pub record IsWeb (url : Parts) : Type 0 where
  pub valid : IsValid url
  pub http : is_http url.scheme ≡ true
  pub plain : has_credentials url ≡ false

-- ---- the bytes of a text

list_one : (a : ℕ) → a < 256 → All IsByte (a ∷ [])
list_one a p = All-cons IsByte a [] p (All-nil IsByte)

list_two : (a b : ℕ) → a < 256 → b < 256 → All IsByte (a ∷ b ∷ [])
list_two a b p q = All-cons IsByte a (b ∷ []) p (list_one b q)

list_three : (a b c : ℕ) → a < 256 → b < 256 → c < 256 → All IsByte (a ∷ b ∷ c ∷ [])
list_three a b c p q r = All-cons IsByte a (b ∷ c ∷ []) p (list_two b c q r)

list_four : (a b c d : ℕ) → a < 256 → b < 256 → c < 256 → d < 256 → All IsByte (a ∷ b ∷ c ∷ d ∷ [])
list_four a b c d p q r s = All-cons IsByte a (b ∷ c ∷ d ∷ []) p (list_three b c d q r s)

scalar_small : (c : ℕ) → scalar c ≡ true → c < 1114112
scalar_small c ok = ⊎_elim (λ low. omega (arith, low)) (λ high. high.1) (scalar_cases c ok)

encoded_bytes : (c : ℕ) → scalar c ≡ true → All IsByte (encode c)
unfolding encode
encoded_bytes c ok =
    cond_both (nat_lt c 128) _ _ (All IsByte) (λ t. list_one c (let h = ltb-true c 128 t in omega (arith, h)))
    (λ f. cond_both (nat_lt c 2048) _ _ (All IsByte)
    (λ t. let h = ltb-true c 2048 t in list_two (192 + c / 64) (128 + c % 64) (omega (arith, h)) (omega arith))
    (λ g. cond_both (nat_lt c 65536) _ _ (All IsByte)
    (λ t. let h = ltb-true c 65536 t in
    list_three (224 + c / 4096) (128 + c / 64 % 64) (128 + c % 64) (omega (arith, h)) (omega arith) (omega arith))
    (λ h. let s = scalar_small c ok in
    list_four (240 + c / 262144) (128 + c / 4096 % 64) (128 + c / 64 % 64) (128 + c % 64) (omega (arith, s)) (omega arith) (omega arith)
    (omega arith))))

all_encoded : (cs : List ℕ) → scalars cs ≡ true → All IsByte (encodes cs)
all_encoded [] ok = All-nil IsByte
all_encoded (c ∷ cs) ok =
    let both = and_parts (scalar c) (scalars cs) ok in
    All-append IsByte (encode c) (encodes cs) (encoded_bytes c both.0) (all_encoded cs both.1)

-- a text is of bytes
pub utf8_bytes : (text : List ℕ) → IsUtf8 text → All IsByte text
utf8_bytes text u = subst (All IsByte) u.1.1 (all_encoded u.0 u.1.0)

-- ---- what is read

http_kind : (scheme : List ℕ) → is_http scheme ≡ true → scheme_type scheme ≡ SpecialNotFile
unfolding scheme_type default_port
http_kind scheme is =
    ⊎_elim (λ a. subst (λ s. scheme_type s ≡ SpecialNotFile) (sym ((bytes_eq-Decides scheme (codes "http")).0 a)) refl)
    (λ b. subst (λ s. scheme_type s ≡ SpecialNotFile) (sym ((bytes_eq-Decides scheme (codes "https")).0 b)) refl)
    (or_cases (bytes_eq scheme (codes "http")) (bytes_eq scheme (codes "https")) is)

pub web_kind : (url : Parts) → IsWeb url → kind_of url ≡ SpecialNotFile
web_kind url web = http_kind url.scheme web.http

part_web : (o : Parsed Parts) → IfParsed SpecialValid o → IfOk IsWeb (web_part o)
part_web (Err e) h = tt
part_web (Ok url) h = go (is_http url.scheme) refl (has_credentials url) refl
  where
    go : (a : Bool) → is_http url.scheme ≡ a → (b : Bool) → has_credentials url ≡ b
        → IfOk {E = UrlRefusal} IsWeb (cond (not a) (Err NotWeb) (cond b (Err HasUser) (Ok url)))
    go false is b plain = tt
    go true is true plain = tt
    go true is false plain = record { valid = h (http_kind url.scheme is); http = is; plain = plain }

pub read_web : (text : List ℕ) → IsUtf8 text → IfOk IsWeb (web_url text)
read_web text u = part_web (parse_url None text) (url_read None text tt (utf8_bytes text u))

pub joined_web : (base : Parts) (text : List ℕ) → IsWeb base → IsUtf8 text → IfOk IsWeb (joined_url base text)
joined_web base text web u =
    part_web (parse_url (Some base) text)
    (url_read (Some base) text (record { valid = web.valid; special = web_kind base web }) (utf8_bytes text u))

-- the text of one
pub web_text : (url : Parts) → IsWeb url → IsUtf8 (serialize url)
web_text url web = IsUtf8-from_ascii (serialize url) (IsAscii-serialize url web.valid)
