-- What `url` reads in the text of a URL of the web.
use Rattle.std.proofs.Common.{◌≡◌, ℕ, List, Bool, true, false, not, ◌||◌, Result, Ok, Err, None, refl, sym, ap, ◌∙◌}
use Rattle.std.proofs.lemmas.Slice.Eq.{bytes_eq-Decides}
use Rattle.std.specs.Prelude.{Option, bytes_eq, codes, if◌then◌else◌}
use Rattle.url.specs.declared.scheme.SchemeType.TheVariants.{SpecialNotFile}
use Rattle.url.specs.Origin.{is_http}
use Rattle.url.specs.Parser.{parse_url}
use Rattle.url.specs.Parts.{Parts, kind_of, serialize, has_credentials, IsValid}
use Rattle.url.specs.Scheme.{scheme_type, default_port}
use Rattle.url.proofs.Theorems.{parse_url-serialize_special}
use Rattle.fed_origin.specs.Layout.{parts_or_empty, parts_of_text}
use Rattle.fed_origin.specs.WebUrl.{web_part}
use Rattle.fed_origin.specs.declared.origin.Origin.{Origin}
use Rattle.fed_origin.specs.declared.refusal.UrlRefusal.{UrlRefusal}
use Rattle.fed_origin.specs.declared.refusal.UrlRefusal.TheVariants.{NotWeb, HasUser}

http_kind : scheme_type (codes "http") ≡ SpecialNotFile
unfolding scheme_type default_port
http_kind = refl

https_kind : scheme_type (codes "https") ≡ SpecialNotFile
unfolding scheme_type default_port
https_kind = refl

pub is_web : (a : Parts) → web_part (Ok a) ≡ Ok a → is_http a.scheme ≡ true
is_web a h = go (is_http a.scheme) refl
  where
    by : Bool → Result Parts UrlRefusal
    by b = if not b then Err NotWeb else (if has_credentials a then Err HasUser else Ok a)

    refused : by false ≡ Ok a → ⊥
    refused e = cc

    go : (b : Bool) → is_http a.scheme ≡ b → is_http a.scheme ≡ true
    go true e = e
    go false e = absurd (refused (sym (ap (λ b. by b) e) ∙ h))

pub special : (a : Parts) → web_part (Ok a) ≡ Ok a → kind_of a ≡ SpecialNotFile
special a h = go (bytes_eq a.scheme (codes "http")) (bytes_eq a.scheme (codes "https")) refl refl (is_web a h)
  where
    go : (x y : Bool) → bytes_eq a.scheme (codes "http") ≡ x → bytes_eq a.scheme (codes "https") ≡ y
        → bytes_eq a.scheme (codes "http") || bytes_eq a.scheme (codes "https") ≡ true → kind_of a ≡ SpecialNotFile
    go true y e k t = ap scheme_type ((bytes_eq-Decides a.scheme (codes "http")).0 e) ∙ http_kind
    go false true e k t = ap scheme_type ((bytes_eq-Decides a.scheme (codes "https")).0 k) ∙ https_kind
    go false false e k t = let no : false ≡ true = sym (ap (λ b. b || bytes_eq a.scheme (codes "https")) e ∙ k) ∙ t in absurd (cc)

pub no_user : (a : Parts) → web_part (Ok a) ≡ Ok a → has_credentials a ≡ false
no_user a h = go (has_credentials a) refl
  where
    by : Bool → Bool → Result Parts UrlRefusal
    by web user = if not web then Err NotWeb else (if user then Err HasUser else Ok a)

    refused : by true true ≡ Ok a → ⊥
    refused e = cc

    go : (b : Bool) → has_credentials a ≡ b → has_credentials a ≡ false
    go true e = absurd (refused (sym (ap (λ w. by w (has_credentials a)) (is_web a h) ∙ ap (by true) e) ∙ h))
    go false e = e

-- the text of a URL of the web is read as this URL, whatever it is read against
pub reads_itself : (url : Parts) (base : Option Parts) → IsValid url → web_part (Ok url) ≡ Ok url
    → parse_url base (serialize url) ≡ Ok url
reads_itself url base valid web = parse_url-serialize_special url base valid (special url web)

-- parts that are read in a text are those of the text
pub parts_are : (text : List ℕ) (url : Parts) → parse_url None text ≡ Ok url → parts_of_text text ≡ url
unfolding parts_of_text
parts_are text url read = ap parts_or_empty read

-- two origins of the same parts
pub same_parts : {a b : Origin} → a.scheme ≡ b.scheme → a.host ≡ b.host → a.port ≡ b.port → a ≡ b
same_parts scheme host port = rw (scheme, host, port) refl
