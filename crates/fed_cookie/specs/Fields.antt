-- Reading a Set-Cookie field (RFC 6265, 5.2).
use Rattle.std.specs.Prelude.{ℕ, ℤ, pos, neg_ℤ, ◌-◌, ◌^◌, min, Bool, true, false, not, ◌&&◌, ◌||◌, ◌==◌, List, [], ◌∷◌, length, map, codes}
use Rattle.std.specs.Prelude.{slice_index, nat_lt, bytes_eq, Option, None, Some, option_map, option_and_then, unwrap_or, if◌then◌else◌}
use Rattle.std.specs.Char.{is_ascii_digit, to_ascii_lowercase}
use Rattle.std.specs.List.{list_any, list_all, slice_split}
use Rattle.std.specs.Option.{option_or}
use Rattle.fed_cookie.specs.declared.same_site.SameSite.{SameSite}
use Rattle.fed_cookie.specs.declared.same_site.SameSite.TheVariants.{Strict, Lax, NoLimit}
use Rattle.fed_cookie.specs.declared.attributes.AttributeKind.{AttributeKind}
use Rattle.fed_cookie.specs.declared.attributes.AttributeKind.TheVariants.{Expires, MaxAge, Domain, Path, Secure, SameSite as SameSiteKind}
use Rattle.fed_cookie.specs.declared.attributes.AttributeKind.TheVariants.{Other}
use Rattle.fed_io.specs.Trim.{trimmed}
use Rattle.fed_cookie.specs.Bytes.{cut_at, number_of, last_some}
use Rattle.fed_cookie.specs.Date.{date_of}
use Rattle.fed_cookie.specs.SetCookie.{SetCookie}

-- what the attributes of a field say, each the last of its kind that counts
pub record Attributes : Type 0 where
  pub expires : Option ℕ
  pub max_age : Option ℤ
  -- without a dot in front
  pub domain : Option (List ℕ)
  pub path : Option (List ℕ)
  pub secure : Bool
  pub same_site : SameSite

-- a control byte other than tab
abbrev pub is_refused : ℕ → Bool
is_refused b = (nat_lt b 32 && not (b == 9)) || b == 127

-- the kind of an attribute, by its name in lower case
abbrev pub kind_of : List ℕ → AttributeKind
kind_of name =
    if bytes_eq name (codes "expires") then Expires
    else (if bytes_eq name (codes "max-age") then MaxAge
    else (if bytes_eq name (codes "domain") then Domain
    else (if bytes_eq name (codes "path") then Path
    else (if bytes_eq name (codes "secure") then Secure
    else (if bytes_eq name (codes "samesite") then SameSiteKind else Other)))))

-- name and value round the first `=`, where there is one
abbrev pub named_value : List ℕ → Option (List ℕ × List ℕ)
named_value part = option_map (λ r. (trimmed r.0, trimmed r.1)) (cut_at 61 part)

-- an attribute's name and value; without `=` the value is empty
abbrev pub attribute : List ℕ → List ℕ × List ℕ
attribute part = unwrap_or (named_value part) (trimmed part, [])

abbrev pub attribute_kind : List ℕ → AttributeKind
attribute_kind part = kind_of (map to_ascii_lowercase (attribute part).0)

abbrev pub attribute_value : List ℕ → List ℕ
attribute_value part = (attribute part).1

-- at least one digit, and nothing else
abbrev pub is_digits : List ℕ → Bool
is_digits bytes = nat_lt 0 (length bytes) && list_all is_ascii_digit bytes

-- a number of seconds, within what an i64 holds
abbrev pub seconds_of : List ℕ → Option ℤ
seconds_of digits = if is_digits digits then Some (pos (min (number_of digits) (2 ^ 63 - 1))) else None

abbrev pub negative_seconds_of : List ℕ → Option ℤ
negative_seconds_of digits = if is_digits digits then Some (neg_ℤ (pos (min (number_of digits) (2 ^ 63)))) else None

abbrev pub max_age_of : List ℕ → Option ℤ
max_age_of [] = None
max_age_of (b ∷ bytes) = if b == 45 then negative_seconds_of bytes else seconds_of (b ∷ bytes)

abbrev pub without_dot : List ℕ → List ℕ
without_dot [] = []
without_dot (b ∷ bytes) = if b == 46 then bytes else b ∷ bytes

-- a domain that is not empty, without one dot in front
abbrev pub domain_of : List ℕ → Option (List ℕ)
domain_of [] = None
domain_of (b ∷ bytes) = Some (without_dot (b ∷ bytes))

-- a path that begins with a slash
abbrev pub path_of : List ℕ → Option (List ℕ)
path_of value = if slice_index value 0 == 47 then Some value else None

-- the word in lower case; one that is none of the three counts as Lax
abbrev pub same_site_of : List ℕ → SameSite
same_site_of word =
    if bytes_eq word (codes "none") then NoLimit else (if bytes_eq word (codes "strict") then Strict else Lax)

-- what an attribute of this kind and value says of each part of a cookie
abbrev pub expires_in : AttributeKind → List ℕ → Option ℕ
expires_in Expires value = date_of value
expires_in _ value = None

abbrev pub max_age_in : AttributeKind → List ℕ → Option ℤ
max_age_in MaxAge value = max_age_of value
max_age_in _ value = None

abbrev pub domain_in : AttributeKind → List ℕ → Option (List ℕ)
domain_in Domain value = domain_of value
domain_in _ value = None

-- a Path attribute that names no path says that there is none
abbrev pub path_in : AttributeKind → List ℕ → Option (Option (List ℕ))
path_in Path value = Some (path_of value)
path_in _ value = None

abbrev pub secure_in : AttributeKind → Bool
secure_in Secure = true
secure_in _ = false

abbrev pub same_site_in : AttributeKind → List ℕ → Option SameSite
same_site_in SameSiteKind value = Some (same_site_of (map to_ascii_lowercase value))
same_site_in _ value = None

abbrev pub no_attributes : Attributes
no_attributes = record { expires = None; max_age = None; domain = None; path = None; secure = false; same_site = Lax }

-- of each kind the last attribute that counts, else what was said before
unfoldable pub attributes_of : Attributes → List (List ℕ) → Attributes
attributes_of before parts = record {
  expires = option_or (last_some (λ part. expires_in (attribute_kind part) (attribute_value part)) parts) before.expires;
  max_age = option_or (last_some (λ part. max_age_in (attribute_kind part) (attribute_value part)) parts) before.max_age;
  domain = option_or (last_some (λ part. domain_in (attribute_kind part) (attribute_value part)) parts) before.domain;
  path = unwrap_or (last_some (λ part. path_in (attribute_kind part) (attribute_value part)) parts) before.path;
  secure = list_any (λ part. secure_in (attribute_kind part)) parts || before.secure;
  same_site = unwrap_or (last_some (λ part. same_site_in (attribute_kind part) (attribute_value part)) parts) before.same_site;
}

abbrev pub cookie_with : List ℕ → List ℕ → Attributes → SetCookie
cookie_with name value said = record {
  name = name;
  value = value;
  domain = option_map (λ domain. map to_ascii_lowercase domain) said.domain;
  path = said.path;
  expires = said.expires;
  max_age = said.max_age;
  secure = said.secure;
  same_site = said.same_site;
}

-- the cookie of a pair and its attributes, where the pair has a name
abbrev pub named_cookie : List ℕ → Attributes → Option SetCookie
named_cookie pair said =
    option_and_then (λ r. if length r.0 == 0 then None else Some (cookie_with r.0 r.1 said)) (named_value pair)

-- the pair and the attributes
abbrev pub cookie_of_parts : List (List ℕ) → Option SetCookie
cookie_of_parts [] = None
cookie_of_parts (pair ∷ parts) = named_cookie pair (attributes_of no_attributes parts)

-- what a field says, where it is no refused one
abbrev pub set_cookie_of : List ℕ → Option SetCookie
set_cookie_of field = if list_any is_refused field then None else cookie_of_parts (slice_split (λ b. b == 59) field)
