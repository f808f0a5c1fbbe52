-- Which fields a jar stores, and as which cookie (RFC 6265, 5.3).
use Rattle.std.specs.Prelude.{ℕ, zero, suc, ℤ, pos, negsuc, ◌+◌, ◌-◌, ◌^◌, min, Bool, true, false, not, ◌&&◌, ◌||◌, List, [], ◌∷◌, length}
use Rattle.std.specs.Prelude.{codes, filter, nat_lt, nat_eq, bytes_eq, is_some, Option, None, Some, option_map, unwrap_or, if◌then◌else◌}
use Rattle.std.specs.Prelude.{◌≡◌}
use Rattle.std.specs.List.{starts_with, AllByRecursion}
use Rattle.url.specs.Parts.{Parts}
use Rattle.fed_origin.specs.WebUrl.{host_of, scheme_of}
use Rattle.fed_origin.specs.declared.scheme.Scheme.{Scheme}
use Rattle.fed_origin.specs.declared.scheme.Scheme.TheVariants.{Http, Https}
use Rattle.fed_suffix.specs.Rule.{RuleSet}
use Rattle.fed_suffix.specs.Registrable.{registrable, party}
use Rattle.fed_cookie.specs.declared.same_site.SameSite.{SameSite}
use Rattle.fed_cookie.specs.declared.same_site.SameSite.TheVariants.{Strict, Lax, NoLimit}
use Rattle.fed_cookie.specs.SetCookie.{SetCookie}
use Rattle.fed_cookie.specs.Matches.{default_path, domain_matches}
use Rattle.fed_jar.specs.Cookie.{StoredCookie, KeptCookie, JarParts}

abbrev pub is_http : Scheme → Bool
is_http Http = true
is_http Https = false

abbrev pub has_no_limit : SameSite → Bool
has_no_limit NoLimit = true
has_no_limit Strict = false
has_no_limit Lax = false

-- both are there, and they are equal
abbrev pub are_same : Option (List ℕ) → Option (List ℕ) → Bool
are_same (Some a) (Some b) = bytes_eq a b
are_same (Some a) None = false
are_same None b = false

-- the host matches the domain, and both have the same registrable domain; an address has none
unfoldable pub is_within : RuleSet → List ℕ → List ℕ → Bool
is_within rules host domain = domain_matches host domain && are_same (registrable rules host) (registrable rules domain)

-- whether a cookie with this Domain attribute is for the host alone; none where it may not name that domain
abbrev pub host_only_of : RuleSet → List ℕ → Option (List ℕ) → Option Bool
host_only_of rules host None = Some true
host_only_of rules host (Some domain) =
    if is_within rules host domain then Some false else (if bytes_eq domain host then Some true else None)

-- the path of a cookie from a page of this path
abbrev pub path_from : List ℕ → SetCookie → List ℕ
path_from page raw = unwrap_or raw.path (default_path page)

-- a name that says more than the field keeps
abbrev pub breaks_prefix : List ℕ → SetCookie → Bool
breaks_prefix path raw =
    (starts_with nat_eq raw.name (codes "__Secure-") && not raw.secure)
    || (starts_with nat_eq raw.name (codes "__Host-") && (not raw.secure || is_some raw.domain || not (bytes_eq path (47 ∷ []))))

-- too long, Secure over http, SameSite=None without Secure, or a broken prefix
unfoldable pub is_refused : Scheme → List ℕ → SetCookie → Bool
is_refused scheme path raw =
    nat_lt 4096 (length raw.name + length raw.value)
    || (raw.secure && is_http scheme)
    || (has_no_limit raw.same_site && not raw.secure)
    || breaks_prefix path raw

-- whether the cookie of a field is for the host alone; none where it is ignored
abbrev pub scope_of : RuleSet → Parts → SetCookie → Option Bool
scope_of rules url raw =
    if is_refused (scheme_of url) (path_from url.path raw) raw then None else host_only_of rules (host_of url) raw.domain

-- the time and Max-Age together, at most the greatest u64
abbrev pub expiry_after : ℕ → ℤ → ℕ
expiry_after now (pos zero) = 0
expiry_after now (pos (suc age)) = min (now + suc age) (2 ^ 64 - 1)
expiry_after now (negsuc age) = 0

-- by Max-Age, otherwise by Expires, otherwise none
abbrev pub expiry_of : ℕ → Option ℤ → Option ℕ → Option ℕ
expiry_of now (Some age) expires = Some (expiry_after now age)
expiry_of now None expires = expires

-- the cookie of a field that is stored
unfoldable pub cookie_from : Parts → ℕ → SetCookie → Bool → StoredCookie
cookie_from url now raw host_only = record {
  name = raw.name;
  value = raw.value;
  domain = unwrap_or raw.domain (host_of url);
  host_only = host_only;
  path = path_from url.path raw;
  expiry = expiry_of now raw.max_age raw.expires;
  secure = raw.secure;
  same_site = raw.same_site;
}

-- the cookie that a field of a page of the URL writes; none where it is ignored
abbrev pub cookie_of : RuleSet → Parts → ℕ → SetCookie → Option StoredCookie
cookie_of rules url now raw = option_map (cookie_from url now raw) (scope_of rules url raw)

-- the cookie is of the party
abbrev pub is_of_party : RuleSet → List ℕ → StoredCookie → Bool
is_of_party rules name cookie = bytes_eq (party rules cookie.domain) name

-- the cookies of the party among these
abbrev pub part_of : RuleSet → List ℕ → List StoredCookie → List StoredCookie
part_of rules name cookies = filter (is_of_party rules name) cookies

-- the cookie is kept under its party
abbrev pub IsOwn : RuleSet → KeptCookie → Type 0
IsOwn rules k = k.party ≡ party rules k.cookie.domain

-- each cookie of the jar is kept under its party
abbrev pub IsKeptBy : RuleSet → JarParts → Type 0
IsKeptBy rules jar = AllByRecursion (IsOwn rules) jar.kept
