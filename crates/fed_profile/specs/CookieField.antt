-- The field that stores a cookie again, and the URL that it comes from.
use Rattle.std.specs.Prelude.{ℕ, ◌-◌, Bool, true, false, ◌==◌, List, [], ◌++◌, codes, decimal, Option, Some, None, if◌then◌else◌}
use Rattle.std.specs.List.{list_any}
use Rattle.fed_cookie.specs.declared.same_site.SameSite.{SameSite}
use Rattle.fed_cookie.specs.declared.same_site.SameSite.TheVariants.{Strict, Lax, NoLimit}
use Rattle.fed_jar.specs.Cookie.{StoredCookie}

-- a path that no attribute can say
abbrev pub has_semicolon : List ℕ → Bool
has_semicolon path = list_any (λ b. b == 59) path

-- a cookie for one host alone names no domain
abbrev pub domain_part : StoredCookie → List ℕ
domain_part cookie = if cookie.host_only then [] else codes "; Domain=" ++ cookie.domain

-- how long it lasts from the time on, and 0 where it is over
abbrev pub age_part : ℕ → Option ℕ → List ℕ
age_part now None = []
age_part now (Some expiry) = codes "; Max-Age=" ++ decimal (expiry - now)

abbrev pub path_part : List ℕ → List ℕ
path_part path = if has_semicolon path then [] else codes "; Path=" ++ path

abbrev pub secure_part : Bool → List ℕ
secure_part true = codes "; Secure"
secure_part false = []

abbrev pub same_site_text : SameSite → List ℕ
same_site_text NoLimit = codes "None"
same_site_text Lax = codes "Lax"
same_site_text Strict = codes "Strict"

-- to which hosts and paths it goes, and for how long
abbrev pub scope_text : ℕ → StoredCookie → List ℕ
scope_text now cookie = domain_part cookie ++ (age_part now cookie.expiry ++ path_part cookie.path)

-- on which requests it goes
abbrev pub guard_text : Bool → SameSite → List ℕ
guard_text secure same_site = secure_part secure ++ (codes "; SameSite=" ++ same_site_text same_site)

abbrev pub pair_text : StoredCookie → List ℕ
pair_text cookie = cookie.name ++ (codes "=" ++ cookie.value)

-- the Set-Cookie value that stores the cookie at the time
unfoldable pub cookie_field : ℕ → StoredCookie → List ℕ
cookie_field now cookie = pair_text cookie ++ (scope_text now cookie ++ guard_text cookie.secure cookie.same_site)

-- where the path stands in no attribute, the URL's has it
abbrev pub path_in_url : List ℕ → List ℕ
path_in_url path = if has_semicolon path then path else []

-- the URL from which it is stored
unfoldable pub cookie_url : StoredCookie → List ℕ
cookie_url cookie = codes "https://" ++ (cookie.domain ++ (path_in_url cookie.path ++ codes "/"))
