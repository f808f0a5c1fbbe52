-- Cookies that come and go: no jar is kept.
use Rattle.std.specs.Prelude.{ℕ, Bool, not, ◌&&◌, List, [], ◌∷◌, Option, Some, None, bytes_eq, filter, fold, if◌then◌else◌}
use Rattle.fed_suffix.specs.Rule.{RuleSet}
use Rattle.fed_suffix.specs.Registrable.{party}
use Rattle.fed_jar.specs.Cookie.{StoredCookie, with_cookie}

-- what two cookies have in common of which one takes the other's place
pub record CookieKey : Type 0 where
  pub name : List ℕ
  pub domain : List ℕ
  pub path : List ℕ

abbrev pub key_of : StoredCookie → CookieKey
key_of cookie = record { name = cookie.name; domain = cookie.domain; path = cookie.path }

-- the cookie has this name, domain and path
abbrev pub is_key : CookieKey → StoredCookie → Bool
is_key key cookie = bytes_eq key.name cookie.name && (bytes_eq key.domain cookie.domain && bytes_eq key.path cookie.path)

pub data CookieChange : Type 0 where
  -- the cookie stands from now on, in the place of the one with its name, domain and path, or last
  Stored : (cookie : StoredCookie) → CookieChange
  -- the cookie with this name, domain and path is gone
  Gone : (key : CookieKey) → CookieChange

-- the cookies without the one of this key
abbrev pub without : List StoredCookie → CookieKey → List StoredCookie
without cookies key = filter (λ cookie. not (is_key key cookie)) cookies

abbrev pub changed : List StoredCookie → CookieChange → List StoredCookie
changed cookies (Stored cookie) = with_cookie cookies cookie
changed cookies (Gone key) = without cookies key

-- the cookies after changes, in their order
abbrev pub changed_by : List StoredCookie → List CookieChange → List StoredCookie
changed_by cookies changes = fold changed cookies changes

-- The cookies of the keys whose last change stored one, in the order of the first that was stored since the key last went.
unfoldable pub standing : List CookieChange → List StoredCookie
standing changes = changed_by [] changes

-- the domain of the cookie that stands or goes
abbrev pub domain_of : CookieChange → List ℕ
domain_of (Stored cookie) = cookie.domain
domain_of (Gone key) = key.domain

-- a cookie of the party stands or goes
abbrev pub changes_party : RuleSet → List ℕ → CookieChange → Bool
changes_party rules name change = bytes_eq (party rules (domain_of change)) name

-- the changes of the party among these
abbrev pub changes_of_party : RuleSet → List ℕ → List CookieChange → List CookieChange
changes_of_party rules name changes = filter (changes_party rules name) changes

-- ---- the same by looking back

abbrev pub same_keys : CookieKey → CookieKey → Bool
same_keys a b = bytes_eq a.name b.name && (bytes_eq a.domain b.domain && bytes_eq a.path b.path)

-- the cookie that the last change of the key stored, or none where it is gone or none was stored, where what was before is given
abbrev pub last_left : CookieKey → Option StoredCookie → List CookieChange → Option StoredCookie
last_left key before [] = before
last_left key before (Stored cookie ∷ changes) = last_left key (if is_key key cookie then Some cookie else before) changes
last_left key before (Gone gone ∷ changes) = last_left key (if same_keys key gone then None else before) changes

-- the cookie of the key among these
abbrev pub cookie_under : CookieKey → List StoredCookie → Option StoredCookie
cookie_under key [] = None
cookie_under key (cookie ∷ cookies) = if is_key key cookie then Some cookie else cookie_under key cookies
