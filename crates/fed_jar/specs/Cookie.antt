-- What contracts see of a Cookie, and of a jar: the list of its cookies, the party of each, and how many new keys ever entered.
use Rattle.std.specs.Prelude.{ℕ, ◌+◌, Bool, ◌&&◌, List, [], ◌∷◌, Option, bytes_eq, filter, map, if◌then◌else◌}
use Rattle.std.specs.List.{IsDistinct, list_any}
use Rattle.fed_cookie.specs.declared.same_site.SameSite.{SameSite}

-- a cookie that a jar holds
pub record StoredCookie : Type 0 where
  pub name : List ℕ
  pub value : List ℕ
  pub domain : List ℕ
  -- it goes to that host alone
  pub host_only : Bool
  pub path : List ℕ
  -- seconds since 1970
  pub expiry : Option ℕ
  pub secure : Bool
  pub same_site : SameSite

-- the same name, domain and path
abbrev pub same_key : StoredCookie → StoredCookie → Bool
same_key a b = bytes_eq a.name b.name && (bytes_eq a.domain b.domain && bytes_eq a.path b.path)

-- no two have the same name, domain and path
abbrev pub AreDistinct : List StoredCookie → Type 0
AreDistinct cookies = IsDistinct same_key cookies

-- the cookie stands in the place of the one with its name, domain and path, or last
abbrev pub with_cookie : List StoredCookie → StoredCookie → List StoredCookie
with_cookie [] cookie = cookie ∷ []
with_cookie (c ∷ cs) cookie = if same_key cookie c then cookie ∷ cs else c ∷ with_cookie cs cookie

-- a cookie of a jar, the party under which it is kept, and how many new keys had entered the jar before it
pub record KeptCookie : Type 0 where
  pub cookie : StoredCookie
  pub party : List ℕ
  pub number : ℕ

-- a jar: its cookies in the order of first storing, over all parties, and how many new keys ever entered
pub record JarParts : Type 0 where
  pub kept : List KeptCookie
  pub entered : ℕ

-- the cookies of these
abbrev pub cookies_of : List KeptCookie → List StoredCookie
cookies_of kept = map (λ k. k.cookie) kept

-- the list of a jar
abbrev pub cookies_in : JarParts → List StoredCookie
cookies_in jar = cookies_of jar.kept

-- it is kept under the party
abbrev pub is_under : List ℕ → KeptCookie → Bool
is_under name k = bytes_eq k.party name

-- what is kept under the party, in the jar's order
abbrev pub kept_under : List ℕ → List KeptCookie → List KeptCookie
kept_under name kept = filter (is_under name) kept

-- a cookie of the list has the name, domain and path
abbrev pub has_key : StoredCookie → List StoredCookie → Bool
has_key cookie cookies = list_any (same_key cookie) cookies

-- the cookie stands in the place of the one with its name, domain and path, under that one's party and number, or last
abbrev pub with_kept : List KeptCookie → KeptCookie → List KeptCookie
with_kept [] new = new ∷ []
with_kept (k ∷ ks) new = if same_key new.cookie k.cookie then record k { cookie = new.cookie } ∷ ks else k ∷ with_kept ks new

-- how many new keys ever entered, after the cookie
abbrev pub entered_after : JarParts → StoredCookie → ℕ
entered_after jar cookie = if has_key cookie (cookies_in jar) then jar.entered else jar.entered + 1
