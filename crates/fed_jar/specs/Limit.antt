-- At most 180 cookies of a party stand: one that is new there makes another go.
use Rattle.std.specs.Prelude.{ℕ, Bool, not, ◌||◌, List, [], ◌∷◌, ◌++◌, filter, length, nat_lt, Option, None, Some, option_map, if◌then◌else◌}
use Rattle.std.specs.Option.{option_or}
use Rattle.std.specs.List.{cons_option}
use Rattle.fed_suffix.specs.Rule.{RuleSet}
use Rattle.fed_suffix.specs.Registrable.{party}
use Rattle.fed_jar.specs.Changes.{CookieKey, CookieChange, Stored, Gone, key_of, is_key, changed_by}
use Rattle.fed_jar.specs.Cookie.{StoredCookie, KeptCookie, JarParts, has_key, cookies_of, kept_under, with_kept, entered_after}
use Rattle.fed_jar.specs.Store.{part_of}
use Rattle.fed_jar.specs.Send.{is_fresh}

-- the most cookies of a party
abbrev pub most_cookies : ℕ
most_cookies = 180

-- the first whose expiry is at or below the time
abbrev pub first_expired : ℕ → List StoredCookie → Option StoredCookie
first_expired now [] = None
first_expired now (cookie ∷ cookies) = if is_fresh now cookie.expiry then first_expired now cookies else Some cookie

abbrev pub first_of : List StoredCookie → Option StoredCookie
first_of [] = None
first_of (cookie ∷ cookies) = Some cookie

-- the first expired one, else the first
abbrev pub first_to_go : ℕ → List StoredCookie → Option StoredCookie
first_to_go now cookies = option_or (first_expired now cookies) (first_of cookies)

-- no other has to go: the cookie's key stands, or the party has room
abbrev pub has_place : List StoredCookie → StoredCookie → Bool
has_place own cookie = has_key cookie own || nat_lt (length own) most_cookies

-- of the party's own cookies, the key of the one that a cookie of the party makes go
unfoldable pub gone_with : ℕ → List StoredCookie → StoredCookie → Option CookieKey
gone_with now own cookie = if has_place own cookie then None else option_map key_of (first_to_go now own)

-- a cookie is stored: it stands, and then another may go
abbrev pub changes_with : RuleSet → ℕ → List StoredCookie → StoredCookie → List CookieChange
changes_with rules now cookies cookie =
    Stored cookie ∷ cons_option (option_map Gone (gone_with now (part_of rules (party rules cookie.domain) cookies) cookie)) []

-- cookies are stored, one after another
abbrev pub changes_from : RuleSet → ℕ → List StoredCookie → List StoredCookie → List CookieChange
changes_from rules now cookies [] = []
changes_from rules now cookies (new ∷ more) =
    changes_with rules now cookies new ++ changes_from rules now (changed_by cookies (changes_with rules now cookies new)) more

-- the cookies of a jar after one is stored, or as they were where none is
abbrev pub stored : RuleSet → ℕ → List StoredCookie → Option StoredCookie → List StoredCookie
stored rules now cookies None = cookies
stored rules now cookies (Some cookie) = changed_by cookies (changes_with rules now cookies cookie)

-- ---- the jar

-- what is kept, without the cookie of the key
abbrev pub kept_without : Option CookieKey → List KeptCookie → List KeptCookie
kept_without None kept = kept
kept_without (Some key) kept = filter (λ k. not (is_key key k.cookie)) kept

-- the jar after a cookie of the party is stored, or as it was where none is
abbrev pub jar_after : ℕ → List ℕ → JarParts → Option StoredCookie → JarParts
jar_after now name jar None = jar
jar_after now name jar (Some cookie) = record {
  kept = kept_without (gone_with now (cookies_of (kept_under name jar.kept)) cookie)
      (with_kept jar.kept (record { cookie = cookie; party = name; number = jar.entered }));
  entered = entered_after jar cookie;
}
