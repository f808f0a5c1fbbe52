-- Which cookies a request sends, and in which order (RFC 6265, 5.4).
use Rattle.std.specs.Prelude.{ℕ, Bool, true, ◌&&◌, List, [], ◌∷◌, ◌++◌, length, codes, filter, max, nat_lt, nat_le, bytes_eq}
use Rattle.std.specs.Prelude.{◌≡◌, Option, None, Some, IfSome, if◌then◌else◌}
use Rattle.std.specs.List.{flat_map}
use Rattle.std.specs.Borrow.{Bor}
use Rattle.url.specs.Parts.{Parts}
use Rattle.fed_origin.specs.WebUrl.{host_of}
use Rattle.fed_suffix.specs.Rule.{RuleSet}
use Rattle.fed_cookie.specs.Matches.{path_matches}
use Rattle.fed_jar.specs.Cookie.{StoredCookie}
use Rattle.fed_jar.specs.Store.{has_no_limit, is_within}

-- there is no expiry, or one above the time
abbrev pub is_fresh : ℕ → Option ℕ → Bool
is_fresh now None = true
is_fresh now (Some expiry) = nat_lt now expiry

-- the cookie goes to the host
abbrev pub goes_to : RuleSet → List ℕ → StoredCookie → Bool
goes_to rules host cookie = if cookie.host_only then bytes_eq cookie.domain host else is_within rules host cookie.domain

-- the cookie goes with a request to the URL at the time
unfoldable pub is_sent : RuleSet → Parts → ℕ → StoredCookie → Bool
is_sent rules url now cookie =
    cookie.secure && has_no_limit cookie.same_site && is_fresh now cookie.expiry && path_matches url.path cookie.path
    && goes_to rules (host_of url) cookie

-- the item stands before the first before which it goes
abbrev pub put_by : {X : Type 0} → (X → X → Bool) → X → List X → List X
put_by goes item [] = item ∷ []
put_by goes item (x ∷ xs) = if goes item x then item ∷ x ∷ xs else x ∷ put_by goes item xs

-- items in order, and those of which each goes before the other as they stand
abbrev pub in_order : {X : Type 0} → (X → X → Bool) → List X → List X
in_order goes [] = []
in_order goes (x ∷ xs) = put_by goes x (in_order goes xs)

-- larger numbers first, and items of one number in their order
abbrev pub largest_first : {X : Type 0} → (X → ℕ) → List X → List X
largest_first number xs = in_order (λ a b. nat_le (number b) (number a)) xs

abbrev pub path_length : StoredCookie → ℕ
path_length cookie = length cookie.path

-- the cookies that go with a request, longer paths first, then in their order
abbrev pub cookies_sent : RuleSet → Parts → ℕ → List StoredCookie → List StoredCookie
cookies_sent rules url now cookies = largest_first path_length (filter (is_sent rules url now) cookies)

-- `name=value`
unfoldable pub pair_text : StoredCookie → List ℕ
pair_text cookie = cookie.name ++ 61 ∷ cookie.value

-- one more pair, after `; `
unfoldable pub next_text : StoredCookie → List ℕ
next_text cookie = codes "; " ++ pair_text cookie

-- the pairs joined by `; `
abbrev pub pairs_text : List StoredCookie → List ℕ
pairs_text [] = []
pairs_text (cookie ∷ cookies) = pair_text cookie ++ flat_map next_text cookies

-- the Cookie field of a request to the URL at the time, of a jar with these cookies
unfoldable pub jar_text : RuleSet → Parts → ℕ → List StoredCookie → List ℕ
jar_text rules url now cookies = pairs_text (cookies_sent rules url now cookies)

-- ---- for private clauses

-- the domain that was looked at last has its answer
abbrev pub IsKnown : RuleSet → List ℕ → Option (Bor (List ℕ) × Bool) → Type 0
IsKnown rules host last = IfSome last (λ l. l.1 ≡ is_within rules host l.0.now)

-- the length of the longest path
abbrev pub longest_path : List StoredCookie → ℕ
longest_path [] = 0
longest_path (cookie ∷ cookies) = max (path_length cookie) (longest_path cookies)
