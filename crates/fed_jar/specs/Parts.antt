-- For private clauses: the lists of cookies by parties, and the jar that they make.
use Rattle.std.specs.Prelude.{ℕ, ◌<◌, ◌≡◌, Bool, false, not, ⊤, List, [], ◌∷◌, ◌++◌, filter, map, bytes_eq, nat_le, if◌then◌else◌}
use Rattle.std.specs.Prelude.{Option, None, Some, is_some, option_map, slice_get}
use Rattle.std.specs.List.{AllByRecursion, IsDistinct}
use Rattle.std.specs.Map.{keys_of, lookup}
use Rattle.std.specs.Option.{option_map_or}
use Rattle.fed_suffix.specs.Rule.{RuleSet}
use Rattle.fed_suffix.specs.Registrable.{party}
use Rattle.fed_jar.specs.declared.numbered.Numbered.{Numbered}
use Rattle.fed_jar.specs.declared.numbered.Lent.{Lent}
use Rattle.fed_jar.specs.declared.party_cookies.PartyCookies.{PartyCookies}
use Rattle.fed_jar.specs.declared.party_cookies.PartyCookies.TheVariants.{Empty, One, Many}
use Rattle.fed_jar.specs.Cookie.{StoredCookie, KeptCookie, JarParts, AreDistinct, same_key, cookies_of}
use Rattle.fed_jar.specs.Changes.{CookieKey, is_key}
use Rattle.fed_jar.specs.Limit.{gone_with}
use Rattle.fed_jar.specs.Send.{in_order}

-- the cookies have the same name, domain and path
abbrev pub same_numbered : Numbered → Numbered → Bool
same_numbered a b = same_key a.cookie b.cookie

abbrev pub numbered_cookies : List Numbered → List StoredCookie
numbered_cookies list = map (λ n. n.cookie) list

abbrev pub lent_cookie : Lent → StoredCookie
lent_cookie lent = lent.one.now.cookie

abbrev pub lent_numbered : List Lent → List Numbered
lent_numbered list = map (λ l. l.one.now) list

abbrev pub lent_cookies : List Lent → List StoredCookie
lent_cookies list = map lent_cookie list

-- the cookie as it is kept under the party
abbrev pub under : List ℕ → Numbered → KeptCookie
under name n = record { cookie = n.cookie; party = name; number = n.number }

-- the cookie and its number
abbrev pub numbered_of : KeptCookie → Numbered
numbered_of k = record { cookie = k.cookie; number = k.number }

-- the cookie stands in the place of the one with its name, domain and path, and takes its number, or last
abbrev pub put_numbered : List Numbered → Numbered → List Numbered
put_numbered [] new = new ∷ []
put_numbered (n ∷ ns) new = if same_numbered new n then record n { cookie = new.cookie } ∷ ns else n ∷ put_numbered ns new

-- parties, each with its list
abbrev pub Lists : Type 0
Lists = List (List ℕ × List Numbered)

-- the cookies of one party, however they are held
abbrev pub cookies_held : PartyCookies → List Numbered
cookies_held Empty = []
cookies_held (One only) = only ∷ []
cookies_held (Many cookies) = cookies.value.keys

-- there is one cookie, which has another name, domain or path
abbrev pub IsOther : Numbered → PartyCookies → Type 0
IsOther new Empty = ⊥
IsOther new (One only) = same_numbered new only ≡ false
IsOther new (Many cookies) = ⊥

-- the entries of the jar's map as plain lists
abbrev pub lists_of : {K : Type 0} → (K → List ℕ) → List (K × PartyCookies) → Lists
lists_of text entries = map (λ e. (text e.0, cookies_held e.1)) entries

-- the list under the party, empty where there is none
abbrev pub list_under : List ℕ → Lists → List Numbered
list_under name lists = option_map_or (λ list. list) (lookup (bytes_eq name) lists) []

-- the cookie is put into the list of the party
abbrev pub put_under : List ℕ → Lists → Numbered → Lists
put_under name [] new = (name, new ∷ []) ∷ []
put_under name (l ∷ ls) new = if bytes_eq name l.0 then (l.0, put_numbered l.1 new) ∷ ls else l ∷ put_under name ls new

-- the list without the cookie of the key
abbrev pub dropped : Option CookieKey → List Numbered → List Numbered
dropped None list = list
dropped (Some key) list = filter (λ n. not (is_key key n.cookie)) list

-- the cookie of the key goes from the list of the party
abbrev pub drop_under : List ℕ → Lists → Option CookieKey → Lists
drop_under name [] key = []
drop_under name (l ∷ ls) key = if bytes_eq name l.0 then (l.0, dropped key l.1) ∷ ls else l ∷ drop_under name ls key

-- of a party's list: the cookie is put, and then the one that it makes go is gone
abbrev pub put_limited : ℕ → List Numbered → Numbered → List Numbered
put_limited now list new = dropped (gone_with now (numbered_cookies list) new.cookie) (put_numbered list new)

-- the same among all lists
abbrev pub store_under : ℕ → List ℕ → Lists → Numbered → Lists
store_under now name lists new =
    drop_under name (put_under name lists new) (gone_with now (numbered_cookies (list_under name lists)) new.cookie)

-- all cookies, one party after another
abbrev pub all_kept : Lists → List KeptCookie
all_kept [] = []
all_kept (l ∷ ls) = map (under l.0) l.1 ++ all_kept ls

abbrev pub all_numbered : Lists → List Numbered
all_numbered [] = []
all_numbered (l ∷ ls) = l.1 ++ all_numbered ls

-- smaller numbers first
abbrev pub smallest_first : {X : Type 0} → (X → ℕ) → List X → List X
smallest_first number xs = in_order (λ a b. nat_le (number a) (number b)) xs

-- all cookies, in the order of first storing
abbrev pub kept_of : Lists → List KeptCookie
kept_of lists = smallest_first (λ k. k.number) (all_kept lists)

-- the jar of these lists
abbrev pub jar_of : Lists → ℕ → JarParts
jar_of lists entered = record { kept = kept_of lists; entered = entered }

-- each number is below those after it
abbrev pub Rises : List Numbered → Type 0
Rises [] = ⊤
Rises (n ∷ ns) = AllByRecursion (λ m. n.number < m.number) ns × Rises ns

-- what is always so of the lists of a jar
pub record AreLists (lists : Lists) (entered : ℕ) : Type 0 where
  -- no party stands twice
  pub named : IsDistinct bytes_eq (keys_of lists)
  -- a list is in the order of first storing
  pub rises : AllByRecursion (λ l. Rises l.1) lists
  -- each number is below that of the next cookie
  pub below : AllByRecursion (λ k. k.number < entered) (all_kept lists)
  -- no two cookies have the same name, domain and path
  pub apart : AreDistinct (cookies_of (kept_of lists))

-- the place of the party among the lists, or none where it has no list
abbrev pub IsPlace : List ℕ → Option ℕ → Lists → Type 0
IsPlace name None lists = is_some (lookup (bytes_eq name) lists) ≡ false
IsPlace name (Some at) lists = option_map (λ (l : List ℕ × List Numbered). l.0) (slice_get lists at) ≡ Some name

-- each cookie stands in the list of its party
abbrev pub AreOwn : RuleSet → Lists → Type 0
AreOwn rules lists = AllByRecursion (λ l. AllByRecursion (λ (n : Numbered). l.0 ≡ party rules n.cookie.domain) l.1) lists
