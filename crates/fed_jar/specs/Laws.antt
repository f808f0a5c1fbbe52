-- The laws of the definitions.
use Rattle.std.specs.Prelude.{◌≡◌, ℕ, ◌≤◌, true, false, List, length, Some, None}
use Rattle.std.specs.List.{AllByRecursion}
use Rattle.url.specs.Parts.{Parts}
use Rattle.fed_origin.specs.WebUrl.{host_of}
use Rattle.fed_suffix.specs.Rule.{RuleSet}
use Rattle.fed_suffix.specs.Registrable.{party}
use Rattle.fed_jar.specs.Cookie.{StoredCookie, JarParts, cookies_in}
use Rattle.fed_jar.specs.Changes.{CookieKey, CookieChange, changed, changed_by, standing, domain_of, changes_party, changes_of_party, last_left, cookie_under}
use Rattle.fed_jar.specs.Limit.{most_cookies, changes_from, stored, jar_after}
use Rattle.fed_jar.specs.Store.{IsKeptBy, part_of}
use Rattle.fed_jar.specs.Send.{jar_text}

-- two jars with the same cookies of the party of the URL's host give the same Cookie field
abbrev pub TextIsOfParty : Type 0
TextIsOfParty = (rules : RuleSet) (url : Parts) (now : ℕ) (a b : List StoredCookie)
    → part_of rules (party rules (host_of url)) a ≡ part_of rules (party rules (host_of url)) b
    → jar_text rules url now a ≡ jar_text rules url now b

-- a change of a cookie of another party leaves the part of a party as it was
abbrev pub OtherPartsStay : Type 0
OtherPartsStay = (rules : RuleSet) (name : List ℕ) (change : CookieChange) (cookies : List StoredCookie)
    → changes_party rules name change ≡ false
    → part_of rules name (changed cookies change) ≡ part_of rules name cookies

-- the part of a party after a change of one of its cookies is that change of the part
abbrev pub OwnPartIsChanged : Type 0
OwnPartIsChanged = (rules : RuleSet) (name : List ℕ) (change : CookieChange) (cookies : List StoredCookie)
    → changes_party rules name change ≡ true
    → part_of rules name (changed cookies change) ≡ changed (part_of rules name cookies) change

-- the part of a party after any changes is its part after the party's changes
abbrev pub PartIsOfChanges : Type 0
PartIsOfChanges = (rules : RuleSet) (name : List ℕ) (cookies : List StoredCookie) (changes : List CookieChange)
    → part_of rules name (changed_by cookies changes) ≡ changed_by (part_of rules name cookies) (changes_of_party rules name changes)

-- two lists of changes with the same changes of the party of the URL's host give the same Cookie field
abbrev pub TextIsOfPartyChanges : Type 0
TextIsOfPartyChanges = (rules : RuleSet) (url : Parts) (now : ℕ) (a b : List CookieChange)
    → changes_of_party rules (party rules (host_of url)) a ≡ changes_of_party rules (party rules (host_of url)) b
    → jar_text rules url now (standing a) ≡ jar_text rules url now (standing b)

-- the cookies are of the party
abbrev pub AreOfParty : RuleSet → List ℕ → List StoredCookie → Type 0
AreOfParty rules name cookies = AllByRecursion (λ (cookie : StoredCookie). party rules cookie.domain ≡ name) cookies

-- where cookies of one party are stored, cookies of that party alone stand or go
abbrev pub OwnCookiesGo : Type 0
OwnCookiesGo = (rules : RuleSet) (now : ℕ) (name : List ℕ) (cookies new : List StoredCookie) → AreOfParty rules name new
    → AllByRecursion (λ change. party rules (domain_of change) ≡ name) (changes_from rules now cookies new)

-- and which of them, is told by the cookies of that party alone
abbrev pub GoneByOwn : Type 0
GoneByOwn = (rules : RuleSet) (now : ℕ) (name : List ℕ) (a b new : List StoredCookie) → AreOfParty rules name new
    → part_of rules name a ≡ part_of rules name b → changes_from rules now a new ≡ changes_from rules now b new

-- where no more than the most cookies of a party stand, no more of them stand after any cookies are stored
abbrev pub MostStay : Type 0
MostStay = (rules : RuleSet) (now : ℕ) (name : List ℕ) (cookies new : List StoredCookie)
    → length (part_of rules name cookies) ≤ most_cookies
    → length (part_of rules name (changed_by cookies (changes_from rules now cookies new))) ≤ most_cookies

-- the cookies of a jar after one is stored are its cookies after the changes that this makes
abbrev pub JarIsChanged : Type 0
JarIsChanged = (rules : RuleSet) (now : ℕ) (jar : JarParts) (cookie : StoredCookie) → IsKeptBy rules jar
    → cookies_in (jar_after now (party rules cookie.domain) jar (Some cookie)) ≡ stored rules now (cookies_in jar) (Some cookie)

-- a cookie stands exactly where the last change of its key stored it
abbrev pub LastStands : Type 0
LastStands = (key : CookieKey) (changes : List CookieChange) → cookie_under key (standing changes) ≡ last_left key None changes
