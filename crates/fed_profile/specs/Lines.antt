-- The lines of a saved session.
use Rattle.std.specs.Prelude.{ℕ, List, [], ◌∷◌, ◌++◌, flat_map, codes, Some, option_map}
use Rattle.serde_json.specs.Data.{string, object, Members}
use Rattle.serde_json.specs.Written.{compact_text}
use Rattle.fed_origin.specs.declared.origin.Origin.{Origin}
use Rattle.fed_origin.specs.declared.status.LoginStatus.{LoginStatus}
use Rattle.fed_origin.specs.declared.status.Triple.{Triple}
use Rattle.fed_origin.specs.Origin.{origin_text}
use Rattle.fed_origin.specs.Words.{status_text}
use Rattle.fed_print.specs.Lines.{line_of}
use Rattle.fed_print.specs.Objects.{Named, count, present}
use Rattle.fed_print.specs.Records.{ascii_text, bytes_member}
use Rattle.fed_profile.specs.CookieField.{cookie_field, cookie_url}
use Rattle.fed_profile.specs.Item.{Item, LoginItem, KeptItem, FlagItem, CookieItem, PageItem}

-- an origin as a URL: its text and `/`
abbrev pub origin_url : Origin → List ℕ
origin_url origin = origin_text origin ++ codes "/"

-- a member with a text
abbrev pub says : List ℕ → List ℕ → Named
says name text = (name, Some (string text))

-- a member with a text that has to be ASCII
abbrev pub says_ascii : List ℕ → List ℕ → Named
says_ascii name text = (name, option_map string (ascii_text text))

-- the header of the time and of rules with this text
abbrev pub header_members : ℕ → List ℕ → Members
header_members now rules = present
    ((codes "fedcm", Some (count 1))
    ∷ (codes "now", Some (count now))
    ∷ says_ascii (codes "rules") rules
    ∷ [])

abbrev pub login_members : Origin → LoginStatus → Members
login_members origin status = present
    (says (codes "do") (codes "have")
    ∷ says (codes "origin") (origin_url origin)
    ∷ (codes "status", option_map string (status_text status))
    ∷ says (codes "what") (codes "login")
    ∷ [])

abbrev pub kept_members : Triple → Members
kept_members triple = present
    (says (codes "account") triple.account
    ∷ says (codes "do") (codes "have")
    ∷ says (codes "page") (origin_url triple.page)
    ∷ says (codes "provider") (origin_url triple.provider)
    ∷ says (codes "what") (codes "kept")
    ∷ [])

abbrev pub flag_members : Origin → Members
flag_members origin = present
    (says (codes "do") (codes "have")
    ∷ says (codes "origin") (origin_url origin)
    ∷ says (codes "what") (codes "silent")
    ∷ [])

-- the field of a cookie stands in `text` where it is ASCII, else in `raw`
abbrev pub cookie_members : List ℕ → List ℕ → Members
cookie_members field url = present
    (says (codes "do") (codes "have")
    ∷ bytes_member (ascii_text field) field
    ∷ says_ascii (codes "url") url
    ∷ says (codes "what") (codes "cookie")
    ∷ [])

-- for private clauses: the same without the field
abbrev pub url_members : List ℕ → Members
url_members url = present (says (codes "do") (codes "have") ∷ says_ascii (codes "url") url ∷ says (codes "what") (codes "cookie") ∷ [])

abbrev pub page_members : ℕ → Origin → Members
page_members page origin = present
    (says (codes "do") (codes "load")
    ∷ (codes "page", Some (count page))
    ∷ says (codes "url") (origin_url origin)
    ∷ [])

-- the line of an item at the time
abbrev pub item_members : ℕ → Item → Members
item_members now (LoginItem origin status) = login_members origin status
item_members now (KeptItem triple) = kept_members triple
item_members now (FlagItem origin) = flag_members origin
item_members now (CookieItem cookie) = cookie_members (cookie_field now cookie) (cookie_url cookie)
item_members now (PageItem page origin) = page_members page origin

-- the compact JSON text of an object, without LF
abbrev pub bare_line : Members → List ℕ
bare_line members = compact_text (object members)

-- the lines of items, each with its LF
abbrev pub item_lines : ℕ → List Item → List ℕ
item_lines now items = flat_map (λ item. line_of (item_members now item)) items
