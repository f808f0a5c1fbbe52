-- What a line of the kind `have` is read as.
use Rattle.std.specs.Prelude.{ℕ, List, codes, Result, Ok, Err, bytes_eq, if◌then◌else◌}
use Rattle.serde_json.specs.Data.{Data}
use Rattle.serde_json.specs.Find.{as_str}
use Rattle.fed_origin.specs.Words.{status_of_word}
use Rattle.fed_script.specs.declared.cause.LineCause.{LineCause}
use Rattle.fed_script.specs.declared.cause.LineCause.TheVariants.{Member}
use Rattle.fed_script.specs.declared.cause.MemberName.TheVariants as names
use Rattle.fed_script.specs.declared.event.Event.{Event}
use Rattle.fed_script.specs.declared.event.Event.TheVariants as events
use Rattle.fed_script.specs.declared.event.Have.{Have}
use Rattle.fed_script.specs.declared.event.Have.TheVariants.{Login, Kept, Silent, Cookie}
use Rattle.fed_script.specs.Member.{◌>>=◌, required, as_word, origin_of_text, url_of}
use Rattle.fed_script.specs.Raw.{required_bytes}

-- the login status that a line names; of the URL its origin alone counts
abbrev pub login_of : Data → Result Have LineCause
login_of d = do
  text ← required as_str names.Origin d
  status ← required (as_word status_of_word) names.Status d
  origin ← origin_of_text text
  Ok (Login origin status)

-- the permission that a line names: of both URLs their origins alone count
abbrev pub kept_of : Data → Result Have LineCause
kept_of d = do
  page ← required as_str names.Page d
  provider ← required as_str names.Provider d
  account ← required as_str names.Account d
  page_origin ← origin_of_text page
  provider_origin ← origin_of_text provider
  Ok (Kept (record { page = page_origin; provider = provider_origin; account = account }))

-- the origin that a line names, whose pages prevented silent access
abbrev pub silent_of : Data → Result Have LineCause
silent_of d = do
  text ← required as_str names.Origin d
  origin ← origin_of_text text
  Ok (Silent origin)

-- the cookie that a line names: a URL, and the value of a Set-Cookie field
abbrev pub cookie_of : Data → Result Have LineCause
cookie_of d = do
  text ← required as_str names.Url d
  field ← required_bytes d
  url ← url_of text
  Ok (Cookie url field)

-- what a line of this `what` says
abbrev pub said : List ℕ → Data → Result Have LineCause
said what d =
    if bytes_eq what (codes "login") then login_of d
    else (if bytes_eq what (codes "kept") then kept_of d
    else (if bytes_eq what (codes "silent") then silent_of d
    else (if bytes_eq what (codes "cookie") then cookie_of d
    else Err (Member names.What))))

-- the have that a line names
abbrev pub have_of : Data → Result Event LineCause
have_of d = do
  what ← required as_str names.What d
  have ← said what d
  Ok (events.Have have)
