-- A page stores cookies of the party of its host.
use Rattle.std.proofs.Common.{◌≡◌, ℕ, List, [], ◌∷◌, Option, Some, None, refl}
use Rattle.std.specs.Prelude.{option_and_then}
use Rattle.std.specs.List.{cons_option}
use Rattle.url.specs.Parts.{Parts}
use Rattle.fed_origin.specs.WebUrl.{host_of}
use Rattle.fed_suffix.specs.Rule.{RuleSet}
use Rattle.fed_suffix.specs.Registrable.{party}
use Rattle.fed_cookie.specs.Fields.{set_cookie_of}
use Rattle.fed_cookie.specs.SetCookie.{SetCookie}
use Rattle.fed_jar.specs.Cookie.{StoredCookie}
use Rattle.fed_jar.specs.Laws.{AreOfParty}
use Rattle.fed_jar.specs.Store.{cookie_of}
use Rattle.fed_jar.proofs.parties.Parties.{written_party}
use Rattle.fed_jar.proofs.limit.Limit as limit
use Rattle.fed_trace.specs.Laws.{OwnCookiesGo}
use Rattle.fed_trace.specs.Row.{cookie_from, cookies_from}
use Rattle.fed_trace.specs.Trace.{now_at, cookies}

pub own_fields : (rules : RuleSet) (url : Parts) (now : ℕ) (fields : List (List ℕ))
    → AreOfParty rules (party rules (host_of url)) (cookies_from rules url now fields)
own_fields rules url now [] = tt
own_fields rules url now (field ∷ fields) = go (cookie_from rules url now field) refl (own_fields rules url now fields)
  where
    of_raw : (cookie : StoredCookie) (raw : Option SetCookie) → option_and_then (cookie_of rules url now) raw ≡ Some cookie
        → party rules cookie.domain ≡ party rules (host_of url)
    of_raw cookie None is = absurd (cc)
    of_raw cookie (Some raw) is = written_party rules url now raw cookie is

    go : (cookie : Option StoredCookie) → cookie_from rules url now field ≡ cookie
        → AreOfParty rules (party rules (host_of url)) (cookies_from rules url now fields)
        → AreOfParty rules (party rules (host_of url)) (cons_option cookie (cookies_from rules url now fields))
    go None is rest = rest
    go (Some cookie) is rest = (of_raw cookie (set_cookie_of field) is, rest)

pub own_cookies : OwnCookiesGo
own_cookies T url fields =
    limit.own_cookies_go T.header.rules (now_at T) (party T.header.rules (host_of url)) (cookies T)
    (cookies_from T.header.rules url (now_at T) fields) (own_fields T.header.rules url (now_at T) fields)
