-- The cookie that a jar without cookies stores.
use Rattle.std.proofs.Common.{◌≡◌, ℕ, List, [], Option, Some, None, refl, sym, ap, ◌∙◌}
use Rattle.std.specs.Prelude.{option_and_then}
use Rattle.std.specs.Option.{option_to_list}
use Rattle.url.specs.Parts.{Parts}
use Rattle.fed_suffix.specs.Rule.{RuleSet}
use Rattle.fed_cookie.specs.SetCookie.{SetCookie}
use Rattle.fed_cookie.specs.Fields.{set_cookie_of}
use Rattle.fed_jar.specs.Cookie.{StoredCookie, JarParts, cookies_in}
use Rattle.fed_jar.specs.Limit.{stored}
use Rattle.fed_jar.specs.Store.{cookie_of}
use Rattle.fed_trace.specs.Row.{cookie_from}

lone : (rules : RuleSet) (now : ℕ) (o : Option StoredCookie) → stored rules now [] o ≡ option_to_list o
unfolding Rattle.fed_jar.specs.Limit.gone_with
lone rules now None = refl
lone rules now (Some c) = refl

-- what a jar without cookies has after a field that was read is the cookie of the field
pub stored_alone : (rules : RuleSet) (url : Parts) (now : ℕ) (field : List ℕ) (raw : SetCookie) (found : Option SetCookie) (old : JarParts)
    (after : List StoredCookie) → old ≡ record { kept = []; entered = 0 }
    → after ≡ stored rules now (cookies_in old) (cookie_of rules url now raw)
    → found ≡ set_cookie_of field → found ≡ Some raw → after ≡ option_to_list (cookie_from rules url now field)
stored_alone rules url now field raw found old after none is read some =
    is ∙ ap (λ (jar : JarParts). stored rules now (cookies_in jar) (cookie_of rules url now raw)) none
    ∙ lone rules now (cookie_of rules url now raw)
    ∙ ap (λ o. option_to_list (option_and_then (cookie_of rules url now) o)) (sym some ∙ read)
