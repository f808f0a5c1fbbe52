-- Scripts that differ in the cookie of one load, or in the token of one reply.
use Rattle.std.specs.Prelude.{◌≡◌, ℕ, List, [], ◌∷◌, ◌++◌, Some, codes, Ok}
use Rattle.url.specs.Parts.{Parts}
use Rattle.fed_script.specs.declared.event.Event.TheVariants.{Load}
use Rattle.fed_script.specs.declared.event.Header.{Header}
use Rattle.fed_script.specs.declared.event.Numbered.{Numbered}
use Rattle.fed_script.specs.Script.{Script}
use Rattle.fed_token.specs.Read.{AssertionOf}
use Rattle.fed_trace.specs.Row.{set_cookies}
use Rattle.fed_twin.specs.Jars.{JarTwin}
use Rattle.fed_twin.specs.Tokens.{TokenTwin, reply_at}

-- a script with this event between others
abbrev pub script_with : Header → List Numbered → Numbered → List Numbered → Script
script_with header before event after = record { header = header; events = before ++ event ∷ after }

-- ---- cookies

-- a page loads with this reply
abbrev pub load_at : ℕ → ℕ → Parts → List ℕ → Numbered
load_at line page url raw = record { line = line; event = Load page url (Some raw) }

abbrev pub first_load : List ℕ
first_load =
    codes "HTTP/1.1 200 OK\r\nSet-Cookie: a=1; Path=/; SameSite=None; Secure\r\n"
    ++ codes "Set-Login: logged-in\r\n\r\n"

abbrev pub second_load : List ℕ
second_load =
    codes "HTTP/1.1 200 OK\r\nSet-Cookie: a=2; Path=/accounts; SameSite=None; Secure\r\n"
    ++ codes "Set-Login: logged-in\r\n\r\n"

-- two such scripts differ in cookies alone
abbrev pub AreJarTwins : Type 0
AreJarTwins =
    (header : Header) (before after : List Numbered) (line page : ℕ) (url : Parts)
    → JarTwin (script_with header before (load_at line page url first_load) after)
    (script_with header before (load_at line page url second_load) after)

-- and they do differ
abbrev pub CookiesDiffer : Type 0
CookiesDiffer =
    (set_cookies (Some first_load) ≡ codes "a=1; Path=/; SameSite=None; Secure" ∷ [])
    × (set_cookies (Some second_load) ≡ codes "a=2; Path=/accounts; SameSite=None; Secure" ∷ [])

-- ---- tokens

-- the head of a reply that pages of the site may read
abbrev pub reply_head : List ℕ
reply_head =
    codes "HTTP/1.1 200 OK\r\nContent-Type: application/json\r\n"
    ++ codes "Access-Control-Allow-Origin: https://rp.example\r\nAccess-Control-Allow-Credentials: true\r\n\r\n"

abbrev pub first_reply : List ℕ
first_reply = reply_head ++ codes "{\"token\":\"T1\"}"

abbrev pub second_reply : List ℕ
second_reply = reply_head ++ codes "{\"token\":\"T2\"}"

-- two such scripts differ in the token of one reply alone
abbrev pub AreTokenTwins : Type 0
AreTokenTwins =
    (header : Header) (before after : List Numbered) (line call provider : ℕ)
    → TokenTwin (script_with header before (reply_at line call provider first_reply) after)
    (script_with header before (reply_at line call provider second_reply) after) call

-- and they do differ
abbrev pub TokensDiffer : Type 0
TokensDiffer =
    (AssertionOf first_reply (codes "https://rp.example") ≡ Ok (codes "T1"))
    × (AssertionOf second_reply (codes "https://rp.example") ≡ Ok (codes "T2"))
