-- The bytes of a request.
use Rattle.std.specs.Prelude.{◌≡◌, ℕ, ◌==◌, List, [], ◌++◌, codes, decimal, if◌then◌else◌, ⊤}
use Rattle.url.specs.Parts.{Parts}
use Rattle.fed_origin.specs.Origin.{origin_text}
use Rattle.fed_origin.specs.WebUrl.{origin_of, path_query_of}
use Rattle.fed_consent.specs.declared.table.ask.Ask.{Ask}
use Rattle.fed_consent.specs.declared.table.ask.Ask.TheVariants.{WellKnown, Config, Accounts, Metadata, Assertion, Disconnect}
use Rattle.fed_request.specs.Form.{metadata_target, assertion_form, disconnect_form}
use Rattle.fed_request.specs.Text.{get_text, named_get_text, post_text}

-- the host, with `:port` where the port is not 443
abbrev pub host_field : Parts → List ℕ
host_field url =
    if (origin_of url).port == 443 then (origin_of url).host
    else (origin_of url).host ++ (codes ":" ++ decimal (origin_of url).port)

-- The bytes of a request with these cookies. The first three name neither the page nor the client.
abbrev pub request_bytes : Ask → List ℕ → List ℕ
request_bytes (WellKnown to) cookies = get_text (codes "/.well-known/web-identity") (host_field to) []
request_bytes (Config to) cookies = get_text (path_query_of to) (host_field to) []
request_bytes (Accounts to) cookies = get_text (path_query_of to) (host_field to) cookies
request_bytes (Metadata to client origin) cookies = named_get_text (metadata_target to client) (host_field to) (origin_text origin)
request_bytes (Assertion ask) cookies =
    post_text (path_query_of ask.to) (host_field ask.to) (origin_text ask.origin) (assertion_form ask) cookies
request_bytes (Disconnect to client hint origin) cookies =
    post_text (path_query_of to) (host_field to) (origin_text origin) (disconnect_form client hint) cookies

-- cookies go with a request for accounts, for a token or to disconnect alone
abbrev pub TakesCookies : Ask → List ℕ → Type 0
TakesCookies (WellKnown to) cookies = cookies ≡ []
TakesCookies (Config to) cookies = cookies ≡ []
TakesCookies (Accounts to) cookies = ⊤
TakesCookies (Metadata to client origin) cookies = cookies ≡ []
TakesCookies (Assertion ask) cookies = ⊤
TakesCookies (Disconnect to client hint origin) cookies = ⊤
