-- The cookies of a request are those of the jar for the URL as which its host and its target are read.
use Rattle.std.proofs.Common.{◌≡◌, ℕ, List, sym, ap₂, ◌∙◌}
use Rattle.std.specs.Prelude.{◌&&◌, filter}
use Rattle.url.specs.Parts.{Parts}
use Rattle.fed_origin.specs.WebUrl.{host_of}
use Rattle.fed_suffix.specs.Rule.{RuleSet}
use Rattle.fed_cookie.specs.Matches.{path_matches}
use Rattle.fed_jar.specs.Cookie.{StoredCookie}
use Rattle.fed_jar.specs.Send.{goes_to, is_fresh, is_sent, jar_text, largest_first, pairs_text, path_length}
use Rattle.fed_jar.specs.Store.{has_no_limit}
use Rattle.fed_consent.specs.declared.table.ask.Ask.{Ask}
use Rattle.fed_consent.specs.declared.table.ask.Ask.TheVariants.{WellKnown, Config, Accounts, Metadata, Assertion, Disconnect}
use Rattle.fed_request.specs.Request.{TakesCookies}
use Rattle.fed_trace.specs.Row.{cookies_with}
use Rattle.fed_trace.specs.Trace.{Trace, cookies, now_at}
use Rattle.fed_audit.specs.Clauses.{cookies_for}
use Rattle.fed_own.specs.Request.{CarriesText}
use Rattle.fed_own.proofs.served.Asks.{IsAlike}

-- the jar looks at the host and the path of a URL alone
same_text : (rules : RuleSet) (a b : Parts) (now : ℕ) (stored : List StoredCookie) → host_of a ≡ host_of b → a.path ≡ b.path
    → jar_text rules a now stored ≡ jar_text rules b now stored
unfolding jar_text is_sent
same_text rules a b now stored host path =
    ap₂
    (λ p h. pairs_text (largest_first path_length
    (filter (λ (c : StoredCookie). c.secure && has_no_limit c.same_site && is_fresh now c.expiry && path_matches p c.path
    && goes_to rules h c) stored))) path host

pub takes : (T : Trace) (ask : Ask) (sent : List ℕ) → sent ≡ cookies_with T ask → TakesCookies ask sent
takes T (WellKnown to) sent is = is
takes T (Config to) sent is = is
takes T (Metadata to client origin) sent is = is
takes T (Accounts to) sent is = tt
takes T (Assertion ask) sent is = tt
takes T (Disconnect to client hint origin) sent is = tt

pub carried : (T : Trace) (ask : Ask) (sent : List ℕ) (url : Parts) → sent ≡ cookies_with T ask → IsAlike ask url
    → CarriesText ask sent (cookies_for T url)
carried T (WellKnown to) sent url is alike = tt
carried T (Config to) sent url is alike = tt
carried T (Metadata to client origin) sent url is alike = tt
carried T (Accounts to) sent url is alike = is ∙ sym (same_text T.header.rules url to (now_at T) (cookies T) alike.0 alike.1)
carried T (Assertion ask) sent url is alike = is ∙ sym (same_text T.header.rules url ask.to (now_at T) (cookies T) alike.0 alike.1)
carried T (Disconnect to client hint origin) sent url is alike =
    is ∙ sym (same_text T.header.rules url to (now_at T) (cookies T) alike.0 alike.1)
