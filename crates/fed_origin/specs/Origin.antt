-- Origins.
use Rattle.std.specs.Prelude.{ℕ, Bool, true, false, ◌&&◌, ◌==◌, List, ◌++◌, codes, decimal, bytes_eq, if◌then◌else◌}
use Rattle.fed_origin.specs.Host.{is_loopback}
use Rattle.fed_origin.specs.declared.origin.Origin.{Origin}
use Rattle.fed_origin.specs.declared.scheme.Scheme.{Scheme}
use Rattle.fed_origin.specs.declared.scheme.Scheme.TheVariants.{Http, Https}

abbrev pub same_scheme : Scheme → Scheme → Bool
same_scheme Http Http = true
same_scheme Https Https = true
same_scheme Http Https = false
same_scheme Https Http = false

-- the scheme's own port
abbrev pub own_port : Scheme → ℕ
own_port Http = 80
own_port Https = 443

abbrev pub scheme_text : Scheme → List ℕ
scheme_text Http = codes "http"
scheme_text Https = codes "https"

-- the same scheme, host and port
abbrev pub same_origin : Origin → Origin → Bool
same_origin a b = same_scheme a.scheme b.scheme && bytes_eq a.host b.host && a.port == b.port

-- `scheme://host`
abbrev pub without_port : Origin → List ℕ
without_port o = scheme_text o.scheme ++ codes "://" ++ o.host

-- the text of an origin: `:port` follows where the port is not the scheme's own
abbrev pub origin_text : Origin → List ℕ
origin_text o =
    if o.port == own_port o.scheme then without_port o
    else without_port o ++ (codes ":" ++ decimal o.port)

-- what this scheme gives on a host: https is trusted anywhere, http on the machine itself
abbrev pub is_trusted : Scheme → List ℕ → Bool
is_trusted Https host = true
is_trusted Http host = is_loopback host

-- a page of the origin is a secure context
abbrev pub is_trustworthy : Origin → Bool
is_trustworthy o = is_trusted o.scheme o.host
