-- Which paths and hosts a cookie's path and domain match (RFC 6265, 5.1.3 and 5.1.4).
use Rattle.std.specs.Prelude.{ℕ, ◌-◌, Bool, true, false, ◌&&◌, ◌||◌, ◌==◌, List, [], ◌∷◌, length, slice_index, nat_lt, nat_eq, bytes_eq}
use Rattle.std.specs.Prelude.{count_by, if◌then◌else◌}
use Rattle.std.specs.List.{starts_with, ends_with, before_last}
use Rattle.fed_origin.specs.Host.{host_kind}
use Rattle.fed_origin.specs.declared.host.HostKind.{HostKind}
use Rattle.fed_origin.specs.declared.host.HostKind.TheVariants.{Name, V4, V6}

abbrev pub is_slash : ℕ → Bool
is_slash b = b == 47

-- the path of a URL up to its last slash; `/` where it has at most one
unfoldable pub default_path : List ℕ → List ℕ
default_path path = if nat_lt (count_by is_slash path) 2 then 47 ∷ [] else before_last is_slash path

-- the cookie's path is in front, and a slash ends it or follows it
unfoldable pub path_matches : List ℕ → List ℕ → Bool
path_matches request cookie =
    bytes_eq request cookie
    || (starts_with nat_eq request cookie
    && (slice_index cookie (length cookie - 1) == 47 || slice_index request (length cookie) == 47))

abbrev pub is_name_kind : HostKind → Bool
is_name_kind Name = true
is_name_kind V4 = false
is_name_kind V6 = false

-- the host is a name, and no address
abbrev pub is_name : List ℕ → Bool
is_name host = is_name_kind (host_kind host)

-- equal, or a name that ends in a dot and the domain
unfoldable pub domain_matches : List ℕ → List ℕ → Bool
domain_matches host domain = bytes_eq host domain || (is_name host && ends_with nat_eq host (46 ∷ domain))
