-- Hosts, which contracts see as their texts, in the form that a URL writes.
use Rattle.std.specs.Prelude.{ℕ, Bool, true, false, ◌&&◌, ◌||◌, ◌==◌, List, [], ◌∷◌, slice_index, ◌-◌, nat_le}
use Rattle.std.specs.Prelude.{bytes_eq, codes, nat_eq}
use Rattle.std.specs.Prelude.{if◌then◌else◌}
use Rattle.std.specs.List.{starts_with, ends_with}
use Rattle.std.specs.Char.{is_ascii_digit}
use Rattle.fed_origin.specs.declared.host.HostKind.{HostKind}
use Rattle.fed_origin.specs.declared.host.HostKind.TheVariants.{Name, V4, V6}

-- n + 1 decimal numbers are left to read, joined by dots; `begun` says that the present one has a digit
abbrev pub is_numbers : ℕ → Bool → List ℕ → Bool
is_numbers n begun [] = begun && (n == 0)
is_numbers n begun (b ∷ bytes) =
    if is_ascii_digit b then is_numbers n true bytes
    else (if b == 46 && begun && nat_le 1 n then is_numbers (n - 1) false bytes else false)

-- four decimal numbers joined by dots
abbrev pub is_four_numbers : List ℕ → Bool
is_four_numbers text = is_numbers 3 false text

-- An address of version 6 stands in brackets, and one of version 4 is four decimal numbers joined by dots.
abbrev pub host_kind : List ℕ → HostKind
host_kind text =
    if slice_index text 0 == 91 then V6
    else (if is_four_numbers text then V4 else Name)

-- `localhost`, or a name below it, with or without a dot at the end
abbrev pub is_local_name : List ℕ → Bool
is_local_name name =
    bytes_eq name (codes "localhost") || bytes_eq name (codes "localhost.")
    || ends_with nat_eq name (codes ".localhost") || ends_with nat_eq name (codes ".localhost.")

-- a host of this kind and text means the machine itself: a local name, 127.0.0.0/8 or ::1
abbrev pub is_loopback_of : HostKind → List ℕ → Bool
is_loopback_of Name host = is_local_name host
is_loopback_of V4 host = starts_with nat_eq host (codes "127.")
is_loopback_of V6 host = bytes_eq host (codes "[::1]")

-- the host means the machine itself
abbrev pub is_loopback : List ℕ → Bool
is_loopback host = is_loopback_of (host_kind host) host
