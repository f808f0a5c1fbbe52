-- What is read as the host or the port of a special URL is one.
use Rattle.std.proofs.Common.{◌≡◌, ℕ, ◌-◌, ◌^◌, ◌<◌, false, ◌&&◌, ◌==◌, List, length, Option, Some, None, refl, ap, ◌∙◌, arith}
use Rattle.std.specs.Prelude.{⊤, nat_eq, nat_lt, slice_index, slice_range, Ok, Err}
use Rattle.std.specs.List.{list_all, list_any}
use Rattle.std.specs.Option.{option_eq}
use Rattle.std.specs.Char.{is_ascii_digit}
use Rattle.std.specs.Str.Parse.{digits_value}
use Rattle.std.proofs.lemmas.Bool.{and_parts, both_ways, cond_both, eq-eqb, ltb-true}
use Rattle.std.proofs.lemmas.Bool.Decides.{nat_tests}
use Rattle.percent_encoding.specs.Percent.{percent_decode}
use Rattle.url.specs.declared.scheme.SchemeType.{SchemeType}
use Rattle.url.specs.declared.scheme.SchemeType.TheVariants.{SpecialNotFile}
use Rattle.url.specs.Ascii.{left_bracket, right_bracket}
use Rattle.url.specs.Host.{ascii_domain, host_of_ascii, is_forbidden_in_domain, parse_bracketed, parse_host, parse_special_host}
use Rattle.url.specs.Input.{is_empty}
use Rattle.url.specs.Ipv4.{ends_in_a_number, parse_ipv4}
use Rattle.url.specs.Parts.{IsPortOf}
use Rattle.url.specs.Parser.{Parsed, parse_port, without_default_port}
use Rattle.url.specs.Scheme.{default_port}
use Rattle.url.proofs.HostLemmas.{ascii_domain-lower, none_from_list_any}
use Rattle.fed_own.proofs.urls.Addresses.{IfHost, v4_host, v6_host}

bracketed_host : (bytes : List ℕ) → IfHost (parse_bracketed bytes)
unfolding parse_bracketed
bracketed_host bytes =
    cond_both (slice_index bytes (length bytes - 1) == right_bracket) _ _ IfHost
    (λ t. v6_host (slice_range bytes 1 (length bytes - 1))) (λ f. tt)

ascii_host : (bytes : List ℕ) (o : Option (List ℕ)) → ascii_domain bytes ≡ o → IfHost (host_of_ascii o)
ascii_host bytes None is = tt
ascii_host bytes (Some domain) is =
    cond_both (is_empty domain) _ _ IfHost (λ t. tt)
    (λ some. cond_both (list_any is_forbidden_in_domain domain) _ _ IfHost (λ t. tt)
    (λ allowed. cond_both (ends_in_a_number domain) _ _ IfHost (λ t. v4_host (parse_ipv4 domain)) (λ named. (
      record {
        allowed = none_from_list_any is_forbidden_in_domain domain allowed;
        lower = ascii_domain-lower bytes domain is;
        named = named;
      },
      long some,
    ))))
  where
    long : is_empty domain ≡ false → 0 < length domain
    long some = grind (arith, nat_tests)

special_host : (bytes : List ℕ) → IfHost (parse_special_host bytes)
unfolding parse_special_host
special_host bytes =
    cond_both (slice_index bytes 0 == left_bracket) _ _ IfHost (λ t. bracketed_host bytes)
    (λ f. ascii_host (percent_decode bytes) (ascii_domain (percent_decode bytes)) refl)

pub host_read : (kind : SchemeType) (bytes : List ℕ) → kind ≡ SpecialNotFile → IfHost (parse_host kind bytes)
host_read SchemeType.File bytes is = absurd (cc)
host_read SchemeType.SpecialNotFile bytes is = special_host bytes
host_read SchemeType.NotSpecial bytes is = absurd (cc)

-- ---- the port

abbrev pub IfPort : List ℕ → Parsed (Option ℕ) → Type 0
IfPort scheme (Ok port) = IsPortOf scheme port
IfPort scheme (Err e) = ⊤

pub port_read : (scheme digits : List ℕ) → IfPort scheme (parse_port scheme digits)
unfolding parse_port
port_read scheme digits =
    cond_both (is_empty digits) _ _ (IfPort scheme) (λ t. tt)
    (λ f. cond_both (list_all is_ascii_digit digits && nat_lt (digits_value 10 digits) (2 ^ 16)) _ _ (IfPort scheme)
    (λ t. fits (digits_value 10 digits)
    (ltb-true (digits_value 10 digits) (2 ^ 16)
    (and_parts (list_all is_ascii_digit digits) (nat_lt (digits_value 10 digits) (2 ^ 16)) t).1)) (λ g. tt))
  where
    fits : (n : ℕ) → n < 2 ^ 16 → IsPortOf scheme (without_default_port scheme (Some n))
    fits n small =
        cond_both (option_eq nat_eq (Some n) (default_port scheme)) None (Some n) (IsPortOf scheme) (λ t. tt)
        (λ other. (small, λ is. both_ways _ other (ap (option_eq nat_eq (Some n)) is ∙ eq-eqb n n refl)))
