-- A plain domain is one in the words of `url`.
use Rattle.std.proofs.Common.{◌≡◌, ℕ, ◌<◌, true, false, ◌==◌, List, [], ◌∷◌, length, get_or, Some, None, refl, arith}
use Rattle.std.specs.Prelude.{Option}
use Rattle.std.specs.Char.{is_ascii_lowercase, is_ascii_uppercase, is_ascii_digit, is_digit, to_ascii_lowercase}
use Rattle.std.proofs.lemmas.Bool.{cond-false, and_parts}
use Rattle.std.proofs.lemmas.Bool.Decides.{nat_tests}
use Rattle.url.specs.declared.sets.TheConstants.{FORBIDDEN_DOMAIN}
use Rattle.url.specs.Host.{IsDomain}
use Rattle.url.specs.Input.{rsplit_once}
use Rattle.url.specs.Ipv4.{is_number, parse_number, last_label_of, last_label, ends_in_a_number}
use Rattle.url.proofs.InputLemmas.{All_from_list_all, list_all_fails, map_fixed, lowercase_other, is_empty_nonempty}
use Rattle.url.proofs.SetLemmas.{kept_from_passes}
use Rattle.fed_origin.specs.Plain.{is_domain_byte, is_domain}

low : (b : ℕ) → is_domain_byte b ≡ true → b < 128
low b h = grind (arith, nat_tests)

not_upper : (b : ℕ) → is_domain_byte b ≡ true → is_ascii_uppercase b ≡ false
not_upper b h = grind (arith, nat_tests)

not_digit : (b : ℕ) → is_ascii_lowercase b ≡ true → is_ascii_digit b ≡ false
not_digit b h = grind (arith, nat_tests)

not_decimal : (b : ℕ) → is_ascii_lowercase b ≡ true → is_digit b 10 ≡ false
not_decimal b h = grind (arith, nat_tests)

not_zero : (b : ℕ) → is_ascii_lowercase b ≡ true → (b == 48) ≡ false
not_zero b h = grind (arith, nat_tests)

-- a label that begins with a letter has a byte
some_byte : (label : List ℕ) → is_ascii_lowercase (get_or label 0 0) ≡ true → 0 < length label
some_byte [] h = absurd (cc)
some_byte (b ∷ label) h = omega arith

-- and is no number
no_number : (label : List ℕ) → is_ascii_lowercase (get_or label 0 0) ≡ true → is_number (parse_number label) ≡ false
unfolding parse_number
no_number label h =
    let some = some_byte label h in
    let fails = list_all_fails (λ b. is_digit b 10) label 0 some (not_decimal (get_or label 0 0) h) in
    rw (is_empty_nonempty label some, not_zero (get_or label 0 0) h, fails) refl

last_is : (front : Option (List ℕ)) (label : List ℕ) → 0 < length label → last_label_of front label ≡ label
last_is (Some front) label some = cond-false _ _ _ (is_empty_nonempty label some)
last_is None label some = refl

named : (host : List ℕ) → is_ascii_lowercase (get_or (rsplit_once 46 host).1 0 0) ≡ true → ends_in_a_number host ≡ false
unfolding ends_in_a_number
named host h =
    let label = (rsplit_once 46 host).1 in
    let some = some_byte label h in
    let last : last_label host ≡ label = last_is (rsplit_once 46 host).0 label some in
    rw (
      last,
      list_all_fails is_ascii_digit label 0 some (not_digit (get_or label 0 0) h),
      no_number label h,
      is_empty_nonempty label
          some,
    ) refl

nonempty : (host : List ℕ) → is_ascii_lowercase (get_or (rsplit_once 46 host).1 0 0) ≡ true → 0 < length host
unfolding rsplit_once
nonempty [] h = absurd (cc)
nonempty (b ∷ host) h = omega arith

pub domain_is : (host : List ℕ) → is_domain host ≡ true → IsDomain host × (0 < length host)
domain_is host h =
    let parts = and_parts _ _ h in
    let all = All_from_list_all is_domain_byte host parts.0 in (
      record {
        allowed = λ k d inside. kept_from_passes is_domain_byte FORBIDDEN_DOMAIN refl (get_or host k d) (low (get_or host k d) (all k d
            inside)) (all k d inside);
        lower = map_fixed to_ascii_lowercase host (λ k d inside. lowercase_other (get_or host k d) (not_upper (get_or host k d) (all k d
            inside)));
        named = named host parts.1;
      },
      nonempty host parts.1,
    )
