-- The number that a few digits write is small.
use Rattle.std.proofs.Common.{◌≡◌, ℕ, ◌+◌, ◌-◌, ◌*◌, ◌^◌, ◌<◌, ◌≤◌, true, List, [], ◌∷◌, length}
use Rattle.std.proofs.Common.{take, get_or, sym, ap, ◌∙◌, rules, arith}
use Rattle.std.proofs.Common.{lit≤, length-take}
use Rattle.std.proofs.lemmas.List.Folds.{list_all_more}
use Rattle.std.specs.List.{list_all}
use Rattle.std.specs.Char.{is_ascii_digit, digit_value}
use Rattle.std.specs.Str.Parse.{AllDigits, digits_value}
use Rattle.std.proofs.lemmas.Int.Digits.{digits_value-lt, digits_value_more}
use Rattle.std.proofs.Math.Nat.{pow-le-pow_right}
use Rattle.fed_head.proofs.printed.Section.{and_left, and_right, both}

pub digit_below : (c : ℕ) → is_ascii_digit c ≡ true → digit_value c < 10
digit_below c is = grind (rules, arith)

digits_all : (ds : List ℕ) → list_all is_ascii_digit ds ≡ true → AllDigits 10 ds
digits_all [] is = tt
digits_all (c ∷ cs) is = (digit_below c (and_left (is_ascii_digit c) _ is), digits_all cs (and_right (is_ascii_digit c) _ is))

pub few_digits : (ds : List ℕ) → list_all is_ascii_digit ds ≡ true → length ds ≤ 18 → digits_value 10 ds < 10 ^ 18
few_digits ds is few =
    let most : 10 ^ length ds ≤ 10 ^ 18 = pow-le-pow_right (lit≤ tt) few in
    omega (arith, digits_value-lt 10 ds (digits_all ds is), most)

pub digit_is : (c : ℕ) → is_ascii_digit c ≡ true → digit_value c ≡ c - 48
digit_is c is = grind (rules, arith)

pub digits_more : (value : List ℕ) (i : ℕ) → i < length value → list_all is_ascii_digit (take i value) ≡ true
    → is_ascii_digit (get_or value i 0) ≡ true → list_all is_ascii_digit (take (i + 1) value) ≡ true
digits_more value i inside before here = list_all_more is_ascii_digit value i 0 inside ∙ both _ _ before here

pub number_more : (value : List ℕ) (i n d : ℕ) → i < length value → is_ascii_digit (get_or value i 0) ≡ true
    → d ≡ get_or value i 0 - 48
    → n ≡ digits_value 10 (take i value) → n * 10 + d ≡ digits_value 10 (take (i + 1) value)
number_more value i n d inside here is before =
    ap (λ k. k * 10 + d) before
    ∙ (ap (λ k. digits_value 10 (take i value) * 10 + k) (is ∙ sym (digit_is _ here)) ∙ sym (digits_value_more 10 value i inside))

pub below_limit : (value : List ℕ) (i n : ℕ) → i < length value → length value ≤ 19
    → list_all is_ascii_digit (take i value) ≡ true
    → n ≡ digits_value 10 (take i value) → n < 10 ^ 18
below_limit value i n inside few digits is =
    let short : length (take i value) ≤ 18 = omega (arith, length-take {A = ℕ}) in
    omega (arith, is, few_digits (take i value) digits short)
