-- The number of calls that a word names.
use Rattle.std.proofs.Common.{◌≡◌, ◌∙◌, ℕ, ◌<◌, Bool, true, false, ◌&&◌, List, Some, None, Ok, Err, refl, sym, ap, arith, rules}
use Rattle.std.proofs.lemmas.Bool.Decides.{nat_tests}
use Rattle.std.proofs.lemmas.Fmt.{parse-decimal, decimal_is_IsNumeral}
use Rattle.std.proofs.lemmas.Slice.Eq.{bytes_eq-Decides}
use Rattle.std.specs.Prelude.{Result, nat_lt, bytes_eq, decimal, if◌then◌else◌}
use Rattle.std.specs.Str.Parse.{digits_value, ParsesUnsigned}
use Rattle.fed_run.specs.Words.{may_make, names_calls, calls_if, calls_named}

both : (a b : Bool) → (a && b) ≡ true → (a ≡ true) × (b ≡ true)
both true b is = (refl, is)
both false b is = absurd (search (is, rules))

few : (n : ℕ) → nat_lt n 20001 ≡ true → n < 20001
few n is = grind (arith, nat_tests)

-- what it means to name a number
names : (n : ℕ) (word : List ℕ) → names_calls n word ≡ true → (n < 20001) × (decimal n ≡ word)
names n word is =
    let parts = both (may_make n) (bytes_eq (decimal n) word) is in
    (few n (both (nat_lt 0 n) (nat_lt n 20001) parts.0).1, (bytes_eq-Decides (decimal n) word).0 parts.1)

if_true : (n : ℕ) (b : Bool) → b ≡ true → Some n ≡ (if b then Some n else None)
if_true n true is = refl
if_true n false is = absurd (search (is, rules))

-- a number that a word names
pub calls_found : (word : List ℕ) (n : ℕ) → names_calls n word ≡ true → Some n ≡ calls_named word
calls_found word n is =
    let so = names n word is in
    let value : digits_value 10 word ≡ n =
    ap (digits_value 10) (sym so.1) ∙ (decimal_is_IsNumeral n (let few = so.0 in omega (arith, few))).1 in
    if_true n (names_calls n word) is ∙ ap (λ m. calls_if m word) (sym value)

-- where what was read of it is no number that it names
pub calls_missed : {E : Type 0} (word : List ℕ) (r : Result ℕ E) → ParsesUnsigned 32 10 word r
    → ((n : ℕ) → r ≡ Ok n → names_calls n word ≡ false) → None ≡ calls_named word
calls_missed word r parses never = by (names_calls (digits_value 10 word) word) refl
  where
    by : (b : Bool) → names_calls (digits_value 10 word) word ≡ b → None ≡ (if b then Some (digits_value 10 word) else None)
    by false is = refl
    by true is =
        let n = digits_value 10 word in
        let so = names n word is in
        let few = so.0 in
        let found : r ≡ Ok n = parse-decimal 32 n word r (omega (arith, few)) (omega (arith, few)) (sym so.1) parses in
        absurd (search (sym is ∙ never n found, rules))

pub no_number : {E : Type 0} (r : Result ℕ E) (e : E) (n : ℕ) {P : Type 0} → r ≡ Err e → r ≡ Ok n → P
no_number r e n is found = absurd (search (sym is ∙ found, rules))

pub one_number : {E : Type 0} (word : List ℕ) (r : Result ℕ E) (n m : ℕ) → r ≡ Ok n → names_calls n word ≡ false → r ≡ Ok m
    → names_calls m word ≡ false
one_number word r n m is never found = let same : n ≡ m = cc (is, found) in rw (sym same) never
