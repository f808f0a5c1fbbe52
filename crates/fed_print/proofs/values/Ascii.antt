-- Bytes below 128 are a text.
use Rattle.std.proofs.Common.{◌≡◌, ◌≤◌, ◌∙◌, ℕ, zero, suc, List, [], ◌∷◌, Bool, true, false, ◌&&◌, Some, None}
use Rattle.std.proofs.Common.{cond, refl, ap, arith}
use Rattle.std.proofs.lemmas.Bool.Decides.{nat_tests}
use Rattle.std.specs.Bool.{MatchBool}
use Rattle.std.specs.List.{list_all}
use Rattle.std.specs.Prelude.{nat_lt, slice_index}
use Rattle.std.specs.Str.{IsAscii, IsNotAscii}
use Rattle.fed_print.specs.Records.{ascii_text}

both : (a b : Bool) → a ≡ true → b ≡ true → (a && b) ≡ true
both a b h k = ap (λ x. x && b) h ∙ k

last_false : (a b : Bool) → b ≡ false → (a && b) ≡ false
last_false true b h = h
last_false false b h = refl

all_below : (bytes : List ℕ) → IsAscii bytes → list_all (λ b. nat_lt b 128) bytes ≡ true
all_below [] h = refl
all_below (b ∷ bytes) h = both _ _ (grind (arith, nat_tests, h 0)) (all_below bytes (λ i. h (suc i)))

one_above : (bytes : List ℕ) (i : ℕ) → 128 ≤ slice_index bytes i → list_all (λ b. nat_lt b 128) bytes ≡ false
one_above [] i h = absurd (omega arith)
one_above (b ∷ bytes) zero h = grind (arith, nat_tests, h)
one_above (b ∷ bytes) (suc i) h = last_false _ _ (one_above bytes i h)

pub text_from_ascii : (bytes : List ℕ) → IsAscii bytes → ascii_text bytes ≡ Some bytes
text_from_ascii bytes h = ap (λ b. cond b (Some bytes) None) (all_below bytes h)

none_from_not_ascii : (bytes : List ℕ) → IsNotAscii bytes → ascii_text bytes ≡ None
none_from_not_ascii bytes h = ap (λ b. cond b (Some bytes) None) (one_above bytes h.0 h.1)

-- by the test
pub text_by_test : (b : Bool) (bytes : List ℕ) → MatchBool b (IsAscii bytes) (IsNotAscii bytes)
    → MatchBool b (ascii_text bytes ≡ Some bytes) (ascii_text bytes ≡ None)
text_by_test true bytes h = text_from_ascii bytes h
text_by_test false bytes h = none_from_not_ascii bytes h
