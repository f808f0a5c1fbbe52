-- Bytes below 128 are a text.
use Rattle.std.proofs.Common.{◌≡◌, ℕ, zero, suc, List, [], ◌∷◌, true, arith}
use Rattle.std.proofs.lemmas.Bool.Decides.{nat_tests}
use Rattle.std.specs.List.{list_all}
use Rattle.std.specs.Prelude.{nat_lt, IsAscii}

pub IsAscii-from_list_all : (bytes : List ℕ) → list_all (λ b. nat_lt b 128) bytes ≡ true → IsAscii bytes
IsAscii-from_list_all [] h i = omega arith
IsAscii-from_list_all (b ∷ bytes) h zero = grind (arith, nat_tests, h)
IsAscii-from_list_all (b ∷ bytes) h (suc i) = IsAscii-from_list_all bytes (grind (arith, nat_tests, h)) i
