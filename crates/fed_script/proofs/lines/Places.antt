-- The place that the library's search finds is the first one of the byte.
use Rattle.std.proofs.Common.{◌≡◌, ℕ, ◌<◌, Bool, true, false, cond, ◌==◌, ltb, List, length, Option, Some, None, refl, sym, ap, ◌∙◌}
use Rattle.std.proofs.Common.{arith}
use Rattle.std.specs.Prelude.{position, IfSome}
use Rattle.std.proofs.lemmas.List.Sums.{position_or_len_is}
use Rattle.memchr.specs.Find.{IsFirstByte, is_byte}

fails : (b : Bool) → (b ≡ true → ⊥) → b ≡ false
fails true never = absurd (never refl)
fails false never = refl

placed : (n m len : ℕ) (b : Bool) → m ≡ n → ltb n len ≡ b → cond b (Some n) None ≡ cond (ltb m len) (Some m) None
placed n m len b at test = ap (λ t. cond t (Some n) None) (sym test) ∙ ap (λ k. cond (ltb k len) (Some k) None) (sym at)

pub position_found : (byte : ℕ) (bytes : List ℕ) (r : Option ℕ) → IsFirstByte (is_byte byte) bytes r
    → r ≡ position (λ b. b == byte) bytes
position_found byte bytes None h =
    placed (length bytes) _ (length bytes) false
    (position_or_len_is (is_byte byte) bytes (length bytes) 0 (omega arith) (λ k l. fails _ (h k (omega arith) l))
    (λ l. absurd (omega arith)))
    (grind arith)
position_found byte bytes (Some k) h =
    let within = h.0.high in
    placed k _ (length bytes) true
    (position_or_len_is (is_byte byte) bytes k 0 (omega arith) (λ j l. fails _ (h.0.before j (omega arith) l)) (λ l. h.1))
    (grind arith)

pub found_within : (byte : ℕ) (bytes : List ℕ) (r : Option ℕ) → IsFirstByte (is_byte byte) bytes r
    → IfSome r (λ k. k < length bytes)
found_within byte bytes None h = tt
found_within byte bytes (Some k) h = h.0.high
