-- What a text is by its front and what is left, a run of plain bytes on.
use Rattle.std.proofs.Common.{◌≡◌, ℕ, zero, suc, ◌+◌, ◌≤◌, ◌<◌, Bool, true, false, cond, List, [], ◌∷◌, ◌++◌, length, take, drop, get_or, refl, sym, ap, ◌∙◌, arith, append_assoc, append-nil, ◌==◌}
use Rattle.std.proofs.lemmas.Bool.{or_parts, not-true, eqb-false, ltb-false}
use Rattle.std.proofs.lemmas.Grind.{flat_map-append}
use Rattle.std.proofs.lemmas.List.{drop-drop, take-append-drop, drop_more, take_more_set}
use Rattle.std.specs.List.{prefix_len}
use Rattle.std.proofs.lemmas.Bool.Decides.{nat_tests}
use Rattle.std.specs.Char.{digit_char}
use Rattle.std.specs.Prelude.{◌/◌, ◌%◌, nat_lt}
use Rattle.json.specs.Print.{escape, escape_byte, escape_letter}
use Rattle.json.specs.Run.{is_stop, is_plain}
use Rattle.json.proofs.Printed.Strings.{escape_byte_plain}
use lib.ListN.{set}

-- a byte that stands for itself
pub plain_byte : (x : ℕ) → is_plain x ≡ true → escape_byte x ≡ x ∷ []
plain_byte x h =
    let none = or_parts _ _ (not-true (is_stop x) h) in
    let tests = or_parts (x == 34) _ none.0 in
    escape_byte_plain x (eqb-false x 34 tests.0) (eqb-false x 92 tests.1) (ltb-false x 32 none.1)

front_byte : (p : Bool) (x k m : ℕ) (xs : List ℕ) → p ≡ is_plain x → suc k ≤ cond p (1 + m) 0 → (k ≤ m → escape (take k xs) ≡ take k xs)
    → escape (x ∷ take k xs) ≡ x ∷ take k xs
front_byte false x k m xs e h ih = absurd (omega (arith, h))
front_byte true x k m xs e h ih = λ i. plain_byte x (sym e) i ++ ih (omega (arith, h)) i

plain_front : (xs : List ℕ) (k : ℕ) → k ≤ prefix_len is_plain xs → escape (take k xs) ≡ take k xs
plain_front xs zero h = refl
plain_front [] (suc k) h = absurd (omega (arith, h))
plain_front (x ∷ xs) (suc k) h = front_byte (is_plain x) x k (prefix_len is_plain xs) xs refl h (plain_front xs k)

pub runs : (bytes room new left : List ℕ) (i n k : ℕ) → bytes ≡ escape (take n room) ++ drop i bytes → left ≡ drop i bytes → k ≤ prefix_len is_plain left
    → take (n + k) new ≡ take n room ++ take k left → bytes ≡ escape (take (n + k) new) ++ drop (i + k) bytes
runs bytes room new left i n k is same plain written =
    let rest : drop k left ≡ drop (i + k) bytes = ap (drop k) same ∙ drop-drop k i bytes in
    is ∙ ap (λ l. escape (take n room) ++ l) (sym same ∙ sym (take-append-drop k left))
    ∙ ap (λ l. escape (take n room) ++ (l ++ drop k left)) (sym (plain_front left k plain))
    ∙ sym (append_assoc (escape (take n room)) (escape (take k left)) (drop k left))
    ∙ ap (λ l. l ++ drop k left) (sym (flat_map-append escape_byte (take n room) (take k left)) ∙ ap escape (sym written))
    ∙ ap (λ l. escape (take (n + k) new) ++ l) rest

pub one_byte : (bytes room : List ℕ) (i n : ℕ) → bytes ≡ escape (take n room) ++ drop i bytes → i < length bytes → n < length room
    → is_plain (get_or bytes i 0) ≡ true → bytes ≡ escape (take (n + 1) (set room n (get_or bytes i 0))) ++ drop (i + 1) bytes
one_byte bytes room i n is within fits plain =
    let b = get_or bytes i 0 in
    is ∙ ap (λ l. escape (take n room) ++ l) (drop_more bytes i 0 within)
    ∙ ap (λ l. escape (take n room) ++ (l ++ drop (i + 1) bytes)) (sym (plain_byte b plain))
    ∙ sym (append_assoc (escape (take n room)) (escape_byte b) (drop (i + 1) bytes))
    ∙ ap (λ l. l ++ drop (i + 1) bytes) (ap (λ l. escape (take n room) ++ l) (sym (append-nil (escape_byte b))) ∙ sym (flat_map-append escape_byte (take n room) (b ∷ [])) ∙ ap escape (sym (take_more_set room n b fits)))

pub escapes : (bytes room new left : List ℕ) (whole : List ℕ) (i n k : ℕ) → take n room ++ escape (drop i bytes) ≡ whole → left ≡ drop i bytes
    → k ≤ prefix_len is_plain left → take (n + k) new ≡ take n room ++ take k left → take (n + k) new ++ escape (drop (i + k) bytes) ≡ whole
escapes bytes room new left whole i n k is same plain written =
    let rest : drop k left ≡ drop (i + k) bytes = ap (drop k) same ∙ drop-drop k i bytes in
    ap (λ l. l ++ escape (drop (i + k) bytes)) written
    ∙ append_assoc (take n room) (take k left) (escape (drop (i + k) bytes))
    ∙ ap (λ l. take n room ++ (l ++ escape (drop (i + k) bytes))) (sym (plain_front left k plain))
    ∙ ap (λ l. take n room ++ (escape (take k left) ++ escape l)) (sym rest)
    ∙ ap (λ l. take n room ++ l) (sym (flat_map-append escape_byte (take k left) (drop k left)) ∙ ap escape (take-append-drop k left ∙ same))
    ∙ is

-- a control character without a short escape
pub control : (x : ℕ) → escape_letter x ≡ 0 → x < 32
    → escape_byte x ≡ 92 ∷ 117 ∷ 48 ∷ 48 ∷ digit_char (x / 16) ∷ digit_char (x % 16) ∷ []
unfolding escape_byte
control x none low =
    let below : nat_lt x 32 ≡ true = grind (arith, nat_tests, low) in
    let long = 92 ∷ 117 ∷ 48 ∷ 48 ∷ digit_char (x / 16) ∷ digit_char (x % 16) ∷ [] in
    ap (λ l. cond (nat_lt 0 l) (92 ∷ l ∷ []) (cond (nat_lt x 32) long (x ∷ []))) none ∙ ap (λ b. cond b long (x ∷ [])) below

-- another byte
pub itself : (x : ℕ) → escape_letter x ≡ 0 → 32 ≤ x → escape_byte x ≡ x ∷ []
unfolding escape_byte
itself x none high =
    let below : nat_lt x 32 ≡ false = grind (arith, nat_tests, high) in
    let long = 92 ∷ 117 ∷ 48 ∷ 48 ∷ digit_char (x / 16) ∷ digit_char (x % 16) ∷ [] in
    ap (λ l. cond (nat_lt 0 l) (92 ∷ l ∷ []) (cond (nat_lt x 32) long (x ∷ []))) none ∙ ap (λ b. cond b long (x ∷ [])) below

pub one_plain : (bytes room : List ℕ) (whole : List ℕ) (i n : ℕ) → take n room ++ escape (drop i bytes) ≡ whole → i < length bytes → n < length room
    → is_plain (get_or bytes i 0) ≡ true → take (n + 1) (set room n (get_or bytes i 0)) ++ escape (drop (i + 1) bytes) ≡ whole
one_plain bytes room whole i n is within fits plain =
    let b = get_or bytes i 0 in
    ap (λ l. l ++ escape (drop (i + 1) bytes)) (take_more_set room n b fits)
    ∙ append_assoc (take n room) (b ∷ []) (escape (drop (i + 1) bytes))
    ∙ ap (λ l. take n room ++ (l ++ escape (drop (i + 1) bytes))) (sym (plain_byte b plain))
    ∙ ap (λ l. take n room ++ escape l) (sym (drop_more bytes i 0 within))
    ∙ is
