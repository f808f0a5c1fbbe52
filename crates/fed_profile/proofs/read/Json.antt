-- The compact text of a JSON value has no LF.
use Rattle.std.proofs.Common.{◌≡◌, ℕ, zero, suc, pos, negsuc, ◌+◌, ◌<◌, ◌≤◌, ◌/◌, ◌%◌, Bool, true, false, ◌&&◌, ◌||◌, not, cond, nat_lt}
use Rattle.std.proofs.Common.{List, [], ◌∷◌, ◌++◌, ◌⊎◌, inl, inr, refl, ap, ap₂, ◌∙◌, arith}
use Rattle.std.proofs.lemmas.Bool.{and_parts, cases_lt, cases_eq}
use Rattle.std.proofs.lemmas.Bool.Decides.{nat_tests}
use Rattle.std.proofs.lemmas.List.Folds.{list_any-append}
use Rattle.std.specs.Prelude.{◌==◌, decimal}
use Rattle.std.specs.Fmt.{digits, digits_onto, digit_glyph}
use Rattle.std.specs.List.{list_any}
use Rattle.json.specs.Print.{escape_byte, escape, quoted}
use Rattle.json.proofs.Printed.Strings.{escape_byte_plain}
use Rattle.serde_json.specs.Data.{Num, unsigned, negative, float, Data, null, boolean, number, string, array, object}
use Rattle.serde_json.specs.Data.{Items, no_items, item, Members, no_members, member}
use Rattle.serde_json.specs.Written.{compact_text, items_text, members_text, comma_if, number_text}

abbrev pub has_lf : List ℕ → Bool
has_lf line = list_any (λ b. b == 10) line

-- texts one after another
both : (xs ys : List ℕ) → has_lf xs ≡ false → has_lf ys ≡ false → has_lf (xs ++ ys) ≡ false
both xs ys a b = list_any-append (λ b. b == 10) xs ys ∙ ap₂ (λ x y. x || y) a b

-- ---- strings

not_true : (b : Bool) → not b ≡ true → b ≡ false
not_true false h = refl
not_true true h = absurd (cc)

are_free : ℕ → Bool
are_free zero = true
are_free (suc n) = not (has_lf (escape_byte n)) && are_free n

free_below : (n : ℕ) → are_free n ≡ true → (x : ℕ) → x < n → has_lf (escape_byte x) ≡ false
unfolding are_free
free_below zero e x h = absurd (omega arith)
free_below (suc n) e x h =
    let p = and_parts _ _ e in
    elim (cases_eq x n) [ inl same ↦ rw same (not_true _ p.0) | inr other ↦ free_below n p.1 x (omega arith) ]

all_free : are_free 93 ≡ true
unfolding escape_byte are_free
all_free = refl

byte_has_none : (x : ℕ) → has_lf (escape_byte x) ≡ false
byte_has_none x = go (cases_lt x 93)
  where
    go : (x < 93) ⊎ (93 ≤ x) → has_lf (escape_byte x) ≡ false
    go (inl below) = free_below 93 all_free x below
    go (inr above) =
        let other : (x == 10) ≡ false = grind (arith, nat_tests, above) in
        ap has_lf (escape_byte_plain x (λ e. omega arith) (λ e. omega arith) (omega arith)) ∙ ap (λ t. t || false) other

escape_has_none : (s : List ℕ) → has_lf (escape s) ≡ false
escape_has_none [] = refl
escape_has_none (x ∷ s) = both (escape_byte x) (escape s) (byte_has_none x) (escape_has_none s)

quoted_has_none : (s : List ℕ) → has_lf (quoted s) ≡ false
quoted_has_none s = both (escape s) (34 ∷ []) (escape_has_none s) refl

-- ---- numbers

glyph_has_none : (d : ℕ) → (digit_glyph false d == 10) ≡ false
glyph_has_none d = go (nat_lt d 10)
  where
    go : (t : Bool) → (cond t (48 + d) (87 + d) == 10) ≡ false
    go true = grind (arith, nat_tests)
    go false = grind (arith, nat_tests)

digits_have_none : (k n : ℕ) (acc : List ℕ) → has_lf acc ≡ false → has_lf (digits_onto k 10 false n acc) ≡ false
digits_have_none zero n acc none = none
digits_have_none (suc k) n acc none =
    let more : has_lf (digit_glyph false (n % 10) ∷ acc) ≡ false = ap₂ (λ x y. x || y) (glyph_has_none (n % 10)) none in
    go (n / 10 == 0) more (digits_have_none k (n / 10) (digit_glyph false (n % 10) ∷ acc) more)
  where
    go : (t : Bool) → has_lf (digit_glyph false (n % 10) ∷ acc) ≡ false
        → has_lf (digits_onto k 10 false (n / 10) (digit_glyph false (n % 10) ∷ acc)) ≡ false
        → has_lf (cond t (digit_glyph false (n % 10) ∷ acc) (digits_onto k 10 false (n / 10) (digit_glyph false (n % 10) ∷ acc))) ≡ false
    go true last more = last
    go false last more = more

decimal_has_none : (n : ℕ) → has_lf (decimal n) ≡ false
unfolding digits
decimal_has_none n = digits_have_none 64 n [] refl

number_has_none : (n : Num) → has_lf (number_text n) ≡ false
number_has_none (unsigned n) = decimal_has_none n
number_has_none (negative (pos n)) = decimal_has_none n
number_has_none (negative (negsuc n)) = decimal_has_none (suc n)
number_has_none (float x) = refl

-- ---- values

comma_has_none : (later : Bool) → has_lf (comma_if later) ≡ false
comma_has_none true = refl
comma_has_none false = refl

boolean_has_none : (b : Bool) → has_lf (compact_text (boolean b)) ≡ false
boolean_has_none true = refl
boolean_has_none false = refl

mutual
  pub value_has_none : (d : Data) → has_lf (compact_text d) ≡ false
  value_has_none null = refl
  value_has_none (boolean b) = boolean_has_none b
  value_has_none (number n) = number_has_none n
  value_has_none (string s) = quoted_has_none s
  value_has_none (array ds) = items_have_none false ds
  value_has_none (object ms) = members_have_none false ms

  items_have_none : (later : Bool) (ds : Items) → has_lf (items_text later ds) ≡ false
  items_have_none later no_items = refl
  items_have_none later (item d ds) =
      both (comma_if later) (compact_text d ++ items_text true ds) (comma_has_none later)
      (both (compact_text d) (items_text true ds) (value_has_none d) (items_have_none true ds))

  members_have_none : (later : Bool) (ms : Members) → has_lf (members_text later ms) ≡ false
  members_have_none later no_members = refl
  members_have_none later (member k d ms) =
      both (comma_if later) (quoted k ++ 58 ∷ (compact_text d ++ members_text true ms)) (comma_has_none later)
      (both (quoted k) (58 ∷ (compact_text d ++ members_text true ms)) (quoted_has_none k)
      (both (compact_text d) (members_text true ms) (value_has_none d) (members_have_none true ms)))
