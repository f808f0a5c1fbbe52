-- The text of records falls into their lines: none has an LF in it.
use Rattle.std.proofs.Common.{◌≡◌, ℕ, zero, suc, ◌<◌, Bool, true, false, ◌&&◌, ◌||◌, ◌==◌, not, cond, List, [], ◌∷◌, ◌++◌}
use Rattle.std.proofs.Common.{decimal, inl, inr, map, refl, sym, ap, ap₂, ◌∙◌, arith, ne_eqb}
use Rattle.std.proofs.lemmas.Bool.{and_parts, cases_lt, cases_eq}
use Rattle.std.proofs.lemmas.Fmt.{decimal_is_IsNumeral}
use Rattle.std.proofs.lemmas.List.{append_assoc}
use Rattle.std.proofs.lemmas.List.Folds.{list_any-append}
use Rattle.std.specs.Char.{digit_value}
use Rattle.std.specs.List.{AllByRecursion, list_any, onto_first}
use Rattle.std.specs.Str.Parse.{AllDigits}
use Rattle.json.specs.Print.{escape, escape_byte, quoted}
use Rattle.json.proofs.Printed.Strings.{escape_byte_plain}
use Rattle.serde_json.specs.Data.{Num, unsigned, negative, float, Data, null, boolean, number, string, array, object, Items, no_items}
use Rattle.serde_json.specs.Data.{item, Members, no_members, member}
use Rattle.serde_json.specs.Written.{comma_if, compact_text, items_text, members_text}
use Rattle.fed_print.specs.Lines.{line_of, text_of}
use Rattle.fed_print.specs.Records.{record_members}
use Rattle.fed_script.specs.Script.{lines_of}
use Rattle.fed_trace.specs.declared.out.Out.{Out}
use Rattle.fed_own.specs.Line.{IsSaid, end_line, end_members, own_line}
use Rattle.fed_own.proofs.lines.Plain.{ArePlain, AreValues, IsPlain, IsSmall}
use Rattle.fed_own.proofs.lines.Written.{IsWritten, written}

-- no byte of the text is an LF
abbrev pub IsOneLine : List ℕ → Type 0
IsOneLine text = list_any (λ b. b == 10) text ≡ false

joined : (a b : List ℕ) → IsOneLine a → IsOneLine b → IsOneLine (a ++ b)
joined a b h k = list_any-append (λ x. x == 10) a b ∙ ap₂ (λ x y. x || y) h k

-- ---- strings

-- the escapes of the bytes below n have none
abbrev escapes_below : ℕ → Bool
escapes_below zero = true
escapes_below (suc n) = not (list_any (λ b. b == 10) (escape_byte n)) && escapes_below n

not_true : (b : Bool) → not b ≡ true → b ≡ false
not_true true h = sym h
not_true false h = refl

escape_below : (n : ℕ) → escapes_below n ≡ true → (x : ℕ) → x < n → IsOneLine (escape_byte x)
escape_below zero e x h = absurd (omega (arith, h))
escape_below (suc n) e x h =
    let p = and_parts _ _ e in
    elim (cases_eq x n) [ inl same ↦ rw same (not_true _ p.0) | inr other ↦ escape_below n p.1 x (omega (arith, h, other)) ]

all_ascii : escapes_below 128 ≡ true
unfolding escape_byte
all_ascii = refl

one_byte : (x : ℕ) → IsOneLine (escape_byte x)
one_byte x = elim (cases_lt x 128) [
  | inl small ↦ escape_below 128 all_ascii x small
  | inr big ↦
      ap (list_any (λ b. b == 10)) (escape_byte_plain x (λ e. omega (arith, e, big)) (λ e. omega (arith, e, big)) (omega (arith, big)))
      ∙ ap (λ t. t || false) (ne_eqb x 10 (λ e. omega (arith, e, big)))
]

escaped : (text : List ℕ) → IsOneLine (escape text)
escaped [] = refl
escaped (x ∷ text) = joined (escape_byte x) (escape text) (one_byte x) (escaped text)

quoted_line : (text : List ℕ) → IsOneLine (quoted text)
quoted_line text = joined (escape text) (34 ∷ []) (escaped text) refl

-- ---- numbers

digits_line : (ds : List ℕ) → AllDigits 10 ds → IsOneLine ds
digits_line [] h = refl
digits_line (d ∷ ds) h = ap₂ (λ x y. x || y) (ne_eqb d 10 (no_digit d h.0)) (digits_line ds h.1)
  where
    no_digit : (d : ℕ) → digit_value d < 10 → d ≡ 10 → ⊥
    no_digit d small is = let digit : digit_value d < 10 = small in let same : d ≡ 10 = is in grind arith

number_line : (n : Num) → IsSmall n → IsOneLine (compact_text (number n))
number_line (unsigned n) h = digits_line (decimal n) (decimal_is_IsNumeral n h).0.1
number_line (negative z) h = absurd h
number_line (float x) h = absurd h

-- ---- values

boolean_line : (b : Bool) → IsOneLine (compact_text (boolean b))
boolean_line true = refl
boolean_line false = refl

comma_line : (later : Bool) → IsOneLine (comma_if later)
comma_line true = refl
comma_line false = refl

mutual
  value_line : (d : Data) → IsPlain d → IsOneLine (compact_text d)
  value_line null h = refl
  value_line (boolean b) h = boolean_line b
  value_line (number n) h = number_line n h
  value_line (string s) h = quoted_line s
  value_line (array ds) h = items_line false ds h
  value_line (object ms) h = members_line false ms h.1

  items_line : (later : Bool) (ds : Items) → ArePlain ds → IsOneLine (items_text later ds)
  items_line later no_items h = refl
  items_line later (item d ds) h =
      joined (comma_if later) (compact_text d ++ items_text true ds) (comma_line later)
      (joined (compact_text d) (items_text true ds) (value_line d h.0) (items_line true ds h.1))

  members_line : (later : Bool) (ms : Members) → AreValues ms → IsOneLine (members_text later ms)
  members_line later no_members h = refl
  members_line later (member name d ms) h =
      joined (comma_if later) (quoted name ++ 58 ∷ (compact_text d ++ members_text true ms)) (comma_line later)
      (joined (quoted name) (58 ∷ (compact_text d ++ members_text true ms)) (quoted_line name)
      (joined (compact_text d) (members_text true ms) (value_line d h.0) (members_line true ms h.1)))

-- ---- the lines of a text

line_first : (text rest : List ℕ) → IsOneLine text → lines_of (text ++ 10 ∷ rest) ≡ text ∷ lines_of rest
line_first [] rest h = refl
line_first (b ∷ text) rest h = go (b == 10) h (line_first text rest)
  where
    go : (lf : Bool) → lf || list_any (λ x. x == 10) text ≡ false
        → (IsOneLine text → lines_of (text ++ 10 ∷ rest) ≡ text ∷ lines_of rest)
        → cond lf ([] ∷ lines_of (text ++ 10 ∷ rest)) (onto_first b (lines_of (text ++ 10 ∷ rest))) ≡ (b ∷ text) ∷ lines_of rest
    go true h more = absurd (cc)
    go false h more = ap (onto_first b) (more h)

pub text_lines : (outs : List Out) (rest : List ℕ) → AllByRecursion IsSaid outs
    → lines_of (text_of outs ++ rest) ≡ map own_line outs ++ lines_of rest
unfolding line_of
text_lines [] rest h = refl
text_lines (out ∷ outs) rest h =
    ap lines_of (append_assoc (own_line out ++ 10 ∷ []) (text_of outs) rest ∙ append_assoc (own_line out) (10 ∷ []) (text_of outs ++ rest))
    ∙ (line_first (own_line out) (text_of outs ++ rest) (value_line (object (record_members out)) (written out h.0).plain)
    ∙ ap (λ ls. own_line out ∷ ls) (text_lines outs rest h.1))

pub last_line : (events : ℕ) → IsWritten (end_members events) → lines_of (line_of (end_members events)) ≡ end_line events ∷ []
unfolding line_of
last_line events w = line_first (end_line events) [] (value_line (object (end_members events)) w.plain)
