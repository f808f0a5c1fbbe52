-- A value whose objects have their names in order, each once, is read back from its text.
use Rattle.std.proofs.Common.{◌≡◌, ℕ, ◌^◌, ◌<◌, ◌≤◌, Bool, true, false, ◌&&◌, Ordering, List, [], ◌∷◌, IsUtf8, Some}
use Rattle.std.proofs.Common.{refl, sym, ap, ◌∙◌, append-nil}
use Rattle.std.proofs.lemmas.Bool.{and_parts}
use Rattle.std.proofs.lemmas.Str.{IsUtf8-append, IsUtf8-from_ascii, IsUtf8-nil}
use Rattle.std.proofs.lemmas.Fmt.{IsAscii-decimal}
use Rattle.std.specs.Prelude.{⊤, option_map, option_and_then, decimal}
use Rattle.std.specs.declared.cmp.Ordering.TheVariants.{Less, Equal, Greater}
use Rattle.std.specs.Ordering.{nat_cmp, match_ordering}
use Rattle.std.specs.Cmp.Lexicographic.{slice_cmp}
use Rattle.json.specs.Json as json
use Rattle.json.specs.Tree.{HasNumbers, json_tokens}
use Rattle.json.specs.Tree as tree
use Rattle.json.proofs.Printed.Decimals.{IsNumber-decimal}
use Rattle.json.proofs.Printed.Tokens.{tokens-print}
use Rattle.json.proofs.Printed.Trees.{ArePrintable-json_tokens, value-json_tokens}
use Rattle.json.proofs.Printed.Utf8.{are_ascii, IsUtf8-are_ascii, IsUtf8-boolean, IsUtf8-quoted}
use Rattle.serde_json.specs.Data.{Num, unsigned, negative, float, Data, null, boolean, number, string, array, object, Items, no_items}
use Rattle.serde_json.specs.Data.{item, Members, no_members, member, put}
use Rattle.serde_json.specs.Read.{max_depth, of_items, of_json, of_members, read}
use Rattle.serde_json.specs.Written.{outline, items_outline, members_outline, compact_text, items_text, members_text, comma_if}
use Rattle.serde_json.proofs.Numbers.{number_of-decimal}
use Rattle.serde_json.proofs.Texts.{print-outline}

-- the name comes after those of members
abbrev pub is_after : List ℕ → Members → Bool
is_after name no_members = true
is_after name (member other d ms) = match_ordering (slice_cmp nat_cmp name other) false false true && is_after name ms

-- the members, with one more at the end
abbrev pub with_last : Members → List ℕ → Data → Members
with_last no_members name d = member name d no_members
with_last (member other e ms) name d = member other e (with_last ms name d)

-- the names are ASCII, and come in order, after those that were found
abbrev pub named_after : Members → Members → Bool
named_after found no_members = true
named_after found (member name d ms) = are_ascii name && (is_after name found && named_after (with_last found name d) ms)

-- a whole number of 64 bits
abbrev pub IsSmall : Num → Type 0
IsSmall (unsigned n) = n < 2 ^ 64
IsSmall (negative z) = ⊥
IsSmall (float x) = ⊥

abbrev mutual
  pub IsPlain : Data → Type 0
  IsPlain null = ⊤
  IsPlain (boolean b) = ⊤
  IsPlain (number n) = IsSmall n
  IsPlain (string s) = IsUtf8 s
  IsPlain (array ds) = ArePlain ds
  IsPlain (object ms) = (named_after no_members ms ≡ true) × AreValues ms

  pub ArePlain : Items → Type 0
  ArePlain no_items = ⊤
  ArePlain (item d ds) = IsPlain d × ArePlain ds

  pub AreValues : Members → Type 0
  AreValues no_members = ⊤
  AreValues (member name d ms) = IsPlain d × AreValues ms

-- ---- what is read

is_last : (o : Ordering) (a b c : Members) → match_ordering o false false true ≡ true → match_ordering o a b c ≡ c
is_last Less a b c h = absurd (cc)
is_last Equal a b c h = absurd (cc)
is_last Greater a b c h = refl

put_last : (name : List ℕ) (d : Data) (found : Members) → is_after name found ≡ true → put name d found ≡ with_last found name d
put_last name d no_members h = refl
put_last name d (member other e ms) h =
    let parts = and_parts _ _ h in
    is_last (slice_cmp nat_cmp name other) (member name d (member other e ms)) (member other d ms) (member other e (put name d ms)) parts.0
    ∙ ap (member other e) (put_last name d ms parts.1)

-- a name, and those after it
record Names (name : List ℕ) (d : Data) (found ms : Members) : Type 0 where
  ascii : are_ascii name ≡ true
  after : is_after name found ≡ true
  more : named_after (with_last found name d) ms ≡ true

names : (name : List ℕ) (d : Data) (found ms : Members) → named_after found (member name d ms) ≡ true → Names name d found ms
names name d found ms h =
    let first = and_parts _ _ h in
    let rest = and_parts _ _ first.1 in
    record { ascii = first.0; after = rest.0; more = rest.1 }

-- the members, after those that were found
abbrev all_of : Members → Members → Members
all_of found no_members = found
all_of found (member name d ms) = all_of (with_last found name d) ms

abbrev both : Members → Members → Members
both no_members ms = ms
both (member name d found) ms = member name d (both found ms)

both_none : (found : Members) → both found no_members ≡ found
both_none no_members = refl
both_none (member name d found) = ap (member name d) (both_none found)

both_last : (found : Members) (name : List ℕ) (d : Data) (ms : Members) → both (with_last found name d) ms ≡ both found (member name d ms)
both_last no_members name d ms = refl
both_last (member other e found) name d ms = ap (member other e) (both_last found name d ms)

all_both : (found ms : Members) → all_of found ms ≡ both found ms
all_both found no_members = sym (both_none found)
all_both found (member name d ms) = all_both (with_last found name d) ms ∙ both_last found name d ms

number_read : (n : Num) → IsSmall n → of_json (outline (number n)) ≡ Some (number n)
number_read (unsigned n) h = ap (option_map number) (number_of-decimal n h)
number_read (negative z) h = absurd h
number_read (float x) h = absurd h

mutual
  plain_read : (d : Data) → IsPlain d → of_json (outline d) ≡ Some d
  plain_read null h = refl
  plain_read (boolean b) h = refl
  plain_read (number n) h = number_read n h
  plain_read (string s) h = refl
  plain_read (array ds) h = ap (option_map array) (items_read ds h)
  plain_read (object ms) h = ap (option_map object) (members_read no_members ms h.0 h.1 ∙ ap Some (all_both no_members ms))

  items_read : (ds : Items) → ArePlain ds → of_items (items_outline ds) ≡ Some ds
  items_read no_items h = refl
  items_read (item d ds) h =
      ap (option_and_then (λ x. option_map (item x) (of_items (items_outline ds)))) (plain_read d h.0)
      ∙ ap (option_map (item d)) (items_read ds h.1)

  members_read : (found ms : Members) → named_after found ms ≡ true → AreValues ms
      → of_members (members_outline ms) found ≡ Some (all_of found ms)
  members_read found no_members named h = refl
  members_read found (member name d ms) named h =
      let n = names name d found ms named in
      ap (option_and_then (λ x. of_members (members_outline ms) (put name x found))) (plain_read d h.0)
      ∙ (ap (of_members (members_outline ms)) (put_last name d found n.after) ∙ members_read (with_last found name d) ms n.more h.1)

-- ---- what is written

number_written : (n : Num) → IsSmall n → HasNumbers (outline (number n))
number_written (unsigned n) h = IsNumber-decimal n h
number_written (negative z) h = absurd h
number_written (float x) h = absurd h

mutual
  plain_written : (d : Data) → IsPlain d → HasNumbers (outline d)
  plain_written null h = tt
  plain_written (boolean b) h = tt
  plain_written (number n) h = number_written n h
  plain_written (string s) h = tt
  plain_written (array ds) h = items_written ds h
  plain_written (object ms) h = members_written ms h.1

  items_written : (ds : Items) → ArePlain ds → HasNumbers (outline (array ds))
  items_written no_items h = tt
  items_written (item d ds) h = (plain_written d h.0, items_written ds h.1)

  members_written : (ms : Members) → AreValues ms → HasNumbers (outline (object ms))
  members_written no_members h = tt
  members_written (member name d ms) h = (plain_written d h.0, members_written ms h.1)

-- ---- its text is UTF-8

comma_utf8 : (later : Bool) → IsUtf8 (comma_if later)
comma_utf8 true = IsUtf8-are_ascii (44 ∷ []) refl
comma_utf8 false = IsUtf8-nil

number_utf8 : (n : Num) → IsSmall n → IsUtf8 (compact_text (number n))
number_utf8 (unsigned n) h = IsUtf8-from_ascii (decimal n) (IsAscii-decimal n h)
number_utf8 (negative z) h = absurd h
number_utf8 (float x) h = absurd h

mutual
  plain_utf8 : (d : Data) → IsPlain d → IsUtf8 (compact_text d)
  plain_utf8 null h = IsUtf8-are_ascii _ refl
  plain_utf8 (boolean b) h = IsUtf8-boolean b
  plain_utf8 (number n) h = number_utf8 n h
  plain_utf8 (string s) h = IsUtf8-quoted s h
  plain_utf8 (array ds) h = IsUtf8-append (91 ∷ []) _ (IsUtf8-are_ascii (91 ∷ []) refl) (items_utf8 false ds h)
  plain_utf8 (object ms) h = IsUtf8-append (123 ∷ []) _ (IsUtf8-are_ascii (123 ∷ []) refl) (members_utf8 false no_members ms h.0 h.1)

  items_utf8 : (later : Bool) (ds : Items) → ArePlain ds → IsUtf8 (items_text later ds)
  items_utf8 later no_items h = IsUtf8-are_ascii (93 ∷ []) refl
  items_utf8 later (item d ds) h =
      IsUtf8-append _ _ (comma_utf8 later) (IsUtf8-append _ _ (plain_utf8 d h.0) (items_utf8 true ds h.1))

  members_utf8 : (later : Bool) (found ms : Members) → named_after found ms ≡ true → AreValues ms → IsUtf8 (members_text later ms)
  members_utf8 later found no_members named h = IsUtf8-are_ascii (125 ∷ []) refl
  members_utf8 later found (member name d ms) named h =
      let n = names name d found ms named in
      IsUtf8-append _ _ (comma_utf8 later)
      (IsUtf8-append _ _ (IsUtf8-quoted name (IsUtf8-are_ascii name n.ascii))
      (IsUtf8-append (58 ∷ []) _ (IsUtf8-are_ascii (58 ∷ []) refl)
      (IsUtf8-append _ _ (plain_utf8 d h.0) (members_utf8 true (with_last found name d) ms n.more h.1))))

-- ---- together

pub reads_back : (d : Data) → IsPlain d → tree.depth (outline d) ≤ max_depth → read (compact_text d) ≡ Some d
reads_back d h shallow =
    ap read (sym (print-outline d))
    ∙ (ap (λ o. option_and_then of_json (option_and_then (λ p. json.if_last p.0 p.1) o))
    (ap (json.value max_depth)
    (tokens-print (json_tokens (outline d)) (ArePrintable-json_tokens (outline d) (plain_written d h))
    ∙ sym (append-nil (json_tokens (outline d))))
    ∙ value-json_tokens (outline d) max_depth [] shallow) ∙ plain_read d h)

pub is_text : (d : Data) → IsPlain d → IsUtf8 (compact_text d)
is_text d h = plain_utf8 d h
