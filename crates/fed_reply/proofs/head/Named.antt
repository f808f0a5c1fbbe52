-- The values of a name and the length of the names, by the places of the fields.
use Rattle.std.proofs.Common.{◌≡◌, ℕ, ◌-◌, Bool, true, false, ◌&&◌, List, [], ◌∷◌, map, filter, length, All, Some, refl}
use Rattle.std.proofs.Common.{sym, ap, ◌∙◌, rules, if◌then◌else◌}
use Rattle.std.specs.Prelude.{nat_le, nat_lt}
use Rattle.std.specs.List.{list_all}
use Rattle.std.proofs.lemmas.List.Sums.{list_all-from_AllPass}
use Rattle.std.proofs.lemmas.List.Elements.{All-head, All-tail}
use Rattle.httparse.specs.declared.spans.HeaderSpan.{HeaderSpan}
use Rattle.httparse.specs.Grammar.{Field, IsField, is_token_byte, trim_ows}
use Rattle.httparse.specs.Spans.{IsHeaderWithin, header_bytes}
use Rattle.httparse.proofs.RunLemmas.{length-slice_range}
use Rattle.httparse.proofs.TrimLemmas.{AllPass-trim_ows}
use Rattle.http_header.specs.Token.{token_test, is_value_byte}
use Rattle.fed_head.specs.Head.{HeadParts, head_of}
use Rattle.fed_head.specs.Section.{FieldPair, field_pair, name_and_trimmed}
use Rattle.fed_head.proofs.printed.Section.{both}
use Rattle.fed_head.proofs.printed.Head.{head_found}
use Rattle.fed_reply.specs.Fields.{is_taken_field, is_word, values_in}

-- ---- the values of a name

one_field : (name : List ℕ) (p : FieldPair) (ps : List FieldPair) (t : Bool) → is_word name p.0 ≡ t
    → values_in name (p ∷ ps) ≡ (if t then p.1 ∷ values_in name ps else values_in name ps)
unfolding values_in
one_field name p ps t is =
    ap (λ b. map (λ (q : FieldPair). q.1) (if b then p ∷ filter (λ q. is_word name q.0) ps else filter (λ q. is_word name q.0) ps)) is
    ∙ by t
  where
    by : (t : Bool) → map (λ (q : FieldPair). q.1) (if t then p ∷ filter (λ q. is_word name q.0) ps else filter (λ q. is_word name q.0) ps)
        ≡ (if t then p.1 ∷ values_in name ps else values_in name ps)
    by true = refl
    by false = refl

pub first_is_named : (raw name : List ℕ) (s : HeaderSpan) (spans after : List HeaderSpan) → spans ≡ s ∷ after
    → is_word name (header_bytes raw s).0 ≡ true
    → values_in name (map (header_bytes raw) spans) ≡ (header_bytes raw s).1 ∷ values_in name (map (header_bytes raw) after)
first_is_named raw name s spans after split is =
    ap (λ ss. values_in name (map (header_bytes raw) ss)) split
    ∙ one_field name (header_bytes raw s) (map (header_bytes raw) after) true is

pub first_is_other : (raw name : List ℕ) (s : HeaderSpan) (spans after : List HeaderSpan) → spans ≡ s ∷ after
    → is_word name (header_bytes raw s).0 ≡ false
    → values_in name (map (header_bytes raw) spans) ≡ values_in name (map (header_bytes raw) after)
first_is_other raw name s spans after split is =
    ap (λ ss. values_in name (map (header_bytes raw) ss)) split
    ∙ one_field name (header_bytes raw s) (map (header_bytes raw) after) false is

pub none_is_named : (raw name : List ℕ) (spans : List HeaderSpan) → length spans ≡ 0 → values_in name (map (header_bytes raw) spans) ≡ []
unfolding values_in
none_is_named raw name [] is = refl
none_is_named raw name (s ∷ ss) is = absurd (grind rules)

-- ---- of a head's fields only the length of a name is left to test

is_short : FieldPair → Bool
is_short p = nat_le (length p.0) 65535

middle : (a b c : Bool) → a ≡ true → c ≡ true → ((a && b) && c) ≡ b
middle true b true is is2 = by b
  where
    by : (b : Bool) → (b && true) ≡ b
    by true = refl
    by false = refl
middle true b false is is2 = absurd (grind rules)
middle false b c is is2 = absurd (grind rules)

field_taken : (f : Field) → IsField f → is_taken_field (name_and_trimmed (field_pair f)) ≡ is_short (name_and_trimmed (field_pair f))
unfolding is_taken_field is_short is_token_byte
field_taken f is =
    middle _ (nat_le (length f.name) 65535) _
    (both (nat_lt 0 (length f.name)) _ (search (rules, is.name.0)) (list_all-from_AllPass token_test f.name is.name.1))
    (list_all-from_AllPass is_value_byte (trim_ows f.raw) (AllPass-trim_ows is_value_byte f.raw is.raw))

fields_taken : (fs : List Field) → All IsField fs
    → list_all is_taken_field (map name_and_trimmed (map field_pair fs)) ≡ list_all is_short (map name_and_trimmed (map field_pair fs))
fields_taken [] all = refl
fields_taken (f ∷ fs) all =
    ap (λ t. t && list_all is_taken_field (map name_and_trimmed (map field_pair fs))) (field_taken f (All-head IsField f fs all))
    ∙ ap (λ t. is_short (name_and_trimmed (field_pair f)) && t) (fields_taken fs (All-tail IsField f fs all))

head_taken : (raw : List ℕ) (h : HeadParts) → head_of raw ≡ Some h
    → list_all is_taken_field (map name_and_trimmed h.fields) ≡ list_all is_short (map name_and_trimmed h.fields)
head_taken raw h is =
    let at = head_found raw h is in
    ap (λ ps. list_all is_taken_field (map name_and_trimmed ps)) at.fields
    ∙ fields_taken at.head.fields at.reads.0.fields
    ∙ ap (λ ps. list_all is_short (map name_and_trimmed ps)) (sym at.fields)

-- by the places of the fields
spans_short : (raw : List ℕ) (spans : List HeaderSpan) → All (IsHeaderWithin (length raw)) spans
    → list_all is_short (map (header_bytes raw) spans) ≡ list_all (λ s. nat_le (s.name.end - s.name.start) 65535) spans
unfolding is_short
spans_short raw [] all = refl
spans_short raw (s ∷ ss) all =
    let here = (All-head (IsHeaderWithin (length raw)) s ss all).0 in
    let long = length-slice_range raw s.name.start s.name.end here.0 here.1 in
    ap (λ n. nat_le n 65535 && list_all is_short (map (header_bytes raw) ss)) long
    ∙ ap (λ t. nat_le (s.name.end - s.name.start) 65535 && t) (spans_short raw ss (All-tail (IsHeaderWithin (length raw)) s ss all))

pub all_taken : (raw : List ℕ) (h : HeadParts) (spans : List HeaderSpan) → head_of raw ≡ Some h
    → All (IsHeaderWithin (length raw)) spans → map (header_bytes raw) spans ≡ map name_and_trimmed h.fields
    → list_all is_taken_field (map name_and_trimmed h.fields) ≡ list_all (λ s. nat_le (s.name.end - s.name.start) 65535) spans
all_taken raw h spans is inside same =
    head_taken raw h is ∙ ap (list_all is_short) (sym same) ∙ spans_short raw spans inside
