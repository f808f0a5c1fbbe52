-- Which fields are taken, and the fields of the first spans, one more at a time.
use Rattle.std.proofs.Common.{◌≡◌, ℕ, ◌+◌, ◌<◌, Bool, true, false, ◌&&◌, List, [], ◌∷◌, ◌++◌, zero, suc}
use Rattle.std.proofs.Common.{length, map, take, Result, Ok, Err}
use Rattle.std.proofs.Common.{sym, ap, refl, ◌∙◌, arith, rules, if◌then◌else◌}
use Rattle.std.specs.Prelude.{◌↔◌, slice_index_or, nat_lt}
use Rattle.std.specs.List.{list_all}
use Rattle.std.proofs.lemmas.List.{map-append}
use Rattle.std.proofs.lemmas.List.Sums.{fold-append, list_all-from_AllPass, AllPass-from_list_all}
use Rattle.std.proofs.lemmas.List.Folds.{list_all-append}
use Rattle.std.proofs.Math.Seq.{take-suc}
use Rattle.httparse.specs.declared.spans.HeaderSpan.{HeaderSpan}
use Rattle.httparse.specs.Spans.{header_bytes}
use Rattle.http_header.specs.Token.{lowercase, token_test, is_token_byte, is_value_byte}
use Rattle.http_header.specs.FieldName.{IsFieldName, is_field_name}
use Rattle.http_header.specs.FieldValue.{plain_value, IsFieldValue}
use Rattle.http_header.specs.HeaderMap.{append}
use Rattle.http_header.proofs.TokenLemmas.{IsFieldName-from_test}
use Rattle.fed_head.specs.Section.{FieldPair}
use Rattle.fed_head.proofs.printed.Section.{both}
use Rattle.fed_io.specs.declared.error.Fault.{Fault}
use Rattle.fed_io.specs.declared.error.Fault.TheVariants.{Step, NoRoom}
use Rattle.fed_io.specs.Fault.{Refuses}
use Rattle.fed_reply.specs.declared.step.ReplyStep.{ReplyStep}
use Rattle.fed_reply.specs.declared.step.ReplyStep.TheVariants.{Head}
use Rattle.fed_reply.specs.Fields.{fields_of, kept_field, is_taken_field, taken_fields}

-- ---- one field

is_name : (bytes : List ℕ) → IsFieldName bytes → is_field_name bytes ≡ true
unfolding is_token_byte
is_name bytes h =
    both _ _ (both (nat_lt 0 (length bytes)) _ (search (rules, h.0.0)) (list_all-from_AllPass token_test bytes h.0.1)) (search (rules, h.1))

no_name : (bytes : List ℕ) → ¬ (IsFieldName bytes) → is_field_name bytes ≡ false
no_name bytes not = by (is_field_name bytes) refl
  where
    by : (t : Bool) → is_field_name bytes ≡ t → t ≡ false
    by true is = absurd (not (IsFieldName-from_test bytes is))
    by false is = refl

no_value : (bytes : List ℕ) → ¬ (IsFieldValue bytes) → list_all is_value_byte bytes ≡ false
no_value bytes not = by (list_all is_value_byte bytes) refl
  where
    by : (t : Bool) → list_all is_value_byte bytes ≡ t → t ≡ false
    by true is = absurd (not (AllPass-from_list_all is_value_byte bytes is))
    by false is = refl

false_left : (a b : Bool) → a ≡ false → (a && b) ≡ false
false_left true b e = absurd (grind rules)
false_left false b e = refl

false_right : (a b : Bool) → b ≡ false → (a && b) ≡ false
false_right true b e = e
false_right false b e = refl

pub refused_name : (name value : List ℕ) → ¬ (IsFieldName name) → is_taken_field (name, value) ≡ false
unfolding is_taken_field
refused_name name value not = false_left _ _ (no_name name not)

pub refused_value : (name value : List ℕ) → ¬ (IsFieldValue value) → is_taken_field (name, value) ≡ false
unfolding is_taken_field
refused_value name value not = false_right (is_field_name name) _ (no_value value not)

-- what is not refused passes the test
name_taken : {P : Type 0} (bytes : List ℕ) → P ↔ (¬ (IsFieldName bytes)) → ¬ P → is_field_name bytes ≡ true
name_taken bytes iff not = by (is_field_name bytes) refl
  where
    by : (t : Bool) → is_field_name bytes ≡ t → t ≡ true
    by true is = refl
    by false is = absurd (not (iff.1 (λ h. wrong (sym (is_name bytes h) ∙ is))))
      where
        wrong : true ≡ false → ⊥
        wrong e = absurd (grind rules)

value_taken : {P : Type 0} (bytes : List ℕ) → P ↔ (¬ (IsFieldValue bytes)) → ¬ P → list_all is_value_byte bytes ≡ true
value_taken bytes iff not = by (list_all is_value_byte bytes) refl
  where
    by : (t : Bool) → list_all is_value_byte bytes ≡ t → t ≡ true
    by true is = refl
    by false is = absurd (not (iff.1 (λ h. wrong (sym (list_all-from_AllPass is_value_byte bytes h) ∙ is))))
      where
        wrong : true ≡ false → ⊥
        wrong e = absurd (grind rules)

pub taken_field : {P Q : Type 0} (name value : List ℕ) → P ↔ (¬ (IsFieldName name)) → ¬ P → Q ↔ (¬ (IsFieldValue value))
    → ¬ Q
    → is_taken_field (name, value) ≡ true
unfolding is_taken_field
taken_field name value n not_n v not_v = both _ _ (name_taken name n not_n) (value_taken value v not_v)

-- ---- one span more

fields_snoc : (ps : List FieldPair) (p : FieldPair) → fields_of (ps ++ p ∷ []) ≡ append (fields_of ps) (lowercase p.0) (plain_value p.1)
fields_snoc ps p = rw (map-append kept_field ps (p ∷ []), fold-append _ _ (map kept_field ps) (kept_field p ∷ [])) refl

seen_snoc : (raw : List ℕ) (spans : List HeaderSpan) (i : ℕ) (d : HeaderSpan) → i < length spans
    → map (header_bytes raw) (take (i + 1) spans)
    ≡ map (header_bytes raw) (take i spans) ++ header_bytes raw (slice_index_or spans i d) ∷ []
seen_snoc raw spans i d inside =
    let more = take-suc spans i d inside in
    let e : i + 1 ≡ suc i = omega arith in
    rw (e, more, map-append (header_bytes raw) (take i spans) (slice_index_or spans i d ∷ [])) refl

pub fields_more : (raw : List ℕ) (spans : List HeaderSpan) (i : ℕ) (d : HeaderSpan) → i < length spans
    → fields_of (map (header_bytes raw) (take (i + 1) spans))
    ≡ append (fields_of (map (header_bytes raw) (take i spans))) (lowercase (header_bytes raw (slice_index_or spans i d)).0)
    (plain_value (header_bytes raw (slice_index_or spans i d)).1)
fields_more raw spans i d inside =
    ap fields_of (seen_snoc raw spans i d inside)
    ∙ fields_snoc (map (header_bytes raw) (take i spans)) (header_bytes raw (slice_index_or spans i d))

pub taken_more : (raw : List ℕ) (spans : List HeaderSpan) (i : ℕ) (d : HeaderSpan) → i < length spans
    → list_all is_taken_field (map (header_bytes raw) (take i spans)) ≡ true
    → is_taken_field (header_bytes raw (slice_index_or spans i d)) ≡ true
    → list_all is_taken_field (map (header_bytes raw) (take (i + 1) spans)) ≡ true
taken_more raw spans i d inside before now =
    ap (list_all is_taken_field) (seen_snoc raw spans i d inside)
    ∙ (list_all-append is_taken_field (map (header_bytes raw) (take i spans)) (header_bytes raw (slice_index_or spans i d) ∷ [])
    ∙ both _ _ before (both _ true now refl))

-- one that is not taken, and the whole is not
one_refused : (raw : List ℕ) (spans : List HeaderSpan) (i : ℕ) (d : HeaderSpan) → i < length spans
    → is_taken_field (header_bytes raw (slice_index_or spans i d)) ≡ false
    → list_all is_taken_field (map (header_bytes raw) spans) ≡ false
one_refused raw [] i d inside now = absurd (omega arith)
one_refused raw (s ∷ ss) zero d inside now = false_left _ _ now
one_refused raw (s ∷ ss) (suc i) d inside now =
    false_right (is_taken_field (header_bytes raw s)) _ (one_refused raw ss i d (omega arith) now)

pub refused_at : (raw : List ℕ) (spans : List HeaderSpan) (i : ℕ) (d : HeaderSpan) → i < length spans
    → is_taken_field (header_bytes raw (slice_index_or spans i d)) ≡ false → taken_fields (map (header_bytes raw) spans) ≡ Err Head
refused_at raw spans i d inside now =
    ap (λ t. if t then Ok (fields_of (map (header_bytes raw) spans)) else Err Head) (one_refused raw spans i d inside now)

-- ---- which fault it is

abbrev failed : Fault ReplyStep → Result (Unit {0}) (Fault ReplyStep)
failed fault = Err fault

pub same_step : (step : ReplyStep) → failed (Step Head) ≡ failed (Step step) → step ≡ Head
same_step step e = let k : Step Head ≡ Step step = cc in cc

pub refuses_at : (raw : List ℕ) (spans : List HeaderSpan) (i : ℕ) (d : HeaderSpan) (fault : Fault ReplyStep) → i < length spans
    → ((step : ReplyStep) → failed fault ≡ failed (Step step)
    → (step ≡ Head) × (is_taken_field (header_bytes raw (slice_index_or spans i d)) ≡ false))
    → Refuses fault (taken_fields (map (header_bytes raw) spans))
refuses_at raw spans i d NoRoom inside h = tt
refuses_at raw spans i d (Step step) inside h =
    let k = h step refl in
    refused_at raw spans i d inside k.1 ∙ ap Err (sym k.0)
