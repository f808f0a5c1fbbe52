-- The values under a name are those of the fields of that name.
use Rattle.std.proofs.Common.{◌≡◌, ◌≢◌, ℕ, Bool, true, false, List, [], ◌∷◌, ◌++◌, map, filter, Option, Some, None}
use Rattle.std.proofs.Common.{Result, Ok, Err, refl}
use Rattle.std.proofs.Common.{sym, ap, subst, ◌∙◌, rules, if◌then◌else◌}
use Rattle.std.specs.Prelude.{bytes_eq, nat_le, length}
use Rattle.std.proofs.lemmas.List.{map-append, append_assoc, append-nil}
use Rattle.std.proofs.lemmas.Slice.Eq.{bytes_eq-Decides}
use Rattle.httparse.specs.Grammar.{trim_ows}
use Rattle.http_header.specs.Token.{lowercase}
use Rattle.http_header.specs.FieldValue.{FieldValue, plain_value}
use Rattle.http_header.specs.HeaderMap.{append, append_all, get_all}
use Rattle.http_header.proofs.HeaderMapLemmas.{get_all-append_same, get_all-append_other}
use Rattle.fed_head.specs.Head.{HeadParts, head_of, within}
use Rattle.fed_head.specs.Section.{FieldPair, name_and_trimmed}
use Rattle.fed_reply.specs.declared.step.ReplyStep.{ReplyStep}
use Rattle.fed_reply.specs.declared.step.ReplyStep.TheVariants.{Head}
use Rattle.fed_reply.specs.Parts.{ReplyParts}
use Rattle.fed_reply.specs.Fields.{Fields, fields_of, kept_field, values, values_in, is_word}
use Rattle.fed_reply.specs.Body.{body_of}
use Rattle.fed_reply.specs.Steps.{and_then, with_ok}
use Rattle.fed_reply.specs.Reply.{FrontOf, ReplyOf, taken_head, is_taken_head, reply_with}
use Rattle.fed_reply.specs.Laws.{named_values, HasFieldsOf}

-- one field more
one_more : (name : List ℕ) (p : FieldPair) (m : Fields) (t : Bool) → bytes_eq (lowercase p.0) name ≡ t
    → values name (append m (lowercase p.0) (plain_value p.1)) ≡ values name m ++ (if t then p.1 ∷ [] else [])
one_more name p m true is =
    let same : lowercase p.0 ≡ name = (bytes_eq-Decides (lowercase p.0) name).0 is in
    subst (λ n. values n (append m (lowercase p.0) (plain_value p.1)) ≡ values n m ++ p.1 ∷ []) same
    (ap (map (λ (v : FieldValue). v.bytes)) (get_all-append_same m (lowercase p.0) (plain_value p.1))
    ∙ map-append (λ (v : FieldValue). v.bytes) (get_all m (lowercase p.0)) (plain_value p.1 ∷ []))
one_more name p m false is =
    let apart : lowercase p.0 ≢ name = λ e. wrong (sym is ∙ (bytes_eq-Decides (lowercase p.0) name).1 e) in
    ap (map (λ (v : FieldValue). v.bytes)) (get_all-append_other m (lowercase p.0) name (plain_value p.1) apart)
    ∙ sym (append-nil (values name m))
  where
    wrong : false ≡ true → ⊥
    wrong e = absurd (grind rules)

values_after : (name : List ℕ) (pairs : List FieldPair) (m : Fields)
    → values name (append_all m (map kept_field pairs)) ≡ values name m ++ values_in name pairs
unfolding values_in
values_after name [] m = sym (append-nil (values name m))
values_after name (p ∷ ps) m =
    values_after name ps (append m (lowercase p.0) (plain_value p.1))
    ∙ (ap (λ vs. vs ++ values_in name ps) (one_more name p m (is_word name p.0) refl)
    ∙ (append_assoc (values name m) (if is_word name p.0 then p.1 ∷ [] else []) (values_in name ps)
    ∙ ap (λ vs. values name m ++ vs) (joined (is_word name p.0))))
  where
    joined : (t : Bool) → (if t then p.1 ∷ [] else []) ++ values_in name ps
        ≡ map (λ (q : FieldPair). q.1) (if t then p ∷ filter (λ q. is_word name q.0) ps else filter (λ q. is_word name q.0) ps)
    joined true = refl
    joined false = refl

-- the values under a name, found among the fields
pub values_found : (name : List ℕ) (pairs : List FieldPair) → values name (fields_of pairs) ≡ values_in name pairs
values_found name pairs = values_after name pairs []

trimmed_are : (name : List ℕ) (pairs : List FieldPair) → values_in name (map name_and_trimmed pairs) ≡ named_values name pairs
unfolding values_in
trimmed_are name [] = refl
trimmed_are name (p ∷ ps) = by (is_word name p.0) (trimmed_are name ps)
  where
    by : (t : Bool) → values_in name (map name_and_trimmed ps) ≡ named_values name ps
        → map (λ (q : FieldPair). q.1) (if t then name_and_trimmed p
        ∷ filter (λ q. is_word name q.0) (map name_and_trimmed ps) else filter (λ q. is_word name q.0) (map name_and_trimmed ps))
        ≡ map (λ (q : FieldPair). trim_ows q.1) (if t then p ∷ filter (λ q. is_word name q.0) ps else filter (λ q. is_word name q.0) ps)
    by true e = ap (λ vs. trim_ows p.1 ∷ vs) e
    by false e = e

pub values_are : (name : List ℕ) (pairs : List FieldPair) → values name (fields_of (map name_and_trimmed pairs)) ≡ named_values name pairs
values_are name pairs = values_found name (map name_and_trimmed pairs) ∙ trimmed_are name pairs

-- ---- of a reply

pub within_is : (n : ℕ) (o : Option HeadParts) (h : HeadParts) → within n o ≡ Some h → o ≡ Some h
within_is n None h e = absurd (grind rules)
within_is n (Some g) h e = by (nat_le (length g.fields) n) e
  where
    by : (t : Bool) → (if t then Some g else None) ≡ Some h → Some g ≡ Some h
    by true f = f
    by false f = absurd (grind rules)

taken_is : (o : Option HeadParts) (h : HeadParts) → taken_head o ≡ Ok h → o ≡ Some h
taken_is None h e = absurd (grind rules)
taken_is (Some g) h e = by (is_taken_head g) e
  where
    by : (t : Bool) → (if t then Ok g else Err Head) ≡ Ok h → Some g ≡ Some h
    by true f = let k : g ≡ h = grind rules in ap Some k
    by false f = absurd (grind rules)

front_is : (raw : List ℕ) (h : HeadParts) → FrontOf raw ≡ Ok h → head_of raw ≡ Some h
unfolding FrontOf
front_is raw h e = within_is 128 (head_of raw) h (taken_is (within 128 (head_of raw)) h e)

with_body : (h : HeadParts) (reply : ReplyParts) (r : Result (List ℕ) ReplyStep) → with_ok (reply_with h) r ≡ Ok reply
    → (body : List ℕ) × (reply_with h body ≡ reply)
with_body h reply (Ok body) e = (body, grind rules)
with_body h reply (Err step) e = absurd (grind rules)

of_front : (raw : List ℕ) (reply : ReplyParts) (r : Result HeadParts ReplyStep) → FrontOf raw ≡ r
    → and_then (λ h. with_ok (reply_with h) (body_of (fields_of (map name_and_trimmed h.fields)) h.rest)) r ≡ Ok reply
    → HasFieldsOf raw reply
of_front raw reply (Err step) is e = absurd (grind rules)
of_front raw reply (Ok h) is e =
    let k = with_body h reply (body_of (fields_of (map name_and_trimmed h.fields)) h.rest) e in
    subst (HasFieldsOf raw) k.1 (record {
      head = h;
      is = front_is raw h is;
      status = refl;
      fields = λ name. values_are name h.fields;
    })

pub reply_fields : (raw : List ℕ) (reply : ReplyParts) → ReplyOf raw ≡ Ok reply → HasFieldsOf raw reply
unfolding ReplyOf
reply_fields raw reply e = of_front raw reply (FrontOf raw) refl e
