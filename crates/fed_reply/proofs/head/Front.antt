-- The head that was read.
use Rattle.std.proofs.Common.{◌≡◌, ℕ, ◌-◌, ◌<◌, ◌≤◌, Bool, true, false, ◌&&◌, List, map, take, Some, None, Ok, Err, refl}
use Rattle.std.proofs.Common.{sym, ap, ◌∙◌, rules}
use Rattle.std.proofs.Common.{arith, if◌then◌else◌}
use Rattle.std.specs.Prelude.{nat_le}
use Rattle.std.specs.List.{list_all}
use Rattle.httparse.specs.declared.spans.HeaderSpan.{HeaderSpan}
use Rattle.httparse.specs.Spans.{header_bytes}
use Rattle.fed_io.specs.declared.error.Fault.{Fault}
use Rattle.fed_io.specs.declared.error.Fault.TheVariants.{Step, NoRoom}
use Rattle.fed_io.specs.Fault.{Refuses}
use Rattle.fed_head.specs.declared.read.HeadSpans.{HeadSpans}
use Rattle.fed_head.specs.Found.{IsHeadAt}
use Rattle.fed_head.specs.Head.{HeadParts, head_of, within}
use Rattle.fed_head.specs.Section.{name_and_trimmed}
use Rattle.fed_head.proofs.printed.Section.{both}
use Rattle.fed_reply.specs.declared.step.ReplyStep.{ReplyStep}
use Rattle.fed_reply.specs.declared.step.ReplyStep.TheVariants.{Head}
use Rattle.fed_reply.specs.Fields.{Fields, fields_of, is_taken_field, taken_fields}
use Rattle.fed_reply.specs.Reply.{is_status, taken_head, FrontOf}
use Rattle.fed_reply.proofs.head.Named.{all_taken}
use Rattle.fed_reply.proofs.head.Values.{within_is}

pub no_head : (raw : List ℕ) → within 128 (head_of raw) ≡ None → FrontOf raw ≡ Err Head
unfolding FrontOf
no_head raw none = ap taken_head none

taken_by : (h : HeadParts) (s t : Bool) → is_status h.status ≡ s → list_all is_taken_field (map name_and_trimmed h.fields) ≡ t
    → taken_head (Some h) ≡ (if s then (if t then Ok h else Err Head) else Err Head)
taken_by h s t is are = both_by s t is are
  where
    both_by : (s t : Bool) → is_status h.status ≡ s → list_all is_taken_field (map name_and_trimmed h.fields) ≡ t
        → taken_head (Some h) ≡ (if s then (if t then Ok h else Err Head) else Err Head)
    both_by true t is are =
        ap (λ b. if b && list_all is_taken_field (map name_and_trimmed h.fields) then Ok h else Err Head) is
        ∙ ap (λ b. if b then Ok h else Err Head) are
    both_by false t is are = ap (λ b. if b && list_all is_taken_field (map name_and_trimmed h.fields) then Ok h else Err Head) is

front_by : (raw : List ℕ) (h : HeadParts) (s t : Bool) → within 128 (head_of raw) ≡ Some h → is_status h.status ≡ s
    → list_all is_taken_field (map name_and_trimmed h.fields) ≡ t
    → FrontOf raw ≡ (if s then (if t then Ok h else Err Head) else Err Head)
unfolding FrontOf
front_by raw h s t found is are = ap taken_head found ∙ taken_by h s t is are

pub no_status : (raw : List ℕ) (spans : List HeaderSpan) (h : HeadParts) (found : HeadSpans) → within 128 (head_of raw) ≡ Some h
    → IsHeadAt raw spans h found → ¬ ((100 ≤ found.status) × (found.status < 1000)) → FrontOf raw ≡ Err Head
no_status raw spans h found is at not =
    let s : is_status h.status ≡ false = rw (← at.status) (by (is_status found.status) refl) in
    front_by raw h false _ is s refl
  where
    by : (t : Bool) → is_status found.status ≡ t → t ≡ false
    by true e = absurd (not (grind (rules, arith, e)))
    by false e = refl

status_taken : (raw : List ℕ) (spans : List HeaderSpan) (h : HeadParts) (found : HeadSpans) → IsHeadAt raw spans h found
    → (100 ≤ found.status) × (found.status < 1000) → is_status h.status ≡ true
status_taken raw spans h found at is =
    rw (← at.status) (both (nat_le 100 found.status) _ (search (rules, is.0)) (search (rules, is.1)))

-- the fields were all taken, or one of them was not
fields_split : (pairs : List (List ℕ × List ℕ)) (fields : Fields) (t : Bool) → list_all is_taken_field pairs ≡ t
    → (if t then Ok (fields_of pairs) else Err Head) ≡ Ok fields → (t ≡ true) × (fields ≡ fields_of pairs)
fields_split pairs fields true is e = (refl, grind rules)
fields_split pairs fields false is e = absurd (grind rules)

pub front_taken : (raw : List ℕ) (spans : List HeaderSpan) (h : HeadParts) (found : HeadSpans) (fields : Fields)
    → within 128 (head_of raw) ≡ Some h → IsHeadAt raw spans h found → (100 ≤ found.status) × (found.status < 1000)
    → taken_fields (map (header_bytes raw) (take found.count spans)) ≡ Ok fields
    → (FrontOf raw ≡ Ok h) × (fields ≡ fields_of (map name_and_trimmed h.fields))
front_taken raw spans h found fields is at status taken =
    let same : taken_fields (map name_and_trimmed h.fields) ≡ Ok fields = ap taken_fields (sym at.fields) ∙ taken in
    let k = fields_split (map name_and_trimmed h.fields) fields _ refl same in
    (front_by raw h true true is (status_taken raw spans h found at status) k.0, k.1)

refused_split : (pairs : List (List ℕ × List ℕ)) (step : ReplyStep) (t : Bool) → list_all is_taken_field pairs ≡ t
    → (if t then Ok (fields_of pairs) else Err Head) ≡ Err step → (t ≡ false) × (Head ≡ step)
refused_split pairs step true is e = absurd (grind rules)
refused_split pairs step false is e = (refl, grind rules)

pub front_refused : (raw : List ℕ) (spans : List HeaderSpan) (h : HeadParts) (found : HeadSpans) (fault : Fault ReplyStep)
    → within 128 (head_of raw) ≡ Some h → IsHeadAt raw spans h found → (100 ≤ found.status) × (found.status < 1000)
    → Refuses fault (taken_fields (map (header_bytes raw) (take found.count spans))) → Refuses fault (FrontOf raw)
front_refused raw spans h found NoRoom is at status refuses = tt
front_refused raw spans h found (Step step) is at status refuses =
    let same : taken_fields (map name_and_trimmed h.fields) ≡ Err step = ap taken_fields (sym at.fields) ∙ refuses in
    let k = refused_split (map name_and_trimmed h.fields) step _ refl same in
    front_by raw h true false is (status_taken raw spans h found at status) k.0 ∙ ap Err k.1

-- by the length of the names, at their places
pub front_short : (raw : List ℕ) (spans : List HeaderSpan) (h : HeadParts) (found : HeadSpans) (t : Bool)
    → within 128 (head_of raw) ≡ Some h → IsHeadAt raw spans h found → (100 ≤ found.status) × (found.status < 1000)
    → t ≡ list_all (λ s. nat_le (s.name.end - s.name.start) 65535) (take found.count spans)
    → FrontOf raw ≡ (if t then Ok h else Err Head)
front_short raw spans h found t is at status short =
    front_by raw h true t is (status_taken raw spans h found at status)
    (all_taken raw h (take found.count spans) (within_is 128 (head_of raw) h is) at.inside at.fields ∙ sym short)
