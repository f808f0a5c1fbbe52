-- A printed head is read back.
use Rattle.std.proofs.Common.{◌≡◌, ℕ, ◌≤◌, Bool, true, false, ◌&&◌, ◌||◌, not, ◌==◌, List, [], ◌∷◌, ◌++◌, length, map, Option, Some, None}
use Rattle.std.proofs.Common.{option_map, ◌⊎◌, ⊎_elim, refl, sym, ap, subst, ◌∙◌, rules, arith, if◌then◌else◌}
use Rattle.std.specs.List.{list_all}
use Rattle.std.specs.Char.{is_ascii_digit}
use Rattle.std.specs.Str.Parse.{digits_value}
use Rattle.std.proofs.lemmas.List.{append_assoc, append-nil}
use Rattle.std.proofs.lemmas.List.Folds.{list_all-append}
use Rattle.std.proofs.lemmas.List.Sums.{list_all-from_AllPass, AllPass-from_list_all}
use Rattle.std.proofs.lemmas.Option.{option_and_then_some}
use Rattle.httparse.specs.Grammar.{is_value_byte, LineEnd, crlf, lf, print_end, print_blank, print_version, print_reason, reason_phrase}
use Rattle.httparse.specs.Grammar.{print_section, ResponseHead, print_response, ReadsResponse, status_code}
use Rattle.std.specs.Prelude.{bytes_eq, codes}
use Rattle.std.proofs.lemmas.Slice.Eq.{bytes_eq-Decides}
use Rattle.httparse.proofs.GrammarLemmas.{print_response-append}
use Rattle.fed_head.specs.Section.{FieldPair, field_pair, without_cr, is_blank, section_of}
use Rattle.fed_head.specs.Head.{HeadParts, first_line, is_reason, is_version, is_code, status_of, head_of, IsHeadOf}
use Rattle.fed_head.proofs.printed.Section.{without_cr-cr, without_cr-plain, and_left, and_right, pick_else, both, all_weaker, apart}
use Rattle.fed_head.proofs.printed.Section.{section_all, blank_line, without_cr_cases, IsRead, section_sound}

skip_blank : (blank : List LineEnd) (more : List ℕ) → first_line [] (print_blank blank ++ more) ≡ first_line [] more
unfolding first_line without_cr
skip_blank [] more = refl
skip_blank (lf ∷ es) more = skip_blank es more
skip_blank (crlf ∷ es) more = skip_blank es more

first_read : (xs line bs : List ℕ) → list_all (λ b. not (b == 10)) xs ≡ true
    → first_line line (xs ++ 10 ∷ bs) ≡ first_line (line ++ xs) (10 ∷ bs)
unfolding first_line
first_read [] line bs e = rw (append-nil line) refl
first_read (x ∷ xs) line bs e =
    pick_else (x == 10) _ _ (and_left (not (x == 10)) _ e)
    ∙ (first_read xs (line ++ x ∷ []) bs (and_right (not (x == 10)) _ e)
    ∙ ap (λ l. first_line l (10 ∷ bs)) (append_assoc line (x ∷ []) xs))

at_first : (line text bs : List ℕ) → without_cr line ≡ text → is_blank text ≡ false → first_line line (10 ∷ bs) ≡ Some (text, bs)
unfolding first_line
at_first line text bs e b = rw (e, b) refl

first_step : (text : List ℕ) → is_blank text ≡ false → list_all (λ b. not (b == 10)) text ≡ true → list_all (λ b. not (b == 13)) text ≡ true
    → (end : LineEnd) (more : List ℕ) → first_line [] (text ++ (print_end end ++ more)) ≡ Some (text, more)
first_step text b l c lf more = first_read text [] more l ∙ at_first text text more (without_cr-plain text c) b
first_step text b l c crlf more =
    ap (first_line []) (sym (append_assoc text (13 ∷ []) (10 ∷ more)))
    ∙ (first_read (text ++ 13 ∷ []) [] more (list_all-append _ text (13 ∷ []) ∙ both _ _ l refl)
    ∙ at_first (text ++ 13 ∷ []) text more (without_cr-cr text) b)

-- ---- the status line

reason_is : (r : Option (List ℕ)) → list_all is_value_byte (reason_phrase r) ≡ true → is_reason (print_reason r) ≡ true
reason_is None e = refl
reason_is (Some p) e = e

value_of_reason : (r : Option (List ℕ)) → list_all is_value_byte (reason_phrase r) ≡ true → list_all is_value_byte (print_reason r) ≡ true
value_of_reason None e = refl
value_of_reason (Some p) e = e

digit_value : (x : ℕ) → is_ascii_digit x ≡ true → is_value_byte x ≡ true
digit_value x e = grind (rules, arith)

abbrev status_text : ℕ → ℕ → ℕ → ℕ → List ℕ → List ℕ
status_text minor x y z reason = print_version minor ++ 32 ∷ (x ∷ y ∷ z ∷ reason)

version_is : (minor : ℕ) → minor ≤ 1 → (minor ≡ 0) ⊎ (minor ≡ 1)
version_is minor h = search (rules, h)

status_zero : (x y z : ℕ) (reason : List ℕ) → is_code x y z ≡ true → is_reason reason ≡ true
    → status_of (status_text 0 x y z reason) ≡ Some (digits_value 10 (x ∷ y ∷ z ∷ []))
unfolding status_of
status_zero x y z reason c r = rw (c, r) refl

status_one : (x y z : ℕ) (reason : List ℕ) → is_code x y z ≡ true → is_reason reason ≡ true
    → status_of (status_text 1 x y z reason) ≡ Some (digits_value 10 (x ∷ y ∷ z ∷ []))
unfolding status_of
status_one x y z reason c r = rw (c, r) refl

-- a line with a status
record IsStatusLine (text : List ℕ) (n : ℕ) : Type 0 where
  filled : is_blank text ≡ false
  values : list_all is_value_byte text ≡ true
  status : status_of text ≡ Some n

code_values : (x y z : ℕ) (reason : List ℕ) → is_code x y z ≡ true → list_all is_value_byte reason ≡ true
    → list_all is_value_byte (x ∷ y ∷ z ∷ reason) ≡ true
code_values x y z reason c r =
    let dx = and_left (is_ascii_digit x) _ c in
    let dy = and_left (is_ascii_digit y) _ (and_right (is_ascii_digit x) _ c) in
    let dz = and_right (is_ascii_digit y) _ (and_right (is_ascii_digit x) _ c) in
    both (is_value_byte x) _ (digit_value x dx) (both (is_value_byte y) _ (digit_value y dy)
    (both (is_value_byte z) _ (digit_value z dz) r))

line_of : (minor : ℕ) → minor ≤ 1 → (x y z : ℕ) (reason : List ℕ) → is_code x y z ≡ true → is_reason reason ≡ true
    → list_all is_value_byte reason ≡ true → IsStatusLine (status_text minor x y z reason) (digits_value 10 (x ∷ y ∷ z ∷ []))
line_of minor h x y z reason c r v =
    ⊎_elim
    (λ e. subst (λ m. IsStatusLine (status_text m x y z reason) (digits_value 10 (x ∷ y ∷ z ∷ []))) (sym e) (record
    { filled = refl; values = code_values x y z reason c v; status = status_zero x y z reason c r }))
    (λ e. subst (λ m. IsStatusLine (status_text m x y z reason) (digits_value 10 (x ∷ y ∷ z ∷ []))) (sym e) (record
    { filled = refl; values = code_values x y z reason c v; status = status_one x y z reason c r }))
    (version_is minor h)

from_digits : (minor : ℕ) → minor ≤ 1 → (ds : List ℕ) → length ds ≡ 3 → list_all is_ascii_digit ds ≡ true → (reason : List ℕ)
    → is_reason reason ≡ true → list_all is_value_byte reason ≡ true
    → IsStatusLine (print_version minor ++ 32 ∷ (ds ++ reason)) (digits_value 10 ds)
from_digits minor h [] three d reason r v = absurd (omega (arith, three))
from_digits minor h (x ∷ []) three d reason r v = absurd (omega (arith, three))
from_digits minor h (x ∷ y ∷ []) three d reason r v = absurd (omega (arith, three))
from_digits minor h (x ∷ y ∷ z ∷ []) three d reason r v =
    line_of minor h x y z reason (both (is_ascii_digit x) _ (and_left (is_ascii_digit x) _ d)
    (both (is_ascii_digit y) _ (and_left (is_ascii_digit y) _ (and_right (is_ascii_digit x) _ d))
    (and_left (is_ascii_digit z) _ (and_right (is_ascii_digit y) _ (and_right (is_ascii_digit x) _ d))))) r v
from_digits minor h (x ∷ y ∷ z ∷ w ∷ ds) three d reason r v = absurd (omega (arith, three))

without : (c : ℕ) → is_value_byte c ≡ false → (text : List ℕ) → list_all is_value_byte text ≡ true
    → list_all (λ b. not (b == c)) text ≡ true
without c fails text e = all_weaker is_value_byte _ (apart is_value_byte c fails) text e

read_as : (raw text after : List ℕ) (n : ℕ) (ps : List FieldPair) (rest : List ℕ) → first_line [] raw ≡ Some (text, after)
    → status_of text ≡ Some n → section_of after ≡ Some (ps, rest) → head_of raw ≡ Some (record { status = n; fields = ps; rest = rest })
unfolding head_of
read_as raw text after n ps rest f s t = rw (f, s, t) refl

printed_head : (h : ResponseHead) (rest : List ℕ)
    → IsStatusLine (print_version h.minor ++ 32 ∷ (h.digits ++ print_reason h.reason)) (status_code h)
    → section_of (print_section h.fields h.last ++ rest) ≡ Some (map field_pair h.fields, rest)
    → head_of (print_response h ++ rest) ≡ Some (record { status = status_code h; fields = map field_pair h.fields; rest = rest })
printed_head h rest line fields =
    let text = print_version h.minor ++ 32 ∷ (h.digits ++ print_reason h.reason) in
    let after = print_section h.fields h.last ++ rest in
    let whole : print_response h ++ rest ≡ print_blank h.blank ++ (text ++ (print_end h.line_end ++ after)) =
    print_response-append h rest ∙ ap (λ t. print_blank h.blank ++ t) (simp append_assoc) in
    ap head_of whole
    ∙ read_as _ text after (status_code h) (map field_pair h.fields) rest
    (skip_blank h.blank _ ∙ first_step text line.filled (without 10 refl text line.values) (without 13 refl text line.values) h.line_end
    after)
    line.status fields

pub head_reads : (buf : List ℕ) (h : ResponseHead) (rest : List ℕ) → ReadsResponse buf h rest
    → head_of buf ≡ Some (record { status = status_code h; fields = map field_pair h.fields; rest = rest })
head_reads buf h rest r =
    let phrase = list_all-from_AllPass is_value_byte (reason_phrase h.reason) r.0.reason in
    let line =
    from_digits h.minor r.0.minor h.digits r.0.digits.0 (list_all-from_AllPass is_ascii_digit h.digits r.0.digits.1)
    (print_reason h.reason) (reason_is h.reason phrase) (value_of_reason h.reason phrase) in
    ap head_of r.1 ∙ printed_head h rest line (section_all h.fields r.0.fields h.last rest)

-- ---- what is read is a printed head

record HasReason (bytes : List ℕ) : Type 0 where
  phrase : Option (List ℕ)
  text : bytes ≡ print_reason phrase
  value : list_all is_value_byte (reason_phrase phrase) ≡ true

reason_sound : (bytes : List ℕ) → is_reason bytes ≡ true → HasReason bytes
reason_sound [] e = record { phrase = None; text = refl; value = refl }
reason_sound (b ∷ bs) e =
    let c : b ≡ 32 = grind (rules, arith, and_left (b == 32) _ e) in
    record { phrase = Some bs; text = ap (λ x. x ∷ bs) c; value = and_right (b == 32) _ e }

record HasStatus (text : List ℕ) (n : ℕ) : Type 0 where
  minor : ℕ
  small : minor ≤ 1
  digits : List ℕ
  three : length digits ≡ 3
  each : list_all is_ascii_digit digits ≡ true
  phrase : Option (List ℕ)
  value : list_all is_value_byte (reason_phrase phrase) ≡ true
  line : text ≡ print_version minor ++ 32 ∷ (digits ++ print_reason phrase)
  code : n ≡ digits_value 10 digits

version_text : (pre : List ℕ) → is_version pre ≡ true → (minor : ℕ) × (minor ≤ 1) × (pre ≡ print_version minor ++ 32 ∷ [])
version_text pre e = pick (bytes_eq pre (codes "HTTP/1.0 ")) refl e
  where
    pick : (t : Bool) → bytes_eq pre (codes "HTTP/1.0 ") ≡ t → (t || bytes_eq pre (codes "HTTP/1.1 ")) ≡ true
        → (minor : ℕ) × (minor ≤ 1) × (pre ≡ print_version minor ++ 32 ∷ [])
    pick true is e = (0, omega arith, (bytes_eq-Decides pre (codes "HTTP/1.0 ")).0 is)
    pick false is e = (1, omega arith, (bytes_eq-Decides pre (codes "HTTP/1.1 ")).0 e)

status_made : (pre : List ℕ) (x y z : ℕ) (rest : List ℕ) → is_version pre ≡ true → is_code x y z ≡ true → is_reason rest ≡ true
    → HasStatus (pre ++ (x ∷ y ∷ z ∷ rest)) (digits_value 10 (x ∷ y ∷ z ∷ []))
status_made pre x y z rest v c r =
    let version = version_text pre v in
    let reason = reason_sound rest r in
    record {
      minor = version.0;
      small = version.1;
      digits = x ∷ y ∷ z ∷ [];
      three = refl;
      each =
          both (is_ascii_digit x) _ (and_left (is_ascii_digit x) _ c)
          (both (is_ascii_digit y) _ (and_left (is_ascii_digit y) _ (and_right (is_ascii_digit x) _ c))
          (both (is_ascii_digit z) true (and_right (is_ascii_digit y) _ (and_right (is_ascii_digit x) _ c)) refl));
      phrase = reason.phrase;
      value = reason.value;
      line =
          ap (λ t. t ++ (x ∷ y ∷ z ∷ rest)) version.2 ∙ (append_assoc (print_version version.0) (32 ∷ []) (x ∷ y ∷ z ∷ rest)
          ∙ ap (λ t. print_version version.0 ++ 32 ∷ (x ∷ y ∷ z ∷ t)) reason.text);
      code = refl;
    }

status_tested : (pre : List ℕ) (x y z : ℕ) (rest : List ℕ) (n : ℕ) (t : Bool) → (is_version pre && (is_code x y z && is_reason rest)) ≡ t
    → (if t then Some (digits_value 10 (x ∷ y ∷ z ∷ [])) else None) ≡ Some n → HasStatus (pre ++ (x ∷ y ∷ z ∷ rest)) n
status_tested pre x y z rest n false is e = grind rules
status_tested pre x y z rest n true is e =
    let k : digits_value 10 (x ∷ y ∷ z ∷ []) ≡ n = grind rules in
    subst (HasStatus (pre ++ (x ∷ y ∷ z ∷ rest))) k
    (status_made pre x y z rest (and_left (is_version pre) _ is) (and_left (is_code x y z) _ (and_right (is_version pre) _ is))
    (and_right (is_code x y z) _ (and_right (is_version pre) _ is)))

status_sound : (text : List ℕ) (n : ℕ) → status_of text ≡ Some n → HasStatus text n
unfolding status_of
status_sound [] n e = grind rules
status_sound (a ∷ []) n e = grind rules
status_sound (a ∷ b ∷ []) n e = grind rules
status_sound (a ∷ b ∷ c ∷ []) n e = grind rules
status_sound (a ∷ b ∷ c ∷ d ∷ []) n e = grind rules
status_sound (a ∷ b ∷ c ∷ d ∷ e2 ∷ []) n e = grind rules
status_sound (a ∷ b ∷ c ∷ d ∷ e2 ∷ f ∷ []) n e = grind rules
status_sound (a ∷ b ∷ c ∷ d ∷ e2 ∷ f ∷ g ∷ []) n e = grind rules
status_sound (a ∷ b ∷ c ∷ d ∷ e2 ∷ f ∷ g ∷ m ∷ []) n e = grind rules
status_sound (a ∷ b ∷ c ∷ d ∷ e2 ∷ f ∷ g ∷ m ∷ s ∷ []) n e = grind rules
status_sound (a ∷ b ∷ c ∷ d ∷ e2 ∷ f ∷ g ∷ m ∷ s ∷ x ∷ []) n e = grind rules
status_sound (a ∷ b ∷ c ∷ d ∷ e2 ∷ f ∷ g ∷ m ∷ s ∷ x ∷ y ∷ []) n e = grind rules
status_sound (a ∷ b ∷ c ∷ d ∷ e2 ∷ f ∷ g ∷ m ∷ s ∷ x ∷ y ∷ z ∷ rest) n e =
    status_tested (a ∷ b ∷ c ∷ d ∷ e2 ∷ f ∷ g ∷ m ∷ s ∷ []) x y z rest n _ refl e

-- ---- the first line

record IsFirst (bytes text after : List ℕ) : Type 0 where
  blank : List LineEnd
  end : LineEnd
  whole : bytes ≡ print_blank blank ++ (text ++ (print_end end ++ after))

abbrev Line : Type 0
Line = List ℕ × List ℕ

abbrev line_and : List ℕ → List ℕ → Line
line_and text after = (text, after)

abbrev line_found : List ℕ → List ℕ → Option Line
line_found text after = Some (line_and text after)

one_blank : (bs text after : List ℕ) (last : LineEnd) → IsFirst bs text after → IsFirst (print_end last ++ bs) text after
one_blank bs text after last r = record {
  blank = last ∷ r.blank;
  end = r.end;
  whole =
      ap (λ t. print_end last ++ t) r.whole ∙ sym (append_assoc (print_end last) (print_blank r.blank)
      (text ++ (print_end r.end ++ after)));
}

first_blank : (line bs text after : List ℕ) → is_blank (without_cr line) ≡ true → IsFirst bs text after
    → IsFirst (line ++ 10 ∷ bs) text after
first_blank line bs text after b r =
    ⊎_elim (λ h. subst (λ l. IsFirst (l ++ 10 ∷ bs) text after) (sym h) (one_blank bs text after lf r))
    (λ h. subst (λ l. IsFirst (l ++ 10 ∷ bs) text after) (sym h) (one_blank bs text after crlf r)) (blank_line line b)

first_here : (line bs : List ℕ) → IsFirst (line ++ 10 ∷ bs) (without_cr line) bs
first_here line bs =
    ⊎_elim (λ e. record { blank = []; end = lf; whole = ap (λ l. l ++ 10 ∷ bs) e })
    (λ e. record {
      blank = [];
      end = crlf;
      whole =
          ap (λ l. l ++ 10 ∷ bs) e ∙ append_assoc (without_cr line) (13 ∷ []) (10 ∷ bs);
    }) (without_cr_cases line)

first_end : (line bs text after : List ℕ) → (first_line [] bs ≡ Some (text, after) → IsFirst bs text after) → (t : Bool)
    → is_blank (without_cr line) ≡ t → (if t then first_line [] bs else line_found (without_cr line) bs) ≡ Some (text, after)
    → IsFirst (line ++ 10 ∷ bs) text after
first_end line bs text after ih true same e = first_blank line bs text after same (ih e)
first_end line bs text after ih false same e =
    let k : line_and (without_cr line) bs ≡ (text, after) = grind rules in
    subst (λ r. IsFirst (line ++ 10 ∷ bs) r.0 r.1) k (first_here line bs)

first_byte : (b : ℕ) (line bs text after : List ℕ) → (first_line [] bs ≡ Some (text, after) → IsFirst bs text after)
    → (first_line (line ++ b ∷ []) bs ≡ Some (text, after) → IsFirst ((line ++ b ∷ []) ++ bs) text after) → (t : Bool) → (b == 10) ≡ t
    → (if t then (if is_blank (without_cr line) then first_line [] bs else line_found (without_cr line) bs) else first_line (line
    ++ b ∷ []) bs) ≡ Some (text, after) → IsFirst (line ++ b ∷ bs) text after
first_byte b line bs text after ih more true same e =
    let c : b ≡ 10 = grind (rules, arith) in
    subst (λ x. IsFirst (line ++ x ∷ bs) text after) (sym c) (first_end line bs text after ih (is_blank (without_cr line)) refl e)
first_byte b line bs text after ih more false same e =
    subst (λ t. IsFirst t text after) (append_assoc line (b ∷ []) bs) (more e)

first_sound : (bs line text after : List ℕ) → first_line line bs ≡ Some (text, after) → IsFirst (line ++ bs) text after
unfolding first_line
first_sound [] line text after e = grind rules
first_sound (b ∷ bs) line text after e =
    first_byte b line bs text after (first_sound bs [] text after) (first_sound bs (line ++ b ∷ []) text after) (b == 10) refl e

-- ---- the whole head

joined : (buf text after : List ℕ) (n : ℕ) (ps : List FieldPair) (rest : List ℕ) → IsFirst buf text after → HasStatus text n
    → IsRead after ps rest → IsHeadOf buf (record { status = n; fields = ps; rest = rest })
joined buf text after n ps rest f s r =
    let h : ResponseHead =
    record {
      blank = f.blank;
      minor = s.minor;
      digits = s.digits;
      reason = s.phrase;
      line_end = f.end;
      fields = r.fields;
      last =
          r.last;
    } in
    let whole : buf ≡ print_blank f.blank ++ (print_version s.minor
    ++ 32 ∷ (s.digits ++ (print_reason s.phrase ++ (print_end f.end ++ (print_section r.fields r.last ++ rest))))) =
    f.whole ∙ (ap (λ t. print_blank f.blank ++ (t ++ (print_end f.end ++ after))) s.line
    ∙ (ap (λ t. print_blank f.blank ++ ((print_version s.minor ++ 32 ∷ (s.digits ++ print_reason s.phrase))
    ++ (print_end f.end ++ t))) r.text
    ∙ ap (λ t. print_blank f.blank ++ t) (simp append_assoc))) in
    record {
      head = h;
      reads = (
        record {
          minor = s.small;
          digits = (s.three, AllPass-from_list_all is_ascii_digit s.digits s.each);
          reason = AllPass-from_list_all is_value_byte (reason_phrase s.phrase) s.value;
          fields = r.each;
        },
        whole ∙ sym (print_response-append h rest),
      );
      status = s.code;
      fields = sym r.same;
    }

with_fields : (buf text after : List ℕ) (n : ℕ) (found : HeadParts) → IsFirst buf text after → HasStatus text n
    → (o : Option (List FieldPair × List ℕ)) → section_of after ≡ o
    → option_map (λ s. record { status = n; fields = s.0; rest = s.1 }) o ≡ Some found → IsHeadOf buf found
with_fields buf text after n found f s None is e = grind rules
with_fields buf text after n found f s (Some q) is e =
    let made : HeadParts = record { status = n; fields = q.0; rest = q.1 } in
    let k : made ≡ found = grind rules in
    subst (IsHeadOf buf) k (joined buf text after n q.0 q.1 f s (section_sound after [] q.0 q.1 is))

pub head_found : (buf : List ℕ) (found : HeadParts) → head_of buf ≡ Some found → IsHeadOf buf found
unfolding head_of
head_found buf found e =
    option_and_then_some _ (first_line [] buf) found e (λ l is more.
    option_and_then_some _ (status_of l.0) found more (λ n is2 later.
    with_fields buf l.0 l.1 n found (first_sound buf [] l.0 l.1 is) (status_sound l.0 n is2) _ refl later))
