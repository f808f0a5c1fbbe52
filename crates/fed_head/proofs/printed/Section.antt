-- A printed block is read back.
use Rattle.std.proofs.Common.{◌≡◌, ℕ, Bool, true, false, ◌&&◌, not, ◌==◌, List, [], ◌∷◌, ◌++◌, length, map, All, Option, Some, None}
use Rattle.std.proofs.Common.{option_map, option_and_then, ◌⊎◌, inl, inr, ⊎_elim, refl, sym, ap, subst, ◌∙◌, rules, arith, if◌then◌else◌}
use Rattle.std.specs.Prelude.{nat_lt}
use Rattle.std.specs.List.{list_all, flat_map}
use Rattle.std.proofs.lemmas.List.{append_assoc, append-nil}
use Rattle.std.proofs.lemmas.List.Elements.{All-head, All-tail, All-cons, All-nil}
use Rattle.std.proofs.lemmas.List.Folds.{list_all-append}
use Rattle.std.proofs.lemmas.List.Sums.{list_all-from_AllPass, AllPass-from_list_all}
use Rattle.std.proofs.lemmas.Option.{option_and_then_some}
use Rattle.httparse.specs.Grammar.{is_token_byte, is_value_byte, Field, IsField, LineEnd, crlf, lf, print_end, print_field, print_section}
use Rattle.httparse.specs.Grammar.{ReadsSection}
use Rattle.fed_head.specs.Section.{FieldPair, field_pair, without_cr, name_split, field_of, is_blank, section_from, section_of}

-- ---- one line

pub without_cr-cr : (xs : List ℕ) → without_cr (xs ++ 13 ∷ []) ≡ xs
unfolding without_cr
without_cr-cr [] = refl
without_cr-cr (x ∷ []) = refl
without_cr-cr (x ∷ y ∷ xs) = ap (λ t. x ∷ t) (without_cr-cr (y ∷ xs))

pub without_cr_last : (x : ℕ) (t : Bool) → not t ≡ true → (if t then [] else x ∷ []) ≡ x ∷ []
without_cr_last x true e = grind rules
without_cr_last x false e = refl

pub and_left : (a b : Bool) → (a && b) ≡ true → a ≡ true
and_left true b e = refl
and_left false b e = e

pub and_right : (a b : Bool) → (a && b) ≡ true → b ≡ true
and_right true b e = e
and_right false b e = grind rules

pub without_cr-plain : (xs : List ℕ) → list_all (λ b. not (b == 13)) xs ≡ true → without_cr xs ≡ xs
unfolding without_cr
without_cr-plain [] e = refl
without_cr-plain (x ∷ []) e = without_cr_last x (x == 13) (and_left (not (x == 13)) true e)
without_cr-plain (x ∷ y ∷ xs) e = ap (λ t. x ∷ t) (without_cr-plain (y ∷ xs) (and_right (not (x == 13)) _ e))

pub pick_else : {A : Type 0} (t : Bool) (a b : A) → not t ≡ true → (if t then a else b) ≡ b
pick_else true a b e = grind rules
pick_else false a b e = refl

pub line_read : (xs line bs : List ℕ) → list_all (λ b. not (b == 10)) xs ≡ true
    → section_from line (xs ++ 10 ∷ bs) ≡ section_from (line ++ xs) (10 ∷ bs)
unfolding section_from
line_read [] line bs e = rw (append-nil line) refl
line_read (x ∷ xs) line bs e =
    pick_else (x == 10) _ _ (and_left (not (x == 10)) _ e)
    ∙ (line_read xs (line ++ x ∷ []) bs (and_right (not (x == 10)) _ e)
    ∙ ap (λ l. section_from l (10 ∷ bs)) (append_assoc line (x ∷ []) xs))

-- ---- a field

pub pick_then : {A : Type 0} (t : Bool) (a b : A) → t ≡ true → (if t then a else b) ≡ a
pick_then true a b e = refl
pick_then false a b e = grind rules

colon_is_no_token : is_token_byte 58 ≡ false
unfolding is_token_byte
colon_is_no_token = refl

no_colon : (x : ℕ) → is_token_byte x ≡ true → not (x == 58) ≡ true
no_colon x e =
    let d : (x ≡ 58 → ⊥) = λ same. absurd_bool (sym e ∙ (ap is_token_byte same ∙ colon_is_no_token)) in
    grind (rules, d)
  where
    absurd_bool : true ≡ false → ⊥
    absurd_bool h = grind rules

pub name_split-token : (name raw : List ℕ) → list_all is_token_byte name ≡ true → name_split (name ++ 58 ∷ raw) ≡ Some (name, raw)
unfolding name_split
name_split-token [] raw e = refl
name_split-token (x ∷ xs) raw e =
    let t : is_token_byte x ≡ true = and_left (is_token_byte x) _ e in
    pick_else (x == 58) _ _ (no_colon x t)
    ∙ (pick_then (is_token_byte x) _ _ t
    ∙ ap (option_map (λ p. (x ∷ p.0, p.1))) (name_split-token xs raw (and_right (is_token_byte x) _ e)))

pub field_of-line : (name raw : List ℕ) → nat_lt 0 (length name) ≡ true → list_all is_token_byte name ≡ true
    → list_all is_value_byte raw ≡ true → field_of (name ++ 58 ∷ raw) ≡ Some (name, raw)
unfolding field_of
field_of-line name raw some token value = rw (name_split-token name raw token, some, value) refl

-- ---- a field line

pub both : (a b : Bool) → a ≡ true → b ≡ true → (a && b) ≡ true
both true b e f = f
both false b e f = e

pub all_weaker : (p q : ℕ → Bool) → ((x : ℕ) → p x ≡ true → q x ≡ true) → (xs : List ℕ) → list_all p xs ≡ true → list_all q xs ≡ true
all_weaker p q h [] e = refl
all_weaker p q h (x ∷ xs) e = both (q x) _ (h x (and_left (p x) _ e)) (all_weaker p q h xs (and_right (p x) _ e))

all_line : (q : ℕ → Bool) (name raw : List ℕ) → list_all q name ≡ true → q 58 ≡ true → list_all q raw ≡ true
    → list_all q (name ++ 58 ∷ raw) ≡ true
all_line q name raw e f g = list_all-append q name (58 ∷ raw) ∙ both (list_all q name) _ e (both (q 58) _ f g)

-- a byte that fails the test is none that passes
pub apart : (test : ℕ → Bool) (c : ℕ) → test c ≡ false → (x : ℕ) → test x ≡ true → not (x == c) ≡ true
apart test c fails x e =
    let d : (x ≡ c → ⊥) = λ same. wrong (sym e ∙ (ap test same ∙ fails)) in
    grind (rules, d)
  where
    wrong : true ≡ false → ⊥
    wrong h = grind rules

token_cr : is_token_byte 13 ≡ false
unfolding is_token_byte
token_cr = refl

token_lf : is_token_byte 10 ≡ false
unfolding is_token_byte
token_lf = refl

-- the parts of a field, as tests
pub record Parts (f : Field) : Type 0 where
  pub some : nat_lt 0 (length f.name) ≡ true
  pub token : list_all is_token_byte f.name ≡ true
  pub value : list_all is_value_byte f.raw ≡ true

body : Field → List ℕ
body f = f.name ++ 58 ∷ f.raw

body_without : (c : ℕ) → is_token_byte c ≡ false → is_value_byte c ≡ false → not (58 == c) ≡ true → (f : Field) → Parts f
    → list_all (λ b. not (b == c)) (body f) ≡ true
unfolding body
body_without c t v colon f p =
    all_line _ f.name f.raw (all_weaker is_token_byte _ (apart is_token_byte c t) f.name p.token) colon
    (all_weaker is_value_byte _ (apart is_value_byte c v) f.raw p.value)

at_lf : (line more : List ℕ) (p : FieldPair) → is_blank (without_cr line) ≡ false → field_of (without_cr line) ≡ Some p
    → section_from line (10 ∷ more) ≡ option_map (λ r. (p ∷ r.0, r.1)) (section_from [] more)
unfolding section_from
at_lf line more p b f = rw (b, f) refl

body_is_some : (name raw : List ℕ) → is_blank (name ++ 58 ∷ raw) ≡ false
body_is_some [] raw = refl
body_is_some (x ∷ xs) raw = refl

-- a line whose bytes without the CR are the field's
field_line : (f : Field) → Parts f → (line more : List ℕ) → without_cr line ≡ body f
    → section_from line (10 ∷ more) ≡ option_map (λ r. (field_pair f ∷ r.0, r.1)) (section_from [] more)
unfolding body
field_line f p line more e =
    at_lf line more (field_pair f) (ap is_blank e ∙ body_is_some f.name f.raw) (ap field_of e
    ∙ field_of-line f.name f.raw p.some p.token p.value)

field_step : (f : Field) → Parts f → (end : LineEnd) (more : List ℕ)
    → section_from [] (body f ++ (print_end end ++ more)) ≡ option_map (λ r. (field_pair f ∷ r.0, r.1)) (section_from [] more)
field_step f p lf more =
    line_read (body f) [] more (body_without 10 token_lf refl refl f p)
    ∙ field_line f p (body f) more (without_cr-plain (body f) (body_without 13 token_cr refl refl f p))
field_step f p crlf more =
    ap (section_from []) (sym (append_assoc (body f) (13 ∷ []) (10 ∷ more)))
    ∙ (line_read (body f ++ 13 ∷ []) [] more (list_all-append _ (body f) (13 ∷ []) ∙ both _ _ (body_without 10 token_lf refl refl f p) refl)
    ∙ field_line f p (body f ++ 13 ∷ []) more (without_cr-cr (body f)))

-- ---- a block

parts_of : (f : Field) → IsField f → Parts f
parts_of f h = record {
  some = search (rules, h.name.0);
  token = list_all-from_AllPass is_token_byte f.name h.name.1;
  value = list_all-from_AllPass is_value_byte f.raw h.raw;
}

empty_line : (last : LineEnd) (rest : List ℕ) → section_from [] (print_end last ++ rest) ≡ Some ([], rest)
unfolding section_from without_cr
empty_line lf rest = refl
empty_line crlf rest = refl

field_text : (f : Field) (more : List ℕ) → print_field f ++ more ≡ body f ++ (print_end f.end ++ more)
unfolding body
field_text f more = append_assoc (body f) (print_end f.end) more

pub section_all : (fields : List Field) → All IsField fields → (last : LineEnd) (rest : List ℕ)
    → section_from [] (print_section fields last ++ rest) ≡ Some (map field_pair fields, rest)
section_all [] all last rest = empty_line last rest
section_all (f ∷ fs) all last rest =
    let later = section_all fs (All-tail IsField f fs all) last rest in
    let text : print_section (f ∷ fs) last ++ rest ≡ body f ++ (print_end f.end ++ (print_section fs last ++ rest)) =
    ap (λ t. t ++ rest) (append_assoc (print_field f) (flat_map print_field fs) (print_end last))
    ∙ (append_assoc (print_field f) (print_section fs last) rest ∙ field_text f (print_section fs last ++ rest)) in
    ap (section_from []) text
    ∙ (field_step f (parts_of f (All-head IsField f fs all)) f.end (print_section fs last ++ rest)
    ∙ ap (option_map (λ r. (field_pair f ∷ r.0, r.1))) later)

pub section_reads : (buf : List ℕ) (fields : List Field) (last : LineEnd) (rest : List ℕ) → ReadsSection buf fields last rest
    → section_of buf ≡ Some (map field_pair fields, rest)
section_reads buf fields last rest h = ap section_of h.1 ∙ section_all fields h.0 last rest

-- ---- what is read is a printed block

pub blank_line : (line : List ℕ) → is_blank (without_cr line) ≡ true → (line ≡ []) ⊎ (line ≡ 13 ∷ [])
unfolding without_cr
blank_line [] e = inl refl
blank_line (x ∷ []) e = one (x == 13) refl e
  where
    one : (t : Bool) → (x == 13) ≡ t → is_blank (if t then [] else x ∷ []) ≡ true → (x ∷ [] ≡ []) ⊎ (x ∷ [] ≡ 13 ∷ [])
    one true same e = let k : x ≡ 13 = grind (rules, arith) in inr (ap (λ y. y ∷ []) k)
    one false same e = grind rules
blank_line (x ∷ y ∷ xs) e = grind rules

pub without_cr_cases : (line : List ℕ) → (line ≡ without_cr line) ⊎ (line ≡ without_cr line ++ 13 ∷ [])
unfolding without_cr
without_cr_cases [] = inl refl
without_cr_cases (x ∷ []) = one (x == 13) refl
  where
    one : (t : Bool) → (x == 13) ≡ t → (x ∷ [] ≡ (if t then [] else x ∷ [])) ⊎ (x ∷ [] ≡ (if t then [] else x ∷ []) ++ 13 ∷ [])
    one true same = let k : x ≡ 13 = grind (rules, arith) in inr (ap (λ y. y ∷ []) k)
    one false same = inl refl
without_cr_cases (x ∷ y ∷ xs) = ⊎_elim (λ e. inl (ap (λ t. x ∷ t) e)) (λ e. inr (ap (λ t. x ∷ t) e)) (without_cr_cases (y ∷ xs))

pub record IsSplit (line : List ℕ) (p : FieldPair) : Type 0 where
  pub text : line ≡ p.0 ++ 58 ∷ p.1
  pub token : list_all is_token_byte p.0 ≡ true

split_found : (x : ℕ) (xs : List ℕ) (p : FieldPair) → is_token_byte x ≡ true → ((q : FieldPair) → name_split xs ≡ Some q → IsSplit xs q)
    → (o : Option FieldPair) → name_split xs ≡ o → option_map (λ q. (x ∷ q.0, q.1)) o ≡ Some p → IsSplit (x ∷ xs) p
split_found x xs p t ih None is e = grind rules
split_found x xs p t ih (Some q) is e =
    let h = ih q is in
    let k : (x ∷ q.0, q.1) ≡ p = grind rules in
    subst (IsSplit (x ∷ xs)) k (record { text = ap (λ t. x ∷ t) h.text; token = both (is_token_byte x) _ t h.token })

split_token : (x : ℕ) (xs : List ℕ) (p : FieldPair) → ((q : FieldPair) → name_split xs ≡ Some q → IsSplit xs q) → (u : Bool)
    → is_token_byte x ≡ u → (if u then option_map (λ q. (x ∷ q.0, q.1)) (name_split xs) else None) ≡ Some p → IsSplit (x ∷ xs) p
split_token x xs p ih false same e = grind rules
split_token x xs p ih true same e = split_found x xs p same ih (name_split xs) refl e

split_colon : (x : ℕ) (xs : List ℕ) (p : FieldPair) → ((q : FieldPair) → name_split xs ≡ Some q → IsSplit xs q) → (t : Bool) → (x == 58) ≡ t
    → (if t then Some ([], xs) else (if is_token_byte x then option_map (λ q. (x ∷ q.0, q.1)) (name_split xs) else None)) ≡ Some p
    → IsSplit (x ∷ xs) p
split_colon x xs p ih true same e =
    let k : ([], xs) ≡ p = grind rules in
    let c : x ≡ 58 = grind (rules, arith) in
    subst (IsSplit (x ∷ xs)) k (record { text = ap (λ y. y ∷ xs) c; token = refl })
split_colon x xs p ih false same e = split_token x xs p ih (is_token_byte x) refl e

name_split_sound : (line : List ℕ) (p : FieldPair) → name_split line ≡ Some p → IsSplit line p
unfolding name_split
name_split_sound [] p e = grind rules
name_split_sound (x ∷ xs) p e = split_colon x xs p (name_split_sound xs) (x == 58) refl e

-- a field line that was read is the field's
pub record IsLine (line : List ℕ) (p : FieldPair) : Type 0 where
  pub text : line ≡ p.0 ++ 58 ∷ p.1
  pub some : nat_lt 0 (length p.0) ≡ true
  pub token : list_all is_token_byte p.0 ≡ true
  pub value : list_all is_value_byte p.1 ≡ true

line_tested : (line : List ℕ) (p q : FieldPair) → IsSplit line q → (t : Bool) → (nat_lt 0 (length q.0) && list_all is_value_byte q.1) ≡ t
    → (if t then Some q else None) ≡ Some p → IsLine line p
line_tested line p q h false is e = grind rules
line_tested line p q h true is e =
    let k : q ≡ p = grind rules in
    subst (IsLine line) k (record {
      text = h.text;
      some = and_left (nat_lt 0 (length q.0)) _ is;
      token = h.token;
      value =
          and_right (nat_lt 0 (length q.0)) _ is;
    })

field_sound : (line : List ℕ) (p : FieldPair) → field_of line ≡ Some p → IsLine line p
unfolding field_of
field_sound line p e =
    option_and_then_some _ (name_split line) p e (λ q is found. line_tested line p q (name_split_sound line q is) _ refl found)

-- what stands for a list of pairs
pub record IsRead (bytes : List ℕ) (ps : List FieldPair) (rest : List ℕ) : Type 0 where
  pub fields : List Field
  pub last : LineEnd
  pub each : All IsField fields
  pub same : map field_pair fields ≡ ps
  pub text : bytes ≡ print_section fields last ++ rest

made : FieldPair → LineEnd → Field
made p end = record { name = p.0; raw = p.1; end = end }

made_is : (line : List ℕ) (p : FieldPair) (end : LineEnd) → IsLine line p → IsField (made p end)
unfolding made
made_is line p end h = record {
  name = (search (rules, h.some), AllPass-from_list_all is_token_byte p.0 h.token);
  raw = AllPass-from_list_all is_value_byte p.1 h.value;
}

one_more : (line bytes : List ℕ) (p : FieldPair) (end : LineEnd) (ps : List FieldPair) (rest : List ℕ) → IsLine line p
    → IsRead bytes ps rest → IsRead (line ++ (print_end end ++ bytes)) (p ∷ ps) rest
unfolding made
one_more line bytes p end ps rest h r = record {
  fields = made p end ∷ r.fields;
  last = r.last;
  each = All-cons IsField (made p end) r.fields (made_is line p end h) r.each;
  same = ap (λ t. p ∷ t) r.same;
  text = ap (λ t. t ++ (print_end end ++ bytes)) h.text
      ∙ (ap (λ t. (p.0 ++ 58 ∷ p.1) ++ (print_end end ++ t)) r.text
      ∙ (sym (append_assoc (p.0 ++ 58 ∷ p.1) (print_end end) (print_section r.fields r.last ++ rest))
      ∙ (sym (append_assoc (print_field (made p end)) (print_section r.fields r.last) rest)
      ∙ ap (λ t. t ++ rest) (sym (append_assoc (print_field (made p end)) (flat_map print_field r.fields) (print_end r.last))))));
}

-- the block that is one empty line
empty_read : (bs : List ℕ) (last : LineEnd) → IsRead (print_end last ++ bs) [] bs
empty_read bs last = record { fields = []; last = last; each = All-nil IsField; same = refl; text = refl }

abbrev Read : Type 0
Read = Option (List FieldPair × List ℕ)

abbrev nothing : List ℕ → List FieldPair × List ℕ
nothing bs = ([], bs)

abbrev stop : List ℕ → Read
stop bs = Some (nothing bs)

abbrev more_of : FieldPair → List FieldPair × List ℕ → List FieldPair × List ℕ
more_of p r = (p ∷ r.0, r.1)

abbrev onto : FieldPair → Read → Read
onto p o = option_map (more_of p) o

at_blank : (line bs : List ℕ) (ps : List FieldPair) (rest : List ℕ) → is_blank (without_cr line) ≡ true → stop bs ≡ Some (ps, rest)
    → IsRead (line ++ 10 ∷ bs) ps rest
at_blank line bs ps rest b e =
    let k : nothing bs ≡ (ps, rest) = grind rules in
    subst (λ r. IsRead (line ++ 10 ∷ bs) r.0 r.1) k
    (⊎_elim (λ h. subst (λ l. IsRead (l ++ 10 ∷ bs) [] bs) (sym h) (empty_read bs lf))
    (λ h. subst (λ l. IsRead (l ++ 10 ∷ bs) [] bs) (sym h) (empty_read bs crlf)) (blank_line line b))

-- the line that was read ends in LF, or in CR LF
line_end : (line bs : List ℕ) (p : FieldPair) (qs : List FieldPair) (rest : List ℕ) → IsLine (without_cr line) p → IsRead bs qs rest
    → IsRead (line ++ 10 ∷ bs) (p ∷ qs) rest
line_end line bs p qs rest h r =
    ⊎_elim (λ e. subst (λ l. IsRead (l ++ 10 ∷ bs) (p ∷ qs) rest) (sym e) (one_more (without_cr line) bs p lf qs rest h r))
    (λ e. subst (λ l. IsRead l (p ∷ qs) rest) (sym (append_assoc (without_cr line) (13 ∷ []) (10 ∷ bs))
    ∙ ap (λ l. l ++ 10 ∷ bs) (sym e)) (one_more (without_cr line) bs p crlf qs rest h r)) (without_cr_cases line)

at_field : (line bs : List ℕ) (ps : List FieldPair) (rest : List ℕ) (p : FieldPair)
    → ((qs : List FieldPair) (r : List ℕ) → section_from [] bs ≡ Some (qs, r) → IsRead bs qs r) → IsLine (without_cr line) p
    → (o : Option (List FieldPair × List ℕ)) → section_from [] bs ≡ o → onto p o ≡ Some (ps, rest) → IsRead (line ++ 10 ∷ bs) ps rest
at_field line bs ps rest p ih h None is e = grind rules
at_field line bs ps rest p ih h (Some q) is e =
    let k : more_of p q ≡ (ps, rest) = grind rules in
    subst (λ r. IsRead (line ++ 10 ∷ bs) r.0 r.1) k (line_end line bs p q.0 q.1 h (ih q.0 q.1 is))

at_end : (line bs : List ℕ) (ps : List FieldPair) (rest : List ℕ)
    → ((qs : List FieldPair) (r : List ℕ) → section_from [] bs ≡ Some (qs, r) → IsRead bs qs r) → (t : Bool)
    → is_blank (without_cr line) ≡ t → (if t then stop bs else option_and_then (λ f. onto f (section_from [] bs))
    (field_of (without_cr line))) ≡ Some (ps, rest) → IsRead (line ++ 10 ∷ bs) ps rest
at_end line bs ps rest ih true same e = at_blank line bs ps rest same e
at_end line bs ps rest ih false same e =
    option_and_then_some _ (field_of (without_cr line)) (
      ps,
      rest,
    ) e (λ p is found. at_field line bs ps rest p ih (field_sound (without_cr line) p is) _ refl found)

at_byte : (b : ℕ) (line bs : List ℕ) (ps : List FieldPair) (rest : List ℕ)
    → ((qs : List FieldPair) (r : List ℕ) → section_from [] bs ≡ Some (qs, r) → IsRead bs qs r)
    → (section_from (line ++ b ∷ []) bs ≡ Some (ps, rest) → IsRead ((line ++ b ∷ []) ++ bs) ps rest) → (t : Bool) → (b == 10) ≡ t
    → (if t then (if is_blank (without_cr line) then stop bs else option_and_then (λ f. onto f (section_from [] bs))
    (field_of (without_cr line))) else section_from (line ++ b ∷ []) bs) ≡ Some (ps, rest) → IsRead (line ++ b ∷ bs) ps rest
at_byte b line bs ps rest ih more true same e =
    let c : b ≡ 10 = grind (rules, arith) in
    subst (λ x. IsRead (line ++ x ∷ bs) ps rest) (sym c) (at_end line bs ps rest ih (is_blank (without_cr line)) refl e)
at_byte b line bs ps rest ih more false same e =
    subst (λ t. IsRead t ps rest) (append_assoc line (b ∷ []) bs) (more e)

pub section_sound : (bs line : List ℕ) (ps : List FieldPair) (rest : List ℕ) → section_from line bs ≡ Some (ps, rest)
    → IsRead (line ++ bs) ps rest
unfolding section_from
section_sound [] line ps rest e = grind rules
section_sound (b ∷ bs) line ps rest e =
    at_byte b line bs ps rest (section_sound bs []) (section_sound bs (line ++ b ∷ []) ps rest) (b == 10) refl e

-- bytes that are read begin with a block
pub section_found : (buf : List ℕ) (ps : List FieldPair) (rest : List ℕ) → section_of buf ≡ Some (ps, rest)
    → (fields : List Field) × (last : LineEnd) × ReadsSection buf fields last rest × (map field_pair fields ≡ ps)
section_found buf ps rest e =
    let r = section_sound buf [] ps rest e in
    (r.fields, r.last, (r.each, r.text), r.same)
