-- A printed size line is read back.
use Rattle.std.proofs.Common.{◌≡◌, ℕ, ◌<◌, ◌≤◌, Bool, true, false, not, ◌==◌, List, [], ◌∷◌, ◌++◌, length, Option, Some, None, option_map}
use Rattle.std.proofs.Common.{refl, sym, ap, subst, ◌∙◌, rules, arith, if◌then◌else◌}
use Rattle.std.specs.List.{list_all}
use Rattle.std.specs.Prelude.{nat_lt}
use Rattle.std.specs.Char.{is_ascii_hexdigit}
use Rattle.std.specs.Str.Parse.{digits_value}
use Rattle.std.proofs.lemmas.List.{append_assoc}
use Rattle.std.proofs.lemmas.List.Sums.{list_all-from_AllPass, AllPass-from_list_all}
use Rattle.httparse.specs.Grammar.{is_ows, skip_ows, ChunkLine, print_chunk_line, print_extension, IsExtension, is_extension_byte}
use Rattle.httparse.specs.Grammar.{ReadsChunkLine, chunk_size}
use Rattle.fed_head.specs.Chunk.{hex_front, hex_rest, after_lf, after_extension, after_digits, is_size, size_line}
use Rattle.fed_head.proofs.printed.Section.{and_left, and_right, pick_else, pick_then, both}

-- the text does not begin with a digit
abbrev stops : List ℕ → Bool
stops [] = true
stops (b ∷ bs) = not (is_ascii_hexdigit b)

hex_front-digits : (ds rest : List ℕ) → list_all is_ascii_hexdigit ds ≡ true → stops rest ≡ true → hex_front (ds ++ rest) ≡ ds
hex_front-digits [] [] e s = refl
hex_front-digits [] (b ∷ bs) e s = pick_else (is_ascii_hexdigit b) _ _ s
hex_front-digits (d ∷ ds) rest e s =
    pick_then (is_ascii_hexdigit d) _ _ (and_left (is_ascii_hexdigit d) _ e)
    ∙ ap (λ t. d ∷ t) (hex_front-digits ds rest (and_right (is_ascii_hexdigit d) _ e) s)

hex_rest-digits : (ds rest : List ℕ) → list_all is_ascii_hexdigit ds ≡ true → stops rest ≡ true → hex_rest (ds ++ rest) ≡ rest
hex_rest-digits [] [] e s = refl
hex_rest-digits [] (b ∷ bs) e s = pick_else (is_ascii_hexdigit b) _ _ s
hex_rest-digits (d ∷ ds) rest e s =
    pick_then (is_ascii_hexdigit d) _ _ (and_left (is_ascii_hexdigit d) _ e)
    ∙ hex_rest-digits ds rest (and_right (is_ascii_hexdigit d) _ e) s

skip-pad : (pad rest : List ℕ) → list_all is_ows pad ≡ true → skip_ows (pad ++ rest) ≡ skip_ows rest
skip-pad [] rest e = refl
skip-pad (b ∷ bs) rest e = pick_then (is_ows b) _ _ (and_left (is_ows b) _ e) ∙ skip-pad bs rest (and_right (is_ows b) _ e)

extension_read : (text rest : List ℕ) → list_all is_extension_byte text ≡ true → after_extension (text ++ 13 ∷ 10 ∷ rest) ≡ Some rest
unfolding after_extension
extension_read [] rest e = refl
extension_read (b ∷ bs) rest e =
    let ok = and_left (is_extension_byte b) _ e in
    pick_else (b == 13) _ _ (grind (rules, ok)) ∙ (pick_else (b == 10) _ _ (grind (rules, ok))
    ∙ extension_read bs rest (and_right (is_extension_byte b) _ e))

tail_of : Option (List ℕ) → List ℕ → List ℕ
tail_of ext rest = print_extension ext ++ 13 ∷ 10 ∷ rest

tail_read : (ext : Option (List ℕ)) (rest : List ℕ) → IsExtension ext → after_digits (skip_ows (tail_of ext rest)) ≡ Some rest
unfolding tail_of
tail_read None rest h = refl
tail_read (Some text) rest h = extension_read text rest (list_all-from_AllPass is_extension_byte text h)

pad_stops : (pad : List ℕ) (ext : Option (List ℕ)) (rest : List ℕ) → list_all is_ows pad ≡ true → stops (pad ++ tail_of ext rest) ≡ true
unfolding tail_of
pad_stops [] None rest e = refl
pad_stops [] (Some text) rest e = refl
pad_stops (b ∷ bs) ext rest e =
    let ok = and_left (is_ows b) _ e in
    grind (rules, arith, ok)

sized : (ds : List ℕ) → 0 < length ds → length ds ≤ 16 → is_size ds ≡ true
sized ds some few = both (nat_lt 0 (length ds)) _ (search (rules, some)) (search (rules, few))

line_parts : (bytes ds after rest : List ℕ) → hex_front bytes ≡ ds → hex_rest bytes ≡ after → is_size ds ≡ true
    → after_digits (skip_ows after) ≡ Some rest → size_line bytes ≡ Some (digits_value 16 ds, rest)
unfolding size_line
line_parts bytes ds after rest f g s a = rw (f, g, s, a) refl

pub size_line_reads : (buf : List ℕ) (l : ChunkLine) (rest : List ℕ) → ReadsChunkLine buf l rest → size_line buf ≡ Some (chunk_size l, rest)
unfolding print_chunk_line tail_of
size_line_reads buf l rest r =
    let ds = list_all-from_AllPass is_ascii_hexdigit l.digits r.0.digits.2 in
    let pad = list_all-from_AllPass is_ows l.pad r.0.pad in
    let whole : buf ≡ l.digits ++ (l.pad ++ tail_of l.extension rest) = r.1 ∙ simp append_assoc in
    let stop = pad_stops l.pad l.extension rest pad in
    ap size_line whole
    ∙ line_parts _ l.digits (l.pad
    ++ tail_of l.extension rest) rest (hex_front-digits l.digits _ ds stop) (hex_rest-digits l.digits _ ds stop)
    (sized l.digits r.0.digits.0 r.0.digits.1)
    (ap after_digits (skip-pad l.pad (tail_of l.extension rest) pad) ∙ tail_read l.extension rest r.0.extension)

-- ---- what is read is a printed line

hex_split : (bytes : List ℕ) → bytes ≡ hex_front bytes ++ hex_rest bytes
hex_split [] = refl
hex_split (b ∷ bs) = pick (is_ascii_hexdigit b) (hex_split bs)
  where
    pick : (t : Bool) → bs ≡ hex_front bs ++ hex_rest bs
        → b ∷ bs ≡ (if t then b ∷ hex_front bs else []) ++ (if t then hex_rest bs else b ∷ bs)
    pick true e = ap (λ t. b ∷ t) e
    pick false e = refl

hex_all : (bytes : List ℕ) → list_all is_ascii_hexdigit (hex_front bytes) ≡ true
hex_all [] = refl
hex_all (b ∷ bs) = pick (is_ascii_hexdigit b) refl (hex_all bs)
  where
    pick : (t : Bool) → is_ascii_hexdigit b ≡ t → list_all is_ascii_hexdigit (hex_front bs) ≡ true
        → list_all is_ascii_hexdigit (if t then b ∷ hex_front bs else []) ≡ true
    pick true is e = both (is_ascii_hexdigit b) _ is e
    pick false is e = refl

record HasPad (bytes : List ℕ) : Type 0 where
  pad : List ℕ
  blank : list_all is_ows pad ≡ true
  text : bytes ≡ pad ++ skip_ows bytes

pad_split : (bytes : List ℕ) → HasPad bytes
pad_split [] = record { pad = []; blank = refl; text = refl }
pad_split (b ∷ bs) = pick (is_ows b) refl (pad_split bs)
  where
    pick : (t : Bool) → is_ows b ≡ t → HasPad bs → HasPad (b ∷ bs)
    pick true is h =
        record {
          pad = b ∷ h.pad;
          blank = both (is_ows b) _ is h.blank;
          text =
              ap (λ t. b ∷ t) h.text ∙ ap (λ t. b ∷ (h.pad ++ t)) (sym (pick_then (is_ows b) _ _ is));
        }
    pick false is h = record { pad = []; blank = refl; text = sym (pick_else (is_ows b) _ _ (ap not is)) }

lf_sound : (bs rest : List ℕ) → after_lf bs ≡ Some rest → bs ≡ 10 ∷ rest
lf_sound [] rest e = grind rules
lf_sound (b ∷ bs) rest e = pick (b == 10) refl e
  where
    pick : (t : Bool) → (b == 10) ≡ t → (if t then Some bs else None) ≡ Some rest → b ∷ bs ≡ 10 ∷ rest
    pick true is e =
        let c : b ≡ 10 = grind (rules, arith) in
        let k : bs ≡ rest = grind rules in
        ap (λ x. x ∷ bs) c ∙ ap (λ t. 10 ∷ t) k
    pick false is e = grind rules

record HasText (bytes rest : List ℕ) : Type 0 where
  text : List ℕ
  plain : list_all is_extension_byte text ≡ true
  whole : bytes ≡ text ++ 13 ∷ 10 ∷ rest

text_here : (b : ℕ) (bs rest : List ℕ) → (b == 13) ≡ true → after_lf bs ≡ Some rest → HasText (b ∷ bs) rest
text_here b bs rest is e =
    let c : b ≡ 13 = grind (rules, arith) in
    record { text = []; plain = refl; whole = ap (λ x. x ∷ bs) c ∙ ap (λ t. 13 ∷ t) (lf_sound bs rest e) }

text_later : (b : ℕ) (bs rest : List ℕ) → (b == 13) ≡ false → (b == 10) ≡ false → HasText bs rest → HasText (b ∷ bs) rest
text_later b bs rest cr nl h =
    record { text = b ∷ h.text; plain = both (is_extension_byte b) _ (rw (cr, nl) refl) h.plain; whole = ap (λ t. b ∷ t) h.whole }

text_lf : (b : ℕ) (bs rest : List ℕ) → (b == 13) ≡ false → (after_extension bs ≡ Some rest → HasText bs rest) → (t : Bool) → (b == 10) ≡ t
    → (if t then None else after_extension bs) ≡ Some rest → HasText (b ∷ bs) rest
text_lf b bs rest cr ih true is e = grind rules
text_lf b bs rest cr ih false is e = text_later b bs rest cr is (ih e)

text_cr : (b : ℕ) (bs rest : List ℕ) → (after_extension bs ≡ Some rest → HasText bs rest) → (t : Bool) → (b == 13) ≡ t
    → (if t then after_lf bs else (if b == 10 then None else after_extension bs)) ≡ Some rest → HasText (b ∷ bs) rest
text_cr b bs rest ih true is e = text_here b bs rest is e
text_cr b bs rest ih false is e = text_lf b bs rest is ih (b == 10) refl e

text_sound : (bytes rest : List ℕ) → after_extension bytes ≡ Some rest → HasText bytes rest
unfolding after_extension
text_sound [] rest e = grind rules
text_sound (b ∷ bs) rest e = text_cr b bs rest (text_sound bs rest) (b == 13) refl e

-- the end of a line
record HasTail (bytes rest : List ℕ) : Type 0 where
  ext : Option (List ℕ)
  plain : IsExtension ext
  whole : bytes ≡ tail_of ext rest

tail_text : (b : ℕ) (bs rest : List ℕ) → (t : Bool) → (b == 59) ≡ t → (if t then after_extension bs else None) ≡ Some rest
    → HasTail (b ∷ bs) rest
unfolding tail_of
tail_text b bs rest true is e =
    let c : b ≡ 59 = grind (rules, arith) in
    let h = text_sound bs rest e in
    record {
      ext = Some h.text;
      plain = AllPass-from_list_all is_extension_byte h.text h.plain;
      whole =
          ap (λ x. x ∷ bs) c ∙ ap (λ t. 59 ∷ t) h.whole;
    }
tail_text b bs rest false is e = grind rules

tail_cr : (b : ℕ) (bs rest : List ℕ) → (t : Bool) → (b == 13) ≡ t
    → (if t then after_lf bs else (if b == 59 then after_extension bs else None)) ≡ Some rest → HasTail (b ∷ bs) rest
unfolding tail_of
tail_cr b bs rest true is e =
    let c : b ≡ 13 = grind (rules, arith) in
    record { ext = None; plain = tt; whole = ap (λ x. x ∷ bs) c ∙ ap (λ t. 13 ∷ t) (lf_sound bs rest e) }
tail_cr b bs rest false is e = tail_text b bs rest (b == 59) refl e

tail_sound : (bytes rest : List ℕ) → after_digits bytes ≡ Some rest → HasTail bytes rest
tail_sound [] rest e = grind rules
tail_sound (b ∷ bs) rest e = tail_cr b bs rest (b == 13) refl e

pub record IsLineOf (buf : List ℕ) (size : ℕ) (rest : List ℕ) : Type 0 where
  pub line : ChunkLine
  pub reads : ReadsChunkLine buf line rest
  pub is : size ≡ chunk_size line

line_joined : (buf rest : List ℕ) → is_size (hex_front buf) ≡ true → HasTail (skip_ows (hex_rest buf)) rest
    → IsLineOf buf (digits_value 16 (hex_front buf)) rest
unfolding print_chunk_line tail_of
line_joined buf rest sized t =
    let pad = pad_split (hex_rest buf) in
    let some = and_left (nat_lt 0 (length (hex_front buf))) _ sized in
    let few = and_right (nat_lt 0 (length (hex_front buf))) _ sized in
    let whole : buf ≡ hex_front buf ++ (pad.pad ++ (print_extension t.ext ++ 13 ∷ 10 ∷ rest)) =
    hex_split buf ∙ (ap (λ x. hex_front buf ++ x) pad.text ∙ ap (λ x. hex_front buf ++ (pad.pad ++ x)) t.whole) in
    record {
      line = record { digits = hex_front buf; pad = pad.pad; extension = t.ext };
      reads = (
        record {
          digits = (search (rules, some), search (rules, few), AllPass-from_list_all is_ascii_hexdigit (hex_front buf) (hex_all buf));
          pad = AllPass-from_list_all is_ows pad.pad pad.blank;
          extension = t.plain;
        },
        whole ∙ simp append_assoc,
      );
      is = refl;
    }

abbrev sized_rest : List ℕ → List ℕ → ℕ × List ℕ
sized_rest buf r = (digits_value 16 (hex_front buf), r)

line_found : (buf rest : List ℕ) (size : ℕ) → is_size (hex_front buf) ≡ true → (o : Option (List ℕ))
    → after_digits (skip_ows (hex_rest buf)) ≡ o → option_map (sized_rest buf) o ≡ Some (size, rest) → IsLineOf buf size rest
line_found buf rest size few None is e = grind rules
line_found buf rest size few (Some r) is e =
    let found : ℕ × List ℕ = sized_rest buf r in
    let k : found ≡ (size, rest) = grind rules in
    subst (λ x. IsLineOf buf x.0 x.1) k (line_joined buf r few (tail_sound _ r is))

line_tested : (buf rest : List ℕ) (size : ℕ) (t : Bool) → is_size (hex_front buf) ≡ t
    → (if t then option_map (sized_rest buf) (after_digits (skip_ows (hex_rest buf))) else None) ≡ Some (size, rest)
    → IsLineOf buf size rest
line_tested buf rest size true is e = line_found buf rest size is _ refl e
line_tested buf rest size false is e = grind rules

pub size_line_found : (buf rest : List ℕ) (size : ℕ) → size_line buf ≡ Some (size, rest)
    → (l : ChunkLine) × ReadsChunkLine buf l rest × (size ≡ chunk_size l)
unfolding size_line
size_line_found buf rest size e =
    let h = line_tested buf rest size _ refl e in
    (h.line, h.reads, h.is)
