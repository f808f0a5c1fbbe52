-- What `httparse` answers, in the words of the functions of the bytes.
use Rattle.std.proofs.Common.{◌≡◌, ℕ, ◌+◌, ◌<◌, ◌≤◌, Bool, true, false, List, [], ◌∷◌, length, map, drop, All, Option, Some, None, refl}
use Rattle.std.proofs.Common.{sym, ap, subst, ◌∙◌, rules, arith, length-append}
use Rattle.std.specs.Prelude.{nat_le, IfSome, IfNone}
use Rattle.std.specs.Bool.{OnTrue, OnFalse}
use Rattle.std.proofs.lemmas.List.{length-map}
use Rattle.httparse.specs.Grammar.{ResponseHead, ReadsResponse, status_code, Field, LineEnd, ReadsSection, ChunkLine, HasNoChunkLine}
use Rattle.httparse.specs.Grammar.{print_chunk_line}
use Rattle.httparse.specs.Spans.{IsHeaderWithin, name_and_value, IsChunkLineAt}
use Rattle.httparse.specs.declared.spans.HeaderSpan.{HeaderSpan}
use Rattle.fed_head.specs.declared.read.HeadSpans.{HeadSpans}
use Rattle.fed_head.specs.declared.read.SizeLine.{SizeLine}
use Rattle.fed_head.specs.Chunk.{size_line}
use Rattle.fed_head.specs.Section.{FieldPair, field_pair, name_and_trimmed, section_of, is_section_within, has_section}
use Rattle.fed_head.specs.Head.{HeadParts, head_of, within}
use Rattle.fed_head.specs.Found.{IsResponseFound, FindsHead, FindsSize}
use Rattle.fed_head.proofs.printed.Chunk.{size_line_reads, size_line_found}
use Rattle.fed_head.proofs.printed.Head.{head_reads, head_found}
use Rattle.fed_head.proofs.printed.Section.{section_reads, section_found}

-- ---- a head

within_some : (n : ℕ) (h : HeadParts) → length h.fields ≤ n → within n (Some h) ≡ Some h
within_some n h few = let t : nat_le (length h.fields) n ≡ true = search (rules, few) in rw t refl

within_none : (n : ℕ) (h : HeadParts) → ¬ (length h.fields ≤ n) → within n (Some h) ≡ None
within_none n h many = let t : nat_le (length h.fields) n ≡ false = grind (rules, arith, many) in rw t refl

trimmed_fields : (fields : List Field) → map name_and_value fields ≡ map name_and_trimmed (map field_pair fields)
trimmed_fields [] = refl
trimmed_fields (f ∷ fs) = ap (λ t. name_and_value f ∷ t) (trimmed_fields fs)

inside_whole : (len n : ℕ) (spans : List HeaderSpan) → len ≤ n → All (IsHeaderWithin len) spans → All (IsHeaderWithin n) spans
inside_whole len n spans le all = λ k d lt. let h = all k d lt in ((h.0.0, omega (arith, h.0.1)), (h.1.0, omega (arith, h.1.1)))

head_some : (raw : List ℕ) (spans : List HeaderSpan) (n : ℕ) (found : HeadSpans) (h : ResponseHead) → length h.fields ≤ n
    → IsResponseFound raw spans found h → FindsHead raw spans (within n (head_of raw)) (Some found)
head_some raw spans n found h few at =
    let head : HeadParts = record { status = status_code h; fields = map field_pair h.fields; rest = drop found.len raw } in
    let small : length (map field_pair h.fields) ≤ n = rw (length-map h.fields field_pair) few in (
      head,
      ap (within n) (head_reads raw h (drop found.len raw) at.reads) ∙ within_some n head small,
      record {
        status = at.status;
        rest = refl;
        len = at.len;
        count = at.count;
        inside = inside_whole found.len (length raw) _ at.len at.inside;
        fields = at.fields ∙ trimmed_fields h.fields;
      },
    )

none_by : (raw : List ℕ) (n : ℕ) → ((h : ResponseHead) (rest : List ℕ) → ReadsResponse raw h rest → ¬ (length h.fields ≤ n))
    → (o : Option HeadParts) → head_of raw ≡ o → within n o ≡ None
none_by raw n many None is = refl
none_by raw n many (Some found) is =
    let at = head_found raw found is in
    within_none n found (λ small. many at.head found.rest at.reads (subst (λ k. k ≤ n)
    (ap length at.fields ∙ length-map at.head.fields field_pair) small))

pub head_answered : (raw : List ℕ) (spans : List HeaderSpan) (n : ℕ) (r : Option HeadSpans)
    → IfSome r (λ found. (h : ResponseHead) × (length h.fields ≤ n) × IsResponseFound raw spans found h)
    → IfNone r ((h : ResponseHead) (rest : List ℕ) → ReadsResponse raw h rest → ¬ (length h.fields ≤ n))
    → FindsHead raw spans (within n (head_of raw)) r
head_answered raw spans n None some none = none_by raw n none (head_of raw) refl
head_answered raw spans n (Some found) some none = head_some raw spans n found some.0 some.1 some.2

-- ---- a trailer

no_section : (raw : List ℕ) (n : ℕ) → ((fields : List Field) (last : LineEnd) (rest : List ℕ) → ReadsSection raw fields last rest
    → ¬ (length fields ≤ n)) → (o : Option (List FieldPair × List ℕ)) → section_of raw ≡ o → false ≡ is_section_within n o
no_section raw n many None is = refl
no_section raw n many (Some s) is =
    let at = section_found raw s.0 s.1 is in
    let long : ¬ (length s.0 ≤ n) =
    λ small. many at.0 at.1 s.1 at.2 (subst (λ k. k ≤ n) (ap length (sym at.3) ∙ length-map at.0 field_pair) small) in
    let t : nat_le (length s.0) n ≡ false = grind (rules, arith, long) in
    sym t

pub some_section : (raw : List ℕ) (n : ℕ) (fields : List Field) (last : LineEnd) (rest : List ℕ) → ReadsSection raw fields last rest
    → length fields ≤ n → true ≡ has_section n raw
some_section raw n fields last rest reads few =
    let small : length (map field_pair fields) ≤ n = rw (length-map fields field_pair) few in
    let t : nat_le (length (map field_pair fields)) n ≡ true = search (rules, small) in
    sym (ap (is_section_within n) (section_reads raw fields last rest reads) ∙ t)

pub section_answered : (raw : List ℕ) (n : ℕ) (r : Bool)
    → OnTrue r ((fields : List Field) × (last : LineEnd) × (rest : List ℕ) × ReadsSection raw fields last rest × (length fields ≤ n))
    → OnFalse r ((fields : List Field) (last : LineEnd) (rest : List ℕ) → ReadsSection raw fields last rest → ¬ (length fields ≤ n))
    → r ≡ has_section n raw
section_answered raw n true some none = some_section raw n some.0 some.1 some.2 some.3 some.4
section_answered raw n false some none = no_section raw n none (section_of raw) refl

-- ---- a size line

no_size : (raw : List ℕ) → HasNoChunkLine raw → (o : Option (ℕ × List ℕ)) → size_line raw ≡ o → o ≡ None
no_size raw none None is = refl
no_size raw none (Some p) is =
    let at = size_line_found raw p.1 p.0 is in
    absurd (none at.0 p.1 at.1)

pub line_is_some : (l : ChunkLine) → 0 < length l.digits → 0 < length (print_chunk_line l)
unfolding print_chunk_line
line_is_some l some = simp length-append (omega arith)

size_some : (raw : List ℕ) (found : SizeLine) (l : ChunkLine) → IsChunkLineAt raw found.len found.size l
    → FindsSize raw (size_line raw) (Some found)
size_some raw found l at =
    let whole : length raw ≡ length (print_chunk_line l) + length (drop found.len raw) =
    ap length at.reads.1 ∙ length-append (print_chunk_line l) (drop found.len raw) in
    let some = line_is_some l at.reads.0.digits.0 in (
      subst (λ n. size_line raw ≡ Some (n, drop found.len raw)) (sym at.size_is) (size_line_reads raw l (drop found.len raw) at.reads),
      omega (arith, some, at.len_is),
      omega (arith, whole, at.len_is),
    )

pub size_answered : (raw : List ℕ) (r : Option SizeLine)
    → IfSome r (λ found. (l : ChunkLine) × IsChunkLineAt raw found.len found.size l)
    → IfNone r (HasNoChunkLine raw)
    → FindsSize raw (size_line raw) r
size_answered raw None some none = no_size raw none (size_line raw) refl
size_answered raw (Some found) some none = size_some raw found some.0 some.1
