-- A written body in chunks is read back, and what is read was written so.
use Rattle.std.proofs.Common.{◌≡◌, ℕ, zero, suc, ◌<◌, ◌≤◌, Bool, true, false, ◌==◌, List, [], ◌∷◌, ◌++◌}
use Rattle.std.proofs.Common.{length, take, drop, All, Option}
use Rattle.std.proofs.Common.{Some, None, Result, Ok, Err, refl, sym, ap, subst, ◌∙◌, rules, arith, if◌then◌else◌}
use Rattle.std.proofs.Common.{length-append}
use Rattle.std.proofs.Common.{length-take}
use Rattle.std.specs.Prelude.{nat_le}
use Rattle.std.specs.List.{flat_map}
use Rattle.std.proofs.lemmas.List.{append_assoc, length-map, take-append-drop}
use Rattle.std.proofs.lemmas.List.Elements.{All-head, All-tail, All-cons, All-nil}
use Rattle.std.proofs.Math.Seq.{take-append_seam, drop-append_seam}
use Rattle.httparse.specs.Grammar.{ChunkLine, IsChunkLine, chunk_size, print_chunk_line, Field, LineEnd, ReadsSection}
use Rattle.fed_head.specs.Chunk.{size_line}
use Rattle.fed_head.specs.Section.{FieldPair, field_pair, section_of, is_section_within, has_section}
use Rattle.fed_head.proofs.printed.Chunk.{size_line_reads, size_line_found}
use Rattle.fed_head.proofs.found.Found.{some_section, line_is_some}
use Rattle.fed_head.proofs.printed.Section.{section_found}
use Rattle.fed_reply.specs.declared.step.ReplyStep.{ReplyStep}
use Rattle.fed_reply.specs.declared.step.ReplyStep.TheVariants.{Chunk, Short}
use Rattle.fed_reply.specs.Body.{after_lf, after_crlf, after_chunk, last_chunk, chunk_and, chunks_within, chunks}
use Rattle.fed_reply.specs.Steps.{and_then, with_ok}
use Rattle.fed_reply.specs.Chunked.{ChunkParts, print_chunk, IsChunk, IsChunkedBody}

-- ---- what is written is read

after_bytes : (bytes more : List ℕ) → after_chunk (length bytes) (bytes ++ 13 ∷ 10 ∷ more) ≡ Ok more
after_bytes bytes more =
    let long : nat_le (length (bytes ++ 13 ∷ 10 ∷ more)) (length bytes) ≡ false =
    grind (rules, arith, length-append bytes (13 ∷ 10 ∷ more)) in
    rw (long, drop-append_seam bytes (13 ∷ 10 ∷ more)) refl

-- a chunk at the front
chunk_read : (n : ℕ) (c : ChunkParts) (more body : List ℕ) → IsChunk c → chunks_within n more ≡ Ok body
    → chunks_within (suc n) (print_chunk_line c.line ++ (c.bytes ++ 13 ∷ 10 ∷ more)) ≡ Ok (c.bytes ++ body)
unfolding chunks_within
chunk_read n c more body is later =
    let line : size_line (print_chunk_line c.line ++ (c.bytes ++ 13 ∷ 10 ∷ more)) ≡ Some (length c.bytes, c.bytes ++ 13 ∷ 10 ∷ more) =
    size_line_reads _ c.line (c.bytes ++ 13 ∷ 10 ∷ more) (is.line, refl) ∙ ap (λ s. Some (s, c.bytes ++ 13 ∷ 10 ∷ more)) is.size in
    let some : (length c.bytes == 0) ≡ false = grind (rules, arith, is.some) in
    ap (chunk_and (chunks_within n)) line
    ∙ rw (some, after_bytes c.bytes more, later, take-append_seam c.bytes (13 ∷ 10 ∷ more)) refl

last_read : (n : ℕ) (last : ChunkLine) (tail : List ℕ) → IsChunkLine last → chunk_size last ≡ 0 → true ≡ has_section 128 tail
    → chunks_within (suc n) (print_chunk_line last ++ tail) ≡ Ok []
unfolding chunks_within
last_read n last tail is zero_size there =
    let line : size_line (print_chunk_line last ++ tail) ≡ Some (0, tail) =
    size_line_reads _ last tail (is, refl) ∙ ap (λ s. Some (s, tail)) zero_size in
    ap (chunk_and (chunks_within n)) line ∙ ap (λ t. if t then Ok [] else Err Chunk) (sym there)

chunk_text : (c : ChunkParts) (more : List ℕ) → print_chunk c ++ more ≡ print_chunk_line c.line ++ (c.bytes ++ 13 ∷ 10 ∷ more)
chunk_text c more =
    append_assoc (print_chunk_line c.line) (c.bytes ++ 13 ∷ 10 ∷ []) more
    ∙ ap (λ t. print_chunk_line c.line ++ t) (append_assoc c.bytes (13 ∷ 10 ∷ []) more)

more_text : (c : ChunkParts) (cs : List ChunkParts) (tail : List ℕ)
    → flat_map print_chunk (c ∷ cs) ++ tail ≡ print_chunk_line c.line ++ (c.bytes ++ 13 ∷ 10 ∷ (flat_map print_chunk cs ++ tail))
more_text c cs tail = append_assoc (print_chunk c) (flat_map print_chunk cs) tail ∙ chunk_text c (flat_map print_chunk cs ++ tail)

chunks_read : (cs : List ChunkParts) (last : ChunkLine) (tail : List ℕ) (n : ℕ) → All IsChunk cs → IsChunkLine last
    → chunk_size last ≡ 0
    → true ≡ has_section 128 tail → length (flat_map print_chunk cs ++ (print_chunk_line last ++ tail)) ≤ n
    → chunks_within n (flat_map print_chunk cs ++ (print_chunk_line last ++ tail)) ≡ Ok (flat_map (λ c. c.bytes) cs)
chunks_read [] last tail zero all is zero_size there enough =
    absurd (omega (arith, length-append (print_chunk_line last) tail, line_is_some last is.digits.0))
chunks_read [] last tail (suc n) all is zero_size there enough = last_read n last tail is zero_size there
chunks_read (c ∷ cs) last tail zero all is zero_size there enough =
    let first = All-head IsChunk c cs all in
    let text = ap length (more_text c cs (print_chunk_line last ++ tail)) in
    absurd (omega (
      arith,
      text,
      length-append (print_chunk_line c.line) (c.bytes
          ++ 13 ∷ 10 ∷ (flat_map print_chunk cs ++ (print_chunk_line last ++ tail))),
      line_is_some c.line first.line.digits.0,
    ))
chunks_read (c ∷ cs) last tail (suc n) all is zero_size there enough =
    let first = All-head IsChunk c cs all in
    let more = flat_map print_chunk cs ++ (print_chunk_line last ++ tail) in
    let text = more_text c cs (print_chunk_line last ++ tail) in
    let shorter : length more ≤ n =
    omega (
      arith,
      ap length text,
      length-append (print_chunk_line c.line) (c.bytes ++ 13 ∷ 10 ∷ more),
      length-append c.bytes (13 ∷ 10 ∷ more),
    ) in
    let later = chunks_read cs last tail n (All-tail IsChunk c cs all) is zero_size there shorter in
    ap (chunks_within (suc n)) text ∙ chunk_read n c more (flat_map (λ d. d.bytes) cs) first later

pub body_read : (raw body : List ℕ) → IsChunkedBody raw body → chunks raw ≡ Ok body
body_read raw body h =
    let text = flat_map print_chunk h.chunks ++ (print_chunk_line h.last ++ h.tail) in
    let there = some_section h.tail 128 h.trailer h.end h.rest h.reads h.few in
    ap chunks h.whole ∙ (chunks_read h.chunks h.last h.tail (length text) h.each h.is_line h.is_zero there (omega arith)
    ∙ ap Ok (sym h.same))

-- ---- what is read was written

lf_there : (bytes after : List ℕ) → after_lf bytes ≡ Ok after → bytes ≡ 10 ∷ after
lf_there [] after e = absurd (grind rules)
lf_there (b ∷ bytes) after e = by (b == 10) refl e
  where
    by : (t : Bool) → (b == 10) ≡ t → (if t then Ok bytes else Err Chunk) ≡ Ok after → b ∷ bytes ≡ 10 ∷ after
    by true is f =
        let c : b ≡ 10 = grind (rules, arith) in
        let k : bytes ≡ after = grind rules in
        ap (λ x. x ∷ bytes) c ∙ ap (λ x. 10 ∷ x) k
    by false is f = absurd (grind rules)

crlf_there : (bytes after : List ℕ) → after_crlf bytes ≡ Ok after → bytes ≡ 13 ∷ 10 ∷ after
crlf_there [] after e = absurd (grind rules)
crlf_there (b ∷ bytes) after e = by (b == 13) refl e
  where
    by : (t : Bool) → (b == 13) ≡ t → (if t then after_lf bytes else Err Chunk) ≡ Ok after → b ∷ bytes ≡ 13 ∷ 10 ∷ after
    by true is f =
        let c : b ≡ 13 = grind (rules, arith) in
        ap (λ x. x ∷ bytes) c ∙ ap (λ x. 13 ∷ x) (lf_there bytes after f)
    by false is f = absurd (grind rules)

-- the chunk of that size at the front
record HasChunk (size : ℕ) (bytes after : List ℕ) : Type 0 where
  size_is : length (take size bytes) ≡ size
  text : bytes ≡ take size bytes ++ 13 ∷ 10 ∷ after

chunk_there : (size : ℕ) (bytes after : List ℕ) → after_chunk size bytes ≡ Ok after → HasChunk size bytes after
chunk_there size bytes after e = by (nat_le (length bytes) size) refl e
  where
    by : (t : Bool) → nat_le (length bytes) size ≡ t → (if t then Err Short else after_crlf (drop size bytes)) ≡ Ok after
        → HasChunk size bytes after
    by true is f = absurd (grind rules)
    by false is f =
        let long : size < length bytes = grind (rules, arith, is) in
        record {
          size_is = omega (arith, length-take size bytes);
          text = sym (take-append-drop size bytes) ∙ ap (λ t. take size bytes ++ t) (crlf_there (drop size bytes) after f);
        }

-- a trailer
record HasTrailer (tail : List ℕ) : Type 0 where
  trailer : List Field
  end : LineEnd
  rest : List ℕ
  reads : ReadsSection tail trailer end rest
  few : length trailer ≤ 128

trailer_there : (tail : List ℕ) (o : Option (List FieldPair × List ℕ)) → section_of tail ≡ o → is_section_within 128 o ≡ true
    → HasTrailer tail
trailer_there tail None is e = absurd (grind rules)
trailer_there tail (Some s) is e =
    let at = section_found tail s.0 s.1 is in
    let few : length s.0 ≤ 128 = grind (rules, arith, e) in
    record { trailer = at.0; end = at.1; rest = s.1; reads = at.2; few = omega (arith, few, ap length at.3, length-map at.0 field_pair) }

last_there : (raw body : List ℕ) (line : ℕ × List ℕ) → size_line raw ≡ Some line → (line.0 == 0) ≡ true
    → last_chunk line.1 ≡ Ok body
    → IsChunkedBody raw body
last_there raw body line is none e = by (has_section 128 line.1) refl e
  where
    by : (t : Bool) → has_section 128 line.1 ≡ t → (if t then Ok [] else Err Chunk) ≡ Ok body → IsChunkedBody raw body
    by true there f =
        let at = size_line_found raw line.1 line.0 is in
        let section = trailer_there line.1 (section_of line.1) refl there in
        let k : [] ≡ body = grind rules in
        let zero_size : line.0 ≡ 0 = grind (rules, arith, none) in
        record {
          chunks = [];
          each = All-nil IsChunk;
          last = at.0;
          is_line = at.1.0;
          is_zero = sym at.2 ∙ zero_size;
          tail = line.1;
          trailer = section.trailer;
          end = section.end;
          rest = section.rest;
          reads = section.reads;
          few = section.few;
          whole = at.1.1;
          same = sym k;
        }
    by false there f = absurd (grind rules)

more_there : (raw after body : List ℕ) (line : ℕ × List ℕ) → size_line raw ≡ Some line → (line.0 == 0) ≡ false
    → HasChunk line.0 line.1 after → IsChunkedBody after body → IsChunkedBody raw (take line.0 line.1 ++ body)
more_there raw after body line is some at h =
    let found = size_line_found raw line.1 line.0 is in
    let filled : 0 < line.0 = grind (rules, arith, some) in
    let c : ChunkParts = record { line = found.0; bytes = take line.0 line.1 } in
    let chunk : IsChunk c = record { line = found.1.0; size = sym found.2 ∙ sym at.size_is; some = omega (arith, at.size_is, filled) } in
    let last_text = print_chunk_line h.last ++ h.tail in
    record {
      chunks = c ∷ h.chunks;
      each = All-cons IsChunk c h.chunks chunk h.each;
      last = h.last;
      is_line = h.is_line;
      is_zero = h.is_zero;
      tail = h.tail;
      trailer = h.trailer;
      end = h.end;
      rest = h.rest;
      reads = h.reads;
      few = h.few;
      whole = found.1.1
          ∙ (ap (λ t. print_chunk_line found.0 ++ t) at.text
          ∙ (ap (λ t. print_chunk_line found.0 ++ (take line.0 line.1 ++ 13 ∷ 10 ∷ t)) h.whole ∙ sym (more_text c h.chunks last_text)));
      same = ap (λ t. take line.0 line.1 ++ t) h.same;
    }

-- what follows a chunk that was read
onto_there : (raw after body : List ℕ) (line : ℕ × List ℕ) (r : Result (List ℕ) ReplyStep)
    → ((b : List ℕ) → r ≡ Ok b → IsChunkedBody after b) → size_line raw ≡ Some line → (line.0 == 0) ≡ false
    → HasChunk line.0 line.1 after
    → with_ok (λ b. take line.0 line.1 ++ b) r ≡ Ok body → IsChunkedBody raw body
onto_there raw after body line (Err step) ih is some at e = absurd (grind rules)
onto_there raw after body line (Ok b) ih is some at e =
    let k : take line.0 line.1 ++ b ≡ body = grind rules in
    subst (IsChunkedBody raw) k (more_there raw after b line is some at (ih b refl))

next_there : (n : ℕ) (raw body : List ℕ) (line : ℕ × List ℕ) (r : Result (List ℕ) ReplyStep)
    → ((after b : List ℕ) → chunks_within n after ≡ Ok b → IsChunkedBody after b) → size_line raw ≡ Some line
    → (line.0 == 0) ≡ false
    → after_chunk line.0 line.1 ≡ r → and_then (λ after. with_ok (λ b. take line.0 line.1 ++ b) (chunks_within n after)) r
    ≡ Ok body
    → IsChunkedBody raw body
next_there n raw body line (Err step) ih is some next e = absurd (grind rules)
next_there n raw body line (Ok after) ih is some next e =
    onto_there raw after body line (chunks_within n after) (ih after) is some (chunk_there line.0 line.1 after next) e

size_there : (n : ℕ) (raw body : List ℕ) (line : ℕ × List ℕ)
    → ((after b : List ℕ) → chunks_within n after ≡ Ok b → IsChunkedBody after b)
    → size_line raw ≡ Some line → (t : Bool) → (line.0 == 0) ≡ t
    → (if t then last_chunk line.1 else and_then (λ after. with_ok (λ b. take line.0 line.1 ++ b) (chunks_within n after)) (after_chunk
    line.0 line.1)) ≡ Ok body → IsChunkedBody raw body
size_there n raw body line ih is true same e = last_there raw body line is same e
size_there n raw body line ih is false same e = next_there n raw body line (after_chunk line.0 line.1) ih is same refl e

line_there : (n : ℕ) (raw body : List ℕ) (o : Option (ℕ × List ℕ))
    → ((after b : List ℕ) → chunks_within n after ≡ Ok b → IsChunkedBody after b) → size_line raw ≡ o
    → chunk_and (chunks_within n) o ≡ Ok body → IsChunkedBody raw body
line_there n raw body None ih is e = absurd (grind rules)
line_there n raw body (Some line) ih is e = size_there n raw body line ih is (line.0 == 0) refl e

chunks_there : (n : ℕ) (raw body : List ℕ) → chunks_within n raw ≡ Ok body → IsChunkedBody raw body
unfolding chunks_within
chunks_there zero raw body e = absurd (grind rules)
chunks_there (suc n) raw body e = line_there n raw body (size_line raw) (chunks_there n) refl e

pub body_there : (raw body : List ℕ) → chunks raw ≡ Ok body → IsChunkedBody raw body
body_there raw body e = chunks_there (length raw) raw body e
