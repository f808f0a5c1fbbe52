-- What the calls answer of the bytes that they are given.
use Rattle.std.specs.Prelude.{◌≡◌, ℕ, ◌<◌, ◌≤◌, List, length, drop, take, map, All, Option, Some, None}
use Rattle.httparse.specs.Grammar.{ResponseHead, ReadsResponse, status_code}
use Rattle.httparse.specs.Spans.{IsHeaderWithin, header_bytes, name_and_value}
use Rattle.httparse.specs.declared.spans.HeaderSpan.{HeaderSpan}
use Rattle.fed_head.specs.declared.read.HeadSpans.{HeadSpans}
use Rattle.fed_head.specs.declared.read.SizeLine.{SizeLine}
use Rattle.fed_head.specs.Head.{HeadParts}
use Rattle.fed_head.specs.Section.{name_and_trimmed}

-- the head of the grammar is there, and the first spans cover its fields
pub record IsResponseFound
    (raw : List ℕ) (spans : List HeaderSpan) (found : HeadSpans) (h : ResponseHead) : Type 0 where
  pub reads : ReadsResponse raw h (drop found.len raw)
  pub status : found.status ≡ status_code h
  pub len : found.len ≤ length raw
  pub count : found.count ≤ length spans
  pub inside : All (IsHeaderWithin found.len) (take found.count spans)
  pub fields : map (header_bytes raw) (take found.count spans) ≡ map name_and_value h.fields

-- the head is there, and the first spans cover its fields, each value without white space at its ends
pub record IsHeadAt
    (raw : List ℕ) (spans : List HeaderSpan) (head : HeadParts) (found : HeadSpans) : Type 0 where
  pub status : found.status ≡ head.status
  pub rest : drop found.len raw ≡ head.rest
  pub len : found.len ≤ length raw
  pub count : found.count ≤ length spans
  pub inside : All (IsHeaderWithin (length raw)) (take found.count spans)
  pub fields : map (header_bytes raw) (take found.count spans) ≡ map name_and_trimmed head.fields

-- the answer is the expected head, and none exactly where none is expected
abbrev pub FindsHead : List ℕ → List HeaderSpan → Option HeadParts → Option HeadSpans → Type 0
FindsHead raw spans expected None = expected ≡ None
FindsHead raw spans expected (Some found) =
    (head : HeadParts) × (expected ≡ Some head) × IsHeadAt raw spans head found

-- the answer is the expected size line, and none exactly where none is expected
abbrev pub FindsSize : List ℕ → Option (ℕ × List ℕ) → Option SizeLine → Type 0
FindsSize raw expected None = expected ≡ None
FindsSize raw expected (Some found) =
    (expected ≡ Some (found.size, drop found.len raw)) × (0 < found.len) × (found.len ≤ length raw)
