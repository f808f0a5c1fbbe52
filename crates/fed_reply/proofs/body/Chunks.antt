-- The chunks that are left, after some that were read.
use Rattle.std.proofs.Common.{◌≡◌, ◌≢◌, ℕ, zero, suc, ◌<◌, ◌≤◌, Bool, true, false, ◌==◌, List, [], ◌∷◌}
use Rattle.std.proofs.Common.{◌++◌, length, take, drop}
use Rattle.std.proofs.Common.{length-drop, Some, None, Result, Ok, Err, refl, sym, ap, subst, ◌∙◌, rules, arith, if◌then◌else◌}
use Rattle.std.proofs.lemmas.List.{append_assoc, append-nil}
use Rattle.std.specs.Prelude.{nat_le}
use Rattle.fed_head.specs.Chunk.{size_line}
use Rattle.fed_reply.specs.declared.step.ReplyStep.{ReplyStep}
use Rattle.fed_reply.specs.declared.step.ReplyStep.TheVariants.{Chunk, Short}
use Rattle.fed_reply.specs.Body.{after_lf, after_crlf, after_chunk, last_chunk, chunk_and, chunks_within, chunks}
use Rattle.fed_reply.specs.Steps.{and_then, with_ok}

-- the body of the whole is what was read, and then the chunks that are left
pub record ReadsOn (raw body rest : List ℕ) : Type 0 where
  pub most : ℕ
  pub enough : length rest ≤ most
  pub same : chunks raw ≡ with_ok (λ more. body ++ more) (chunks_within most rest)

with_ok-append : (a b : List ℕ) (r : Result (List ℕ) ReplyStep)
    → with_ok (λ more. a ++ more) (with_ok (λ more. b ++ more) r) ≡ with_ok (λ more. (a ++ b) ++ more) r
with_ok-append a b (Ok x) = ap Ok (sym (append_assoc a b x))
with_ok-append a b (Err e) = refl

-- what stands for a size line that was found
record AtLine (raw body bytes rest : List ℕ) (size : ℕ) : Type 0 where
  fewer : ℕ
  enough : length rest ≤ suc fewer
  same : chunks raw ≡ with_ok (λ more. body ++ more) (chunk_and (chunks_within fewer) (Some (size, bytes)))

at_line : (raw body bytes rest : List ℕ) (size most : ℕ) → length rest ≤ most
    → chunks raw ≡ with_ok (λ more. body ++ more) (chunks_within most rest) → size_line rest ≡ Some (size, bytes)
    → 0 < length rest
    → AtLine raw body bytes rest size
unfolding chunks_within
at_line raw body bytes rest size zero enough same line some = absurd (omega arith)
at_line raw body bytes rest size (suc n) enough same line some = record {
  fewer = n;
  enough = enough;
  same = same ∙ ap (λ l. with_ok (λ more. body ++ more) (chunk_and (chunks_within n) l)) line;
}

line_of : (raw body bytes rest : List ℕ) (size : ℕ) → ReadsOn raw body rest → size_line rest ≡ Some (size, bytes)
    → 0 < length rest
    → AtLine raw body bytes rest size
line_of raw body bytes rest size at line some = at_line raw body bytes rest size at.most at.enough at.same line some

-- a chunk of some bytes
some_chunk : (further : List ℕ → Result (List ℕ) ReplyStep) (size : ℕ) (bytes : List ℕ) → size ≢ 0
    → chunk_and further (Some (size, bytes)) ≡ and_then (λ rest. with_ok (λ body. take size bytes ++ body)
    (further rest)) (after_chunk size
    bytes)
some_chunk further size bytes some = by (size == 0) refl
  where
    by : (t : Bool) → (size == 0) ≡ t → (if t then last_chunk bytes else and_then
        (λ rest. with_ok (λ body. take size bytes ++ body) (further rest)) (after_chunk size bytes))
        ≡ and_then (λ rest. with_ok (λ body. take size bytes ++ body) (further rest)) (after_chunk size bytes)
    by true is = absurd (grind (rules, arith, some))
    by false is = refl

pub reads_chunk : (raw body bytes rest after : List ℕ) (size : ℕ) → ReadsOn raw body rest → size_line rest ≡ Some (size, bytes)
    → size ≢ 0
    → after_chunk size bytes ≡ Ok after → length after < length rest → ReadsOn raw (body ++ take size bytes) after
reads_chunk raw body bytes rest after size at line some next shorter =
    let l = line_of raw body bytes rest size at line (omega arith) in
    record {
      most = l.fewer;
      enough = omega (arith, l.enough);
      same = l.same
          ∙ (ap (with_ok (λ more. body ++ more)) (some_chunk (chunks_within l.fewer) size bytes some
          ∙ ap (and_then (λ r. with_ok (λ b. take size bytes ++ b) (chunks_within l.fewer r))) next)
          ∙ with_ok-append body (take size bytes) (chunks_within l.fewer after));
    }

pub ends_short : (raw body bytes rest : List ℕ) (size : ℕ) (step : ReplyStep) → ReadsOn raw body rest
    → size_line rest ≡ Some (size, bytes)
    → size ≢ 0 → after_chunk size bytes ≡ Err step → 0 < length rest → chunks raw ≡ Err step
ends_short raw body bytes rest size step at line some next filled =
    let l = line_of raw body bytes rest size at line filled in
    l.same ∙ ap (with_ok (λ more. body ++ more)) (some_chunk (chunks_within l.fewer) size bytes some
    ∙ ap (and_then (λ r. with_ok (λ b. take size bytes ++ b) (chunks_within l.fewer r))) next)

append_nil_ok : (body : List ℕ) → with_ok {E = ReplyStep} (λ more. body ++ more) (Ok []) ≡ Ok body
append_nil_ok body = ap Ok (append-nil body)

pub ends_last : (raw body bytes rest : List ℕ) (size : ℕ) → ReadsOn raw body rest → size_line rest ≡ Some (size, bytes)
    → size ≡ 0
    → last_chunk bytes ≡ Ok [] → 0 < length rest → chunks raw ≡ Ok body
ends_last raw body bytes rest size at line none last filled =
    let l = line_of raw body bytes rest 0 at (subst (λ n. size_line rest ≡ Some (n, bytes)) none line) filled in
    l.same ∙ (ap (with_ok (λ more. body ++ more)) last ∙ append_nil_ok body)

pub ends_trailer : (raw body bytes rest : List ℕ) (size : ℕ) (step : ReplyStep) → ReadsOn raw body rest
    → size_line rest ≡ Some (size, bytes) → size ≡ 0 → last_chunk bytes ≡ Err step → 0 < length rest
    → chunks raw ≡ Err step
ends_trailer raw body bytes rest size step at line none last filled =
    let l = line_of raw body bytes rest 0 at (subst (λ n. size_line rest ≡ Some (n, bytes)) none line) filled in
    l.same ∙ ap (with_ok (λ more. body ++ more)) last

no_line : (raw body rest : List ℕ) (most : ℕ) → chunks raw ≡ with_ok (λ more. body ++ more) (chunks_within most rest)
    → size_line rest ≡ None → chunks raw ≡ Err Chunk
unfolding chunks_within
no_line raw body rest zero same line = same
no_line raw body rest (suc n) same line = same ∙ ap (λ l. with_ok (λ more. body ++ more) (chunk_and (chunks_within n) l)) line

pub ends_without_line : (raw body rest : List ℕ) → ReadsOn raw body rest → size_line rest ≡ None → chunks raw ≡ Err Chunk
ends_without_line raw body rest at line = no_line raw body rest at.most at.same line

-- ---- how much is left

after_lf-shorter : (bytes after : List ℕ) → after_lf bytes ≡ Ok after → length after < length bytes
after_lf-shorter [] after e = absurd (grind rules)
after_lf-shorter (b ∷ bytes) after e = by (b == 10) refl e
  where
    by : (t : Bool) → (b == 10) ≡ t → (if t then Ok bytes else Err Chunk) ≡ Ok after → length after < suc (length bytes)
    by true is f = let k : bytes ≡ after = grind rules in rw (sym k) (omega arith)
    by false is f = absurd (grind rules)

after_crlf-shorter : (bytes after : List ℕ) → after_crlf bytes ≡ Ok after → length after < length bytes
after_crlf-shorter [] after e = absurd (grind rules)
after_crlf-shorter (b ∷ bytes) after e = by (b == 13) refl e
  where
    by : (t : Bool) → (b == 13) ≡ t → (if t then after_lf bytes else Err Chunk) ≡ Ok after → length after < suc (length bytes)
    by true is f = omega (arith, after_lf-shorter bytes after f)
    by false is f = absurd (grind rules)

pub after_chunk-shorter : (size : ℕ) (bytes after : List ℕ) → after_chunk size bytes ≡ Ok after → length after < length bytes
after_chunk-shorter size bytes after e = by (nat_le (length bytes) size) refl e
  where
    by : (t : Bool) → nat_le (length bytes) size ≡ t → (if t then Err Short else after_crlf (drop size bytes)) ≡ Ok after
        → length after < length bytes
    by true is f = absurd (grind rules)
    by false is f = omega (arith, after_crlf-shorter (drop size bytes) after f, length-drop size bytes)
