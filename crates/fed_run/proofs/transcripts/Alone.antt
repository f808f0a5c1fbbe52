-- Further lines leave the stop of one script at the lines before them as it is.
use Rattle.std.proofs.Common.{◌≡◌, ◌∙◌, ℕ, List, ◌++◌, length, Option, None, sym, ap, refl}
use Rattle.std.proofs.Math.Seq.{take-append_seam}
use Rattle.std.specs.List.{count_by}
use Rattle.std.specs.Prelude.{Result, Ok, Err}
use Rattle.fed_script.specs.declared.cause.PairStop.{PairStop}
use Rattle.fed_script.specs.Half.{half_of}
use Rattle.fed_script.specs.Script.{Script, Stop, script_of_lines}
use Rattle.fed_script.proofs.lines.Line.{is_lf}
use Rattle.fed_run.specs.Alone.{alone_of, alone_stop_within, alone_bad_within, if_among}
use Rattle.fed_run.proofs.transcripts.Within.{line_early, stop_early, script_further, same_of_bytes, zero}

-- where a script stops
stops : (k : ℕ) (r : Result Script Stop) → alone_stop_within k (half_of 0 r) ≡ stop_early k r
stops k (Ok script) = refl
stops k (Err stop) = ap (line_early k stop.cause) (zero stop.line)

further : (lines more : List (List ℕ))
    → alone_stop_within (length lines) (half_of 0 (script_of_lines (lines ++ more)))
    ≡ alone_stop_within (length lines) (half_of 0 (script_of_lines lines))
further lines more =
    stops (length lines) (script_of_lines (lines ++ more))
    ∙ script_further lines more
    ∙ sym (stops (length lines) (script_of_lines lines))

-- the first bad line within bytes is the same, whatever bytes follow
within-more : (bytes more : List ℕ)
    → alone_bad_within (length bytes) (bytes ++ more) ≡ alone_stop_within (count_by is_lf bytes) (alone_of bytes)
within-more bytes more =
    ap (λ front. alone_stop_within (count_by is_lf front) (alone_of (bytes ++ more))) (take-append_seam bytes more)
    ∙ same_of_bytes (λ n ls. alone_stop_within n (half_of 0 (script_of_lines ls))) further bytes more

-- where bytes are a script, no line within them is bad
pub none_alone : (bytes more : List ℕ) (script : Script) → alone_of bytes ≡ Ok script
    → None ≡ alone_bad_within (length bytes) (bytes ++ more)
none_alone bytes more script reads = sym (within-more bytes more ∙ ap (alone_stop_within (count_by is_lf bytes)) reads)

-- where they stop at a line that ends in them, it is the first bad line within them
pub stop_is_alone : (bytes more : List ℕ) (lines : ℕ) (stop : PairStop) (found : Option PairStop) → lines ≡ count_by is_lf bytes
    → alone_of bytes ≡ Err stop → found ≡ if_among lines stop
    → found ≡ alone_bad_within (length bytes) (bytes ++ more)
stop_is_alone bytes more lines stop found count reads is =
    is
    ∙ ap (λ n. if_among n stop) count
    ∙ ap (alone_stop_within (count_by is_lf bytes)) (sym reads)
    ∙ sym (within-more bytes more)
