-- The own text is the one that a run writes.
use Rattle.std.proofs.Common.{◌≡◌, List, [], ◌∷◌, ◌++◌, refl, sym, ap, ◌∙◌, append_assoc}
use Rattle.std.specs.Prelude.{length}
use Rattle.fed_print.specs.Lines.{line_of, record_line, text_of}
use Rattle.fed_trace.specs.declared.out.Out.{Out}
use Rattle.fed_trace.specs.OfScript.{trace_of}
use Rattle.fed_trace.specs.Records.{records, records_in}
use Rattle.fed_trace.specs.Trace.{Row}
use Rattle.fed_run.specs.Run.{rows_text, script_text}
use Rattle.fed_run.specs.Text.{end_members}
use Rattle.fed_own.specs.Whole.{OwnTextIsWritten}

text_both : (outs more : List Out) → text_of (outs ++ more) ≡ text_of outs ++ text_of more
text_both [] more = refl
text_both (out ∷ outs) more =
    ap (λ t. record_line out ++ t) (text_both outs more) ∙ sym (append_assoc (record_line out) (text_of outs) (text_of more))

rows_same : (rows : List Row) → text_of (records_in rows) ≡ rows_text rows
rows_same [] = refl
rows_same (row ∷ rows) = text_both (records_in rows) (records row) ∙ ap (λ t. t ++ text_of (records row)) (rows_same rows)

pub own_text_is_written_lem : OwnTextIsWritten
unfolding line_of script_text
own_text_is_written_lem bytes script read =
    ap (λ t. t ++ line_of (end_members (length (trace_of script).rows))) (rows_same (trace_of script).rows) ∙ ap script_text (sym read)
