-- The line that is written of any record is read as what it says.
use Rattle.std.proofs.Common.{◌≡◌, ℕ, ◌^◌, ◌<◌, cond, Some, None, refl, ap, ◌∙◌}
use Rattle.std.proofs.lemmas.Str.{is_utf8-from_IsUtf8}
use Rattle.std.specs.Prelude.{option_and_then}
use Rattle.serde_json.specs.Data.{Members, object}
use Rattle.serde_json.specs.Read.{read}
use Rattle.serde_json.specs.Written.{compact_text}
use Rattle.fed_json.specs.Value.{value_of}
use Rattle.fed_print.specs.Records.{record_members}
use Rattle.fed_audit.specs.declared.record.Record.{Record}
use Rattle.fed_audit.specs.declared.record.Record.TheVariants as says
use Rattle.fed_audit.specs.Record.{record_of}
use Rattle.fed_own.specs.Laws.{OwnLinesAreRead}
use Rattle.fed_own.specs.Line.{end_line, end_members}
use Rattle.fed_own.specs.Own.{said_of}
use Rattle.fed_own.proofs.lines.Lines.{end_read, object_read, record_in}
use Rattle.fed_own.proofs.lines.Plain.{is_text, reads_back}
use Rattle.fed_own.proofs.lines.Written.{IsWritten, end_written, written}

value_is : (ms : Members) → IsWritten ms → value_of (compact_text (object ms)) ≡ Some (object ms)
value_is ms w =
    ap (λ b. cond b (read (compact_text (object ms))) None) (is_utf8-from_IsUtf8 (compact_text (object ms)) (is_text (object ms) w.plain))
    ∙ reads_back (object ms) w.plain w.shallow

reads_as : (ms : Members) (r : Record) → IsWritten ms → record_in (object ms) ≡ Some r → record_of (compact_text (object ms)) ≡ Some r
reads_as ms r w is = ap (option_and_then record_in) (value_is ms w) ∙ is

pub read_lem : OwnLinesAreRead
read_lem out said =
    record { stands = refl; reads = reads_as (record_members out) (said_of out) (written out said) (object_read out said) }

pub end_is_read : (events : ℕ) → events < 2 ^ 32 → record_of (end_line events) ≡ Some says.End
end_is_read events few = reads_as (end_members events) says.End (end_written events few) (end_read events)
