-- What the laws of this program's own transcripts say.
use Rattle.std.specs.Prelude.{◌≡◌, ℕ, List, None, Ok}
use Rattle.std.specs.List.{AllByRecursion}
use Rattle.fed_script.specs.Script.{Script, lines_of, script_of}
use Rattle.fed_trace.specs.declared.out.Out.{Out}
use Rattle.fed_trace.specs.OfScript.{trace_of}
use Rattle.fed_trace.specs.Records.{records_in}
use Rattle.fed_audit.specs.Audit.{AuditFaultOf}
use Rattle.fed_audit.specs.declared.difference.Comparison.TheVariants.{Alike}
use Rattle.fed_audit.specs.Compare.{IsComparison, requests_in}
use Rattle.fed_own.specs.Clauses.{MeetsAll, OfOwnRecords}
use Rattle.fed_own.specs.Line.{IsReadBack, IsSaid}
use Rattle.fed_own.specs.Own.{AreReadAs, own_records}
use Rattle.fed_own.specs.Text.{own_text}

-- the line that is written of a record is read as what the record says
abbrev pub OwnLinesAreRead : Type 0
OwnLinesAreRead = (out : Out) → IsSaid out → IsReadBack out

-- a comparison of a script with lines that are read as its own records finds nothing
abbrev pub OwnRecordsCompare : Type 0
OwnRecordsCompare =
    (bytes : List ℕ) (script : Script) (first : ℕ) (lines : List (List ℕ)) → script_of bytes ≡ Ok script
    → AreReadAs lines (own_records script) → IsComparison script first lines (Alike (requests_in lines))

-- An audit of a script and lines that are read as its own records finds nothing, where each of the records meets the clauses: all of them
-- are records of the script, in their places.
abbrev pub OwnRecordsPass : Type 0
OwnRecordsPass =
    (bytes : List ℕ) (script : Script) (first : ℕ) (lines : List (List ℕ)) → script_of bytes ≡ Ok script
    → AreReadAs lines (own_records script) → OfOwnRecords MeetsAll (trace_of script) → AuditFaultOf script first lines None

-- So do a comparison and an audit of the text that this program writes of the script, where its records are of such numbers, texts and
-- bytes.
abbrev pub OwnTextCompares : Type 0
OwnTextCompares =
    (bytes : List ℕ) (script : Script) (first : ℕ) → script_of bytes ≡ Ok script
    → AllByRecursion IsSaid (records_in (trace_of script).rows)
    → IsComparison script first (lines_of (own_text script)) (Alike (requests_in (lines_of (own_text script))))

abbrev pub OwnTextPasses : Type 0
OwnTextPasses =
    (bytes : List ℕ) (script : Script) (first : ℕ) → script_of bytes ≡ Ok script
    → AllByRecursion IsSaid (records_in (trace_of script).rows) → OfOwnRecords MeetsAll (trace_of script)
    → AuditFaultOf script first (lines_of (own_text script)) None
