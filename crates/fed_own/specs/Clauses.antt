-- What an audit asks of this program's own records.
use Rattle.std.specs.Prelude.{◌≡◌, List, ◌∷◌, ◌++◌, map, reverse}
use Rattle.fed_script.specs.declared.event.Header.{Header}
use Rattle.fed_trace.specs.declared.out.Out.{Out}
use Rattle.fed_trace.specs.Records.{records, records_in}
use Rattle.fed_trace.specs.Trace.{Row, Trace}
use Rattle.fed_audit.specs.declared.fault.AuditClause.{AuditClause}
use Rattle.fed_audit.specs.Clauses.{Meets}
use Rattle.fed_audit.specs.Scene.{Scene}
use Rattle.fed_own.specs.Own.{said_of}

-- what a record of a row is judged by, after those of the rows before it and these of its own row
abbrev pub scene_of : Header → Row → List Row → List Out → Scene
scene_of header row before done =
    record { header = header; row = row; before = before; earlier = reverse (map said_of (records_in before ++ done)) }

-- this holds of each record of the rows, where it is judged
abbrev pub OfOwnRecords : (Scene → Out → Type 0) → Trace → Type 0
OfOwnRecords P T =
    (after before : List Row) (row : Row) (done more : List Out) (out : Out) → T.rows ≡ after ++ row ∷ before
    → records row ≡ done ++ out ∷ more → P (scene_of T.header row before done) out

-- it meets a clause
abbrev pub MeetsClause : AuditClause → Scene → Out → Type 0
MeetsClause clause s out = Meets clause s (said_of out)

-- it meets all clauses
abbrev pub MeetsAll : Scene → Out → Type 0
MeetsAll s out = (clause : AuditClause) → Meets clause s (said_of out)
