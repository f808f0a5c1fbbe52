-- The first line of a transcript that fails a clause.
use Rattle.std.specs.Prelude.{◌≡◌, ◌≢◌, ℕ, ◌+◌, Bool, true, false, List, [], ◌∷◌, ◌++◌, length, Option, Some, None}
use Rattle.fed_script.specs.Script.{Script, is_blank}
use Rattle.fed_audit.specs.declared.fault.AuditClause.{AuditClause}
use Rattle.fed_audit.specs.declared.fault.AuditClause.TheVariants as clauses
use Rattle.fed_audit.specs.declared.fault.AuditFault.{AuditFault}
use Rattle.fed_audit.specs.declared.record.Record.{Record}
use Rattle.fed_audit.specs.declared.record.Record.TheVariants.{End}
use Rattle.fed_audit.specs.Record.{record_of, line_of, AreUpToLine}
use Rattle.fed_audit.specs.Scene.{Scene, IsSceneOf}
use Rattle.fed_audit.specs.Clauses.{Meets, FailsFirst}

-- a record comes from the event at a line, which is not below that of an earlier record
pub record HasPlace (script : Script) (earlier : List Record) (r : Record) (s : Scene) : Type 0 where
  pub line : ℕ
  pub is_line : line_of r ≡ Some line
  pub scene : IsSceneOf script earlier line s
  pub rises : AreUpToLine line earlier

-- a record passes: it is the end, or meets each clause
pub data Passes (script : Script) (earlier : List Record) (r : Record) : Type 0 where
  AtEnd : r ≡ End → Passes script earlier r
  AtLine : (s : Scene) → HasPlace script earlier r s → ((c : AuditClause) → Meets c s r) → Passes script earlier r

-- a line fails a clause first
pub data Fails (script : Script) (earlier : List Record) (line : List ℕ) : AuditClause → Type 0 where
  IsNone : record_of line ≡ None → Fails script earlier line clauses.Record
  HasNoPlace : (r : Record) → record_of line ≡ Some r → r ≢ End → ((s : Scene) → ¬ (HasPlace script earlier r s))
      → Fails script earlier line clauses.Record
  FailsClause : (r : Record) (s : Scene) (c : AuditClause) → record_of line ≡ Some r → HasPlace script earlier r s → FailsFirst c s r
      → Fails script earlier line c

-- one of two, by whether a line is blank
abbrev pub ByBlank : Bool → Type 0 → Type 0 → Type 0
ByBlank true blank other = blank
ByBlank false blank other = other

-- the lines pass one after the other, those that are blank aside; the records before them and after them, the newest first
abbrev pub PassInTurn : Script → List (List ℕ) → List Record → List Record → Type 0
PassInTurn script [] earlier records = records ≡ earlier
PassInTurn script (line ∷ lines) earlier records =
    ByBlank (is_blank line) (PassInTurn script lines earlier records)
    ((r : Record) × (record_of line ≡ Some r) × Passes script earlier r × PassInTurn script lines (r ∷ earlier) records)

-- the first line that fails, where the first line of all has this number
pub record IsFirstFault (script : Script) (first : ℕ) (lines : List (List ℕ)) (fault : AuditFault) : Type 0 where
  pub passed : List (List ℕ)
  pub line : List ℕ
  pub rest : List (List ℕ)
  pub lines_are : lines ≡ passed ++ line ∷ rest
  pub records : List Record
  pub pass : PassInTurn script passed [] records
  pub stands : is_blank line ≡ false
  pub fails : Fails script records line fault.clause
  pub number : fault.line ≡ first + length passed

-- what an audit of the lines is to find
abbrev pub AuditFaultOf : Script → ℕ → List (List ℕ) → Option AuditFault → Type 0
AuditFaultOf script first lines None = (records : List Record) × PassInTurn script lines [] records
AuditFaultOf script first lines (Some fault) = IsFirstFault script first lines fault
