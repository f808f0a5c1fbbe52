-- How far the rows of a script are compared, for private clauses.
use Rattle.std.specs.Prelude.{◌≡◌, ℕ, suc, List, [], ◌∷◌, length, Option, Some, None}
use Rattle.fed_script.specs.declared.event.Numbered.{Numbered}
use Rattle.fed_script.specs.Script.{AreRead}
use Rattle.fed_script.specs.Used.{UsedState}
use Rattle.fed_session.specs.Session.{Stands}
use Rattle.fed_trace.specs.Row.{row_of, with_event}
use Rattle.fed_trace.specs.Trace.{Row, Trace, begun}
use Rattle.fed_audit.specs.declared.aspect.About.{About}
use Rattle.fed_audit.specs.declared.difference.Comparison.{Comparison}
use Rattle.fed_audit.specs.declared.difference.Comparison.TheVariants.{Alike, Differs}
use Rattle.fed_audit.specs.declared.difference.Difference.{Difference}
use Rattle.fed_audit.specs.declared.own.Rows.{Rows}
use Rattle.fed_audit.specs.declared.record.Record.{Record}
use Rattle.fed_audit.specs.Compare.{At, Arrival, Comes, Lacks, Leaves, Meets, lacks, own_about, requests_in}
use Rattle.fed_audit.specs.Told.{Told, told_by}
use Rattle.fed_audit.specs.Walk.{IsUntaken}

-- the rows of these events after what happened
abbrev pub rows_after : Trace → List Numbered → List Row
rows_after T [] = []
rows_after T (n ∷ ns) = row_of T n.line n.event ∷ rows_after (with_event T n.line n.event) ns

-- what is kept is that of the events taken, and the rows of the others are left
pub record IsAt (rows : Rows) (at : At) : Type 0 where
  pub trace : Trace
  pub stands : Stands rows.session trace
  pub line : at.line ≡ rows.line
  pub left : at.left ≡ rows.left
  pub more : at.rows ≡ rows_after trace rows.events.now
  pub used : UsedState
  pub untaken : IsUntaken used.calls (begun trace.rows)
  pub count : used.events ≡ length trace.rows
  pub read : AreRead used rows.events.now

-- the event of the next row was taken
pub record Took (rows : Rows) (at : At) : Type 0 where
  pub row : Row
  pub left : List Row
  pub all : at.rows ≡ row ∷ left
  pub now : IsAt rows (record { line = row.line; left = told_by row; rows = left })

-- the first of these records lacks its counterpart
abbrev pub missing_in : ℕ → Told → Option Difference
missing_in line [] = None
missing_in line (entry ∷ left) = Some (lacks line entry.1)

-- the way to the row of a line has come so far
abbrev pub HasArrived : Rows → Arrival → Option Difference → Type 0
HasArrived rows (Lacks missing) found = found ≡ Some missing
HasArrived rows (Comes at) found = (found ≡ None) × IsAt rows at

-- ---- after a line, whatever lines follow

-- a record meets the own one, and the lines that follow decide
abbrev pub MeetsAnd : Record → ℕ → About → At → At → Type 0
MeetsAnd said line about at next =
    (number : ℕ) (lines : List (List ℕ)) (d : Option Difference) → Leaves next number lines d
    → Meets (λ n. Leaves n number lines d) said line about at (own_about line about at) d

-- it differs so
abbrev pub MeetsNot : Record → ℕ → About → At → Difference → Type 0
MeetsNot said line about at d =
    (number : ℕ) (lines : List (List ℕ)) → Meets (λ n. Leaves n number lines (Some d)) said line about at (own_about line about at) (Some d)

-- one of both
abbrev pub HasMet : Rows → Record → ℕ → About → At → Option Difference → Type 0
HasMet rows said line about at (Some d) = MeetsNot said line about at d
HasMet rows said line about at None = (next : At) × IsAt rows next × MeetsAnd said line about at next

-- the same of a line
abbrev pub GoesOn : ℕ → List ℕ → At → At → Type 0
GoesOn number line at next =
    (lines : List (List ℕ)) (d : Option Difference) → Leaves next (suc number) lines d → Leaves at number (line ∷ lines) d

abbrev pub StopsHere : ℕ → List ℕ → At → Difference → Type 0
StopsHere number line at d = (lines : List (List ℕ)) → Leaves at number (line ∷ lines) (Some d)

-- what a comparison of these lines from a row on comes to
abbrev pub ComparesTo : At → ℕ → List (List ℕ) → Comparison → Type 0
ComparesTo at first lines (Alike requests) = Leaves at first lines None × (requests ≡ requests_in lines)
ComparesTo at first lines (Differs difference) = Leaves at first lines (Some difference)
