-- Where a transcript first leaves this program's own.
use Rattle.std.specs.Prelude.{◌≡◌, ℕ, suc, nat_le, nat_lt, ◌==◌, ◌||◌, ◌&&◌, Bool, true, false, List, [], ◌∷◌, count_by, not, reverse}
use Rattle.std.specs.Prelude.{Option, Some, None}
use Rattle.std.specs.Prelude.{if◌then◌else◌}
use Rattle.std.specs.Map.{lookup}
use Rattle.indexmap.specs.IndexMap.{shift_remove_entry}
use Rattle.fed_consent.specs.declared.table.finish.Finish.TheVariants as finishes
use Rattle.fed_script.specs.Script.{Script, is_blank}
use Rattle.fed_trace.specs.declared.out.Out.{Out}
use Rattle.fed_trace.specs.declared.out.Out.TheVariants as outs
use Rattle.fed_trace.specs.OfScript.{trace_of}
use Rattle.fed_trace.specs.Trace.{Row}
use Rattle.fed_audit.specs.declared.aspect.About.{About}
use Rattle.fed_audit.specs.declared.aspect.Aspect.TheVariants as aspects
use Rattle.fed_audit.specs.declared.differ.Finding.{Finding}
use Rattle.fed_audit.specs.declared.difference.Comparison.{Comparison}
use Rattle.fed_audit.specs.declared.difference.Comparison.TheVariants.{Alike, Differs}
use Rattle.fed_audit.specs.declared.difference.Difference.{Difference}
use Rattle.fed_audit.specs.declared.record.Record.{Record}
use Rattle.fed_audit.specs.declared.record.Record.TheVariants as says
use Rattle.fed_audit.specs.Audit.{ByBlank}
use Rattle.fed_audit.specs.Differ.{Differ, bare, token_differs}
use Rattle.fed_audit.specs.Record.{record_of, line_of}
use Rattle.fed_audit.specs.Told.{Told, about_of, about_said, key_of, same_key, told_by}

-- ---- the rows, one after the other

-- the row to which a comparison has come, and the rows after it
pub record At : Type 0 where
  -- the line of the row; 0 before the first
  pub line : ℕ
  -- the requests and tokens of the row that have no counterpart yet, in their order
  pub left : Told
  pub rows : List Row

-- before the first row
abbrev pub before : Script → At
before script = record { line = 0; left = []; rows = reverse (trace_of script).rows }

-- what was found of the own record about this at a line
abbrev pub found_of : ℕ → Option About → Finding → Difference
found_of line about found = record { line = line; about = about; aspect = found.aspect; due = found.due }

-- an own record of a row lacks its counterpart
abbrev pub lacks : ℕ → Out → Difference
lacks line out = found_of line (about_of out) (bare aspects.Missing)

-- a row is come to, unless an own record before it lacks its counterpart
pub data Arrival : Type 0 where
  Comes : At → Arrival
  Lacks : Difference → Arrival

-- the row of a line, or the last row before it
abbrev pub arrive : ℕ → ℕ → Told → List Row → Arrival
arrive line here (entry ∷ left) rows =
    if nat_le line here then Comes (record { line = here; left = entry ∷ left; rows = rows }) else Lacks (lacks here entry.1)
arrive line here [] (row ∷ rows) =
    if nat_le line here || nat_lt line row.line then Comes (record { line = here; left = []; rows = row ∷ rows })
    else arrive line row.line (told_by row) rows
arrive line here [] [] = Comes (record { line = here; left = []; rows = [] })

-- what lacks its counterpart at the end
abbrev pub end_lacks : ℕ → Told → List Row → Option Difference
end_lacks here (entry ∷ left) rows = Some (lacks here entry.1)
end_lacks here [] (row ∷ rows) = end_lacks row.line (told_by row) rows
end_lacks here [] [] = None

-- ---- records

-- what of a record differs from the own one about the same
abbrev pub DifferIn : Out → Record → Option Finding → Type 0
DifferIn (outs.Request l c p kind own) (says.Request line call provider k bytes) found = Differ kind own bytes found
DifferIn (outs.Answer l c page (finishes.Token auto p own)) (says.Token line call provider token said_page said_auto) found =
    found ≡ token_differs own page auto token said_page said_auto
DifferIn out said found = found ≡ None

-- by what was found: that is told, or the lines after it decide
abbrev pub IfFound : ℕ → About → Option Finding → Option Difference → Type 0 → Type 0
IfFound line about (Some found) difference more = difference ≡ Some (found_of line (Some about) found)
IfFound line about None difference more = more

-- a record meets the own one about the same, if there is one
abbrev pub Meets : (At → Type 0) → Record → ℕ → About → At → Option Out → Option Difference → Type 0
Meets more said line about at None difference = difference ≡ Some (found_of line (Some about) (bare aspects.Further))
Meets more said line about at (Some own) difference =
    (found : Option Finding) × DifferIn own said found
    × IfFound line about found difference (more (record at { left = shift_remove_entry (same_key (key_of about)) at.left }))

-- the own record about this, where the row is that of the line
abbrev pub own_about : ℕ → About → At → Option Out
own_about line about at = if at.line == line then lookup (same_key (key_of about)) at.left else None

-- a record comes to its row, unless an own record before it lacks its counterpart
abbrev pub Arrives : (At → Type 0) → Record → ℕ → About → Arrival → Option Difference → Type 0
Arrives more said line about (Lacks missing) difference = difference ≡ Some missing
Arrives more said line about (Comes at) difference = Meets more said line about at (own_about line about at) difference

-- other records than requests and tokens are passed over
abbrev pub IfAbout : (At → Type 0) → At → Record → Option ℕ → Option About → Option Difference → Type 0
IfAbout more at said (Some line) (Some about) difference =
    Arrives more said line about (arrive line at.line at.left at.rows) difference
IfAbout more at said (Some line) None difference = more at
IfAbout more at said None about difference = more at

-- a line that is no record is told
abbrev pub SaysLine : (At → Type 0) → ℕ → At → Option Record → Option Difference → Type 0
SaysLine more number at None difference = difference ≡ Some (found_of number None (bare aspects.Record))
SaysLine more number at (Some said) difference = IfAbout more at said (line_of said) (about_said said) difference

-- where lines, the first of which has this number, leave the own records, if they do
abbrev pub Leaves : At → ℕ → List (List ℕ) → Option Difference → Type 0
Leaves at number [] difference = difference ≡ end_lacks at.line at.left at.rows
Leaves at number (line ∷ lines) difference =
    ByBlank (is_blank line) (Leaves at (suc number) lines difference)
    (SaysLine (λ next. Leaves next (suc number) lines difference) number at (record_of line) difference)

-- a record is a request
abbrev pub is_request : Option Record → Bool
is_request (Some (says.Request line call provider kind bytes)) = true
is_request _ = false

-- a line is the record of a request
abbrev pub says_request : List ℕ → Bool
says_request line = not (is_blank line) && is_request (record_of line)

-- how many lines are
abbrev pub requests_in : List (List ℕ) → ℕ
requests_in lines = count_by says_request lines

-- what a comparison of the lines comes to
abbrev pub IsComparison : Script → ℕ → List (List ℕ) → Comparison → Type 0
IsComparison script first lines (Alike requests) = Leaves (before script) first lines None × (requests ≡ requests_in lines)
IsComparison script first lines (Differs difference) = Leaves (before script) first lines (Some difference)
