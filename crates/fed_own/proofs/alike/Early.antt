-- A comparison may come to the row of a line early: what tells nothing of it stands between.
use Rattle.std.proofs.Common.{◌≡◌, ℕ, suc, ◌<◌, ◌≤◌, Bool, true, false, nat_le, nat_lt, List, [], ◌∷◌, Option, Some, None, refl, sym}
use Rattle.std.proofs.Common.{subst, arith}
use Rattle.std.proofs.lemmas.Bool.Decides.{nat_tests}
use Rattle.std.specs.Prelude.{⊤}
use Rattle.std.specs.List.{AllByRecursion}
use Rattle.fed_script.specs.Script.{is_blank}
use Rattle.fed_trace.specs.Trace.{Row}
use Rattle.fed_audit.specs.declared.aspect.About.{About}
use Rattle.fed_audit.specs.declared.record.Record.{Record}
use Rattle.fed_audit.specs.declared.record.Record.TheVariants as says
use Rattle.fed_audit.specs.Audit.{ByBlank}
use Rattle.fed_audit.specs.Compare.{Arrives, At, IfAbout, Leaves, SaysLine, arrive}
use Rattle.fed_audit.specs.Record.{line_of, record_of}
use Rattle.fed_audit.specs.Told.{about_said, told_by}
use Rattle.fed_audit.specs.declared.aspect.Subject.TheVariants as subjects
use Rattle.fed_audit.specs.Words.{subject_of}
use Rattle.fed_own.specs.Own.{AreReadAs}

-- ---- a line that says a record

out_by : (b : Bool) (P Q : Type 0) → b ≡ false → ByBlank b P Q → Q
out_by false P Q is h = h
out_by true P Q is h = absurd (cc)

into_by : (b : Bool) (P Q : Type 0) → b ≡ false → Q → ByBlank b P Q
into_by false P Q is h = h
into_by true P Q is h = absurd (cc)

-- the lines after it
abbrev After : ℕ → List (List ℕ) → At → Type 0
After number lines at = Leaves at (suc number) lines None

pub out_of : (number : ℕ) (line : List ℕ) (lines : List (List ℕ)) (at : At) (said : Record) → is_blank line ≡ false
    → record_of line ≡ Some said → Leaves at number (line ∷ lines) None
    → IfAbout (After number lines) at said (line_of said) (about_said said) None
out_of number line lines at said blank is h =
    subst (λ r. SaysLine (After number lines) number at r None) is
    (out_by (is_blank line) (After number lines at) (SaysLine (After number lines) number at (record_of line) None) blank h)

pub into : (number : ℕ) (line : List ℕ) (lines : List (List ℕ)) (at : At) (said : Record) → is_blank line ≡ false
    → record_of line ≡ Some said → IfAbout (After number lines) at said (line_of said) (about_said said) None
    → Leaves at number (line ∷ lines) None
into number line lines at said blank is h =
    into_by (is_blank line) (After number lines at) (SaysLine (After number lines) number at (record_of line) None) blank
    (subst (λ r. SaysLine (After number lines) number at r None) (sym is) h)

-- ---- before a row

-- a line, where there is one, is not below this
abbrev pub IsFrom : ℕ → Option ℕ → Type 0
IsFrom low None = ⊤
IsFrom low (Some line) = low ≤ line

abbrev pub IsNotBefore : ℕ → Record → Type 0
IsNotBefore low r = IsFrom low (line_of r)

not_le : (a b : ℕ) → b < a → nat_le a b ≡ false
not_le a b h = grind (arith, nat_tests)

not_lt : (a b : ℕ) → b ≤ a → nat_lt a b ≡ false
not_lt a b h = grind (arith, nat_tests)

-- the way to a line goes over the row
goes_over : (line here : ℕ) (row : Row) (rows : List Row) → here < row.line → row.line ≤ line
    → arrive line here [] (row ∷ rows) ≡ arrive line row.line (told_by row) rows
goes_over line here row rows low up = rw (not_le line here (omega (arith, low, up))) (rw (not_lt line row.line up) refl)

abbrev at_row : Row → List Row → At
at_row row rows = record { line = row.line; left = told_by row; rows = rows }

abbrev before_row : ℕ → Row → List Row → At
before_row here row rows = record { line = here; left = []; rows = row ∷ rows }

-- where the lines leave the rows from a row on, they do so from before it
pub early : (here : ℕ) (row : Row) (rows : List Row) (records : List Record) (lines : List (List ℕ)) (number : ℕ) → here < row.line
    → AllByRecursion (IsNotBefore row.line) records → AreReadAs lines records → Leaves (at_row row rows) number lines None
    → Leaves (before_row here row rows) number lines None
early here row rows [] [] number low from read h = h
early here row rows [] (line ∷ lines) number low from read h = absurd read
early here row rows (r ∷ records) [] number low from read h = absurd read
early here row rows (r ∷ records) (line ∷ lines) number low from read h =
    into number line lines (before_row here row rows) r read.0 read.1
    (go r from.0 (out_of number line lines (at_row row rows) r read.0 read.1 h)
    (early here row rows records lines (suc number) low from.1 read.2))
  where
    told : (said : Record) (place : ℕ) (about : About) → row.line ≤ place
        → Arrives (After number lines) said place about (arrive place row.line (told_by row) rows) None
        → Arrives (After number lines) said place about (arrive place here [] (row ∷ rows)) None
    told said place about up h =
        subst (λ a. Arrives (After number lines) said place about a None) (sym (goes_over place here row rows low up)) h

    go : (r : Record) → IsNotBefore row.line r
        → IfAbout (After number lines) (at_row row rows) r (line_of r) (about_said r) None
        → (After number lines (at_row row rows) → After number lines (before_row here row rows))
        → IfAbout (After number lines) (before_row here row rows) r (line_of r) (about_said r) None
    go (says.Request place call provider kind bytes) up h rest =
        told (says.Request place call provider kind bytes) place
        (record { call = call; provider = provider; subject = subject_of kind }) up h
    go (says.Token place call provider token page auto) up h rest =
        told (says.Token place call provider token page auto) place
        (record { call = call; provider = provider; subject = subjects.Token }) up h
    go (says.Answer place call) up h rest = rest h
    go (says.Other place) up h rest = rest h
    go says.End up h rest = rest h
