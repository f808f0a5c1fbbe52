-- Lines that are checked one after the other.
use Rattle.std.proofs.Common.{◌≡◌, ◌∙◌, ℕ, ◌+◌, ◌≤◌, Bool, true, false, cond, List, [], ◌∷◌, ◌++◌, length, refl, ap, sym, arith}
use Rattle.std.proofs.Common.{append_assoc}
use Rattle.std.specs.Prelude.{Result, Ok, Err}
use Rattle.fed_script.specs.declared.cause.LineCause.{LineCause}
use Rattle.fed_script.specs.declared.event.Header.{Header}
use Rattle.fed_script.specs.Line.{header_of, event_of}
use Rattle.fed_script.specs.Pieces.{whole_lines}
use Rattle.fed_script.specs.Script.{is_blank}
use Rattle.fed_script.specs.Used.{UsedState, unused}
use Rattle.fed_script.proofs.pieces.Whole.{length-whole_lines}
use Rattle.fed_check.specs.declared.finding.Finding.{Finding}
use Rattle.fed_check.specs.declared.stage.Stage.{Stage}
use Rattle.fed_check.specs.declared.stage.Stage.TheVariants.{Head, Events, Over}
use Rattle.fed_check.specs.Check.{found_in_header, found_in_event, used_past, found_from, found_after, found_in_lines}
use Rattle.fed_check.specs.Stage.{found_at, stage_after, used_by, stage_past, after_header, is_head, IsFew}

-- what is found in lines one after the other
abbrev pub found_by : Stage → List (List ℕ) → List Finding
found_by stage [] = []
found_by stage (line ∷ lines) = found_at stage line ++ found_by (stage_after stage line) lines

-- ---- the definition is what is found one after the other

from_same : (used : UsedState) (n : ℕ) (lines : List (List ℕ)) → found_by (Events n used) lines ≡ found_from used n lines
from_same used n [] = refl
from_same used n (line ∷ lines) =
    step (is_blank line) (from_same used (n + 1) lines) (from_same (used_past (event_of line used) used) (n + 1) lines)
  where
    step : (blank : Bool)
        → found_by (Events (n + 1) used) lines ≡ found_from used (n + 1) lines
        → found_by (Events (n + 1) (used_past (event_of line used) used)) lines
        ≡ found_from (used_past (event_of line used) used) (n + 1) lines
        → cond blank [] (found_in_event n line (event_of line used))
        ++ found_by (Events (n + 1) (cond blank used (used_past (event_of line used) used))) lines
        ≡ cond blank (found_from used (n + 1) lines)
        (found_in_event n line (event_of line used) ++ found_from (used_past (event_of line used) used) (n + 1) lines)
    step true same after = same
    step false same after = ap (λ l. found_in_event n line (event_of line used) ++ l) after

over_none : (lines : List (List ℕ)) → found_by Over lines ≡ []
over_none [] = refl
over_none (line ∷ lines) = over_none lines

after_same : (read : Result Header LineCause) (lines : List (List ℕ))
    → found_by (after_header read) lines ≡ found_after read lines
after_same (Ok header) lines = from_same (unused header.now) 2 lines
after_same (Err cause) lines = over_none lines

pub lines_same : (lines : List (List ℕ)) → found_by Head lines ≡ found_in_lines lines
lines_same [] = refl
lines_same (line ∷ lines) = ap (λ l. found_in_header line (header_of line) ++ l) (after_same (header_of line) lines)

-- ---- further lines

pub found_by-append : (stage : Stage) (xs ys : List (List ℕ))
    → found_by stage (xs ++ ys) ≡ found_by stage xs ++ found_by (stage_past stage xs) ys
found_by-append stage [] ys = refl
found_by-append stage (x ∷ xs) ys =
    ap (λ l. found_at stage x ++ l) (found_by-append (stage_after stage x) xs ys)
    ∙ sym (append_assoc (found_at stage x) (found_by (stage_after stage x) xs) (found_by (stage_past (stage_after stage x) xs) ys))

pub stage_past-append : (stage : Stage) (xs ys : List (List ℕ)) → stage_past stage (xs ++ ys) ≡ stage_past (stage_past stage xs) ys
stage_past-append stage [] ys = refl
stage_past-append stage (x ∷ xs) ys = stage_past-append (stage_after stage x) xs ys

-- what is found in lines, and then in further ones
pub found_in_lines-append : (xs ys : List (List ℕ)) → found_in_lines (xs ++ ys) ≡ found_in_lines xs ++ found_by (stage_past Head xs) ys
found_in_lines-append xs ys =
    sym (lines_same (xs ++ ys)) ∙ found_by-append Head xs ys ∙ ap (λ l. l ++ found_by (stage_past Head xs) ys) (lines_same xs)

-- ---- where the check stands

abbrev number : Stage → ℕ
number Head = 1
number (Events n used) = n
number Over = 1

after-few : (read : Result Header LineCause) → number (after_header read) ≤ 2
after-few (Ok header) = omega arith
after-few (Err cause) = omega arith

one-few : (stage : Stage) (line : List ℕ) → number (stage_after stage line) ≤ number stage + 1
one-few Head line = after-few (header_of line)
one-few (Events n used) line = omega arith
one-few Over line = omega arith

number-few : (stage : Stage) (lines : List (List ℕ)) → number (stage_past stage lines) ≤ number stage + length lines
number-few stage [] = omega arith
number-few stage (line ∷ lines) = omega (arith, one-few stage line, number-few (stage_after stage line) lines)

few-by : (stage : Stage) → number stage ≤ 67108867 → IsFew stage
few-by Head few = tt
few-by (Events n used) few = omega arith
few-by Over few = tt

-- the number of the next line is small
pub few_lines : (bytes : List ℕ) → length bytes ≤ 67108865 → IsFew (stage_past Head (whole_lines bytes))
few_lines bytes few =
    few-by (stage_past Head (whole_lines bytes)) (omega (arith, number-few Head (whole_lines bytes), length-whole_lines bytes, few))

-- ---- the first line

never_after : (stage : Stage) (lines : List (List ℕ)) → is_head stage ≡ false → is_head (stage_past stage lines) ≡ false
never_after stage [] none = none
never_after Head (line ∷ lines) none = absurd (cc)
never_after (Events n used) (line ∷ lines) none = never_after (Events (n + 1) (used_by line used)) lines refl
never_after Over (line ∷ lines) none = never_after Over lines refl

begun : (read : Result Header LineCause) → is_head (after_header read) ≡ false
begun (Ok header) = refl
begun (Err cause) = refl

-- where the check stands before the first line, there was none
pub no_lines : (lines : List (List ℕ)) → is_head (stage_past Head lines) ≡ true → lines ≡ []
no_lines [] is = refl
no_lines (line ∷ lines) is =
    absurd (let h : true ≡ false = sym is ∙ never_after (after_header (header_of line)) lines (begun (header_of line)) in cc)
