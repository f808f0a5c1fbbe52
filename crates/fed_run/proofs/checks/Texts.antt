-- The texts of what is found.
use Rattle.std.proofs.Common.{◌≡◌, ◌∙◌, ℕ, ◌+◌, ◌≤◌, ◌<◌, List, [], ◌∷◌, ◌++◌, length, drop, get_or, refl, ap, sym, subst}
use Rattle.std.proofs.Common.{append_assoc, append-nil, ◌||◌}
use Rattle.std.proofs.lemmas.List.{drop_more, drop_all}
use Rattle.std.proofs.lemmas.List.Folds.{list_any-append}
use Rattle.fed_io.specs.Io.{IsPrefixOf}
use Rattle.fed_script.specs.Pieces.{whole_lines, rest_of}
use Rattle.fed_script.specs.Script.{lines_of}
use Rattle.fed_script.proofs.pieces.Whole.{whole_lines-append, lines_of-append}
use Rattle.fed_check.specs.declared.finding.Finding.{Finding}
use Rattle.fed_check.specs.declared.stage.Stage.TheVariants.{Head}
use Rattle.fed_check.specs.Check.{found_in_lines, found_in_script, findings, ended_findings, is_bad, has_bad}
use Rattle.fed_check.specs.Stage.{stage_past}
use Rattle.fed_check.proofs.checks.Lines.{found_by, found_in_lines-append}
use Rattle.fed_print.specs.Lines.{line_of}
use Rattle.fed_run.specs.Checks.{finding_members, findings_text, checked_text, check_text}

pub findings_text-append : (xs ys : List Finding) → findings_text (xs ++ ys) ≡ findings_text xs ++ findings_text ys
findings_text-append [] ys = refl
findings_text-append (x ∷ xs) ys =
    ap (λ t. line_of (finding_members x) ++ t) (findings_text-append xs ys)
    ∙ sym (append_assoc (line_of (finding_members x)) (findings_text xs) (findings_text ys))

pub has_bad-append : (xs ys : List Finding) → has_bad (xs ++ ys) ≡ (has_bad xs || has_bad ys)
has_bad-append xs ys = list_any-append is_bad xs ys

-- ---- one line after another

pub text_next : (before : List ℕ) (found : List Finding) (i : ℕ) (d : Finding) → i < length found
    → before ++ findings_text (drop i found)
    ≡ (before ++ line_of (finding_members (get_or found i d))) ++ findings_text (drop (i + 1) found)
text_next before found i d within =
    ap (λ l. before ++ findings_text l) (drop_more found i d within)
    ∙ sym (append_assoc before (line_of (finding_members (get_or found i d))) (findings_text (drop (i + 1) found)))

pub text_none : (before : List ℕ) (found : List Finding) (i : ℕ) → length found ≤ i → before ++ findings_text (drop i found) ≡ before
text_none before found i past = ap (λ l. before ++ findings_text l) (drop_all i found past) ∙ append-nil before

-- ---- fronts

-- what is found in the lines of more bytes begins with what is found in those of fewer
pub ended_more : (xs ys : List ℕ) → (more : List Finding) × (ended_findings (xs ++ ys) ≡ ended_findings xs ++ more)
ended_more xs ys =
    let further = whole_lines (rest_of xs ++ ys) in (
      found_by (stage_past Head (whole_lines xs)) further,
      ap found_in_lines (whole_lines-append xs ys) ∙ found_in_lines-append (whole_lines xs) further,
    )

pub checked-append : (xs ys : List ℕ) → IsPrefixOf (checked_text xs) (checked_text (xs ++ ys))
checked-append xs ys =
    let more = ended_more xs ys in
    (findings_text more.0, sym (ap findings_text more.1 ∙ findings_text-append (ended_findings xs) more.0))

pub checked-prefix : (xs ys : List ℕ) → IsPrefixOf xs ys → IsPrefixOf (checked_text xs) (checked_text ys)
checked-prefix xs ys front = subst (λ l. IsPrefixOf (checked_text xs) (checked_text l)) front.1 (checked-append xs front.0)

-- what is found in a script begins with what is found in the lines that end in a front of it
script_more : (whole more : List (List ℕ)) → (further : List Finding)
    × (found_in_script (whole ++ more) ≡ found_in_lines whole ++ further)
script_more [] more = (found_in_script more, refl)
script_more (line ∷ whole) more =
    (found_by (stage_past Head (line ∷ whole)) more, found_in_lines-append (line ∷ whole) more)

pub whole_more : (xs ys : List ℕ) → (more : List Finding) × (findings (xs ++ ys) ≡ ended_findings xs ++ more)
whole_more xs ys =
    let further = script_more (whole_lines xs) (lines_of (rest_of xs ++ ys)) in
    (further.0, ap found_in_script (lines_of-append xs ys) ∙ further.1)

pub checked-whole : (xs ys : List ℕ) → IsPrefixOf (checked_text xs) (check_text (xs ++ ys))
checked-whole xs ys =
    let more = whole_more xs ys in
    (findings_text more.0, sym (ap findings_text more.1 ∙ findings_text-append (ended_findings xs) more.0))

pub checked-all : (xs : List ℕ) → IsPrefixOf (checked_text xs) (check_text xs)
checked-all xs = subst (λ l. IsPrefixOf (checked_text xs) (check_text l)) (append-nil xs) (checked-whole xs [])
