-- How many lines of a transcript are not blank.
use Rattle.std.proofs.Common.{◌≡◌, ◌∙◌, ℕ, ◌+◌, ◌≤◌, Bool, true, false, cond, not, List, [], ◌∷◌, length, None, ap, arith, count_by}
use Rattle.std.proofs.lemmas.List.Sums.{sum_by-cons}
use Rattle.fed_script.specs.Script.{first_line, is_blank, lines_of}
use Rattle.fed_script.proofs.halves.Further.{no_line}
use Rattle.fed_script.proofs.scripts.Stop.{length-lines_of}

abbrev stands : List ℕ → Bool
stands line = not (is_blank line)

cons : (line : List ℕ) (lines : List (List ℕ)) → count_by stands (line ∷ lines) ≡ cond (stands line) 1 0 + count_by stands lines
cons line lines = sum_by-cons (λ l. cond (stands l) 1 0) line lines

few : (lines : List (List ℕ)) → count_by stands lines ≤ length lines
few [] = omega arith
few (line ∷ lines) = by (stands line) (cons line lines) (few lines)
  where
    by : (b : Bool) → count_by stands (line ∷ lines) ≡ cond b 1 0 + count_by stands lines → count_by stands lines ≤ length lines
        → count_by stands (line ∷ lines) ≤ length (line ∷ lines)
    by true is less = omega (arith, is, less)
    by false is less = omega (arith, is, less)

-- a blank line is not counted
pub passed_over : (rest line after : List ℕ) (count all : ℕ) → lines_of rest ≡ line ∷ lines_of after → is_blank line ≡ true
    → count + count_by stands (lines_of rest) ≡ all → count + count_by stands (lines_of after) ≡ all
passed_over rest line after count all lines blank so =
    let here : count_by stands (lines_of rest) ≡ 0 + count_by stands (lines_of after) =
    ap (count_by stands) lines ∙ cons line (lines_of after) ∙ ap (λ b. cond (not b) 1 0 + count_by stands (lines_of after)) blank in
    omega (arith, so, here)

one_more : (rest line after : List ℕ) → lines_of rest ≡ line ∷ lines_of after → is_blank line ≡ false
    → count_by stands (lines_of rest) ≡ 1 + count_by stands (lines_of after)
one_more rest line after lines other =
    ap (count_by stands) lines ∙ cons line (lines_of after) ∙ ap (λ b. cond (not b) 1 0 + count_by stands (lines_of after)) other

-- another is
pub counted : (rest line after : List ℕ) (count all : ℕ) → lines_of rest ≡ line ∷ lines_of after → is_blank line ≡ false
    → count + count_by stands (lines_of rest) ≡ all → (count + 1) + count_by stands (lines_of after) ≡ all
counted rest line after count all lines other so = omega (arith, so, one_more rest line after lines other)

-- and there is room for it
pub is_below : (text rest line after : List ℕ) (count : ℕ) → lines_of rest ≡ line ∷ lines_of after → is_blank line ≡ false
    → count + count_by stands (lines_of rest) ≡ count_by stands (lines_of text) → count + 1 ≤ length text
is_below text rest line after count lines other so =
    omega (arith, so, one_more rest line after lines other, few (lines_of text), length-lines_of text)

-- at the end all are counted
pub counted_all : (rest : List ℕ) (count all : ℕ) → first_line rest ≡ None → count + count_by stands (lines_of rest) ≡ all → count ≡ all
counted_all rest count all last so =
    let none : count_by stands (lines_of rest) ≡ 0 = ap (count_by stands) (no_line rest last) in omega (arith, so, none)
