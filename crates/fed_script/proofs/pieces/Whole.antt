-- The whole lines of bytes, and what is left after them.
use Rattle.std.proofs.Common.{◌≡◌, ◌∙◌, ℕ, ◌≤◌, Bool, true, false, cond, ◌||◌, eqb, List, [], ◌∷◌, ◌++◌, length, refl, ap, arith}
use Rattle.std.proofs.lemmas.List.Folds.{list_any-append}
use Rattle.std.specs.List.{list_any, onto_first}
use Rattle.fed_script.specs.Pieces.{whole_lines, rest_of, onto_whole, onto_rest}
use Rattle.fed_script.specs.Script.{lines_of}
use Rattle.fed_script.proofs.pieces.Cuts.{HasNoLf}
use Rattle.fed_script.proofs.lines.Line.{is_lf}

-- what is left is a line, unless it is nothing
abbrev pub last_line : List ℕ → List (List ℕ)
last_line [] = []
last_line (b ∷ rest) = (b ∷ rest) ∷ []

-- ---- more bytes

-- the whole lines of two parts: those of the first, and those of what it leaves before the second
pub whole_lines-append : (xs ys : List ℕ) → whole_lines (xs ++ ys) ≡ whole_lines xs ++ whole_lines (rest_of xs ++ ys)
whole_lines-append [] ys = refl
whole_lines-append (b ∷ xs) ys = step (eqb b 10) refl (whole_lines xs) (whole_lines-append xs ys)
  where
    step : (ends : Bool) → eqb b 10 ≡ ends → (whole : List (List ℕ)) → whole_lines (xs ++ ys) ≡ whole ++ whole_lines (rest_of xs ++ ys)
        → cond ends ([] ∷ whole_lines (xs ++ ys)) (onto_whole b (whole_lines (xs ++ ys)))
        ≡ cond ends ([] ∷ whole) (onto_whole b whole) ++ whole_lines (cond ends (rest_of xs) (onto_rest b whole (rest_of xs)) ++ ys)
    step true is whole later = ap (λ ls. [] ∷ ls) later
    step false is [] later = rw is (ap (onto_whole b) later)
    step false is (line ∷ lines) later = ap (onto_whole b) later

-- all lines of two parts: the whole ones of the first, and those of what it leaves before the second
pub lines_of-append : (xs ys : List ℕ) → lines_of (xs ++ ys) ≡ whole_lines xs ++ lines_of (rest_of xs ++ ys)
lines_of-append [] ys = refl
lines_of-append (b ∷ xs) ys = step (eqb b 10) refl (whole_lines xs) (lines_of-append xs ys)
  where
    step : (ends : Bool) → eqb b 10 ≡ ends → (whole : List (List ℕ)) → lines_of (xs ++ ys) ≡ whole ++ lines_of (rest_of xs ++ ys)
        → cond ends ([] ∷ lines_of (xs ++ ys)) (onto_first b (lines_of (xs ++ ys)))
        ≡ cond ends ([] ∷ whole) (onto_whole b whole) ++ lines_of (cond ends (rest_of xs) (onto_rest b whole (rest_of xs)) ++ ys)
    step true is whole later = ap (λ ls. [] ∷ ls) later
    step false is [] later = rw is (ap (onto_first b) later)
    step false is (line ∷ lines) later = ap (onto_first b) later

-- what is left with more behind it
pub rest_of-append : (xs ys : List ℕ) → rest_of (xs ++ ys) ≡ rest_of (rest_of xs ++ ys)
rest_of-append [] ys = refl
rest_of-append (b ∷ xs) ys = step (eqb b 10) refl (whole_lines xs) (whole_lines-append xs ys) (rest_of-append xs ys)
  where
    step : (ends : Bool) → eqb b 10 ≡ ends → (whole : List (List ℕ)) → whole_lines (xs ++ ys) ≡ whole ++ whole_lines (rest_of xs ++ ys)
        → rest_of (xs ++ ys) ≡ rest_of (rest_of xs ++ ys)
        → cond ends (rest_of (xs ++ ys)) (onto_rest b (whole_lines (xs ++ ys)) (rest_of (xs ++ ys)))
        ≡ rest_of (cond ends (rest_of xs) (onto_rest b whole (rest_of xs)) ++ ys)
    step true is whole lines later = later
    step false is [] lines later = rw (is, lines, later) refl
    step false is (line ∷ more) lines later = rw lines later

-- ---- all lines

-- all lines are the whole ones and what is left
pub lines_of-pieces : (xs : List ℕ) → lines_of xs ≡ whole_lines xs ++ last_line (rest_of xs)
lines_of-pieces [] = refl
lines_of-pieces (b ∷ xs) = step (eqb b 10) (whole_lines xs) (rest_of xs) (lines_of-pieces xs)
  where
    step : (ends : Bool) (whole : List (List ℕ)) (rest : List ℕ) → lines_of xs ≡ whole ++ last_line rest
        → cond ends ([] ∷ lines_of xs) (onto_first b (lines_of xs))
        ≡ cond ends ([] ∷ whole) (onto_whole b whole) ++ last_line (cond ends rest (onto_rest b whole rest))
    step true whole rest later = ap (λ ls. [] ∷ ls) later
    step false [] [] later = ap (onto_first b) later
    step false [] (r ∷ rest) later = ap (onto_first b) later
    step false (line ∷ lines) rest later = ap (onto_first b) later

-- bytes have at least as many bytes as whole lines
pub length-whole_lines : (xs : List ℕ) → length (whole_lines xs) ≤ length xs
length-whole_lines [] = omega arith
length-whole_lines (b ∷ xs) = step (eqb b 10) (whole_lines xs) (length-whole_lines xs)
  where
    step : (ends : Bool) (whole : List (List ℕ)) → length whole ≤ length xs
        → length (cond ends ([] ∷ whole) (onto_whole b whole)) ≤ length (b ∷ xs)
    step true whole few = omega arith
    step false [] few = omega arith
    step false (line ∷ lines) few = omega arith

-- ---- bytes without an LF

-- what is left has none
pub rest_of-has_none : (xs : List ℕ) → HasNoLf (rest_of xs)
rest_of-has_none [] = refl
rest_of-has_none (b ∷ xs) = step (eqb b 10) refl (whole_lines xs) (rest_of-has_none xs)
  where
    step : (ends : Bool) → eqb b 10 ≡ ends → (whole : List (List ℕ)) → HasNoLf (rest_of xs)
        → HasNoLf (cond ends (rest_of xs) (onto_rest b whole (rest_of xs)))
    step true is whole later = later
    step false is [] later = rw is later
    step false is (line ∷ lines) later = later

-- they have no whole line
pub none_whole : (xs : List ℕ) → HasNoLf xs → (whole_lines xs ≡ []) × (rest_of xs ≡ xs)
none_whole [] none = (refl, refl)
none_whole (b ∷ xs) none = step (eqb b 10) none (none_whole xs)
  where
    step : (ends : Bool) → (ends || list_any is_lf xs) ≡ false → (HasNoLf xs → (whole_lines xs ≡ []) × (rest_of xs ≡ xs))
        → (cond ends ([] ∷ whole_lines xs) (onto_whole b (whole_lines xs)) ≡ [])
        × (cond ends (rest_of xs) (onto_rest b (whole_lines xs) (rest_of xs)) ≡ b ∷ xs)
    step true any later = cc
    step false any later = let h = later any in rw (h.0, h.1) (refl, refl)

-- with an LF behind them they are one
pub one_whole : (xs : List ℕ) → HasNoLf xs → (whole_lines (xs ++ 10 ∷ []) ≡ xs ∷ []) × (rest_of (xs ++ 10 ∷ []) ≡ [])
one_whole [] none = (refl, refl)
one_whole (b ∷ xs) none = step (eqb b 10) none (one_whole xs)
  where
    step : (ends : Bool) → (ends || list_any is_lf xs) ≡ false
        → (HasNoLf xs → (whole_lines (xs ++ 10 ∷ []) ≡ xs ∷ []) × (rest_of (xs ++ 10 ∷ []) ≡ []))
        → (cond ends ([] ∷ whole_lines (xs ++ 10 ∷ [])) (onto_whole b (whole_lines (xs ++ 10 ∷ []))) ≡ (b ∷ xs) ∷ [])
        × (cond ends (rest_of (xs ++ 10 ∷ [])) (onto_rest b (whole_lines (xs ++ 10 ∷ [])) (rest_of (xs ++ 10 ∷ []))) ≡ [])
    step true any later = cc
    step false any later = let h = later any in rw (h.0, h.1) (refl, refl)

pub none_append : (xs ys : List ℕ) → HasNoLf xs → HasNoLf ys → HasNoLf (xs ++ ys)
none_append xs ys first second = list_any-append is_lf xs ys ∙ rw (first, second) refl
