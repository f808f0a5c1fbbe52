-- Lines that are read one after the other.
use Rattle.std.proofs.Common.{◌≡◌, ℕ, ◌+◌, ◌≤◌, Bool, true, false, cond, List, [], ◌∷◌, ◌++◌, length, refl, sym, ap, arith}
use Rattle.fed_script.specs.Pieces.{whole_lines}
use Rattle.fed_script.specs.Reader.{Phase, fresh, read_as, phase_after, lines_read, phase_past}
use Rattle.fed_script.proofs.pieces.Whole.{length-whole_lines}

-- after a bad line nothing more is read
pub lines_read-over : (phase : Phase) (lines : List (List ℕ)) → phase.over ≡ true → lines_read phase lines ≡ []
lines_read-over phase [] over = refl
lines_read-over phase (line ∷ lines) over = rw over refl

pub phase_past-over : (phase : Phase) (lines : List (List ℕ)) → phase.over ≡ true → phase_past phase lines ≡ phase
phase_past-over phase [] over = refl
phase_past-over phase (line ∷ lines) over = rw over refl

-- further lines
pub lines_read-append : (phase : Phase) (xs ys : List (List ℕ))
    → lines_read phase (xs ++ ys) ≡ lines_read phase xs ++ lines_read (phase_past phase xs) ys
lines_read-append phase [] ys = refl
lines_read-append phase (x ∷ xs) ys = step phase.over refl (lines_read-append (phase_after phase (read_as phase x)) xs ys)
  where
    step : (over : Bool) → phase.over ≡ over
        → lines_read (phase_after phase (read_as phase x)) (xs ++ ys)
        ≡ lines_read (phase_after phase (read_as phase x)) xs ++ lines_read (phase_past (phase_after phase (read_as phase x)) xs) ys
        → cond over [] (read_as phase x ∷ lines_read (phase_after phase (read_as phase x)) (xs ++ ys))
        ≡ cond over [] (read_as phase x ∷ lines_read (phase_after phase (read_as phase x)) xs)
        ++ lines_read (cond over phase (phase_past (phase_after phase (read_as phase x)) xs)) ys
    step true is later = sym (lines_read-over phase ys is)
    step false is later = ap (λ ls. read_as phase x ∷ ls) later

pub phase_past-append : (phase : Phase) (xs ys : List (List ℕ)) → phase_past phase (xs ++ ys) ≡ phase_past (phase_past phase xs) ys
phase_past-append phase [] ys = refl
phase_past-append phase (x ∷ xs) ys = step phase.over refl (phase_past-append (phase_after phase (read_as phase x)) xs ys)
  where
    step : (over : Bool) → phase.over ≡ over
        → phase_past (phase_after phase (read_as phase x)) (xs ++ ys)
        ≡ phase_past (phase_past (phase_after phase (read_as phase x)) xs) ys
        → cond over phase (phase_past (phase_after phase (read_as phase x)) (xs ++ ys))
        ≡ phase_past (cond over phase (phase_past (phase_after phase (read_as phase x)) xs)) ys
    step true is later = sym (phase_past-over phase ys is)
    step false is later = later

-- ---- numbers

-- the number grows
pub number-grows : (phase : Phase) (lines : List (List ℕ)) → phase.number ≤ (phase_past phase lines).number
number-grows phase [] = omega arith
number-grows phase (line ∷ lines) = step phase.over (number-grows (phase_after phase (read_as phase line)) lines)
  where
    step : (over : Bool) → phase.number + 1 ≤ (phase_past (phase_after phase (read_as phase line)) lines).number
        → phase.number ≤ (cond over phase (phase_past (phase_after phase (read_as phase line)) lines)).number
    step true later = omega arith
    step false later = omega arith

-- by one a line
number-few : (phase : Phase) (lines : List (List ℕ)) → (phase_past phase lines).number ≤ phase.number + length lines
number-few phase [] = omega arith
number-few phase (line ∷ lines) = step phase.over (number-few (phase_after phase (read_as phase line)) lines)
  where
    step : (over : Bool) → (phase_past (phase_after phase (read_as phase line)) lines).number ≤ phase.number + 1 + length lines
        → (cond over phase (phase_past (phase_after phase (read_as phase line)) lines)).number ≤ phase.number + length (line ∷ lines)
    step true later = omega arith
    step false later = omega arith

-- where no line was read there was none
pub no_lines : (lines : List (List ℕ)) → (phase_past fresh lines).number ≡ 1 → lines ≡ []
no_lines [] is = refl
no_lines (line ∷ lines) is = absurd (let h = number-grows (phase_after fresh (read_as fresh line)) lines in omega (arith, h, is))

-- the next line of bytes has at most the number after as many as there are bytes
pub number-le : (bytes : List ℕ) → (phase_past fresh (whole_lines bytes)).number ≤ length bytes + 1
number-le bytes = omega (arith, number-few fresh (whole_lines bytes), length-whole_lines bytes)
