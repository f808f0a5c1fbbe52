-- The last line.
use Rattle.std.proofs.Common.{◌≡◌, ◌∙◌, ℕ, true, false, ltb, eqb, List, [], ◌∷◌, ◌++◌, length, refl, ap, sym, rules}
use Rattle.std.proofs.Common.{append-nil, eqb-true, eq-eqb}
use Rattle.fed_script.specs.Pieces.{whole_lines, rest_of}
use Rattle.fed_script.specs.Script.{lines_of}
use Rattle.fed_script.specs.Reader.{Phase, fresh, read_as, lines_read, phase_past, ended_lines, all_lines, script_lines}
use Rattle.fed_script.specs.Reader.{ReaderParts, HasRead, Finishes}
use Rattle.fed_script.specs.declared.cause.LineCause.TheVariants.{NotJson}
use Rattle.fed_script.specs.declared.event.Line.{Line}
use Rattle.fed_script.specs.declared.event.Line.TheVariants as found
use Rattle.fed_script.proofs.pieces.Whole.{last_line, lines_of-pieces}
use Rattle.fed_script.proofs.pieces.Phases.{lines_read-over, lines_read-append, no_lines}

-- lines are read from the first on, where there are some
script_lines-some : (line : List ℕ) (xs ys : List (List ℕ)) → script_lines (xs ++ line ∷ ys) ≡ lines_read fresh (xs ++ line ∷ ys)
script_lines-some line [] ys = refl
script_lines-some line (x ∷ xs) ys = refl

-- after a bad line
pub finishes_over : (reader : ReaderParts) → reader.phase.over ≡ true → Finishes reader []
finishes_over reader over bytes h = by (whole_lines bytes) refl (ap (λ (p : Phase). p.over) (sym h.phase) ∙ over)
  where
    by : (whole : List (List ℕ)) → whole_lines bytes ≡ whole → (phase_past fresh whole).over ≡ true
        → all_lines bytes ≡ lines_read fresh whole ++ []
    by [] is at = absurd (cc)
    by (line ∷ lines) is at =
        let more = last_line (rest_of bytes) in
        ap script_lines (lines_of-pieces bytes ∙ ap (λ ls. ls ++ more) is)
        ∙ lines_read-append fresh (line ∷ lines) more
        ∙ ap (λ ls. lines_read fresh (line ∷ lines) ++ ls) (lines_read-over (phase_past fresh (line ∷ lines)) more at)

-- bytes are kept
finishes_with : (reader : ReaderParts) (line : Line) (b : ℕ) (rest : List ℕ) → reader.rest ≡ b ∷ rest → reader.phase.over ≡ false
    → line ≡ read_as reader.phase reader.rest → Finishes reader (line ∷ [])
finishes_with reader line b rest is going reads bytes h =
    let same : rest_of bytes ≡ b ∷ rest = sym (h.rest going) ∙ is in
    let lines : lines_of bytes ≡ whole_lines bytes ++ (b ∷ rest) ∷ [] =
    lines_of-pieces bytes ∙ ap (λ r. whole_lines bytes ++ last_line r) same in
    let one : lines_read reader.phase ((b ∷ rest) ∷ []) ≡ line ∷ [] = rw (going, reads, is) refl in
    ap script_lines lines
    ∙ script_lines-some (b ∷ rest) (whole_lines bytes) []
    ∙ lines_read-append fresh (whole_lines bytes) ((b ∷ rest) ∷ [])
    ∙ ap (λ ls. ended_lines bytes ++ ls) (ap (λ p. lines_read p ((b ∷ rest) ∷ [])) (sym h.phase) ∙ one)

pub finishes_line : (reader : ReaderParts) (line : Line) (rest : List ℕ) → reader.rest ≡ rest → ltb 0 (length rest) ≡ true
    → reader.phase.over ≡ false → line ≡ read_as reader.phase reader.rest → Finishes reader (line ∷ [])
finishes_line reader line [] is some going reads = absurd (search (some, rules))
finishes_line reader line (b ∷ rest) is some going reads = finishes_with reader line b rest is going reads

nothing : (rest : List ℕ) → ltb 0 (length rest) ≡ false → rest ≡ []
nothing [] none = refl
nothing (b ∷ rest) none = absurd (search (none, rules))

-- no byte is kept, so all lines are whole
ends_whole : (reader : ReaderParts) (bytes : List ℕ) → HasRead reader bytes → ltb 0 (length reader.rest) ≡ false
    → reader.phase.over ≡ false → lines_of bytes ≡ whole_lines bytes
ends_whole reader bytes h none going =
    lines_of-pieces bytes
    ∙ ap (λ r. whole_lines bytes ++ last_line r) (sym (h.rest going) ∙ nothing reader.rest none)
    ∙ append-nil (whole_lines bytes)

-- no byte at all
pub finishes_empty : (reader : ReaderParts) → ltb 0 (length reader.rest) ≡ false → reader.phase.over ≡ false
    → eqb reader.phase.number 1 ≡ true → Finishes reader (found.Bad 1 NotJson ∷ [])
finishes_empty reader none going first bytes h =
    let whole : whole_lines bytes ≡ [] = no_lines (whole_lines bytes) (ap (λ (p : Phase). p.number) (sym h.phase) ∙ eqb-true _ _ first) in
    ap script_lines (ends_whole reader bytes h none going ∙ whole) ∙ sym (ap (λ ls. lines_read fresh ls ++ found.Bad 1 NotJson ∷ []) whole)

-- the last line ended with LF
pub finishes_ended : (reader : ReaderParts) → ltb 0 (length reader.rest) ≡ false → reader.phase.over ≡ false
    → eqb reader.phase.number 1 ≡ false → Finishes reader []
finishes_ended reader none going later bytes h =
    ap script_lines (ends_whole reader bytes h none going) ∙ some (whole_lines bytes) never ∙ sym (append-nil (ended_lines bytes))
  where
    never : whole_lines bytes ≡ [] → ⊥
    never is =
        let at : reader.phase.number ≡ 1 = ap (λ (p : Phase). p.number) h.phase ∙ ap (λ ls. (phase_past fresh ls).number) is in
        absurd (search (sym (eq-eqb _ _ at) ∙ later, rules))

    some : (whole : List (List ℕ)) → (whole ≡ [] → ⊥) → script_lines whole ≡ lines_read fresh whole
    some [] never = absurd (never refl)
    some (line ∷ lines) never = refl
