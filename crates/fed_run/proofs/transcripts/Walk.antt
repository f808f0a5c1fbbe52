-- A walk over the lines of bytes, up to the dividing line.
use Rattle.std.proofs.Common.{◌≡◌, ◌∙◌, ℕ, ◌-◌, ◌++◌, ◌∷◌, true, false, cond, List, length, take, None, sym, ap, append-nil}
use Rattle.std.specs.List.{list_any, before_first, after_first}
use Rattle.fed_script.specs.Script.{first_line, lines_of}
use Rattle.fed_script.proofs.halves.Further.{no_line}
use Rattle.fed_script.proofs.lines.Walk.{Walked, front_is, divided, halved}
use Rattle.fed_run.specs.Recorded.{halves_of, is_divider}

-- at a dividing line: the bytes on its two sides
pub walk_divides : (bytes rest line after first : List ℕ) (before : ℕ)
    → Walked is_divider bytes rest before → lines_of rest ≡ line ∷ lines_of after → is_divider line ≡ true
    → first ≡ take (length bytes - length rest) bytes
    → halved (lines_of first) (lines_of after) ≡ halves_of (lines_of bytes)
walk_divides bytes rest line after first before so lines passes is =
    let same : first ≡ so.front = is ∙ front_is so.front rest bytes so.whole in
    let all : lines_of bytes ≡ lines_of so.front ++ line ∷ lines_of after = so.lines ∙ ap (λ ls. lines_of so.front ++ ls) lines in
    ap (λ f. halved (lines_of f) (lines_of after)) same
    ∙ sym (divided is_divider (lines_of so.front) (lines_of after) line so.none passes)
    ∙ ap halves_of (sym all)

-- the number of the lines before it
pub walk_counts : (bytes rest first : List ℕ) (before : ℕ) → Walked is_divider bytes rest before
    → first ≡ take (length bytes - length rest) bytes → before ≡ length (lines_of first)
walk_counts bytes rest first before so is =
    so.count ∙ ap (λ f. length (lines_of f)) (sym (is ∙ front_is so.front rest bytes so.whole))

-- at the end the walk has gone over all lines
walk_ends : (bytes rest : List ℕ) (before : ℕ) → (so : Walked is_divider bytes rest before) → first_line rest ≡ None
    → lines_of bytes ≡ lines_of so.front
walk_ends bytes rest before so last =
    so.lines ∙ ap (λ ls. lines_of so.front ++ ls) (no_line rest last) ∙ append-nil (lines_of so.front)

-- so no line divides
pub walk_undivided : (bytes rest : List ℕ) (before : ℕ) → Walked is_divider bytes rest before → first_line rest ≡ None
    → None ≡ halves_of (lines_of bytes)
walk_undivided bytes rest before so last =
    let none : list_any is_divider (lines_of bytes) ≡ false = ap (list_any is_divider) (walk_ends bytes rest before so last) ∙ so.none in
    sym (ap (λ b. cond b (halved (before_first is_divider (lines_of bytes)) (after_first is_divider (lines_of bytes))) None) none)

-- and they are all counted
pub walk_counts_all : (bytes rest : List ℕ) (before : ℕ) → Walked is_divider bytes rest before → first_line rest ≡ None
    → before ≡ length (lines_of bytes)
walk_counts_all bytes rest before so last = so.count ∙ ap length (sym (walk_ends bytes rest before so last))
