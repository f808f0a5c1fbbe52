-- A walk over the lines of bytes, up to one that passes a test.
use Rattle.std.proofs.Common.{◌≡◌, ◌∙◌, ℕ, ◌+◌, ◌-◌, ◌<◌, ◌≤◌, Bool, true, false, cond, ◌||◌, not, ltb, List}
use Rattle.std.proofs.Common.{[], ◌∷◌, ◌++◌, length, get_or, take, drop, Option, Some, None, refl, sym, ap, subst}
use Rattle.std.proofs.Common.{arith, append_assoc, append-nil, length-append, ltb-true, ltb-false, eqb-true}
use Rattle.std.proofs.Math.Seq.{take-append_seam, drop-append-add}
use Rattle.std.proofs.lemmas.List.{drop_all}
use Rattle.std.proofs.lemmas.List.Folds.{list_any-append}
use Rattle.std.proofs.lemmas.List.Sums.{split_at_first, passes_at_first}
use Rattle.std.specs.List.{list_any, before_first, after_first, position_or_len}
use Rattle.fed_script.specs.Pair.{Halves, halves_of, is_divider}
use Rattle.fed_script.specs.Script.{first_line, lines_of}
use Rattle.fed_script.proofs.halves.Further.{no_line}
use Rattle.fed_script.proofs.lines.Line.{is_lf, none_before, lines_of-first, lines_of-line}

-- ---- the first line

-- the bytes of a line, with its LF if it has one, and the bytes after it
pub record Cut (rest line after : List ℕ) : Type 0 where
  pub piece : List ℕ
  pub whole : rest ≡ piece ++ after
  pub only : lines_of piece ≡ line ∷ []
  pub ends : 0 < length after → (more : List ℕ) → lines_of (piece ++ more) ≡ line ∷ lines_of more

-- at an LF
cut_at : (rest line after : List ℕ) → rest ≡ line ++ 10 ∷ after → list_any is_lf line ≡ false → Cut rest line after
cut_at rest line after whole none = record {
  piece = line ++ 10 ∷ [];
  whole = whole ∙ sym (append_assoc line (10 ∷ []) after);
  only = lines_of-line line [] none;
  ends = λ some more. ap lines_of (append_assoc line (10 ∷ []) more) ∙ lines_of-line line more none;
}

-- at the end
cut_all : (rest line after : List ℕ) → after ≡ [] → lines_of rest ≡ line ∷ lines_of after → Cut rest line after
cut_all rest line after none lines = record {
  piece = rest;
  whole = sym (ap (λ more. rest ++ more) none ∙ append-nil rest);
  only = lines ∙ ap (λ more. line ∷ lines_of more) none;
  ends = λ some more. absurd (omega (arith, some, ap length none));
}

-- bytes that are there are cut after their first line
cut_of : (b : ℕ) (bytes : List ℕ) (found : Bool) → ltb (position_or_len is_lf (b ∷ bytes)) (length (b ∷ bytes)) ≡ found
    → Cut (b ∷ bytes) (before_first is_lf (b ∷ bytes)) (after_first is_lf (b ∷ bytes))
cut_of b bytes true test =
    let within : position_or_len is_lf (b ∷ bytes) < length (b ∷ bytes) = ltb-true _ _ test in
    let lf : get_or (b ∷ bytes) (position_or_len is_lf (b ∷ bytes)) 0 ≡ 10 = eqb-true _ _ (passes_at_first is_lf (b ∷ bytes) 0 within) in
    cut_at (b ∷ bytes) (before_first is_lf (b ∷ bytes)) (after_first is_lf (b ∷ bytes))
    (split_at_first is_lf (b ∷ bytes) 0 within ∙ ap (λ x. before_first is_lf (b ∷ bytes) ++ x ∷ after_first is_lf (b ∷ bytes)) lf)
    (none_before is_lf (b ∷ bytes))
cut_of b bytes false test =
    let past : length (b ∷ bytes) ≤ position_or_len is_lf (b ∷ bytes) = ltb-false _ _ test in
    cut_all (b ∷ bytes) (before_first is_lf (b ∷ bytes)) (after_first is_lf (b ∷ bytes))
    (drop_all (position_or_len is_lf (b ∷ bytes) + 1) (b ∷ bytes) (omega arith))
    (lines_of-first b bytes)

cut_first : (rest line after : List ℕ) → Some (line, after) ≡ first_line rest → Cut rest line after
cut_first [] line after is = absurd (cc)
cut_first (b ∷ bytes) line after is =
    let same : ◌≡◌ {A = List ℕ × List ℕ} (line, after) (before_first is_lf (b ∷ bytes), after_first is_lf (b ∷ bytes)) = cc in
    subst (λ (q : List ℕ × List ℕ). Cut (b ∷ bytes) q.0 q.1) (sym same) (cut_of b bytes _ refl)

-- ---- the lines so far

-- a line begins after these bytes, so that the lines of more bytes follow theirs
abbrev pub EndsLine : List ℕ → Type 0
EndsLine front = (more : List ℕ) → lines_of (front ++ more) ≡ lines_of front ++ lines_of more

-- of some bytes a rest is left after so many lines, of which none passes the test
pub record Walked (p : List ℕ → Bool) (bytes rest : List ℕ) (before : ℕ) : Type 0 where
  pub front : List ℕ
  pub whole : bytes ≡ front ++ rest
  pub ends : 0 < length rest → EndsLine front
  pub lines : lines_of bytes ≡ lines_of front ++ lines_of rest
  pub none : list_any p (lines_of front) ≡ false
  pub count : before ≡ length (lines_of front)
  pub few : before + length rest ≤ length bytes

pub walk_begins : (p : List ℕ → Bool) (bytes : List ℕ) → Walked p bytes bytes 0
walk_begins p bytes = record {
  front = [];
  whole = refl;
  ends = λ some more. refl;
  lines = refl;
  none = refl;
  count = refl;
  few = omega arith;
}

-- one line more
pub walks_on : (p : List ℕ → Bool) (bytes rest line after : List ℕ) (before : ℕ)
    → Walked p bytes rest before → Some (line, after) ≡ first_line rest → lines_of rest ≡ line ∷ lines_of after → length after < length rest
    → p line ≡ false
    → Walked p bytes after (before + 1)
walks_on p bytes rest line after before so first lines shorter fails = by (cut_first rest line after first)
  where
    by : Cut rest line after → Walked p bytes after (before + 1)
    by cut =
        let some : 0 < length rest = omega arith in
        let here : lines_of (so.front ++ cut.piece) ≡ lines_of so.front ++ line ∷ [] =
        so.ends some cut.piece ∙ ap (λ ls. lines_of so.front ++ ls) cut.only in
        record {
          front = so.front ++ cut.piece;
          whole = so.whole ∙ ap (λ r. so.front ++ r) cut.whole ∙ sym (append_assoc so.front cut.piece after);
          ends = λ left more.
              ap lines_of (append_assoc so.front cut.piece more)
              ∙ so.ends some (cut.piece ++ more)
              ∙ ap (λ ls. lines_of so.front ++ ls) (cut.ends left more)
              ∙ sym (append_assoc (lines_of so.front) (line ∷ []) (lines_of more))
              ∙ ap (λ ls. ls ++ lines_of more) (sym here);
          lines = so.lines
              ∙ ap (λ ls. lines_of so.front ++ ls) lines
              ∙ sym (append_assoc (lines_of so.front) (line ∷ []) (lines_of after))
              ∙ ap (λ ls. ls ++ lines_of after) (sym here);
          none = ap (list_any p) here
              ∙ list_any-append p (lines_of so.front) (line ∷ [])
              ∙ ap (λ b. b || (p line || false)) so.none
              ∙ ap (λ b. b || false) fails;
          count = omega (arith, so.count, ap length here, length-append (lines_of so.front) (line ∷ []));
          few = omega (arith, so.few, shorter);
        }

-- ---- the end of the walk

-- the bytes before the rest
pub front_is : (front rest bytes : List ℕ) → bytes ≡ front ++ rest → take (length bytes - length rest) bytes ≡ front
front_is front rest bytes whole =
    let size : length bytes - length rest ≡ length front = omega (arith, ap length whole, length-append front rest) in
    ap (λ n. take n bytes) size ∙ ap (take (length front)) whole ∙ take-append_seam front rest

-- the first that passes stands after all that do not
first_place : {X : Type 0} (p : X → Bool) (xs ys : List X) (x : X) → list_any p xs ≡ false → p x ≡ true
    → position_or_len p (xs ++ x ∷ ys) ≡ length xs
first_place p [] ys x none passes = ap (λ b. cond (not b) (1 + position_or_len p ys) 0) passes
first_place {X} p (y ∷ xs) ys x none passes = by (p y) none (first_place p xs ys x)
  where
    by : (b : Bool) → (b || list_any p xs) ≡ false → (list_any p xs ≡ false → p x ≡ true → position_or_len p (xs ++ x ∷ ys) ≡ length xs)
        → cond (not b) (1 + position_or_len p (xs ++ x ∷ ys)) 0 ≡ length (y ∷ xs)
    by true any later = absurd (cc)
    by false any later = omega (arith, later any passes)

-- lines on the two sides of a dividing line
abbrev pub halved : List (List ℕ) → List (List ℕ) → Option Halves
halved first second = Some (record { first = first; second = second })

-- lines are divided at the first that passes
pub divided : (p : List ℕ → Bool) (xs ys : List (List ℕ)) (x : List ℕ) → list_any p xs ≡ false → p x ≡ true
    → cond (list_any p (xs ++ x ∷ ys)) (halved (before_first p (xs ++ x ∷ ys)) (after_first p (xs ++ x ∷ ys))) None ≡ halved xs ys
divided p xs ys x none passes =
    let any : list_any p (xs ++ x ∷ ys) ≡ true =
    list_any-append p xs (x ∷ ys) ∙ ap (λ b. b || (p x || list_any p ys)) none ∙ ap (λ b. b || list_any p ys) passes in
    let place = first_place p xs ys x none passes in
    let first : before_first p (xs ++ x ∷ ys) ≡ xs = ap (λ n. take n (xs ++ x ∷ ys)) place ∙ take-append_seam xs (x ∷ ys) in
    let second : after_first p (xs ++ x ∷ ys) ≡ ys = ap (λ n. drop (n + 1) (xs ++ x ∷ ys)) place ∙ drop-append-add xs (x ∷ ys) 1 in
    ap (λ b. cond b (halved (before_first p (xs ++ x ∷ ys)) (after_first p (xs ++ x ∷ ys))) None) any
    ∙ ap (λ found. halved found (after_first p (xs ++ x ∷ ys))) first
    ∙ ap (halved xs) second

-- at a dividing line: the bytes on its two sides
pub walk_divides : (bytes rest line after first : List ℕ) (before : ℕ)
    → Walked is_divider bytes rest before → lines_of rest ≡ line ∷ lines_of after → is_divider line ≡ true
    → first ≡ take (length bytes - length rest) bytes
    → halved (lines_of first) (lines_of after) ≡ halves_of (lines_of bytes)
walk_divides bytes rest line after first before so lines passes is =
    let same : first ≡ so.front = is ∙ front_is so.front rest bytes so.whole in
    let all : lines_of bytes ≡ lines_of so.front ++ line ∷ lines_of after = so.lines ∙ ap (λ ls. lines_of so.front ++ ls) lines in
    ap (λ f. halved (lines_of f) (lines_of after)) same
    ∙ sym (divided is_divider (lines_of so.front) (lines_of after) line so.none passes)
    ∙ ap halves_of (sym all)

-- the number of the lines before it
pub walk_counts : (bytes rest first : List ℕ) (before : ℕ) → Walked is_divider bytes rest before
    → first ≡ take (length bytes - length rest) bytes → before ≡ length (lines_of first)
walk_counts bytes rest first before so is =
    so.count ∙ ap (λ f. length (lines_of f)) (sym (is ∙ front_is so.front rest bytes so.whole))

-- at the end the walk has gone over all lines
walk_ends : (bytes rest : List ℕ) (before : ℕ) → (so : Walked is_divider bytes rest before) → first_line rest ≡ None
    → lines_of bytes ≡ lines_of so.front
walk_ends bytes rest before so last =
    so.lines ∙ ap (λ ls. lines_of so.front ++ ls) (no_line rest last) ∙ append-nil (lines_of so.front)

-- so no line divides
pub walk_undivided : (bytes rest : List ℕ) (before : ℕ) → Walked is_divider bytes rest before → first_line rest ≡ None
    → None ≡ halves_of (lines_of bytes)
walk_undivided bytes rest before so last =
    let none : list_any is_divider (lines_of bytes) ≡ false = ap (list_any is_divider) (walk_ends bytes rest before so last) ∙ so.none in
    sym (ap (λ b. cond b (halved (before_first is_divider (lines_of bytes)) (after_first is_divider (lines_of bytes))) None) none)

-- and they are all counted
pub walk_counts_all : (bytes rest : List ℕ) (before : ℕ) → Walked is_divider bytes rest before → first_line rest ≡ None
    → before ≡ length (lines_of bytes)
walk_counts_all bytes rest before so last = so.count ∙ ap length (sym (walk_ends bytes rest before so last))
