-- A script that comes in pieces.
use Rattle.std.proofs.Common.{◌≡◌, ◌∙◌, ℕ, ◌+◌, ◌≤◌, ltb, true, false, List, [], ◌∷◌, ◌++◌, length, refl, ap, sym, subst, arith}
use Rattle.std.proofs.Common.{append_assoc, append-nil, length-append, ltb-false}
use Rattle.fed_script.specs.Pieces.{whole_lines, rest_of}
use Rattle.fed_script.specs.Script.{lines_of}
use Rattle.fed_script.specs.declared.cause.LineCause.TheVariants.{NotJson}
use Rattle.fed_script.proofs.pieces.Cuts.{HasNoLf}
use Rattle.fed_script.proofs.pieces.Whole.{whole_lines-append, rest_of-append, rest_of-has_none, none_whole, one_whole, none_append}
use Rattle.fed_script.proofs.pieces.Whole.{last_line, lines_of-pieces}
use Rattle.fed_check.specs.declared.finding.Finding.{Finding}
use Rattle.fed_check.specs.declared.finding.Finding.TheVariants.{Bad}
use Rattle.fed_check.specs.declared.stage.Stage.TheVariants.{Head}
use Rattle.fed_check.specs.Check.{found_in_lines, found_in_script, ended_findings}
use Rattle.fed_check.specs.Stage.{found_at, stage_after, stage_past, is_head, IsFew, CheckerParts, HasChecked, HasRoom}
use Rattle.fed_check.specs.Stage.{Checks, ChecksLine, Finishes}
use Rattle.fed_check.proofs.checks.Lines.{found_by, found_in_lines-append, stage_past-append, few_lines, no_lines}

-- ---- one piece

-- a line that ends in the piece
pub takes_line : (old new : CheckerParts) (piece line further : List ℕ) (before after : List Finding)
    → HasNoLf line → piece ≡ line ++ 10 ∷ further
    → after ≡ before ++ found_at old.stage (old.rest ++ line)
    → new ≡ record old { rest = []; stage = stage_after old.stage (old.rest ++ line) }
    → ChecksLine old new piece further before after
takes_line old new piece line further before after none cut noted is = record {
  front = line ++ 10 ∷ [];
  cut = cut ∙ sym (append_assoc line (10 ∷ []) further);
  found = found_at old.stage (old.rest ++ line);
  noted = noted;
  checks = λ bytes h.
      let clear : HasNoLf (rest_of bytes ++ line) = none_append (rest_of bytes) line (rest_of-has_none bytes) none in
      let one = one_whole (rest_of bytes ++ line) clear in
      let shift : rest_of bytes ++ (line ++ 10 ∷ []) ≡ (rest_of bytes ++ line) ++ 10 ∷ [] =
      sym (append_assoc (rest_of bytes) line (10 ∷ [])) in
      let whole : whole_lines (bytes ++ (line ++ 10 ∷ [])) ≡ whole_lines bytes ++ (old.rest ++ line) ∷ [] =
      whole_lines-append bytes (line ++ 10 ∷ [])
      ∙ ap (λ ls. whole_lines bytes ++ ls) (ap whole_lines shift ∙ one.0 ∙ ap (λ r. (r ++ line) ∷ []) (sym h.rest)) in
      let left : rest_of (bytes ++ (line ++ 10 ∷ [])) ≡ [] = rest_of-append bytes (line ++ 10 ∷ []) ∙ ap rest_of shift ∙ one.1 in
      let here : found_by (stage_past Head (whole_lines bytes)) ((old.rest ++ line) ∷ []) ≡ found_at old.stage (old.rest ++ line) =
      ap (λ s. found_at s (old.rest ++ line) ++ []) (sym h.stage) ∙ append-nil (found_at old.stage (old.rest ++ line)) in
      let after_it : stage_past Head (whole_lines bytes ++ (old.rest ++ line) ∷ []) ≡ stage_after old.stage (old.rest ++ line) =
      stage_past-append Head (whole_lines bytes) ((old.rest ++ line) ∷ []) ∙ ap (λ s. stage_after s (old.rest ++ line)) (sym h.stage) in (
        record {
          rest = ap (λ (c : CheckerParts). c.rest) is ∙ sym left;
          stage = ap (λ (c : CheckerParts). c.stage) is ∙ sym (ap (stage_past Head) whole ∙ after_it);
        },
        ap found_in_lines whole
            ∙ found_in_lines-append (whole_lines bytes) ((old.rest ++ line) ∷ [])
            ∙ ap (λ l. ended_findings bytes ++ l) here,
      );
}

-- a piece in which no line ends
pub keeps_piece : (old new : CheckerParts) (piece : List ℕ) → HasNoLf piece → new ≡ record old { rest = old.rest ++ piece }
    → Checks old new piece []
keeps_piece old new piece none is bytes h =
    let clear : HasNoLf (rest_of bytes ++ piece) = none_append (rest_of bytes) piece (rest_of-has_none bytes) none in
    let no_line = none_whole (rest_of bytes ++ piece) clear in
    let whole : whole_lines (bytes ++ piece) ≡ whole_lines bytes =
    whole_lines-append bytes piece ∙ ap (λ ls. whole_lines bytes ++ ls) no_line.0 ∙ append-nil (whole_lines bytes) in (
      record {
        rest = ap (λ (c : CheckerParts). c.rest) is ∙ ap (λ r. r ++ piece) h.rest ∙ sym (rest_of-append bytes piece ∙ no_line.1);
        stage = ap (λ (c : CheckerParts). c.stage) is ∙ h.stage ∙ ap (stage_past Head) (sym whole);
      },
      ap found_in_lines whole ∙ sym (append-nil (ended_findings bytes)),
    )

-- ---- pieces after pieces

-- no byte at all
checks_nothing : (checker : CheckerParts) → Checks checker checker [] []
checks_nothing checker bytes h = (
  subst (HasChecked checker) (sym (append-nil bytes)) h,
  ap ended_findings (append-nil bytes) ∙ sym (append-nil (ended_findings bytes)),
)

-- one piece after another
checks_more : (first old new : CheckerParts) (front next : List ℕ) (found more : List Finding)
    → Checks first old front found → Checks old new next more → Checks first new (front ++ next) (found ++ more)
checks_more first old new front next found more before after bytes h =
    let was = before bytes h in
    let is = after (bytes ++ front) was.0 in
    let shift : (bytes ++ front) ++ next ≡ bytes ++ (front ++ next) = append_assoc bytes front next in (
      subst (HasChecked new) shift is.0,
      ap ended_findings (sym shift) ∙ is.1 ∙ ap (λ l. l ++ more) was.1 ∙ append_assoc (ended_findings bytes) found more,
    )

-- of a piece a front was taken, in which this is found
pub record TookFront (first checker : CheckerParts) (piece rest : List ℕ) (found : List Finding) : Type 0 where
  pub front : List ℕ
  pub cut : piece ≡ front ++ rest
  pub checks : Checks first checker front found

pub taking_begins : (checker : CheckerParts) (piece : List ℕ) → TookFront checker checker piece piece []
taking_begins checker piece = record { front = []; cut = refl; checks = checks_nothing checker }

pub taking_goes_on : (first old new : CheckerParts) (piece rest further : List ℕ) (found after : List Finding)
    → TookFront first old piece rest found → ChecksLine old new rest further found after → TookFront first new piece further after
taking_goes_on first old new piece rest further found after so one = record {
  front = so.front ++ one.front;
  cut = so.cut ∙ ap (λ r. so.front ++ r) one.cut ∙ sym (append_assoc so.front one.front further);
  checks = subst (Checks first new (so.front ++ one.front)) (sym one.noted)
      (checks_more first old new so.front one.front found one.found so.checks one.checks);
}

pub taking_ends : (first old new : CheckerParts) (piece rest : List ℕ) (found after : List Finding)
    → TookFront first old piece rest found → after ≡ found → Checks old new rest [] → Checks first new piece after
taking_ends first old new piece rest found after so same none =
    subst (Checks first new piece) (sym same)
    (subst (λ p. Checks first new p found) (sym so.cut)
    (subst (Checks first new (so.front ++ rest)) (append-nil found)
    (checks_more first old new so.front rest found [] so.checks none)))

-- ---- room

-- the pieces before, where there is room for this one
pub record HasRoomLeft (checker : CheckerParts) (piece : List ℕ) : Type 0 where
  pub bytes : List ℕ
  pub read : HasChecked checker bytes
  pub few : length bytes + length piece ≤ 67108865

-- so the number of the next line is small
pub few_at : (checker : CheckerParts) (count : ℕ) → HasRoom checker count → checker.alive ≡ true → IsFew checker.stage
few_at checker count room alive =
    let h = room alive in
    subst IsFew (sym h.1.stage) (few_lines h.0 (let few = h.2 in omega (arith, few)))

pub few_now : (checker : CheckerParts) (piece : List ℕ) → HasRoomLeft checker piece → IsFew checker.stage
few_now checker piece room =
    subst IsFew (sym room.read.stage) (few_lines room.bytes (omega (arith, room.few)))

-- and is still after a line
pub room_after : (old new : CheckerParts) (piece further : List ℕ) (before after : List Finding) → HasRoomLeft old piece
    → ChecksLine old new piece further before after → HasRoomLeft new further
room_after old new piece further before after room one = record {
  bytes = room.bytes ++ one.front;
  read = (one.checks room.bytes room.read).0;
  few =
      let size = length-append {A = ℕ} room.bytes one.front in
      let cut = ap length one.cut in
      let parts = length-append {A = ℕ} one.front further in
      omega (arith, room.few, size, cut, parts);
}

-- ---- the end

-- there is a line
some_lines : (xs : List (List ℕ)) (line : List ℕ) → found_in_script (xs ++ line ∷ []) ≡ found_in_lines (xs ++ line ∷ [])
some_lines [] line = refl
some_lines (x ∷ xs) line = refl

last_with : (checker : CheckerParts) (b : ℕ) (rest : List ℕ) → checker.rest ≡ b ∷ rest
    → Finishes checker (found_at checker.stage checker.rest)
last_with checker b rest is bytes h =
    let same : rest_of bytes ≡ b ∷ rest = sym h.rest ∙ is in
    let lines : lines_of bytes ≡ whole_lines bytes ++ (b ∷ rest) ∷ [] =
    lines_of-pieces bytes ∙ ap (λ r. whole_lines bytes ++ last_line r) same in
    let here : found_by (stage_past Head (whole_lines bytes)) ((b ∷ rest) ∷ []) ≡ found_at checker.stage checker.rest =
    append-nil (found_at (stage_past Head (whole_lines bytes)) (b ∷ rest))
    ∙ ap (λ s. found_at s (b ∷ rest)) (sym h.stage) ∙ ap (found_at checker.stage) (sym is) in
    ap found_in_script lines ∙ some_lines (whole_lines bytes) (b ∷ rest)
    ∙ found_in_lines-append (whole_lines bytes) ((b ∷ rest) ∷ []) ∙ ap (λ l. ended_findings bytes ++ l) here

-- bytes are kept
pub last_line_found : (checker : CheckerParts) (found : List Finding) → ltb 0 (length checker.rest) ≡ true
    → found ≡ found_at checker.stage checker.rest → Finishes checker found
last_line_found checker found some noted = by checker.rest refl some
  where
    by : (rest : List ℕ) → checker.rest ≡ rest → ltb 0 (length rest) ≡ true → Finishes checker found
    by [] is some = absurd (cc)
    by (b ∷ rest) is some = subst (Finishes checker) (sym noted) (last_with checker b rest is)

empty : (rest : List ℕ) → ltb 0 (length rest) ≡ false → rest ≡ []
empty [] none = refl
empty (b ∷ rest) none = absurd (let h = ltb-false 0 (length (b ∷ rest)) none in omega (arith, h))

-- none are
nothing_left : (checker : CheckerParts) (bytes : List ℕ) → HasChecked checker bytes → checker.rest ≡ [] → lines_of bytes ≡ whole_lines bytes
nothing_left checker bytes h none =
    lines_of-pieces bytes ∙ ap (λ r. whole_lines bytes ++ last_line r) (sym h.rest ∙ none) ∙ append-nil (whole_lines bytes)

-- and there was no line
pub no_line_found : (checker : CheckerParts) (found : List Finding) → ltb 0 (length checker.rest) ≡ false → is_head checker.stage ≡ true
    → found ≡ Bad 1 NotJson ∷ [] → Finishes checker found
no_line_found checker found none head noted bytes h =
    let no : whole_lines bytes ≡ [] = no_lines (whole_lines bytes) (ap is_head (sym h.stage) ∙ head) in
    ap found_in_script (nothing_left checker bytes h (empty checker.rest none) ∙ no) ∙ sym noted
    ∙ ap (λ ls. found_in_lines ls ++ found) (sym no)

-- and there was one
pub no_last_line : (checker : CheckerParts) (found : List Finding) → ltb 0 (length checker.rest) ≡ false → is_head checker.stage ≡ false
    → found ≡ [] → Finishes checker found
no_last_line checker found none going noted bytes h =
    ap found_in_script (nothing_left checker bytes h (empty checker.rest none)) ∙ by (whole_lines bytes) h.stage
    ∙ sym (ap (λ l. ended_findings bytes ++ l) noted ∙ append-nil (ended_findings bytes))
  where
    by : (lines : List (List ℕ)) → checker.stage ≡ stage_past Head lines → found_in_script lines ≡ found_in_lines lines
    by [] is = absurd (let e : true ≡ false = sym (ap is_head is) ∙ going in cc)
    by (line ∷ lines) is = refl
