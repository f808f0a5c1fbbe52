-- A reader that is fed pieces.
use Rattle.std.proofs.Common.{◌≡◌, ◌∙◌, ℕ, ◌+◌, ◌-◌, ◌^◌, ◌<◌, ◌≤◌, Bool, true, false, List, [], ◌∷◌, ◌++◌, refl, ap, sym, subst}
use Rattle.std.proofs.Common.{arith, append_assoc, append-nil}
use Rattle.std.specs.Prelude.{Option, Some, None, IfSome}
use Rattle.fed_script.specs.Pieces.{whole_lines, rest_of}
use Rattle.fed_script.specs.Reader.{Phase, fresh, read_as, phase_after, lines_read, phase_past, ended_lines}
use Rattle.fed_script.specs.Reader.{ReaderParts, HasRead, HasRoom, Feeds, ReadsLine, ReadsNoLine, Finishes}
use Rattle.fed_script.specs.declared.event.Line.{Line}
use Rattle.fed_script.proofs.pieces.Cuts.{HasNoLf}
use Rattle.fed_script.proofs.pieces.Whole.{whole_lines-append, rest_of-append, rest_of-has_none, none_whole, one_whole, none_append}
use Rattle.fed_script.proofs.pieces.Phases.{lines_read-over, phase_past-over, lines_read-append, phase_past-append, number-le}

pub never : {P : Type 0} → true ≡ false → P
never is = absurd (cc)

-- ---- one piece

-- a line that ends in the piece
pub takes_line : (old new : ReaderParts) (piece line further : List ℕ) (found : Line)
    → HasNoLf line → piece ≡ line ++ 10 ∷ further → old.phase.over ≡ false
    → found ≡ read_as old.phase (old.rest ++ line) → new.phase ≡ phase_after old.phase found → new.rest ≡ []
    → ReadsLine old new piece further found
takes_line old new piece line further found none cut going is phase rest = record {
  front = line ++ 10 ∷ [];
  cut = cut ∙ sym (append_assoc line (10 ∷ []) further);
  phase = phase;
  feeds = λ bytes h.
      let clear : HasNoLf (rest_of bytes ++ line) = none_append (rest_of bytes) line (rest_of-has_none bytes) none in
      let one = one_whole (rest_of bytes ++ line) clear in
      let shift : rest_of bytes ++ (line ++ 10 ∷ []) ≡ (rest_of bytes ++ line) ++ 10 ∷ [] =
      sym (append_assoc (rest_of bytes) line (10 ∷ [])) in
      let whole : whole_lines (bytes ++ (line ++ 10 ∷ [])) ≡ whole_lines bytes ++ (old.rest ++ line) ∷ [] =
      whole_lines-append bytes (line ++ 10 ∷ [])
      ∙ ap (λ ls. whole_lines bytes ++ ls) (ap whole_lines shift ∙ one.0 ∙ ap (λ r. (r ++ line) ∷ []) (sym (h.rest going))) in
      let after : rest_of (bytes ++ (line ++ 10 ∷ [])) ≡ [] = rest_of-append bytes (line ++ 10 ∷ []) ∙ ap rest_of shift ∙ one.1 in
      let lines : lines_read old.phase ((old.rest ++ line) ∷ []) ≡ found ∷ [] = rw (going, is) refl in
      let past : phase_past old.phase ((old.rest ++ line) ∷ []) ≡ new.phase = rw (going, phase, is) refl in (
        record {
          phase = sym
              (ap (phase_past fresh) whole
              ∙ phase_past-append fresh (whole_lines bytes) ((old.rest ++ line) ∷ [])
              ∙ ap (λ p. phase_past p ((old.rest ++ line) ∷ [])) (sym h.phase)
              ∙ past);
          rest = λ still. rest ∙ sym after;
        },
        ap (lines_read fresh) whole
            ∙ lines_read-append fresh (whole_lines bytes) ((old.rest ++ line) ∷ [])
            ∙ ap (λ ls. lines_read fresh (whole_lines bytes) ++ ls) (ap (λ p. lines_read p ((old.rest ++ line) ∷ [])) (sym h.phase)
            ∙ lines),
      );
}

-- a piece in which no line ends
pub keeps_piece : (old new : ReaderParts) (piece : List ℕ) → HasNoLf piece → old.phase.over ≡ false → new.phase ≡ old.phase
    → new.rest ≡ old.rest ++ piece → ReadsNoLine old new piece
keeps_piece old new piece none going phase rest = record {
  phase = phase;
  feeds = λ bytes h.
      let clear : HasNoLf (rest_of bytes ++ piece) = none_append (rest_of bytes) piece (rest_of-has_none bytes) none in
      let no_line = none_whole (rest_of bytes ++ piece) clear in
      let whole : whole_lines (bytes ++ piece) ≡ whole_lines bytes =
      whole_lines-append bytes piece ∙ ap (λ ls. whole_lines bytes ++ ls) no_line.0 ∙ append-nil (whole_lines bytes) in (
        record {
          phase = phase ∙ h.phase ∙ ap (phase_past fresh) (sym whole);
          rest = λ still. rest ∙ ap (λ r. r ++ piece) (h.rest going) ∙ sym (rest_of-append bytes piece ∙ no_line.1);
        },
        ap (lines_read fresh) whole ∙ sym (append-nil (ended_lines bytes)),
      );
}

-- a piece after a bad line
pub passes_piece : (old new : ReaderParts) (piece : List ℕ) → old.phase.over ≡ true → new.phase ≡ old.phase → ReadsNoLine old new piece
passes_piece old new piece over phase = record {
  phase = phase;
  feeds = λ bytes h.
      let more = whole_lines (rest_of bytes ++ piece) in
      let at : (phase_past fresh (whole_lines bytes)).over ≡ true = ap (λ (p : Phase). p.over) (sym h.phase) ∙ over in (
        record {
          phase = phase
              ∙ h.phase
              ∙ sym
              (ap (phase_past fresh) (whole_lines-append bytes piece)
              ∙ phase_past-append fresh (whole_lines bytes) more
              ∙ phase_past-over (phase_past fresh (whole_lines bytes)) more at);
          rest = λ still. never (sym (ap (λ (p : Phase). p.over) phase ∙ over) ∙ still);
        },
        ap (lines_read fresh) (whole_lines-append bytes piece)
            ∙ lines_read-append fresh (whole_lines bytes) more
            ∙ ap (λ ls. ended_lines bytes ++ ls) (lines_read-over (phase_past fresh (whole_lines bytes)) more at),
      );
}

-- ---- pieces after pieces

-- no byte at all
pub feeds_nothing : (reader : ReaderParts) → Feeds reader reader [] []
feeds_nothing reader bytes h = (
  subst (HasRead reader) (sym (append-nil bytes)) h,
  ap ended_lines (append-nil bytes) ∙ sym (append-nil (ended_lines bytes)),
)

-- one piece after another
pub feeds_more : (first old new : ReaderParts) (front next : List ℕ) (lines more : List Line)
    → Feeds first old front lines → Feeds old new next more → Feeds first new (front ++ next) (lines ++ more)
feeds_more first old new front next lines more before now bytes h =
    let was = before bytes h in
    let is = now (bytes ++ front) was.0 in
    let shift : (bytes ++ front) ++ next ≡ bytes ++ (front ++ next) = append_assoc bytes front next in (
      subst (HasRead new) shift is.0,
      ap ended_lines (sym shift) ∙ is.1 ∙ ap (λ ls. ls ++ more) was.1 ∙ append_assoc (ended_lines bytes) lines more,
    )

-- of a piece a front was read, which gave some lines
pub record FedFront (first reader : ReaderParts) (piece rest : List ℕ) (lines : List Line) : Type 0 where
  pub front : List ℕ
  pub cut : piece ≡ front ++ rest
  pub feeds : Feeds first reader front lines

pub feeding_begins : (reader : ReaderParts) (piece : List ℕ) → FedFront reader reader piece piece []
feeding_begins reader piece = record { front = []; cut = refl; feeds = feeds_nothing reader }

pub feeding_goes_on : (first old new : ReaderParts) (piece rest further : List ℕ) (lines after : List Line) (line : Line)
    → FedFront first old piece rest lines → ReadsLine old new rest further line → after ≡ lines ++ line ∷ []
    → FedFront first new piece further after
feeding_goes_on first old new piece rest further lines after line so one pushed = record {
  front = so.front ++ one.front;
  cut = so.cut ∙ ap (λ r. so.front ++ r) one.cut ∙ sym (append_assoc so.front one.front further);
  feeds = subst (λ ls. Feeds first new (so.front ++ one.front) ls) (sym pushed)
      (feeds_more first old new so.front one.front lines (line ∷ []) so.feeds one.feeds);
}

pub feeding_ends : (first old new : ReaderParts) (piece rest : List ℕ) (lines : List Line)
    → FedFront first old piece rest lines → ReadsNoLine old new rest → Feeds first new piece lines
feeding_ends first old new piece rest lines so none =
    subst (λ p. Feeds first new p lines) (sym so.cut)
    (subst (λ ls. Feeds first new (so.front ++ rest) ls) (append-nil lines)
    (feeds_more first old new so.front rest lines [] so.feeds none.feeds))

-- ---- room, and memory

-- the line numbers stay small
pub room_left : (reader : ReaderParts) (count : ℕ) → HasRoom reader count → reader.alive ≡ true → reader.phase.over ≡ false
    → reader.phase.number + count ≤ 67108866
room_left reader count room alive going =
    let has = room alive going in
    let at : reader.phase.number ≡ (phase_past fresh (whole_lines has.0)).number = ap (λ (p : Phase). p.number) has.1.phase in
    let few = has.2 in
    omega (arith, at, few, number-le has.0)

-- so they fit, also once the call has begun
pub numbers_fit : (old new : ReaderParts) (count : ℕ) → HasRoom old count → old.alive ≡ true → new ≡ record old { alive = false }
    → new.phase.over ≡ false → new.phase.number + count < 2 ^ 32 - 1
numbers_fit old new count room alive is going =
    let same : new.phase ≡ old.phase = ap (λ (r : ReaderParts). r.phase) is in
    let number : new.phase.number ≡ old.phase.number = ap (λ (p : Phase). p.number) same in
    let few = room_left old count room alive (sym (ap (λ (p : Phase). p.over) same) ∙ going) in
    omega (arith, number, few)

has_read-alive : (reader : ReaderParts) (alive : Bool) (bytes : List ℕ) → HasRead reader bytes
    → HasRead (record reader { alive = alive }) bytes
has_read-alive reader alive bytes h = record { phase = h.phase; rest = h.rest }

has_read-was : (reader : ReaderParts) (alive : Bool) (bytes : List ℕ) → HasRead (record reader { alive = alive }) bytes
    → HasRead reader bytes
has_read-was reader alive bytes h = record { phase = h.phase; rest = h.rest }

pub feeds-alive : (old new : ReaderParts) (a b : Bool) (piece : List ℕ) (lines : List Line)
    → Feeds (record old { alive = a }) new piece lines → Feeds old (record new { alive = b }) piece lines
feeds-alive old new a b piece lines feeds bytes h =
    let got = feeds bytes (has_read-alive old a bytes h) in (has_read-alive new b (bytes ++ piece) got.0, got.1)

pub reads_line-alive : (old new : ReaderParts) (a b : Bool) (piece further : List ℕ) (line : Line)
    → ReadsLine (record old { alive = a }) new piece further line → ReadsLine old (record new { alive = b }) piece further line
reads_line-alive old new a b piece further line one = record {
  front = one.front;
  cut = one.cut;
  phase = one.phase;
  feeds = feeds-alive old new a b one.front (line ∷ []) one.feeds;
}

pub reads_no_line-alive : (old new : ReaderParts) (a b : Bool) (piece : List ℕ)
    → ReadsNoLine (record old { alive = a }) new piece → ReadsNoLine old (record new { alive = b }) piece
reads_no_line-alive old new a b piece none = record { phase = none.phase; feeds = feeds-alive old new a b piece [] none.feeds }

pub finishes-alive : (reader : ReaderParts) (alive : Bool) (lines : List Line)
    → Finishes (record reader { alive = alive }) lines → Finishes reader lines
finishes-alive reader alive lines ends bytes h = ends bytes (has_read-alive reader alive bytes h)

pub each_some : {A : Type 0} (P Q : A → Type 0) (found : Option A) → ((x : A) → P x → Q x) → IfSome found P → IfSome found Q
each_some P Q None follows so = tt
each_some P Q (Some x) follows so = follows x so
