-- Where scripts stop.
use Rattle.std.proofs.Common.{◌≡◌, ℕ, ◌+◌, ◌<◌, ◌≤◌, Bool, true, false, cond, eqb, List}
use Rattle.std.proofs.Common.{[], ◌∷◌, length, Option, Some, None, refl, ap, arith}
use Rattle.std.specs.List.{onto_first}
use Rattle.std.specs.Prelude.{Result, Ok, Err}
use Rattle.fed_script.specs.declared.cause.BadLine.{BadLine}
use Rattle.fed_script.specs.declared.cause.LineCause.{LineCause}
use Rattle.fed_script.specs.declared.cause.LineCause.TheVariants.{NotJson}
use Rattle.fed_script.specs.declared.event.Event.{Event}
use Rattle.fed_script.specs.declared.event.Header.{Header}
use Rattle.fed_script.specs.declared.event.Numbered.{Numbered}
use Rattle.fed_script.specs.Line.{event_of, header_of}
use Rattle.fed_script.specs.Script.{Script, Stop, events_of, after_line as events_after, is_blank, lines_of, script_of}
use Rattle.fed_script.specs.Script.{script_of_lines, script_after, ended_by, no_header, bad_line, or_bad_line}
use Rattle.fed_script.specs.Used.{UsedState, unused, used_after}

-- a line is one of so many, from line n on
pub record IsAmong (n count line : ℕ) : Type 0 where
  pub from : n ≤ line
  pub to : line < n + count

-- a bad line is one of the lines
pub bad_is_among : (used : UsedState) (n : ℕ) (lines : List (List ℕ)) (bad : ℕ × LineCause) → (events_of used n lines).bad ≡ Some bad
    → IsAmong n (length lines) bad.0
bad_is_among used n [] bad is = absurd (cc)
bad_is_among used n (line ∷ lines) bad is =
    by (is_blank line) (event_of line used) is (bad_is_among used (n + 1) lines bad) (λ after. bad_is_among after (n + 1) lines bad)
  where
    later : IsAmong (n + 1) (length lines) bad.0 → IsAmong n (length (line ∷ lines)) bad.0
    later so = let from = so.from in let to = so.to in record { from = omega arith; to = omega arith }

    by : (blank : Bool) (r : Result Event LineCause)
        → (cond blank (events_of used (n + 1) lines) (events_after n used r (λ after. events_of after (n + 1) lines))).bad ≡ Some bad
        → ((events_of used (n + 1) lines).bad ≡ Some bad → IsAmong (n + 1) (length lines) bad.0)
        → ((after : UsedState) → (events_of after (n + 1) lines).bad ≡ Some bad → IsAmong (n + 1) (length lines) bad.0)
        → IsAmong n (length (line ∷ lines)) bad.0
    by true r is same further = later (same is)
    by false (Ok event) is same further = later (further (used_after event used) is)
    by false (Err cause) is same further =
        let here : ◌≡◌ {A = ℕ × LineCause} (n, cause) bad = cc in
        let at : n ≡ bad.0 = ap (λ (x : ℕ × LineCause). x.0) here in
        record { from = omega arith; to = omega arith }

-- a script without a header stops at line 1
stops_first : (cause : LineCause) (stop : Stop) (count : ℕ) → no_header cause ≡ stop → IsAmong 1 (1 + count) stop.line
stops_first cause stop count same =
    let at : 1 ≡ stop.line = ap (λ (s : Stop). s.line) same in
    record { from = omega arith; to = omega arith }

-- a script stops at one of its lines, or at the first where it has none
pub stop_is_among : (lines : List (List ℕ)) (stop : Stop) → script_of_lines lines ≡ Err stop → IsAmong 1 (1 + length lines) stop.line
stop_is_among [] stop is = stops_first NotJson stop 0 (cc)
stop_is_among (line ∷ lines) stop is = by (header_of line) is
  where
    ended : (header : Header) (good : List Numbered) (bad : Option (ℕ × LineCause))
        → ((b : ℕ × LineCause) → bad ≡ Some b → IsAmong 2 (length lines) b.0) → ended_by header good bad ≡ Err stop
        → IsAmong 1 (1 + length (line ∷ lines)) stop.line
    ended header good None among is = absurd (cc)
    ended header good (Some bad) among is =
        let same : record { header = Some header; events = good; line = bad.0; cause = bad.1 } ≡ stop = cc in
        let at : bad.0 ≡ stop.line = ap (λ (s : Stop). s.line) same in
        let so = among bad refl in
        let from = so.from in
        let to = so.to in
        record { from = omega arith; to = omega arith }

    by : (r : Result Header LineCause) → script_after r lines ≡ Err stop → IsAmong 1 (1 + length (line ∷ lines)) stop.line
    by (Err cause) is = stops_first cause stop (length (line ∷ lines)) (cc)
    by (Ok header) is =
        let found = events_of (unused header.now) 2 lines in
        ended header found.good found.bad (bad_is_among (unused header.now) 2 lines) is

-- bytes have at least as many bytes as lines
pub length-lines_of : (bytes : List ℕ) → length (lines_of bytes) ≤ length bytes
length-lines_of [] = omega arith
length-lines_of (b ∷ bytes) = by (eqb b 10) (lines_of bytes) (length-lines_of bytes)
  where
    by : (ends : Bool) (lines : List (List ℕ)) → length lines ≤ length bytes
        → length (cond ends ([] ∷ lines) (onto_first b lines)) ≤ length (b ∷ bytes)
    by true lines few = omega arith
    by false [] few = omega arith
    by false (line ∷ lines) few = omega arith

-- the bad line of bytes is at most one after as many as they have bytes
pub bad_line-le : (bytes : List ℕ) (bad : BadLine) → or_bad_line (script_of bytes) ≡ Err bad → bad.line ≤ length bytes + 1
bad_line-le bytes bad is = by (script_of bytes) refl is
  where
    by : (r : Result Script Stop) → script_of_lines (lines_of bytes) ≡ r → or_bad_line r ≡ Err bad → bad.line ≤ length bytes + 1
    by (Ok script) reads is = absurd (cc)
    by (Err stop) reads is =
        let same : bad_line stop ≡ bad = cc in
        let at : stop.line ≡ bad.line = ap (λ (b : BadLine). b.line) same in
        let to = (stop_is_among (lines_of bytes) stop reads).to in
        let few = length-lines_of bytes in
        omega arith
