-- The lines of bytes are those of the script that the bytes are.
use Rattle.std.proofs.Common.{◌≡◌, ℕ, ◌+◌, Bool, true, false, cond, List, [], ◌∷◌, Some, refl, ap}
use Rattle.std.specs.Prelude.{Result, Ok, Err}
use Rattle.fed_script.specs.Line.{header_of, event_of}
use Rattle.fed_script.specs.Reader.{fresh, head_line, event_line, phase_after, lines_read, script_lines, all_lines, events_in, script_in}
use Rattle.fed_script.specs.Script.{events_of, after_line as events_after, with_first, is_blank, lines_of, script_of}
use Rattle.fed_script.specs.Script.{script_of_lines, script_after, script_with}
use Rattle.fed_script.specs.Used.{UsedState, unused, used_after}
use Rattle.fed_script.specs.declared.cause.LineCause.{LineCause}
use Rattle.fed_script.specs.declared.event.Event.{Event}
use Rattle.fed_script.specs.declared.event.Header.{Header}
use Rattle.fed_script.specs.declared.event.Line.TheVariants as found

-- the lines after the header
events_are : (used : UsedState) (n : ℕ) (lines : List (List ℕ))
    → events_in (lines_read (record { number = n; used = Some used; over = false }) lines) ≡ events_of used n lines
events_are used n [] = refl
events_are used n (line ∷ lines) =
    by (is_blank line) (event_of line used) (events_are used (n + 1) lines) (λ after. events_are after (n + 1) lines)
  where
    by : (blank : Bool) (r : Result Event LineCause)
        → events_in (lines_read (record { number = n + 1; used = Some used; over = false }) lines) ≡ events_of used (n + 1) lines
        → ((after : UsedState)
        → events_in (lines_read (record { number = n + 1; used = Some after; over = false }) lines) ≡ events_of after (n + 1) lines)
        → events_in
        (cond blank (found.Blank n) (event_line n r)
        ∷ lines_read
        (phase_after (record { number = n; used = Some used; over = false }) (cond blank (found.Blank n) (event_line n r)))
        lines)
        ≡ cond blank (events_of used (n + 1) lines) (events_after n used r (λ after. events_of after (n + 1) lines))
    by true r same further = same
    by false (Err cause) same further = refl
    by false (Ok event) same further = ap (with_first n event) (further (used_after event used))

script_is : (lines : List (List ℕ)) → script_in (script_lines lines) ≡ script_of_lines lines
script_is [] = refl
script_is (line ∷ lines) = by (header_of line)
  where
    by : (r : Result Header LineCause)
        → script_in (head_line 1 r ∷ lines_read (phase_after fresh (head_line 1 r)) lines) ≡ script_after r lines
    by (Err cause) = refl
    by (Ok header) = ap (script_with header) (events_are (unused header.now) 2 lines)

pub lines_are_the_script_lem : (bytes : List ℕ) → script_in (all_lines bytes) ≡ script_of bytes
lines_are_the_script_lem bytes = script_is (lines_of bytes)
