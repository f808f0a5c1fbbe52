-- The first bad line that is found is the one at which the script stops.
use Rattle.std.proofs.Common.{◌≡◌, ◌∙◌, ℕ, ◌+◌, Bool, true, false, cond, List, [], ◌∷◌, ◌++◌, Some, None, refl}
use Rattle.std.specs.Prelude.{Option, Result, Ok, Err}
use Rattle.fed_script.specs.declared.cause.LineCause.{LineCause}
use Rattle.fed_script.specs.declared.event.Event.{Event}
use Rattle.fed_script.specs.declared.event.Header.{Header}
use Rattle.fed_script.specs.declared.event.Numbered.{Numbered}
use Rattle.fed_script.specs.Line.{header_of, event_of}
use Rattle.fed_script.specs.Script.{is_blank, events_of, after_line, ended_by, script_after, script_of_lines}
use Rattle.fed_script.specs.Used.{UsedState, unused, used_after}
use Rattle.fed_check.specs.declared.finding.Finding.{Finding}
use Rattle.fed_check.specs.Check.{read_over, found_in_header, found_in_event, used_past, found_from, found_after, found_in_script}
use Rattle.fed_check.specs.Laws.{first_bad, stops_at}
use Rattle.fed_check.specs.Members.{header_members, event_members, unread}

-- members that are read over are passed
passed : (n : ℕ) (names : List (List ℕ)) (more : List Finding) → first_bad (read_over n names ++ more) ≡ first_bad more
passed n [] more = refl
passed n (name ∷ names) more = passed n names more

-- of lines after the header
from_bad : (used : UsedState) (n : ℕ) (lines : List (List ℕ)) → first_bad (found_from used n lines) ≡ (events_of used n lines).bad
from_bad used n [] = refl
from_bad used n (line ∷ lines) =
    step (is_blank line) (event_of line used) (from_bad used (n + 1) lines) (λ after. from_bad after (n + 1) lines)
  where
    step : (blank : Bool) (read : Result Event LineCause)
        → first_bad (found_from used (n + 1) lines) ≡ (events_of used (n + 1) lines).bad
        → ((after : UsedState) → first_bad (found_from after (n + 1) lines) ≡ (events_of after (n + 1) lines).bad)
        → first_bad (cond blank (found_from used (n + 1) lines)
        (found_in_event n line read ++ found_from (used_past read used) (n + 1) lines))
        ≡ (cond blank (events_of used (n + 1) lines) (after_line n used read (λ after. events_of after (n + 1) lines))).bad
    step true read same later = same
    step false (Ok event) same later =
        passed n (unread (event_members event) line) (found_from (used_after event used) (n + 1) lines) ∙ later (used_after event used)
    step false (Err cause) same later = refl

-- of a header and the events after it
ended : (header : Header) (events : List Numbered) (bad : Option (ℕ × LineCause)) → bad ≡ stops_at (ended_by header events bad)
ended header events None = refl
ended header events (Some bad) = refl

after_bad : (read : Result Header LineCause) (line : List ℕ) (lines : List (List ℕ))
    → first_bad (found_in_header line read ++ found_after read lines) ≡ stops_at (script_after read lines)
after_bad (Ok header) line lines =
    passed 1 (unread header_members line) (found_from (unused header.now) 2 lines)
    ∙ from_bad (unused header.now) 2 lines
    ∙ ended header (events_of (unused header.now) 2 lines).good (events_of (unused header.now) 2 lines).bad
after_bad (Err cause) line lines = refl

pub first_bad_line : (lines : List (List ℕ)) → first_bad (found_in_script lines) ≡ stops_at (script_of_lines lines)
first_bad_line [] = refl
first_bad_line (line ∷ lines) = after_bad (header_of line) line lines
