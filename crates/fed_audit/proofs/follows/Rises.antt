-- The lines of the events of a script that is read rise.
use Rattle.std.proofs.Common.{◌≡◌, ℕ, ◌<◌, ◌+◌, Bool, true, false, List, [], ◌∷◌, Option, Some, None, subst, arith, cond}
use Rattle.std.specs.Prelude.{Result, Ok, Err}
use Rattle.fed_script.specs.declared.cause.LineCause.{LineCause}
use Rattle.fed_script.specs.declared.event.Event.{Event}
use Rattle.fed_script.specs.declared.event.Header.{Header}
use Rattle.fed_script.specs.declared.event.Numbered.{Numbered}
use Rattle.fed_script.specs.Line.{header_of, event_of}
use Rattle.fed_script.specs.Script.{Script, Events, is_blank, after_line, events_of, ended_by, lines_of, script_after, script_of}
use Rattle.fed_script.specs.Script.{script_of_lines}
use Rattle.fed_script.specs.Used.{UsedState, unused, used_after}
use Rattle.fed_audit.specs.Walk.{AreAbove, AreRising, IsRising}

-- events that rise, from above a line on
abbrev Rises : ℕ → List Numbered → Type 0
Rises line ns = AreAbove line ns × AreRising ns

lower : (a b : ℕ) (ns : List Numbered) → a < b → AreAbove b ns → AreAbove a ns
lower a b [] h u = tt
lower a b (m ∷ ns) h u = let up = u.0 in (omega (arith, h, up), lower a b ns h u.1)

after_rises : (m n : ℕ) (used : UsedState) (r : Result Event LineCause) (further : UsedState → Events) → m < n
    → ((u : UsedState) → Rises n (further u).good) → Rises m (after_line n used r further).good
after_rises m n used (Err cause) further h more = (tt, tt)
after_rises m n used (Ok event) further h more =
    let rest = more (used_after event used) in ((h, lower m n _ h rest.0), rest)

by_blank : (m : ℕ) (b : Bool) (x y : Events) → Rises m x.good → Rises m y.good → Rises m (cond b x y).good
by_blank m true x y h k = h
by_blank m false x y h k = k

events_rise : (lines : List (List ℕ)) (m n : ℕ) (used : UsedState) → m < n → Rises m (events_of used n lines).good
events_rise [] m n used h = (tt, tt)
events_rise (line ∷ lines) m n used h =
    by_blank m (is_blank line) (events_of used (n + 1) lines)
    (after_line n used (event_of line used) (λ after. events_of after (n + 1) lines))
    (events_rise lines m (n + 1) used (omega (arith, h)))
    (after_rises m n used (event_of line used) (λ after. events_of after (n + 1) lines) h
    (λ u. events_rise lines n (n + 1) u (omega arith)))

ended_rises : (header : Header) (good : List Numbered) (bad : Option (ℕ × LineCause)) (script : Script) → Rises 0 good
    → ended_by header good bad ≡ Ok script → IsRising script
ended_rises header good None script h is =
    let same : good ≡ script.events = cc in subst (Rises 0) same h
ended_rises header good (Some bad) script h is = absurd (cc)

after_header : (r : Result Header LineCause) (lines : List (List ℕ)) (script : Script) → script_after r lines ≡ Ok script → IsRising script
after_header (Err cause) lines script is = absurd (cc)
after_header (Ok header) lines script is =
    let found = events_of (unused header.now) 2 lines in
    ended_rises header found.good found.bad script (events_rise lines 0 2 (unused header.now) (omega arith)) is

pub of_lines : (lines : List (List ℕ)) (script : Script) → script_of_lines lines ≡ Ok script → IsRising script
of_lines [] script is = absurd (cc)
of_lines (line ∷ lines) script is = after_header (header_of line) lines script is

pub rise_lem : (bytes : List ℕ) (script : Script) → script_of bytes ≡ Ok script → IsRising script
rise_lem bytes script is = of_lines (lines_of bytes) script is
