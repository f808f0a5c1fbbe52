-- The numbers of the lines of a script are few where its bytes are.
use Rattle.std.proofs.Common.{ℕ, suc, ◌+◌, ◌^◌, ◌<◌, ◌≤◌, Bool, true, false, cond, ◌==◌, List, [], ◌∷◌, length, Option, Some, None, subst}
use Rattle.std.proofs.Common.{arith}
use Rattle.std.specs.Prelude.{Result, Ok, Err}
use Rattle.std.specs.List.{AllByRecursion, onto_first}
use Rattle.std.proofs.lemmas.Bool.{cond_both}
use Rattle.fed_script.specs.declared.cause.LineCause.{LineCause}
use Rattle.fed_script.specs.declared.event.Event.{Event}
use Rattle.fed_script.specs.declared.event.Header.{Header}
use Rattle.fed_script.specs.declared.event.Numbered.{Numbered}
use Rattle.fed_script.specs.Line.{event_of, header_of}
use Rattle.fed_script.specs.Script.{Events, Stop, after_line, ended_by, events_of, is_blank, lines_of, script_after}
use Rattle.fed_script.specs.Script.{script_of_lines}
use Rattle.fed_script.specs.Used.{UsedState, unused, used_after}
use Rattle.fed_own.specs.Whole.{LinesAreSmall, ShortTranscriptPasses}
use Rattle.fed_own.proofs.plain.Results.{IfOk}
use Rattle.fed_own.proofs.meets.Whole.{transcript_lem}

lines_few : (bytes : List ℕ) → length (lines_of bytes) ≤ length bytes
lines_few [] = omega arith
lines_few (b ∷ bytes) = go (b == 10) (lines_of bytes) (lines_few bytes)
  where
    go : (t : Bool) (lines : List (List ℕ)) → length lines ≤ length bytes
        → length (cond t ([] ∷ lines) (onto_first b lines)) ≤ suc (length bytes)
    go true lines few = omega (arith, few)
    go false [] few = omega arith
    go false (line ∷ lines) few = omega (arith, few)

abbrev AllBelow : ℕ → List Numbered → Type 0
AllBelow most = AllByRecursion (λ (n : Numbered). n.line < most)

numbers_few : (most : ℕ) (used : UsedState) (n : ℕ) (lines : List (List ℕ)) → n + length lines ≤ most
    → AllBelow most (events_of used n lines).good
numbers_few most used n [] few = tt
numbers_few most used n (line ∷ lines) few =
    cond_both (is_blank line) _ _ (λ (e : Events). AllBelow most e.good) (λ t. numbers_few most used (n + 1) lines (omega (arith, few)))
    (λ f. go (event_of line used) (λ after. numbers_few most after (n + 1) lines (omega (arith, few))))
  where
    go : (r : Result Event LineCause) → ((after : UsedState) → AllBelow most (events_of after (n + 1) lines).good)
        → AllBelow most (after_line n used r (λ after. events_of after (n + 1) lines)).good
    go (Ok event) more = (omega (arith, few), more (used_after event used))
    go (Err cause) more = tt

script_few : (lines : List (List ℕ)) → length lines < 2 ^ 32 → IfOk {E = Stop} LinesAreSmall (script_of_lines lines)
script_few [] few = tt
script_few (line ∷ lines) few = after (header_of line)
  where
    ended : (header : Header) (events : List Numbered) (bad : Option (ℕ × LineCause)) → AllBelow (2 ^ 32) events
        → IfOk {E = Stop} LinesAreSmall (ended_by header events bad)
    ended header events None h = h
    ended header events (Some bad) h = tt

    after : (r : Result Header LineCause) → IfOk {E = Stop} LinesAreSmall (script_after r lines)
    after (Err cause) = tt
    after (Ok header) =
        ended header (events_of (unused header.now) 2 lines).good (events_of (unused header.now) 2 lines).bad
        (numbers_few (2 ^ 32) (unused header.now) 2 lines (omega (arith, few)))

pub short_lem : ShortTranscriptPasses
short_lem bytes script read short =
    let few = lines_few bytes in
    transcript_lem bytes script read
    (subst (IfOk {E = Stop} LinesAreSmall) read (script_few (lines_of bytes) (omega (arith, few, short))))
