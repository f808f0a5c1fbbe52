-- What a script and a transcript are read as.
use Rattle.std.proofs.Common.{◌≡◌, ◌∙◌, ℕ, ◌+◌, ◌<◌, Bool, true, false, cond, ◌||◌, not, List, [], ◌∷◌, length, Some, None}
use Rattle.std.proofs.Common.{refl, sym, ap, arith, length-drop}
use Rattle.std.proofs.lemmas.List.{length-take}
use Rattle.std.specs.List.{list_any, before_first, after_first, position_or_len}
use Rattle.std.specs.Prelude.{Result, Ok, Err}
use Rattle.fed_io.specs.Fault.{Refuses}
use Rattle.fed_io.specs.declared.error.Fault.{Fault}
use Rattle.fed_io.specs.declared.error.Fault.TheVariants.{Step, NoRoom}
use Rattle.fed_script.specs.declared.cause.BadLine.{BadLine}
use Rattle.fed_script.specs.declared.cause.LineCause.{LineCause}
use Rattle.fed_script.specs.declared.cause.PairCause.TheVariants.{Line}
use Rattle.fed_script.specs.declared.cause.PairStop.{PairStop}
use Rattle.fed_script.specs.Half.{half_of}
use Rattle.fed_script.specs.Pair.{Halves}
use Rattle.fed_script.specs.Script.{Script, Stop, bad_line, or_bad_line, lines_of, script_of_lines}
use Rattle.fed_script.proofs.scripts.Stop.{length-lines_of}
use Rattle.fed_audit.specs.Walk.{IsRising}
use Rattle.fed_audit.proofs.follows.Rises.{of_lines}
use Rattle.fed_run.proofs.transcripts.Within.{zero}
use Rattle.fed_run.specs.Recorded.{Recorded, is_divider, recorded_after, recorded_by, recorded_of}

-- the stop at a line of the script
abbrev stop_at : ℕ → LineCause → PairStop
stop_at n cause = record { line = n; cause = Line cause }

-- a bad line of the script keeps its number
pub script_stops : (r : Result Script Stop) (bad : BadLine) → or_bad_line r ≡ Err bad → half_of 0 r ≡ Err (stop_at bad.line bad.cause)
script_stops (Ok script) bad is = absurd (cc)
script_stops (Err stop) bad is =
    let same : bad_line stop ≡ bad = cc in
    ap (λ (b : BadLine). Err (stop_at (0 + b.line) b.cause)) same ∙ ap (λ (n : ℕ). Err (stop_at n bad.cause)) (zero bad.line)

-- where the script is read, both are
pub divided_reads : (before : ℕ) (r : Result Script Stop) (lines : List (List ℕ)) (script : Script) → half_of 0 r ≡ Ok script
    → recorded_after before r lines ≡ Ok (record { script = script; first = before + 2; lines = lines })
divided_reads before (Err stop) lines script is = absurd (cc)
divided_reads before (Ok read) lines script is =
    let same : read ≡ script = cc in
    ap (λ (s : Script). Ok (record { script = s; first = before + 2; lines = lines })) same

-- why the script is refused is why both are
pub divided_refused : (before : ℕ) (r : Result Script Stop) (lines : List (List ℕ)) (fault : Fault PairStop) → Refuses fault (half_of 0 r)
    → Refuses fault (recorded_after before r lines)
divided_refused before (Ok script) lines (Step stop) refused = absurd (cc)
divided_refused before (Err bad) lines (Step stop) refused =
    let same : record { line = 0 + bad.line; cause = Line bad.cause } ≡ stop = cc in ap (λ (s : PairStop). Err s) same
divided_refused before r lines NoRoom refused = tt

-- ---- an audit may begin

record Parts (halves : Halves) (recorded : Recorded) : Type 0 where
  pub script : script_of_lines halves.first ≡ Ok recorded.script
  pub first : recorded.first ≡ length halves.first + 2
  pub lines : recorded.lines ≡ halves.second

parts_of : (halves : Halves) (r : Result Script Stop) (recorded : Recorded) → script_of_lines halves.first ≡ r
    → recorded_after (length halves.first) r halves.second ≡ Ok recorded → Parts halves recorded
parts_of halves (Err stop) recorded reads is = absurd (cc)
parts_of halves (Ok script) recorded reads is =
    let same : record { script = script; first = length halves.first + 2; lines = halves.second } ≡ recorded = cc in
    record {
      script = reads ∙ ap (λ (r : Recorded). Ok r.script) same;
      first = sym (ap (λ (r : Recorded). r.first) same);
      lines = sym (ap (λ (r : Recorded). r.lines) same);
    }

-- where one passes, the first that does is among them
any_place : (p : List ℕ → Bool) (lines : List (List ℕ)) → list_any p lines ≡ true → position_or_len p lines < length lines
any_place p [] any = absurd (cc)
any_place p (line ∷ lines) any = by (p line) any (any_place p lines)
  where
    by : (b : Bool) → (b || list_any p lines) ≡ true → (list_any p lines ≡ true → position_or_len p lines < length lines)
        → cond (not b) (1 + position_or_len p lines) 0 < length (line ∷ lines)
    by true any later = omega arith
    by false any later = let less = later any in omega (arith, less)

-- the lines before and after it are less than all
few_halves : (p : List ℕ → Bool) (lines : List (List ℕ)) → list_any p lines ≡ true
    → length (before_first p lines) + length (after_first p lines) < length lines
few_halves p lines any =
    let place = any_place p lines any in
    omega (arith, place, length-take (position_or_len p lines) lines, length-drop (position_or_len p lines + 1) lines)

-- its events rise, and its lines are few
pub record MayBeAudited (recorded : Recorded) (most : ℕ) : Type 0 where
  pub rising : IsRising recorded.script
  pub few : recorded.first + length recorded.lines < most + 2

halved_may : (lines : List (List ℕ)) (any : Bool) (recorded : Recorded) → list_any is_divider lines ≡ any
    → recorded_by lines
    (cond any (Some (record { first = before_first is_divider lines; second = after_first is_divider lines })) None) ≡ Ok recorded
    → MayBeAudited recorded (length lines)
halved_may lines false recorded any is = absurd (cc)
halved_may lines true recorded any is =
    let halves : Halves = record { first = before_first is_divider lines; second = after_first is_divider lines } in
    let parts = parts_of halves (script_of_lines halves.first) recorded refl is in
    let few = few_halves is_divider lines any in
    record {
      rising = of_lines halves.first recorded.script parts.script;
      few = omega (arith, parts.first, ap length parts.lines, few);
    }

pub may_be_audited : (bytes : List ℕ) (recorded : Recorded) → recorded_of bytes ≡ Ok recorded → MayBeAudited recorded (length bytes)
may_be_audited bytes recorded is =
    let so = halved_may (lines_of bytes) (list_any is_divider (lines_of bytes)) recorded refl is in
    record { rising = so.rising; few = omega (arith, so.few, length-lines_of bytes) }
