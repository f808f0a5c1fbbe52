-- What is read of each of two scripts is what is read of both.
use Rattle.std.proofs.Common.{◌≡◌, ℕ, ◌+◌, ap}
use Rattle.std.specs.Prelude.{Result, Ok, Err}
use Rattle.fed_io.specs.Fault.{Refuses}
use Rattle.fed_io.specs.declared.error.Fault.{Fault}
use Rattle.fed_io.specs.declared.error.Fault.TheVariants.{Step, NoRoom}
use Rattle.fed_script.specs.declared.cause.BadLine.{BadLine}
use Rattle.fed_script.specs.declared.cause.PairCause.TheVariants.{Line}
use Rattle.fed_script.specs.declared.cause.PairStop.{PairStop}
use Rattle.fed_script.specs.Half.{half_of}
use Rattle.fed_script.specs.Pair.{pair_after}
use Rattle.fed_script.specs.Script.{Script, Stop, bad_line, or_bad_line}

-- a bad line is numbered after those before it
pub half_stops : (before : ℕ) (r : Result Script Stop) (bad : BadLine) → or_bad_line r ≡ Err bad
    → half_of before r ≡ Err (record { line = before + bad.line; cause = Line bad.cause })
half_stops before (Ok script) bad is = absurd (cc)
half_stops before (Err stop) bad is =
    let same : bad_line stop ≡ bad = cc in
    ap (λ (b : BadLine). Err (record { line = before + b.line; cause = Line b.cause })) same

-- why the first is refused is why both are
pub first_refused : (before : ℕ) (first second : Result Script Stop) (fault : Fault PairStop) → Refuses fault (half_of 0 first)
    → Refuses fault (pair_after before first second)
first_refused before (Ok script) second (Step stop) refused = absurd (cc)
first_refused before (Err bad) second (Step stop) refused =
    let same : record { line = 0 + bad.line; cause = Line bad.cause } ≡ stop = cc in ap (λ (s : PairStop). Err s) same
first_refused before first second NoRoom refused = tt

-- after a first that is read, why the second is refused is why both are
pub second_refused : (before : ℕ) (first second : Result Script Stop) (script : Script) (fault : Fault PairStop)
    → half_of 0 first ≡ Ok script → Refuses fault (half_of before second) → Refuses fault (pair_after before first second)
second_refused before (Err bad) second script fault reads refused = absurd (cc)
second_refused before (Ok read) (Ok other) script (Step stop) reads refused = absurd (cc)
second_refused before (Ok read) (Err bad) script (Step stop) reads refused =
    let same : record { line = before + bad.line; cause = Line bad.cause } ≡ stop = cc in ap (λ (s : PairStop). Err s) same
second_refused before (Ok read) second script NoRoom reads refused = tt
