use Rattle.std.proofs.Common.{◌≡◌, ℕ, ◌-◌, ◌≤◌, List, length, take, drop, arith, length-drop, take-append-drop}
use Rattle.std.proofs.KnownBytes.{Appends-trans, Appends-kept}
use Rattle.std.proofs.Math.Seq.{take-add}
use Rattle.std.proofs.lemmas.Grind.{common_steps}
use Rattle.std.proofs.lemmas.Result.{err_from_is_err_and}
use Rattle.std.proofs.lemmas.List.{length-take}
use Rattle.fed_io.proofs.source.put_all.Goals as goal

-- `&bytes[at..]` is what stands behind `at`
rest_from : (at : ℕ) (bytes : List ℕ) → take (length bytes - at) (drop at bytes) ≡ drop at bytes
rest_from at bytes = grind (arith, common_steps)

pub returns-in_err-at-clause-bytes : goal.returns-in_err-at-clause-bytes
returns-in_err-at-clause-bytes g c =
    let p = err_from_is_err_and c.from_residual.result c.from_residual.ensures.1 in
    rw p.1 (
      take c.loop-at.at c.args.bytes.now,
      (drop c.loop-at.at c.args.bytes.now, take-append-drop c.loop-at.at c.args.bytes.now),
      Appends-kept _ _ _ _ c.loop-at.invariant.taken c.in_err-at.ensures.bytes,
    )

pub returns-in_err-at-clause-less : goal.returns-in_err-at-clause-less
returns-in_err-at-clause-less g c =
    let p = err_from_is_err_and c.from_residual.result c.from_residual.ensures.1 in
    rw p.1 (
      take c.loop-at.at c.args.bytes.now,
      (drop c.loop-at.at c.args.bytes.now, take-append-drop c.loop-at.at c.args.bytes.now),
      simp (length-take) (omega arith),
      Appends-kept _ _ _ _ c.loop-at.invariant.taken c.in_err-at.ensures.bytes,
    )

pub loop-at-preserved : goal.loop-at-preserved
loop-at-preserved g c =
    let rest = rest_from c.loop-at.at c.args.bytes.now in
    record {
      within = let h : c.in_ok-at.field-0 ≤ length (drop c.loop-at.at c.args.bytes.now) = rw (← rest) c.in_ok-at.ensures.bound in
          omega (arith, length-drop c.loop-at.at c.args.bytes.now, c.loop-at.invariant.within);
      taken = rw take-add (rw rest at (Appends-trans _ _ _ _ _ c.loop-at.invariant.taken c.in_ok-at.ensures.bytes));
      later = omega (arith, c.loop-at.invariant.later, c.in_ok-at.ensures.cause.later);
    }
