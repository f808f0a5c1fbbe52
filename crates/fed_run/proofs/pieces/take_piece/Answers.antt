use Rattle.std.proofs.Common.{◌∙◌, ◌++◌, sym, ap, subst, append_assoc, arith}
use Rattle.std.proofs.lemmas.Result.{err_from_is_err_and}
use Rattle.fed_run.specs.Streams.{IsAt}
use Rattle.fed_run.specs.Told.{told_ended}
use Rattle.fed_run.proofs.streams.Lines.{goes_line, meets_bad, stops_line, stops_here, goes_rest, took_later, met_later, fails_line}
use Rattle.fed_run.proofs.streams.Lines.{fails_later}
use Rattle.fed_run.proofs.pieces.take_piece.Goals as goal

pub returns-in_err-line-clause-err : goal.returns-in_err-line-clause-err
returns-in_err-line-clause-err g c =
    let p = err_from_is_err_and c.from_residual.result c.from_residual.ensures.1 in
    let so = c.loop-line.invariant in
    rw p.1 (λ start bytes at. took_later start _ bytes so.front _ _ so.cut (stops_here _ _ start _ (bytes ++ so.front) _
    (so.goes start bytes at)))

pub loop-line-preserved : goal.loop-line-preserved
loop-line-preserved g c =
    let so = c.loop-line.invariant in
    let one = rw c.in-Some.is at c.in_ok-line.ensures.some in
    let follows = rw c.in-Some.is at c.in_ok-line.ensures.follows in
    record {
      front = so.front ++ one.front;
      cut = so.cut ∙ ap (λ r. so.front ++ r) one.cut ∙ sym (append_assoc so.front one.front c.in-Some.further.now);
      goes = λ start bytes at.
          let here = so.goes start bytes at in
          let took = c.in-Ok-None.ensures.ok c.loop-line.reader.phase.used (told_ended (bytes ++ so.front)) here.at follows in
          subst (IsAt c.next.new.self c.take_line.new.session start _) (append_assoc bytes so.front one.front)
          (goes_line _ _ _ _ start _ _ _ _ _ _ here one took.0 took.1 (sym c.in-Ok-None.ensures.bad ∙ c.in-Ok-None.field-0-is));
      later = omega (arith, so.later, c.in-Ok-None.ensures.later);
    }

pub returns-in-Err-clause-err : goal.returns-in-Err-clause-err
returns-in-Err-clause-err g c =
    let so = c.loop-line.invariant in
    let one = rw c.in-Some.is at c.in_ok-line.ensures.some in
    let follows = rw c.in-Some.is at c.in_ok-line.ensures.follows in
    λ start bytes at.
    let here = so.goes start bytes at in
    took_later start _ bytes so.front _ _ so.cut
    (stops_line _ _ _ start _ _ _ _ _ _ here one (c.in-Err.ensures.err c.loop-line.reader.phase.used (told_ended (bytes ++ so.front))
    here.at follows))

pub returns-in-Err-clause-less : goal.returns-in-Err-clause-less
returns-in-Err-clause-less g c =
    let so = c.loop-line.invariant in
    let one = rw c.in-Some.is at c.in_ok-line.ensures.some in
    let follows = rw c.in-Some.is at c.in_ok-line.ensures.follows in
    λ is start bytes at.
    let here = so.goes start bytes at in
    fails_later start _ bytes so.front _ _ so.cut
    (fails_line _ _ _ start _ _ _ _ _ _ here one (c.in-Err.ensures.less is c.loop-line.reader.phase.used (told_ended (bytes ++ so.front))
    here.at follows))

pub returns-in-Ok-Some-clause-some : goal.returns-in-Ok-Some-clause-some
returns-in-Ok-Some-clause-some g c =
    let so = c.loop-line.invariant in
    let one = rw c.in-Some.is at c.in_ok-line.ensures.some in
    let follows = rw c.in-Some.is at c.in_ok-line.ensures.follows in
    λ start bytes at.
    let here = so.goes start bytes at in
    met_later start _ bytes so.front _ _ _ so.cut
    (meets_bad _ _ _ start _ _ _ _ _ _ _ here one
    (c.in-Ok-Some.ensures.ok c.loop-line.reader.phase.used (told_ended (bytes ++ so.front)) here.at follows).1
    (sym c.in-Ok-Some.ensures.bad ∙ c.in-Ok-Some.field-0-is))

pub returns-clause-none : goal.returns-clause-none
returns-clause-none g c =
    let so = c.loop-line.invariant in
    λ start bytes at.
    subst (IsAt c.next.new.self c.loop-line.session start _) (append_assoc bytes so.front c.loop-line.rest.now
    ∙ ap (λ p. bytes ++ p) (sym so.cut))
    (goes_rest _ _ _ start _ (bytes ++ so.front) _ (so.goes start bytes at) (rw c.in_default.is at c.in_ok-line.ensures.none))
