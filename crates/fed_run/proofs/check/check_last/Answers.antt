use Rattle.std.proofs.Common.{Err, refl}
use Rattle.fed_run.proofs.streams.Lines.{err_given}
use Rattle.fed_run.proofs.checks.Pieces.{goes_last, stops_end, stops_last, fails_last}
use Rattle.fed_run.proofs.check.check_last.Goals as goal

pub returns-in-Err-clause-err : goal.returns-in-Err-clause-err
returns-in-Err-clause-err g c = λ start bytes so. stops_end _ _ start _ bytes so

pub returns-in-Err-put_found-clause-err : goal.returns-in-Err-put_found-clause-err
returns-in-Err-put_found-clause-err g c =
    λ start bytes so. stops_last _ _ start _ _ bytes _ so c.in-Ok.ensures.found
    (rw c.as_slice-list.ensures at c.in-Err-put_found.ensures.err)

pub returns-clause-ok : goal.returns-clause-ok
returns-clause-ok g c =
    λ start bytes so. goes_last _ _ _ _ start _ _ bytes _ so c.in-Ok.ensures.found
    (rw c.as_slice-list.ensures at c.or_bad.ensures) c.status_of.ensures
    (rw c.as_slice-list.ensures at c.in-Ok-put_found.ensures.ok)

pub returns-in-Err-put_found-clause-less : goal.returns-in-Err-put_found-clause-less
returns-in-Err-put_found-clause-less g c =
    λ is start bytes so. fails_last _ _ start _ _ bytes _ so c.in-Ok.ensures.found
    (rw c.as_slice-list.ensures at (c.in-Err-put_found.ensures.less (err_given (Err c.in-Err-put_found.stop) _ _ refl is)))
