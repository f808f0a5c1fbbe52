use Rattle.fed_run.proofs.streams.Endings.{stops_at_end, stops_bad, ends_at_end, ends_bad, ends_long}
use Rattle.fed_run.proofs.streams.Fits.{stops_pieces, stops_by, short_end, short_bad}
use Rattle.fed_run.proofs.stream.stream.Goals as goal

pub returns-in-Err-clause-err : goal.returns-in-Err-clause-err
returns-in-Err-clause-err g c = stops_pieces _ _ _ _ c.in-Err.stop c.in-Err.ensures.err

pub returns-in-Ok-TooLong-clause-ok : goal.returns-in-Ok-TooLong-clause-ok
returns-in-Ok-TooLong-clause-ok g c = ends_long _ _ _ _ (rw c.in-Ok-TooLong.field-0-is at c.in-Ok-TooLong.ensures.ok)

pub returns-in-Err-take_end-clause-err : goal.returns-in-Err-take_end-clause-err
returns-in-Err-take_end-clause-err g c =
    let end = rw c.in-Ok-End.field-0-is at c.in-Ok-End.ensures.ok in
    stops_by c.in-Err-take_end.stop c.in-Err-take_end.ensures.kind
    (stops_at_end _ _ _ _ _ _ _ end (c.in-Err-take_end.ensures.err _ end.bytes end.is_at))
    (λ is. short_end _ _ _ _ end.bytes end.consumed end.at_end end.few (c.in-Err-take_end.ensures.less is _ end.bytes end.is_at))

pub returns-in-Ok-clause-ok : goal.returns-in-Ok-clause-ok
returns-in-Ok-clause-ok g c =
    let end = rw c.in-Ok-End.field-0-is at c.in-Ok-End.ensures.ok in
    ends_at_end _ _ _ _ _ _ _ c.in-Ok.status end (c.in-Ok.ensures.ok _ end.bytes end.is_at)

pub returns-in-Err-put_last-clause-err : goal.returns-in-Err-put_last-clause-err
returns-in-Err-put_last-clause-err g c =
    let met = rw c.in-Ok-Bad.field-0-is at c.in-Ok-Bad.ensures.ok in
    stops_by c.in-Err-put_last.stop c.in-Err-put_last.ensures.kind (stops_bad _ _ _ _ _ _ met c.in-Err-put_last.ensures.err)
    (λ is. short_bad _ _ _ _ _ _ met (c.in-Err-put_last.ensures.less is))

pub returns-in-Ok-put_last-clause-ok : goal.returns-in-Ok-put_last-clause-ok
returns-in-Ok-put_last-clause-ok g c =
    let met = rw c.in-Ok-Bad.field-0-is at c.in-Ok-Bad.ensures.ok in
    ends_bad _ _ _ _ _ _ c.in-Ok-put_last.status met c.in-Ok-put_last.ensures.status c.in-Ok-put_last.ensures.ok
