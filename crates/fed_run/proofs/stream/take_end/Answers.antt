use Rattle.fed_run.proofs.streams.Endings.{stops_record, fails_record}
use Rattle.fed_run.proofs.stream.take_end.Goals as goal

pub returns-in-Err-put_last-clause-err : goal.returns-in-Err-put_last-clause-err
returns-in-Err-put_last-clause-err g c =
    λ start bytes at. stops_record _ start _ _ bytes _ _ (c.in-Ok.ensures.ok start bytes at) c.events.ensures c.in-Err-put_last.ensures.err

pub returns-in-Err-put_last-clause-less : goal.returns-in-Err-put_last-clause-less
returns-in-Err-put_last-clause-less g c =
    λ is start bytes at. fails_record _ start _ _ bytes _ _ (c.in-Ok.ensures.ok start bytes at) c.events.ensures
    (c.in-Err-put_last.ensures.less is)
