use Rattle.fed_run.proofs.checks.Pieces.{room_for, goes_piece, stops_here, stops_in, fails_in}
use Rattle.fed_run.proofs.check.check_piece.Goals as goal

pub feed-requires : goal.feed-requires
feed-requires g c = record { few = room_for _ _ c.requires.0 _ c.requires.1 _ c.requires.2 c.requires.3 }

pub returns-in-Err-clause-err : goal.returns-in-Err-clause-err
returns-in-Err-clause-err g c = λ start bytes so. stops_here _ _ start _ bytes _ so

pub returns-in-Err-put_found-clause-err : goal.returns-in-Err-put_found-clause-err
returns-in-Err-put_found-clause-err g c =
    λ start bytes so. stops_in _ _ _ start _ _ bytes _ _ so c.in-Ok.ensures.found
    (rw c.as_slice-list.ensures at c.in-Err-put_found.ensures.err)

pub returns-clause-ok : goal.returns-clause-ok
returns-clause-ok g c =
    λ start bytes so. goes_piece _ _ _ _ start _ _ bytes _ _ so c.in-Ok.ensures.found
    (rw c.as_slice-list.ensures at c.or_bad.ensures) (rw c.as_slice-list.ensures at c.in-Ok-put_found.ensures.ok)

pub returns-in-Err-put_found-clause-less : goal.returns-in-Err-put_found-clause-less
returns-in-Err-put_found-clause-less g c =
    λ is start bytes so. fails_in _ _ _ start _ _ bytes _ _ so c.in-Ok.ensures.found
    (rw c.as_slice-list.ensures at (c.in-Err-put_found.ensures.less is))
