use Rattle.fed_run.specs.Told.{told_ended}
use Rattle.fed_run.proofs.streams.Lines.{last_at, last_none, stops_last, fails_last, stops_end}
use Rattle.fed_run.proofs.pieces.take_last.Goals as goal

pub returns-in-Err-clause-err : goal.returns-in-Err-clause-err
returns-in-Err-clause-err g c = λ start bytes at. stops_end _ _ start _ bytes at

pub returns-in-Err-take_line-clause-err : goal.returns-in-Err-take_line-clause-err
returns-in-Err-take_line-clause-err g c =
    let ends = rw c.in-Ok-Some.field-0-is at c.in-Ok-Some.ensures.lines in
    let follows = rw c.in-Ok-Some.field-0-is at c.in-Ok-Some.ensures.follows in
    λ start bytes at. stops_last _ _ start _ _ bytes _ at ends
    (c.in-Err-take_line.ensures.err c.args.reader.now.phase.used (told_ended bytes) at.at follows)

pub returns-in-Err-take_line-clause-less : goal.returns-in-Err-take_line-clause-less
returns-in-Err-take_line-clause-less g c =
    let ends = rw c.in-Ok-Some.field-0-is at c.in-Ok-Some.ensures.lines in
    let follows = rw c.in-Ok-Some.field-0-is at c.in-Ok-Some.ensures.follows in
    λ is start bytes at. fails_last _ _ start _ _ bytes _ at ends
    (c.in-Err-take_line.ensures.less is c.args.reader.now.phase.used (told_ended bytes) at.at follows)

pub returns-in-Ok-clause-ok : goal.returns-in-Ok-clause-ok
returns-in-Ok-clause-ok g c =
    let ends = rw c.in-Ok-Some.field-0-is at c.in-Ok-Some.ensures.lines in
    let follows = rw c.in-Ok-Some.field-0-is at c.in-Ok-Some.ensures.follows in
    λ start bytes at.
    let used = rw c.in-Ok-Some.field-0-is at c.in-Ok-Some.ensures.used in
    let took = c.in-Ok.ensures.ok c.args.reader.now.phase.used (told_ended bytes) at.at follows in
    last_at _ _ _ _ start _ _ bytes _ _ at ends used took.0 took.1 c.in-Ok.ensures.bad

pub returns-in-Ok-None-clause-ok : goal.returns-in-Ok-None-clause-ok
returns-in-Ok-None-clause-ok g c =
    let ends = rw c.in-Ok-None.field-0-is at c.in-Ok-None.ensures.lines in
    let used = rw c.in-Ok-None.field-0-is at c.in-Ok-None.ensures.used in
    λ start bytes at. last_none _ _ _ start _ bytes at ends used
