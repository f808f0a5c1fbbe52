use Rattle.fed_io.specs.Io.{AppendsFront, AppendsLess}
use Rattle.fed_run.proofs.streams.Lines.{err_given, on_err}
use Rattle.fed_run.proofs.streams.Sessions.{after_event, of_event, stops_head}
use Rattle.fed_run.proofs.run.take_line.Goals as goal

pub returns-in-Some-clause-ok : goal.returns-in-Some-clause-ok
returns-in-Some-clause-ok g c =
    λ used t stands follows.
    rw c.in-Event.is
    (after_event used t c.in-Some.session c.take_event.new.session _ _ c.in-Event.number c.in-Event.event
    (rw c.in-Some.is at stands) (rw c.in-Event.is at follows) c.in_ok-take_event-in-Some.ensures.ok)

pub returns-in_err-take_event-in-Some-clause-err : goal.returns-in_err-take_event-in-Some-clause-err
returns-in_err-take_event-in-Some-clause-err g c =
    on_err c.from_residual.result
    (λ used t stands follows.
    rw c.in-Event.is
    (of_event (AppendsFront _ _) used t c.in-Some.session c.in-Event.number c.in-Event.event (rw c.in-Some.is at stands)
    c.in_err-take_event-in-Some.ensures.err))

pub returns-in_err-take_event-in-Some-clause-less : goal.returns-in_err-take_event-in-Some-clause-less
returns-in_err-take_event-in-Some-clause-less g c = λ is used t stands follows.
    rw c.in-Event.is
    (of_event (AppendsLess _ _) used t c.in-Some.session c.in-Event.number c.in-Event.event (rw c.in-Some.is at stands)
    (c.in_err-take_event-in-Some.ensures.less
    (err_given c.from_residual.result _ _ c.from_residual.ensures.1 is)))

pub returns-in_err-begin_by-in-Head-clause-err : goal.returns-in_err-begin_by-in-Head-clause-err
returns-in_err-begin_by-in-Head-clause-err g c =
    on_err c.from_residual-in_err-begin_by-in-Head.result
    (λ used t stands follows. rw c.in-Head.is (stops_head t.trace c.in-Head.field-0 c.in-Head.field-1 _))
