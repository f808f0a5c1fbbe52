use Rattle.std.proofs.Common.{subst}
use Rattle.fed_run.specs.Streams.{IsEnd}
use Rattle.fed_run.proofs.streams.Endings.{writes_run, ends_run}
use Rattle.fed_run.proofs.stream.run.Goals as goal

-- an end is no fault
pub returns-in-Ok-clause-read_fault : goal.returns-in-Ok-clause-read_fault
returns-in-Ok-clause-read_fault g c = λ is. absurd (subst IsEnd is c.in-Ok.ensures.ok.is_end)

pub returns-in-Ok-clause-write_fault : goal.returns-in-Ok-clause-write_fault
returns-in-Ok-clause-write_fault g c = λ is. absurd (subst IsEnd is c.in-Ok.ensures.ok.is_end)

pub returns-in-Ok-clause-no_room : goal.returns-in-Ok-clause-no_room
returns-in-Ok-clause-no_room g c = λ is. absurd (subst IsEnd is c.in-Ok.ensures.ok.is_end)

pub returns-in-Ok-clause-done : goal.returns-in-Ok-clause-done
returns-in-Ok-clause-done g c = λ is. (c.in-Ok.ensures.ok.at_end is, writes_run _ _ _ _ _ _ c.in-Ok.ensures.ok is)

pub returns-in-Ok-clause-bad_script : goal.returns-in-Ok-clause-bad_script
returns-in-Ok-clause-bad_script g c = λ is. writes_run _ _ _ _ _ _ c.in-Ok.ensures.ok is

pub returns-in-Ok-clause-too_long : goal.returns-in-Ok-clause-too_long
returns-in-Ok-clause-too_long g c = λ is. writes_run _ _ _ _ _ _ c.in-Ok.ensures.ok is

pub returns-in-Ok-clause-complete : goal.returns-in-Ok-clause-complete
returns-in-Ok-clause-complete g c = λ source sink. ends_run _ _ _ _ _ c.in-Ok.ensures.ok

pub returns-in-Ok-clause-ends : goal.returns-in-Ok-clause-ends
returns-in-Ok-clause-ends g c = (
  λ is. absurd (subst IsEnd is c.in-Ok.ensures.ok.is_end),
  λ is. absurd (subst IsEnd is c.in-Ok.ensures.ok.is_end),
  λ is. absurd (subst IsEnd is c.in-Ok.ensures.ok.is_end),
  λ is. absurd (subst IsEnd is c.in-Ok.ensures.ok.is_end),
  λ is. absurd (subst IsEnd is c.in-Ok.ensures.ok.is_end),
)

pub returns-in-Ok-clause-past_limit : goal.returns-in-Ok-clause-past_limit
returns-in-Ok-clause-past_limit g c = λ is. c.in-Ok.ensures.ok.past is
