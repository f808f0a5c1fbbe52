use Rattle.std.proofs.Common.{◌∙◌, sym, subst, rules}
use Rattle.fed_run.proofs.checks.Ends.{IsCheckEnd, is_end, writes_check, ends_check}
use Rattle.fed_run.proofs.check.check.Goals as goal

-- an end is no fault
pub returns-in-Ok-clause-read_fault : goal.returns-in-Ok-clause-read_fault
returns-in-Ok-clause-read_fault g c = λ is. absurd (subst IsCheckEnd is (is_end _ c.in-Ok.ensures.ok))

pub returns-in-Ok-clause-write_fault : goal.returns-in-Ok-clause-write_fault
returns-in-Ok-clause-write_fault g c = λ is. absurd (subst IsCheckEnd is (is_end _ c.in-Ok.ensures.ok))

pub returns-in-Ok-clause-no_room : goal.returns-in-Ok-clause-no_room
returns-in-Ok-clause-no_room g c = λ is. absurd (subst IsCheckEnd is (is_end _ c.in-Ok.ensures.ok))

pub returns-in-Ok-clause-done : goal.returns-in-Ok-clause-done
returns-in-Ok-clause-done g c =
    λ is. (c.in-Ok.ensures.ok.at_end (λ long. absurd (search (sym is ∙ long, rules))), writes_check _ _ _ _ _ _ c.in-Ok.ensures.ok is)

pub returns-in-Ok-clause-bad_script : goal.returns-in-Ok-clause-bad_script
returns-in-Ok-clause-bad_script g c =
    λ is. (c.in-Ok.ensures.ok.at_end (λ long. absurd (search (sym is ∙ long, rules))), writes_check _ _ _ _ _ _ c.in-Ok.ensures.ok is)

pub returns-in-Ok-clause-too_long : goal.returns-in-Ok-clause-too_long
returns-in-Ok-clause-too_long g c = λ is. writes_check _ _ _ _ _ _ c.in-Ok.ensures.ok is

pub returns-in-Ok-clause-complete : goal.returns-in-Ok-clause-complete
returns-in-Ok-clause-complete g c = λ source sink. ends_check _ _ _ _ _ c.in-Ok.ensures.ok

pub returns-in-Ok-clause-ends : goal.returns-in-Ok-clause-ends
returns-in-Ok-clause-ends g c = (
  λ is. absurd (subst IsCheckEnd is (is_end _ c.in-Ok.ensures.ok)),
  λ is. absurd (subst IsCheckEnd is (is_end _ c.in-Ok.ensures.ok)),
  λ is. absurd (subst IsCheckEnd is (is_end _ c.in-Ok.ensures.ok)),
  λ is. absurd (subst IsCheckEnd is (is_end _ c.in-Ok.ensures.ok)),
  λ is. absurd (subst IsCheckEnd is (is_end _ c.in-Ok.ensures.ok)),
)

pub returns-in-Ok-clause-short : goal.returns-in-Ok-clause-short
returns-in-Ok-clause-short g c = λ is. absurd (subst IsCheckEnd is (is_end _ c.in-Ok.ensures.ok))

pub returns-in-Ok-clause-past_limit : goal.returns-in-Ok-clause-past_limit
returns-in-Ok-clause-past_limit g c = λ is. c.in-Ok.ensures.past_limit is
