use Rattle.fed_run.proofs.forms.Makes.{made}
use Rattle.fed_run.proofs.top.fedcm.Goals as goal

pub returns-in-Some-Make-clause-done : goal.returns-in-Some-Make-clause-done
returns-in-Some-Make-clause-done g c =
    λ done. made _ _ _ _ _ c.in-Some-Make.calls
    (rw c.in-Some-Make.field-0-is at c.in-Some-Make.ensures.form) (c.tell_summary.ensures.done done)
