use Rattle.fed_laws.specs.Laws.{HasCause}
use Rattle.fed_laws.proofs.scripts.Scripts.{of_scripts}
use Rattle.fed_laws.proofs.causes.Agreed.{cause_lem}
use Rattle.fed_laws.proofs.laws.assertion_has_cause.Goals as goal

pub returns-clause-runs : goal.returns-clause-runs
returns-clause-runs c = cause_lem

pub returns-clause-sessions : goal.returns-clause-sessions
returns-clause-sessions c = λ s T h. cause_lem T h.run

pub returns-clause-scripts : goal.returns-clause-scripts
returns-clause-scripts c = of_scripts HasCause cause_lem
