use Rattle.fed_laws.specs.Laws.{DisconnectHasCause}
use Rattle.fed_laws.proofs.scripts.Scripts.{of_scripts}
use Rattle.fed_laws.proofs.naming.Named.{disconnect_cause_lem}
use Rattle.fed_laws.proofs.laws.disconnect_has_cause.Goals as goal

pub returns-clause-runs : goal.returns-clause-runs
returns-clause-runs c = disconnect_cause_lem

pub returns-clause-sessions : goal.returns-clause-sessions
returns-clause-sessions c = λ s T h. disconnect_cause_lem T h.run

pub returns-clause-scripts : goal.returns-clause-scripts
returns-clause-scripts c = of_scripts DisconnectHasCause disconnect_cause_lem
