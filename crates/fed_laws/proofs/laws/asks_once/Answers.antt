use Rattle.fed_laws.specs.Laws.{AsksOnce}
use Rattle.fed_laws.proofs.scripts.Scripts.{of_scripts}
use Rattle.fed_laws.proofs.pending.Asked.{asks_once_lem}
use Rattle.fed_laws.proofs.laws.asks_once.Goals as goal

pub returns-clause-runs : goal.returns-clause-runs
returns-clause-runs c = asks_once_lem

pub returns-clause-sessions : goal.returns-clause-sessions
returns-clause-sessions c = λ s T h. asks_once_lem T h.run

pub returns-clause-scripts : goal.returns-clause-scripts
returns-clause-scripts c = of_scripts AsksOnce asks_once_lem
