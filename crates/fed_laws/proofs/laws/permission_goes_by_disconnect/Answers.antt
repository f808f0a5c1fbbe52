use Rattle.fed_laws.specs.Laws.{GoesByDisconnect}
use Rattle.fed_laws.proofs.scripts.Scripts.{of_scripts}
use Rattle.fed_laws.proofs.permissions.Explained.{goes_lem}
use Rattle.fed_laws.proofs.laws.permission_goes_by_disconnect.Goals as goal

pub returns-clause-runs : goal.returns-clause-runs
returns-clause-runs c = goes_lem

pub returns-clause-sessions : goal.returns-clause-sessions
returns-clause-sessions c = λ s T h. goes_lem T h.run

pub returns-clause-scripts : goal.returns-clause-scripts
returns-clause-scripts c = of_scripts GoesByDisconnect goes_lem
