use Rattle.fed_laws.specs.Laws.{IsAskedFor}
use Rattle.fed_laws.proofs.scripts.Scripts.{of_scripts}
use Rattle.fed_laws.proofs.followed.Acts.{followed_lem}
use Rattle.fed_laws.proofs.laws.cause_is_followed.Goals as goal

pub returns-clause-runs : goal.returns-clause-runs
returns-clause-runs c = followed_lem

pub returns-clause-sessions : goal.returns-clause-sessions
returns-clause-sessions c = λ s T h. followed_lem T h.run

pub returns-clause-scripts : goal.returns-clause-scripts
returns-clause-scripts c = of_scripts IsAskedFor followed_lem
