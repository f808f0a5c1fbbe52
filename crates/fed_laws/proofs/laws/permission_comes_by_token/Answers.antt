use Rattle.fed_laws.specs.Laws.{ComesByToken}
use Rattle.fed_laws.proofs.scripts.Scripts.{of_scripts}
use Rattle.fed_laws.proofs.permissions.Explained.{comes_lem}
use Rattle.fed_laws.proofs.laws.permission_comes_by_token.Goals as goal

pub returns-clause-runs : goal.returns-clause-runs
returns-clause-runs c = comes_lem

pub returns-clause-sessions : goal.returns-clause-sessions
returns-clause-sessions c = λ s T h. comes_lem T h.run

pub returns-clause-scripts : goal.returns-clause-scripts
returns-clause-scripts c = of_scripts ComesByToken comes_lem
