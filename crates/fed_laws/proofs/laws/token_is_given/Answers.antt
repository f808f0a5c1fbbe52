use Rattle.fed_laws.specs.Laws.{IsAnswered}
use Rattle.fed_laws.proofs.scripts.Scripts.{of_scripts}
use Rattle.fed_laws.proofs.tokens.Answered.{answered_lem}
use Rattle.fed_laws.proofs.laws.token_is_given.Goals as goal

pub returns-clause-runs : goal.returns-clause-runs
returns-clause-runs c = answered_lem

pub returns-clause-sessions : goal.returns-clause-sessions
returns-clause-sessions c = λ s T h. answered_lem T h.run

pub returns-clause-scripts : goal.returns-clause-scripts
returns-clause-scripts c = of_scripts IsAnswered answered_lem
