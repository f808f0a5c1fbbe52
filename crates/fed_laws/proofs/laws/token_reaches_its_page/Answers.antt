use Rattle.fed_laws.specs.Laws.{ReachesItsPage}
use Rattle.fed_laws.proofs.scripts.Scripts.{of_scripts}
use Rattle.fed_laws.proofs.tokens.Token.{token_lem}
use Rattle.fed_laws.proofs.laws.token_reaches_its_page.Goals as goal

pub returns-clause-runs : goal.returns-clause-runs
returns-clause-runs c = token_lem

pub returns-clause-sessions : goal.returns-clause-sessions
returns-clause-sessions c = λ s T h. token_lem T h.run

pub returns-clause-scripts : goal.returns-clause-scripts
returns-clause-scripts c = of_scripts ReachesItsPage token_lem
