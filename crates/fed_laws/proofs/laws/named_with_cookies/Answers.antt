use Rattle.fed_laws.specs.Laws.{NamedWithCookies}
use Rattle.fed_laws.proofs.scripts.Scripts.{of_scripts}
use Rattle.fed_laws.proofs.naming.Named.{named_lem}
use Rattle.fed_laws.proofs.laws.named_with_cookies.Goals as goal

pub returns-clause-runs : goal.returns-clause-runs
returns-clause-runs c = named_lem

pub returns-clause-sessions : goal.returns-clause-sessions
returns-clause-sessions c = λ s T h. named_lem T h.run

pub returns-clause-scripts : goal.returns-clause-scripts
returns-clause-scripts c = of_scripts NamedWithCookies named_lem
