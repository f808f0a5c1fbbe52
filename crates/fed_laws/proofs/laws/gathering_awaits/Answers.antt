use Rattle.fed_laws.specs.Laws.{GatheringAwaits}
use Rattle.fed_laws.proofs.scripts.Scripts.{of_scripts}
use Rattle.fed_laws.proofs.causes.Caused.{gathering_awaits_lem}
use Rattle.fed_laws.proofs.laws.gathering_awaits.Goals as goal

pub returns-clause-runs : goal.returns-clause-runs
returns-clause-runs c = gathering_awaits_lem

pub returns-clause-sessions : goal.returns-clause-sessions
returns-clause-sessions c = λ s T h. gathering_awaits_lem T h.run

pub returns-clause-scripts : goal.returns-clause-scripts
returns-clause-scripts c = of_scripts GatheringAwaits gathering_awaits_lem
