use Rattle.fed_twin.proofs.twins.Fault.{twins_have_none, twins_have_only_none}
use Rattle.fed_twin.proofs.laws.twins_have_no_fault.Goals as goal

pub returns-clause-found : goal.returns-clause-found
returns-clause-found c = twins_have_none

pub returns-clause-only : goal.returns-clause-only
returns-clause-only c = twins_have_only_none
