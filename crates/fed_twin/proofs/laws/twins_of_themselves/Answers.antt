use Rattle.fed_twin.proofs.twins.Self.{twin_self, quiet_before}
use Rattle.fed_twin.proofs.laws.twins_of_themselves.Goals as goal

pub returns-clause-selves : goal.returns-clause-selves
returns-clause-selves c = twin_self

pub returns-clause-before : goal.returns-clause-before
returns-clause-before c = quiet_before
