use Rattle.fed_jar.proofs.changes.Last.{last_stands}
use Rattle.fed_jar.proofs.laws.last_stands.Goals as goal

pub returns : goal.returns
returns c = last_stands
