use Rattle.fed_jar.proofs.limit.Limit.{jar_is_changed}
use Rattle.fed_jar.proofs.laws.jar_is_changed.Goals as goal

pub returns : goal.returns
returns c = jar_is_changed
