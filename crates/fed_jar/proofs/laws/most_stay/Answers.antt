use Rattle.fed_jar.proofs.limit.Most.{most_stay}
use Rattle.fed_jar.proofs.laws.most_stay.Goals as goal

pub returns : goal.returns
returns c = most_stay
