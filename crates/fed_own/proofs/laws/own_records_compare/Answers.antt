use Rattle.fed_own.proofs.alike.Alike.{compare_lem}
use Rattle.fed_own.proofs.laws.own_records_compare.Goals as goal

pub returns : goal.returns
returns c = compare_lem
