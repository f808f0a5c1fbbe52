use Rattle.fed_slice_laws.proofs.whole.One.{one_closure_lem}
use Rattle.fed_slice_laws.proofs.laws.one_closure.Goals as goal

pub returns : goal.returns
returns c = one_closure_lem
