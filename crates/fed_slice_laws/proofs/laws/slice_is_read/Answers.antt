use Rattle.fed_slice_laws.proofs.whole.Read.{slice_is_read_lem}
use Rattle.fed_slice_laws.proofs.laws.slice_is_read.Goals as goal

pub returns : goal.returns
returns c = slice_is_read_lem
