use Rattle.fed_slice_laws.proofs.whole.Lines.{slice_reads_lem}
use Rattle.fed_slice_laws.proofs.laws.slice_reads.Goals as goal

pub returns : goal.returns
returns c = slice_reads_lem
