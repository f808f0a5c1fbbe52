use Rattle.fed_head.proofs.printed.Head.{head_reads}
use Rattle.fed_head.proofs.laws.head_is_read.Goals as goal

pub returns : goal.returns
returns c = head_reads
