use Rattle.fed_head.proofs.printed.Chunk.{size_line_reads}
use Rattle.fed_head.proofs.laws.size_line_is_read.Goals as goal

pub returns : goal.returns
returns c = size_line_reads
