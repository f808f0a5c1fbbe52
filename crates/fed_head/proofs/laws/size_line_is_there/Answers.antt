use Rattle.fed_head.proofs.printed.Chunk.{size_line_found}
use Rattle.fed_head.proofs.laws.size_line_is_there.Goals as goal

pub returns : goal.returns
returns c = size_line_found
