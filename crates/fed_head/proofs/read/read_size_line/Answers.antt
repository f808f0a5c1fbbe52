use Rattle.fed_head.proofs.found.Found.{size_answered}
use Rattle.fed_head.proofs.read.read_size_line.Goals as goal

pub returns : goal.returns
returns c = size_answered c.args.raw.now c.size_at.result c.size_at.ensures.some c.size_at.ensures.none
