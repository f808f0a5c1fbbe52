use Rattle.fed_head.proofs.found.Found.{section_answered}
use Rattle.fed_head.proofs.read.has_trailer.Goals as goal

pub returns : goal.returns
returns c = section_answered c.args.raw.now _ c.section_at.result c.section_at.ensures.some c.section_at.ensures.none
