use Rattle.fed_head.proofs.printed.Section.{section_found}
use Rattle.fed_head.proofs.laws.section_is_there.Goals as goal

pub returns : goal.returns
returns c = section_found
