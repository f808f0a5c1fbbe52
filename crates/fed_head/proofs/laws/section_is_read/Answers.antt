use Rattle.fed_head.proofs.printed.Section.{section_reads}
use Rattle.fed_head.proofs.laws.section_is_read.Goals as goal

pub returns : goal.returns
returns c = section_reads
