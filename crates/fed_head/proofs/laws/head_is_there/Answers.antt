use Rattle.fed_head.proofs.printed.Head.{head_found}
use Rattle.fed_head.proofs.laws.head_is_there.Goals as goal

pub returns : goal.returns
returns c = head_found
