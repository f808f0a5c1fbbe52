use Rattle.fed_reply.proofs.head.Front.{no_head}
use Rattle.fed_reply.proofs.read.read_long_front.Goals as goal

pub returns-in-None : goal.returns-in-None
returns-in-None c = no_head c.args.raw.now c.in-None.ensures
