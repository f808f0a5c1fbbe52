use Rattle.fed_reply.proofs.head.Front.{no_head}
use Rattle.fed_reply.proofs.json_head.read_long_head.Goals as goal

pub returns-in-None : goal.returns-in-None
returns-in-None c = no_head c.args.raw.now c.in-None.ensures
