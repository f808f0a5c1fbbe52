use Rattle.fed_reply.proofs.body.Chunked.{body_there}
use Rattle.fed_reply.proofs.laws.chunked_body_is_there.Goals as goal

pub returns : goal.returns
returns c = body_there
