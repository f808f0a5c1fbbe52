use Rattle.fed_reply.proofs.body.Chunked.{body_read}
use Rattle.fed_reply.proofs.laws.chunked_body_is_read.Goals as goal

pub returns : goal.returns
returns c = body_read
