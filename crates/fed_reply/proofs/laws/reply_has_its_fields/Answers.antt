use Rattle.fed_reply.proofs.head.Values.{reply_fields}
use Rattle.fed_reply.proofs.laws.reply_has_its_fields.Goals as goal

pub returns : goal.returns
returns c = reply_fields
