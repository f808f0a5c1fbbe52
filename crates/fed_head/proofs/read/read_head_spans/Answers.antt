use Rattle.fed_head.proofs.found.Found.{head_answered}
use Rattle.fed_head.proofs.read.read_head_spans.Goals as goal

pub returns : goal.returns
returns c =
    head_answered c.args.raw.now c.response_at.new.spans _ c.response_at.result c.response_at.ensures.some c.response_at.ensures.none
