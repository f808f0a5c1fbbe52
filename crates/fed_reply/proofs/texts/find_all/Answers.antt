use Rattle.fed_reply.specs.Texts.{with_found}
use Rattle.fed_reply.proofs.asked.Written.{next_written}
use Rattle.fed_reply.proofs.texts.find_all.Goals as goal

pub loop-one-preserved : goal.loop-one-preserved
loop-one-preserved c =
    next_written (with_found c.args.found) c.loop-one.one-index c.args.asked.now c.loop-one.asked _ c.loop-one-test.true
    c.loop-one.invariant
