use Rattle.fed_audit.proofs.verdicts.Requests.{fails_head, no_front}
use Rattle.fed_audit.proofs.request.long_fault.Goals as goal

pub returns-in-None : goal.returns-in-None
returns-in-None c = λ s line begun h n began page_is has.
    fails_head s line c.args.asking.now.call c.args.asking.now.provider c.args.asking.now.kind c.args.asking.now.bytes.now
    (begun, began, has) (λ read. no_front c.args.asking.now.bytes.now c.in-None.ensures.none read.0)

pub front_fault-requires : goal.front_fault-requires
front_fault-requires c = (c.in-Some.ensures.some.0, c.of-request.ensures c.in-Some.ensures.some.0 c.in-Some.ensures.some.1)
