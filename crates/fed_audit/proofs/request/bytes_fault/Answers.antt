use Rattle.fed_audit.proofs.request.bytes_fault.Goals as goal

pub front_fault-requires : goal.front_fault-requires
front_fault-requires c = (c.in-Some.ensures.some.0, c.of-request.ensures c.in-Some.ensures.some.0 c.in-Some.ensures.some.1)
