use Rattle.fed_audit.proofs.rows.Lines.{if_ok}
use Rattle.fed_audit.proofs.sayings.Sayings.{by_own, not_same}
use Rattle.fed_audit.proofs.differ.request_difference.Goals as goal

pub returns-in-Some : goal.returns-in-Some
returns-in-Some c =
    let front = c.in-Some.ensures.some in
    if_ok c.said_request.result c.said_request.ensures
    (λ found said. by_own c.args.kind c.args.own.now c.args.said.now found front.0 c.of.result
    (not_same c.args.own.now c.args.said.now c.eq.result c.eq.ensures c.if-eq.false) (c.of.ensures front.0 front.1) said)
