use Rattle.fed_audit.specs.Differ.{parts_read}
use Rattle.fed_audit.proofs.rows.Lines.{if_ok}
use Rattle.fed_audit.proofs.sayings.Sayings.{from_said}
use Rattle.fed_audit.proofs.differ.said_request.Goals as goal

pub returns-in-Some : goal.returns-in-Some
returns-in-Some c =
    let front = c.in-Some.ensures.some in
    if_ok c.requests.result c.requests.ensures
    (λ found is. from_said c.args.kind (parts_read c.args.own.now) c.args.said.now found front.0 c.of.result (c.of.ensures front.0 front.1)
    is)
