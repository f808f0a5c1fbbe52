use Rattle.std.proofs.Common.{length, ap}
use Rattle.std.proofs.lemmas.Result.{IfOk-weaker}
use Rattle.fed_twin.proofs.compared.Compare.{both_quiet, both_alike}
use Rattle.fed_twin.proofs.comparison.compare_by.Goals as goal

pub returns-clause-quiet : goal.returns-clause-quiet
returns-clause-quiet g c =
    IfOk-weaker c.quiet_run-2.result _ _
    (λ found h. both_quiet c.args.a.now c.args.b.now (length c.events.result.now) found
    (c.in_ok-most.most, c.in_ok-most.field-0-1) c.requires.twin (ap length c.events.ensures.events) c.in_ok-most.ensures h)
    c.quiet_run-2.ensures

pub returns-clause-compared : goal.returns-clause-compared
returns-clause-compared g c = IfOk-weaker c.quiet_run-2.result _ _ (λ found h. h.sent) c.quiet_run-2.ensures

pub returns-clause-alike : goal.returns-clause-alike
returns-clause-alike g c =
    IfOk-weaker c.quiet_run-2.result _ _
    (λ found h. both_alike c.args.a.now c.args.b.now (length c.events.result.now) found
    (c.in_ok-most.most, c.in_ok-most.field-0-1) c.requires.twin c.in_ok-most.ensures h)
    c.quiet_run-2.ensures
