use Rattle.std.proofs.Common.{◌≤◌, length, IfOk, sym, subst}
use Rattle.std.proofs.lemmas.Result.{IfOk-weaker}
use Rattle.fed_twin.proofs.twins.Test.{IsTested, few_in_script, tested}
use Rattle.fed_twin.proofs.fault.twin_fault.Goals as goal
use Rattle.fed_twin.proofs.fault.twin_fault.Goals.{After-fault_among}

pub fault_among-requires : goal.fault_among-requires
fault_among-requires c =
    subst (λ events. length events ≤ 1000000) (sym c.events.ensures.events) (few_in_script c.args.a.now c.events.ensures.read)

all_tested : (c : After-fault_among) → IfOk c.fault_among.result (IsTested c.args.a.now c.args.b.now)
all_tested c =
    tested c.args.a.now c.args.b.now c.fault_among.result c.header.ensures c.header-2.ensures c.header-3.ensures
    c.events.ensures.events c.events-2.ensures.events (c.same_headers.ensures.0 c.if-not-same_headers.false)
    c.in_ok-parties.ensures c.fault_among.ensures.fault c.fault_among.ensures.twins

pub returns-clause-fault : goal.returns-clause-fault
returns-clause-fault c =
    IfOk-weaker c.fault_among.result _ _ (λ found h. h.fault) (all_tested (goal.at.returns-clause-fault c).After-fault_among)

pub returns-clause-twins : goal.returns-clause-twins
returns-clause-twins c =
    IfOk-weaker c.fault_among.result _ _ (λ found h. h.twins) (all_tested (goal.at.returns-clause-twins c).After-fault_among)
