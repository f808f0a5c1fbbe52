use Rattle.std.proofs.Common.{arith}
use Rattle.fed_twin.proofs.twins.Test.{walk_begins, walk_stops, walk_goes_on}
use Rattle.fed_twin.proofs.fault.fault_among.Goals as goal

pub loop-one-init : goal.loop-one-init
loop-one-init c = record { walks = walk_begins c.new-names.ensures; counted = omega arith }

pub returns-in-Some-2-clause-fault : goal.returns-in-Some-2-clause-fault
returns-in-Some-2-clause-fault c =
    walk_stops c.in-Some-2.clause c.loop-one.invariant.walks c.in-Some.ensures.kept c.in-Some-next_kept.ensures.kept
    (rw c.in-Some-2.is at c.in_ok-clause.ensures.clause)

pub loop-one-preserved : goal.loop-one-preserved
loop-one-preserved c =
    record {
      walks = walk_goes_on c.loop-one.invariant.walks c.in-Some.ensures.kept c.in-Some-next_kept.ensures.kept
          (rw c.in_default-2.is at c.in_ok-clause.ensures.clause) (c.in_ok-clause.ensures.names c.in_default-2.is);
      counted = omega (arith, c.in-Some.ensures.shorter);
    }
