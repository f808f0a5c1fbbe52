use Rattle.fed_audit.specs.Differ.{field}
use Rattle.fed_audit.specs.Front.{fields_read}
use Rattle.fed_audit.proofs.sayings.Firsts.{first_goes, first_stops}
use Rattle.fed_audit.proofs.differ.first_field.Goals as goal

pub returns-then-is_some : goal.returns-then-is_some
returns-then-is_some c =
    first_stops (field (fields_read c.args.own.now) (fields_read c.args.said.now)) c.args.aspects.now c.loop-aspect.aspect-index _
    c.in_ok-found.found c.is_some.result c.loop-aspect-test.true c.loop-aspect.invariant c.in_ok-found.ensures
    c.is_some.ensures c.if-is_some.true

pub loop-aspect-preserved : goal.loop-aspect-preserved
loop-aspect-preserved c =
    first_goes (field (fields_read c.args.own.now) (fields_read c.args.said.now)) c.args.aspects.now c.loop-aspect.aspect-index _
    c.in_ok-found.found c.is_some.result c.loop-aspect-test.true c.loop-aspect.invariant c.in_ok-found.ensures
    c.is_some.ensures c.if-is_some.false
