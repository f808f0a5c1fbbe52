use Rattle.fed_slice.specs.Linked.{is_number}
use Rattle.fed_slice.specs.Slice.{begins_on}
use Rattle.fed_slice.proofs.gathered.Numbers.{gather, gathered}
use Rattle.fed_slice.proofs.part.calls_inside.Goals as goal

pub loop-numbered-preserved : goal.loop-numbered-preserved
loop-numbered-preserved c =
    gather (λ n q. begins_on (is_number c.args.pages.now.keys) q n.event) c.args.events.now c.loop-numbered.numbered-index
    c.numbered-item.result c.call_inside.result c.loop-numbered.calls.keys c.add.new.numbers.keys c.loop-numbered-test.true
    c.numbered-item.is c.call_inside.ensures c.in_ok-add.ensures c.loop-numbered.invariant

pub returns : goal.returns
returns c =
    gathered (λ n q. begins_on (is_number c.args.pages.now.keys) q n.event) c.args.events.now c.loop-numbered.numbered-index
    c.loop-numbered.calls.keys c.loop-numbered-test.false c.loop-numbered.invariant
