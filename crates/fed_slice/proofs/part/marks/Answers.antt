use Rattle.fed_slice.specs.Gather.{part_kept}
use Rattle.fed_slice.specs.Part.{has_event}
use Rattle.fed_slice.proofs.gathered.Numbers.{mark, marked}
use Rattle.fed_slice.proofs.part.marks.Goals as goal

pub loop-numbered-preserved : goal.loop-numbered-preserved
loop-numbered-preserved c =
    mark (λ n. has_event (part_kept c.args.rules.now c.args.part.now) n.event) c.args.events.now c.loop-numbered.numbered-index
    c.numbered-item.result c.has_event.result c.loop-numbered.inside.items c.push.new.self.items c.loop-numbered-test.true
    c.numbered-item.is c.has_event.ensures c.in_ok-push.ensures.items c.loop-numbered.invariant

pub returns : goal.returns
returns c =
    marked (λ n. has_event (part_kept c.args.rules.now c.args.part.now) n.event) c.args.events.now c.loop-numbered.numbered-index
    c.loop-numbered.inside.items c.loop-numbered-test.false c.loop-numbered.invariant
