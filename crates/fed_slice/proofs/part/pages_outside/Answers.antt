use Rattle.fed_slice.specs.Gather.{names_outside}
use Rattle.fed_slice.proofs.gathered.Numbers.{gather, gathered}
use Rattle.fed_slice.proofs.part.pages_outside.Goals as goal

pub loop-numbered-preserved : goal.loop-numbered-preserved
loop-numbered-preserved c =
    gather (λ n q. names_outside c.args.rules.now c.args.parties.now q n.event) c.args.events.now c.loop-numbered.numbered-index
    c.numbered-item.result c.page_outside.result c.loop-numbered.pages.keys c.add.new.numbers.keys c.loop-numbered-test.true
    c.numbered-item.is c.page_outside.ensures c.in_ok-add.ensures c.loop-numbered.invariant

pub returns : goal.returns
returns c =
    gathered (λ n q. names_outside c.args.rules.now c.args.parties.now q n.event) c.args.events.now c.loop-numbered.numbered-index
    c.loop-numbered.pages.keys c.loop-numbered-test.false c.loop-numbered.invariant
