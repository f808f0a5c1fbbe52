use Rattle.std.proofs.Common.{◌&&◌, ◌∙◌}
use Rattle.std.specs.Prelude.{not}
use Rattle.fed_slice.specs.Closure.{loads}
use Rattle.fed_slice.specs.Linked.{is_number}
use Rattle.fed_slice.proofs.gathered.Numbers.{gather, gathered}
use Rattle.fed_slice.proofs.gathered.Parts.{loads_inside}
use Rattle.fed_slice.proofs.part.pages_inside.Goals as goal

pub loop-numbered-preserved : goal.loop-numbered-preserved
loop-numbered-preserved c =
    gather (λ n q. loads q n.event && not (is_number c.args.outside.now.keys q)) c.args.events.now c.loop-numbered.numbered-index
    c.numbered-item.result c.page_inside.result c.loop-numbered.pages.keys c.add.new.numbers.keys c.loop-numbered-test.true
    c.numbered-item.is c.page_inside.ensures c.in_ok-add.ensures c.loop-numbered.invariant

pub returns : goal.returns
returns c =
    λ q.
    gathered (λ n q. loads q n.event && not (is_number c.args.outside.now.keys q)) c.args.events.now c.loop-numbered.numbered-index
    c.loop-numbered.pages.keys c.loop-numbered-test.false c.loop-numbered.invariant q
    ∙ loads_inside (not (is_number c.args.outside.now.keys q)) c.args.events.now q
