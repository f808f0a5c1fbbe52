use Rattle.fed_slice.specs.Gather.{is_kept_line, part_kept}
use Rattle.fed_slice.proofs.gathered.Numbers.{gather, gathered}
use Rattle.fed_slice.proofs.text.lines_in.Goals as goal

pub loop-numbered-preserved : goal.loop-numbered-preserved
loop-numbered-preserved c =
    gather (is_kept_line (part_kept c.args.rules.now c.args.part.now)) c.args.events.now c.loop-numbered.numbered-index
    c.numbered-item.result c.line_kept.result c.loop-numbered.lines.keys c.add.new.numbers.keys c.loop-numbered-test.true c.numbered-item.is
    c.line_kept.ensures c.in_ok-add.ensures c.loop-numbered.invariant

pub returns : goal.returns
returns c =
    gathered (is_kept_line (part_kept c.args.rules.now c.args.part.now)) c.args.events.now c.loop-numbered.numbered-index
    c.loop-numbered.lines.keys c.loop-numbered-test.false c.loop-numbered.invariant
