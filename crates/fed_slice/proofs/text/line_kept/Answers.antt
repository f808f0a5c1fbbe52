use Rattle.fed_slice.specs.Gather.{part_kept}
use Rattle.fed_slice.proofs.gathered.Numbers.{line_at}
use Rattle.fed_slice.proofs.text.line_kept.Goals as goal

pub returns : goal.returns
returns c =
    line_at (part_kept c.args.rules.now c.args.part.now) c.args.numbered.now c.has_event.result c.unless.result c.has_event.ensures
    c.unless.ensures
