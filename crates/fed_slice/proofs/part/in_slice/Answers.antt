use Rattle.std.proofs.Common.{ap}
use Rattle.fed_slice.proofs.gathered.Parts.{marks_tell}
use Rattle.fed_slice.proofs.part.in_slice.Goals as goal

pub returns : goal.returns
returns c =
    marks_tell c.args.script.now c.args.parties.now c.in_ok-part.part c.header.result.now.rules c.events.result.now
    c.in_ok-inside.inside.items c.in_ok-part.ensures (ap (λ h. h.rules) c.header.ensures) c.events.ensures.events c.in_ok-inside.ensures
