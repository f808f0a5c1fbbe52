use Rattle.std.proofs.Common.{ap}
use Rattle.fed_slice.proofs.gathered.Parts.{part_is}
use Rattle.fed_slice.proofs.part.ScriptPart.of.Goals as goal

pub returns : goal.returns
returns c =
    part_is c.args.script.now c.args.parties.now _ c.in_ok-outside.outside.keys c.header.result.now.rules c.events-events.result.now
    (ap (λ h. h.rules) c.header.ensures) c.events-events.ensures.events c.in_ok-parties.ensures c.in_ok-outside.ensures c.in_ok-pages.ensures
    c.in_ok-calls.ensures
