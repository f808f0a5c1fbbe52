use Rattle.fed_slice.proofs.joined.Risen.{closure_is}
use Rattle.fed_slice.proofs.closing.closure.Goals as goal

pub raised-requires : goal.raised-requires
raised-requires c = (c.in_ok-closed.ensures c.args.script.now c.in_ok-parties.ensures).distinct

pub returns : goal.returns
returns c =
    closure_is c.args.script.now c.args.party.now c.in_ok-risen.risen.items c.in_ok-closed.closed.items
    (c.in_ok-closed.ensures c.args.script.now c.in_ok-parties.ensures) c.in_ok-risen.ensures.members c.in_ok-risen.ensures.rising
