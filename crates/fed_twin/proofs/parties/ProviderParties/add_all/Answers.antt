use Rattle.fed_twin.proofs.twins.Party.{event_step}
use Rattle.fed_twin.proofs.parties.ProviderParties.add_all.Goals as goal

pub loop-numbered-preserved : goal.loop-numbered-preserved
loop-numbered-preserved c =
    event_step c.args.rules.now c.args.events.now c.loop-numbered.numbered-index c.numbered-item.result
    c.loop-numbered-test.true c.numbered-item.is c.loop-numbered.invariant c.in_ok-add_of.ensures
