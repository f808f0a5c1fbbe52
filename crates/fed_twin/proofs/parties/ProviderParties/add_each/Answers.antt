use Rattle.fed_twin.proofs.twins.Party.{provider_step}
use Rattle.fed_twin.proofs.parties.ProviderParties.add_each.Goals as goal

pub loop-provider-preserved : goal.loop-provider-preserved
loop-provider-preserved c =
    provider_step c.args.rules.now c.args.providers.now c.loop-provider.provider-index c.provider-item.result
    c.loop-provider-test.true c.provider-item.is c.host.ensures c.party.ensures c.loop-provider.invariant c.in_ok-add.ensures
