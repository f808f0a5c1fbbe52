use Rattle.fed_slice.proofs.gathered.Members.{each_end, each_more}
use Rattle.fed_slice.proofs.party_set.has_each.Goals as goal

pub loop-provider-preserved : goal.loop-provider-preserved
loop-provider-preserved c =
    each_more c.args.rules.now c.args.parties.now c.args.providers.now c.loop-provider.provider-index c.provider-item.result
    c.loop-provider.all c.both-all.result c.loop-provider-test.true c.provider-item.is c.host.ensures c.has.ensures c.both-all.ensures
    c.loop-provider.invariant

pub returns : goal.returns
returns c =
    each_end c.args.rules.now c.args.parties.now c.args.providers.now c.loop-provider.provider-index c.loop-provider.all
    c.loop-provider-test.false c.loop-provider.invariant
