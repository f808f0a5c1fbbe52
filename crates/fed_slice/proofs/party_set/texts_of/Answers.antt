use Rattle.fed_slice.specs.Linked.{texts}
use Rattle.fed_slice.proofs.gathered.Members.{put_all, put_one}
use Rattle.fed_slice.proofs.party_set.texts_of.Goals as goal

pub loop-party-preserved : goal.loop-party-preserved
loop-party-preserved c =
    put_one c.args.parties.now c.loop-party.party-index c.party-item.result c.as_slice.result.now (texts c.loop-party.texts.keys)
    (texts c.put_party.new.texts.keys) c.loop-party-test.true c.party-item.is c.as_slice.ensures c.in_ok-put_party.ensures
    c.loop-party.invariant

pub returns : goal.returns
returns c =
    put_all c.args.parties.now c.loop-party.party-index (texts c.loop-party.texts.keys) c.loop-party-test.false c.loop-party.invariant
