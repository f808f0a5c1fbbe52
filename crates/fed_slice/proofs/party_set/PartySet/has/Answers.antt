use Rattle.std.proofs.Common.{◌∙◌}
use Rattle.fed_slice.proofs.gathered.Members.{looks_up}
use Rattle.fed_slice.proofs.party_set.PartySet.has.Goals as goal

pub returns : goal.returns
returns c =
    c.contains.ensures
    ∙ looks_up c.args.rules.now c.args.host.now (λ party. party.items) c.self.inside.parties.keys c.party.ensures c.self.view_is
