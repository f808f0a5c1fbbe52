use Rattle.std.proofs.Common.{sym, ◌∙◌}
use Rattle.fed_twin.proofs.twins.Party.{adds_known}
use Rattle.fed_twin.proofs.parties.ProviderParties.add.Goals as goal

pub returns-then-contains : goal.returns-then-contains
returns-then-contains c =
    adds_known c.args.party.now (λ party. party.items) c.self.inside.parties.keys c.self.view_is
    (sym c.contains.ensures ∙ c.if-contains.true)
