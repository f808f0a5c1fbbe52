use Rattle.fed_links.proofs.calls.Calls.{first_origin, origin_there}
use Rattle.fed_links.proofs.links.Links.first_waiting.Goals as goal

pub index-requires : goal.index-requires
index-requires c = rw c.self.inside.origins.ok.0 (origin_there c.self.invariant c.self.view_is c.args.origin c.requires)

pub returns : goal.returns
returns c = first_origin c.self.invariant c.self.view_is c.args.origin c.index.result.now c.requires c.index.ensures
