use Rattle.fed_links.proofs.calls.Calls.{first_page, page_there}
use Rattle.fed_links.proofs.links.Links.first.Goals as goal

pub index-requires : goal.index-requires
index-requires c = rw c.self.inside.pages.ok.0 (page_there c.self.invariant c.self.view_is c.args.page c.requires)

pub returns : goal.returns
returns c = first_page c.self.invariant c.self.view_is c.args.page c.index.result.now c.requires c.index.ensures
