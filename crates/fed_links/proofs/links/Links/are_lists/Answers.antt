use Rattle.fed_links.proofs.calls.Calls.{tied}
use Rattle.fed_links.proofs.calls.Facts.{lists_are}
use Rattle.fed_links.proofs.links.Links.are_lists.Goals as goal

pub returns : goal.returns
returns c = lists_are (tied c.self.invariant c.self.view_is)
