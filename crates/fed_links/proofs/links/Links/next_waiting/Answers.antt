use Rattle.fed_links.proofs.calls.Calls.{next_waiting_is, waiter_within}
use Rattle.fed_links.proofs.links.Links.next_waiting.Goals as goal

pub index-requires : goal.index-requires
index-requires c = rw c.self.inside.slots.ok.0 (waiter_within c.self.invariant c.self.view_is c.args.node c.requires)

pub returns : goal.returns
returns c = next_waiting_is c.self.invariant c.self.view_is c.args.node c.index.result.now c.requires c.index.ensures
