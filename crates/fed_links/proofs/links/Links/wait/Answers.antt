use Rattle.std.proofs.Common.{ap}
use Rattle.fed_links.specs.Lists.{LinkLists}
use Rattle.fed_links.proofs.views.Walks.{found, tied_shown}
use Rattle.fed_links.proofs.calls.Calls.{after_wait, last_origin_within, node_within}
use Rattle.fed_links.proofs.links.Links.wait.Goals as goal

pub put_last_waiting-requires-clause-node : goal.put_last_waiting-requires-clause-node
put_last_waiting-requires-clause-node g c = node_within c.self.invariant c.self.view_is c.args.node c.requires.node

pub put_last_waiting-requires-clause-last : goal.put_last_waiting-requires-clause-last
put_last_waiting-requires-clause-last g c =
    last_origin_within c.self.invariant c.self.view_is c.args.origin c.index_mut-ends.result.now c.requires.origin
    c.index_mut-ends.ensures.value

pub invariant_of-self : goal.invariant_of-self
invariant_of-self g c =
    tied_shown (after_wait c.self.invariant c.self.view_is c.args.node c.args.origin c.index_mut-ends.result.now c.put_last_waiting.new.ends
    c.put_last_waiting.new.slots.items c.requires.node c.requires.idle c.requires.origin c.index_mut-ends.ensures.value
    c.put_last_waiting.ensures.slots c.put_last_waiting.ensures.ends)

pub returns-clause-waits : goal.returns-clause-waits
returns-clause-waits g c =
    ap (λ (l : LinkLists). l.waits) (found (after_wait c.self.invariant c.self.view_is c.args.node c.args.origin c.index_mut-ends.result.now
    c.put_last_waiting.new.ends c.put_last_waiting.new.slots.items c.requires.node c.requires.idle c.requires.origin
    c.index_mut-ends.ensures.value c.put_last_waiting.ensures.slots c.put_last_waiting.ensures.ends))

pub returns-clause-pages : goal.returns-clause-pages
returns-clause-pages g c =
    ap (λ (l : LinkLists). l.pages) (found (after_wait c.self.invariant c.self.view_is c.args.node c.args.origin c.index_mut-ends.result.now
    c.put_last_waiting.new.ends c.put_last_waiting.new.slots.items c.requires.node c.requires.idle c.requires.origin
    c.index_mut-ends.ensures.value c.put_last_waiting.ensures.slots c.put_last_waiting.ensures.ends))

pub returns-clause-free : goal.returns-clause-free
returns-clause-free g c =
    ap (λ (l : LinkLists). l.free) (found (after_wait c.self.invariant c.self.view_is c.args.node c.args.origin c.index_mut-ends.result.now
    c.put_last_waiting.new.ends c.put_last_waiting.new.slots.items c.requires.node c.requires.idle c.requires.origin
    c.index_mut-ends.ensures.value c.put_last_waiting.ensures.slots c.put_last_waiting.ensures.ends))
