use Rattle.std.proofs.Common.{ap}
use Rattle.fed_links.specs.Lists.{LinkLists}
use Rattle.fed_links.proofs.views.Walks.{found, tied_shown}
use Rattle.fed_links.proofs.calls.Calls.{after_unwait, waiter_within, origin_is_some, origin_is_there, wait_before_within}
use Rattle.fed_links.proofs.calls.Calls.{wait_after_within}
use Rattle.fed_links.proofs.links.Links.unwait.Goals as goal

pub index-requires : goal.index-requires
index-requires g c = rw c.self.inside.slots.ok.0 (waiter_within c.self.invariant c.self.view_is c.args.node c.requires)

pub unreachable-requires : goal.unreachable-requires
unreachable-requires g c =
    origin_is_some c.self.invariant c.self.view_is c.args.node c.index.result.now c.requires c.index.ensures c.in_default.is

pub index_mut-ends-requires : goal.index_mut-ends-requires
index_mut-ends-requires g c =
    rw c.self.inside.origins.ok.0 (origin_is_there c.self.invariant c.self.view_is c.args.node c.in-Some.origin c.index.result.now
    c.requires c.index.ensures c.in-Some.is)

pub leave-requires-clause-node : goal.leave-requires-clause-node
leave-requires-clause-node g c = (waiter_within c.self.invariant c.self.view_is c.args.node c.requires)

pub leave-requires-clause-before : goal.leave-requires-clause-before
leave-requires-clause-before g c =
    wait_before_within c.self.invariant c.self.view_is c.args.node c.in-Some.origin c.index.result.now c.requires c.index.ensures
    c.in-Some.is

pub leave-requires-clause-after : goal.leave-requires-clause-after
leave-requires-clause-after g c =
    wait_after_within c.self.invariant c.self.view_is c.args.node c.in-Some.origin c.index.result.now c.requires c.index.ensures
    c.in-Some.is

pub invariant_of-self : goal.invariant_of-self
invariant_of-self g c =
    tied_shown (after_unwait c.self.invariant c.self.view_is c.args.node c.in-Some.origin c.index.result.now c.index_mut-ends.result.now
    c.leave.new.ends c.leave.new.slots.items c.requires c.index.ensures c.in-Some.is c.index_mut-ends.ensures.value c.leave.ensures.slots
    c.leave.ensures.ends)

pub returns-clause-waits : goal.returns-clause-waits
returns-clause-waits g c =
    ap (λ (l : LinkLists). l.waits) (found (after_unwait c.self.invariant c.self.view_is c.args.node c.in-Some.origin c.index.result.now
    c.index_mut-ends.result.now c.leave.new.ends c.leave.new.slots.items c.requires c.index.ensures c.in-Some.is
    c.index_mut-ends.ensures.value c.leave.ensures.slots c.leave.ensures.ends))

pub returns-clause-pages : goal.returns-clause-pages
returns-clause-pages g c =
    ap (λ (l : LinkLists). l.pages) (found (after_unwait c.self.invariant c.self.view_is c.args.node c.in-Some.origin c.index.result.now
    c.index_mut-ends.result.now c.leave.new.ends c.leave.new.slots.items c.requires c.index.ensures c.in-Some.is
    c.index_mut-ends.ensures.value c.leave.ensures.slots c.leave.ensures.ends))

pub returns-clause-free : goal.returns-clause-free
returns-clause-free g c =
    ap (λ (l : LinkLists). l.free) (found (after_unwait c.self.invariant c.self.view_is c.args.node c.in-Some.origin c.index.result.now
    c.index_mut-ends.result.now c.leave.new.ends c.leave.new.slots.items c.requires c.index.ensures c.in-Some.is
    c.index_mut-ends.ensures.value c.leave.ensures.slots c.leave.ensures.ends))
