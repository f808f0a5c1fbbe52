use Rattle.std.proofs.Common.{◌∷◌, ap, ◌∙◌, map, arith}
use Rattle.fed_links.specs.Lists.{LinkLists, without}
use Rattle.fed_links.proofs.views.Walks.{found, tied_shown}
use Rattle.fed_links.proofs.calls.Calls.{node_within, page_is_some, page_is_there, before_within, after_within, after_remove, spare_small}
use Rattle.fed_links.proofs.calls.Calls.{joined_within}
use Rattle.fed_links.proofs.links.Links.remove.Goals as goal

pub index-requires : goal.index-requires
index-requires g c =
    rw c.self.inside.slots.ok.0 (node_within c.self.invariant c.self.view_is c.args.node (rw c.forget.ensures.pages c.requires))

pub unreachable-requires : goal.unreachable-requires
unreachable-requires g c =
    page_is_some c.self.invariant c.self.view_is c.args.node c.index.result.now (rw c.forget.ensures.pages c.requires) c.index.ensures
    c.in_default.is

pub index_mut-ends-requires : goal.index_mut-ends-requires
index_mut-ends-requires g c =
    rw c.self.inside.pages.ok.0
    (page_is_there c.self.invariant c.self.view_is c.args.node c.in-Some.page c.index.result.now (rw c.forget.ensures.pages c.requires)
    c.index.ensures c.in-Some.is)

pub join-requires-clause-node : goal.join-requires-clause-node
join-requires-clause-node g c = node_within c.self.invariant c.self.view_is c.args.node (rw c.forget.ensures.pages c.requires)

pub join-requires-clause-before : goal.join-requires-clause-before
join-requires-clause-before g c =
    before_within c.self.invariant c.self.view_is c.args.node c.in-Some.page c.index.result.now (rw c.forget.ensures.pages c.requires)
    c.index.ensures c.in-Some.is

pub join-requires-clause-after : goal.join-requires-clause-after
join-requires-clause-after g c =
    after_within c.self.invariant c.self.view_is c.args.node c.in-Some.page c.index.result.now (rw c.forget.ensures.pages c.requires)
    c.index.ensures c.in-Some.is

pub index_mut-requires : goal.index_mut-requires
index_mut-requires g c =
    rw c.join.new.slots.ok.0 (joined_within c.self.inside.slots.items c.join.new.slots.items c.args.node (node_within c.self.invariant
    c.self.view_is c.args.node (rw c.forget.ensures.pages c.requires)) c.join.ensures.slots)

pub overflow_add-self : goal.overflow_add-self
overflow_add-self g c =
    let h = spare_small (after_remove c.self.invariant c.self.view_is c.args.node c.in-Some.page c.index.result.now
    c.index_mut-ends.result.now c.join.new.ends c.join.new.slots.items (rw c.forget.ensures.pages c.requires) c.forget.ensures.idle
    c.index.ensures c.in-Some.is c.index_mut-ends.ensures.value c.join.ensures.slots c.join.ensures.ends) in omega (arith, h)

pub invariant_of-self : goal.invariant_of-self
invariant_of-self g c =
    tied_shown (after_remove c.self.invariant c.self.view_is c.args.node c.in-Some.page c.index.result.now c.index_mut-ends.result.now
    c.join.new.ends c.join.new.slots.items (rw c.forget.ensures.pages c.requires) c.forget.ensures.idle c.index.ensures c.in-Some.is
    c.index_mut-ends.ensures.value c.join.ensures.slots c.join.ensures.ends)

pub returns-clause-pages : goal.returns-clause-pages
returns-clause-pages g c =
    ap (λ (l : LinkLists). l.pages) (found (after_remove c.self.invariant c.self.view_is c.args.node c.in-Some.page c.index.result.now
    c.index_mut-ends.result.now c.join.new.ends c.join.new.slots.items (rw c.forget.ensures.pages c.requires) c.forget.ensures.idle
    c.index.ensures c.in-Some.is c.index_mut-ends.ensures.value c.join.ensures.slots c.join.ensures.ends)) ∙ ap (map (without c.args.node))
    c.forget.ensures.pages

pub returns-clause-waits : goal.returns-clause-waits
returns-clause-waits g c =
    ap (λ (l : LinkLists). l.waits) (found (after_remove c.self.invariant c.self.view_is c.args.node c.in-Some.page c.index.result.now
    c.index_mut-ends.result.now c.join.new.ends c.join.new.slots.items (rw c.forget.ensures.pages c.requires) c.forget.ensures.idle
    c.index.ensures c.in-Some.is c.index_mut-ends.ensures.value c.join.ensures.slots c.join.ensures.ends)) ∙ c.forget.ensures.waits

pub returns-clause-free : goal.returns-clause-free
returns-clause-free g c =
    ap (λ (l : LinkLists). l.free) (found (after_remove c.self.invariant c.self.view_is c.args.node c.in-Some.page c.index.result.now
    c.index_mut-ends.result.now c.join.new.ends c.join.new.slots.items (rw c.forget.ensures.pages c.requires) c.forget.ensures.idle
    c.index.ensures c.in-Some.is c.index_mut-ends.ensures.value c.join.ensures.slots c.join.ensures.ends)) ∙ ap (λ xs. c.args.node ∷ xs)
    c.forget.ensures.free
