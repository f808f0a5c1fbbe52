use Rattle.std.proofs.Common.{ap, ◌∙◌}
use Rattle.fed_links.specs.Lists.{LinkLists}
use Rattle.fed_links.proofs.views.Walks.{found, tied_shown}
use Rattle.fed_links.proofs.calls.Calls.{after_reserve}
use Rattle.fed_links.proofs.links.Links.reserve.Goals as goal

pub invariant_of-self-2 : goal.invariant_of-self-2
invariant_of-self-2 c =
    tied_shown (after_reserve c.self.invariant c.self.view_is c.args.nodes c.args.pages c.args.origins c.saturating_sub-more_nodes.result
    c.len.result c.saturating_sub-more_pages.result c.len-2.result c.saturating_sub-more_origins.result c.make_room.new.slots.items
    c.add_nodes.new.slots.items c.make_room.new.pages.items c.add_lists.new.ends.items c.make_room.new.origins.items
    c.add_lists-2.new.ends.items c.add_nodes.new.free c.requires c.saturating_sub-more_nodes.ensures (c.len.ensures ∙
    c.self.inside.pages.ok.0) c.saturating_sub-more_pages.ensures (c.len-2.ensures ∙ c.self.inside.origins.ok.0)
    c.saturating_sub-more_origins.ensures c.make_room.ensures.slots c.add_nodes.ensures.slots c.add_nodes.ensures.free
    c.make_room.ensures.pages c.add_lists.ensures c.make_room.ensures.origins c.add_lists-2.ensures)

pub returns-clause-pages : goal.returns-clause-pages
returns-clause-pages c =
    ap (λ (l : LinkLists). l.pages) (found (after_reserve c.self.invariant c.self.view_is c.args.nodes c.args.pages c.args.origins
    c.saturating_sub-more_nodes.result c.len.result c.saturating_sub-more_pages.result c.len-2.result c.saturating_sub-more_origins.result
    c.make_room.new.slots.items c.add_nodes.new.slots.items c.make_room.new.pages.items c.add_lists.new.ends.items
    c.make_room.new.origins.items c.add_lists-2.new.ends.items c.add_nodes.new.free c.requires c.saturating_sub-more_nodes.ensures
    (c.len.ensures ∙ c.self.inside.pages.ok.0) c.saturating_sub-more_pages.ensures (c.len-2.ensures ∙ c.self.inside.origins.ok.0)
    c.saturating_sub-more_origins.ensures c.make_room.ensures.slots c.add_nodes.ensures.slots c.add_nodes.ensures.free
    c.make_room.ensures.pages c.add_lists.ensures c.make_room.ensures.origins c.add_lists-2.ensures))

pub returns-clause-waits : goal.returns-clause-waits
returns-clause-waits c =
    ap (λ (l : LinkLists). l.waits) (found (after_reserve c.self.invariant c.self.view_is c.args.nodes c.args.pages c.args.origins
    c.saturating_sub-more_nodes.result c.len.result c.saturating_sub-more_pages.result c.len-2.result c.saturating_sub-more_origins.result
    c.make_room.new.slots.items c.add_nodes.new.slots.items c.make_room.new.pages.items c.add_lists.new.ends.items
    c.make_room.new.origins.items c.add_lists-2.new.ends.items c.add_nodes.new.free c.requires c.saturating_sub-more_nodes.ensures
    (c.len.ensures ∙ c.self.inside.pages.ok.0) c.saturating_sub-more_pages.ensures (c.len-2.ensures ∙ c.self.inside.origins.ok.0)
    c.saturating_sub-more_origins.ensures c.make_room.ensures.slots c.add_nodes.ensures.slots c.add_nodes.ensures.free
    c.make_room.ensures.pages c.add_lists.ensures c.make_room.ensures.origins c.add_lists-2.ensures))

pub returns-clause-free : goal.returns-clause-free
returns-clause-free c =
    ap (λ (l : LinkLists). l.free) (found (after_reserve c.self.invariant c.self.view_is c.args.nodes c.args.pages c.args.origins
    c.saturating_sub-more_nodes.result c.len.result c.saturating_sub-more_pages.result c.len-2.result c.saturating_sub-more_origins.result
    c.make_room.new.slots.items c.add_nodes.new.slots.items c.make_room.new.pages.items c.add_lists.new.ends.items
    c.make_room.new.origins.items c.add_lists-2.new.ends.items c.add_nodes.new.free c.requires c.saturating_sub-more_nodes.ensures
    (c.len.ensures ∙ c.self.inside.pages.ok.0) c.saturating_sub-more_pages.ensures (c.len-2.ensures ∙ c.self.inside.origins.ok.0)
    c.saturating_sub-more_origins.ensures c.make_room.ensures.slots c.add_nodes.ensures.slots c.add_nodes.ensures.free
    c.make_room.ensures.pages c.add_lists.ensures c.make_room.ensures.origins c.add_lists-2.ensures))
