use Rattle.std.proofs.Common.{ap, sym, ◌∙◌, refl, subst, option_map, option_and_then, None}
use Rattle.fed_links.specs.Lists.{all_without}
use Rattle.fed_table.specs.Table.{present_item, ChangesItem}
use Rattle.fed_table.specs.Kept.{CallLists, items_in}
use Rattle.fed_table.proofs.found.Items.{present_is, item_changes, item_in, node_at}
use Rattle.fed_table.proofs.owned.Owned.{owned_same, gone_stays, node_there, owned_after, removed_total, pages_after, waits_after}
use Rattle.fed_table.proofs.owned.Owned.{pages_stay, waits_stay}
use Rattle.fed_table.proofs.calls.Calls.drop_call.Goals as goal

pub invariant_of-self : goal.invariant_of-self
invariant_of-self g c =
    owned_same _ _ _ _ _ _ _ c.self.invariant refl refl
    (gone_stays c.args.call c.self.inside.places.entries c.take.new.places.entries
    (ap (option_map node_at) (sym c.take.ensures.place ∙ c.in_default.is)) c.take.ensures.others)

pub returns-in_default-clause-item : goal.returns-in_default-clause-item
returns-in_default-clause-item g c =
    ap (option_and_then item_in) (sym c.in_default.is ∙ c.take.ensures.place) ∙ present_is c.args.call c.self.inside.places.entries
    ∙ ap (λ (l : CallLists g.row.C.Denot). present_item l.items c.args.call) c.self.view_is

pub returns-in_default-clause-pages : goal.returns-in_default-clause-pages
returns-in_default-clause-pages g c =
    pages_stay c.self.invariant c.args.call (ap (option_map node_at) (sym c.take.ensures.place ∙ c.in_default.is))
    ∙ ap (λ (l : CallLists g.row.C.Denot). all_without c.args.call l.pages) c.self.view_is

pub returns-in_default-clause-waits : goal.returns-in_default-clause-waits
returns-in_default-clause-waits g c =
    waits_stay c.self.invariant c.are_lists.ensures c.args.call (ap (option_map node_at) (sym c.take.ensures.place ∙ c.in_default.is))
    ∙ ap (λ (l : CallLists g.row.C.Denot). all_without c.args.call l.waits) c.self.view_is

pub returns-in_default-clause-items : goal.returns-in_default-clause-items
returns-in_default-clause-items g c =
    subst (λ (l : CallLists g.row.C.Denot). ChangesItem c.args.call None l.items (items_in c.take.new.places.entries)) c.self.view_is
    (item_changes c.args.call None c.self.inside.places.entries c.take.new.places.entries c.take.ensures.others)

pub remove-requires : goal.remove-requires
remove-requires g c =
    node_there c.self.invariant c.args.call c.in-Some.place.node (ap (option_map node_at) (sym c.take.ensures.place ∙ c.in-Some.is))

pub invariant_of-self-2 : goal.invariant_of-self-2
invariant_of-self-2 g c =
    owned_after c.self.invariant c.args.call c.in-Some.place.node (ap (option_map node_at) (sym c.take.ensures.place ∙ c.in-Some.is))
    _ _ _ c.remove.ensures.pages c.remove.ensures.free
    (removed_total c.self.invariant c.are_lists.ensures c.in-Some.place.node
    (node_there c.self.invariant c.args.call c.in-Some.place.node (ap (option_map node_at) (sym c.take.ensures.place ∙ c.in-Some.is)))
    c.remove.new.self c.remove.ensures.pages c.remove.ensures.free)
    c.take.ensures.others

pub returns-clause-item : goal.returns-clause-item
returns-clause-item g c =
    ap (option_and_then item_in) (sym c.in-Some.is ∙ c.take.ensures.place) ∙ present_is c.args.call c.self.inside.places.entries
    ∙ ap (λ (l : CallLists g.row.C.Denot). present_item l.items c.args.call) c.self.view_is

pub returns-clause-pages : goal.returns-clause-pages
returns-clause-pages g c =
    pages_after c.self.invariant c.args.call c.in-Some.place.node (ap (option_map node_at) (sym c.take.ensures.place ∙ c.in-Some.is)) _
    c.remove.ensures.pages
    ∙ ap (λ (l : CallLists g.row.C.Denot). all_without c.args.call l.pages) c.self.view_is

pub returns-clause-waits : goal.returns-clause-waits
returns-clause-waits g c =
    waits_after c.self.invariant c.are_lists.ensures c.args.call c.in-Some.place.node
    (ap (option_map node_at) (sym c.take.ensures.place ∙ c.in-Some.is)) _ c.remove.ensures.waits
    ∙ ap (λ (l : CallLists g.row.C.Denot). all_without c.args.call l.waits) c.self.view_is

pub returns-clause-items : goal.returns-clause-items
returns-clause-items g c =
    subst (λ (l : CallLists g.row.C.Denot). ChangesItem c.args.call None l.items (items_in c.take.new.places.entries)) c.self.view_is
    (item_changes c.args.call None c.self.inside.places.entries c.take.new.places.entries c.take.ensures.others)
