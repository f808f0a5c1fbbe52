use Rattle.std.proofs.Common.{ap, sym, refl, ◌∙◌, subst, arith, ◌<◌, ◌≤◌, Some, length, map, ℕ, List}
use Rattle.std.proofs.lemmas.List.{length-map}
use Rattle.fed_links.specs.Lists.{total, with_last}
use Rattle.fed_table.specs.Table.{has_call, ChangesItem}
use Rattle.fed_table.specs.Kept.{CallLists, owner, with_owner, items_in, ChangesPlace}
use Rattle.fed_table.proofs.mapped.Maps.{total-map}
use Rattle.fed_table.proofs.found.Items.{item_changes}
use Rattle.fed_table.proofs.owned.Comes.{node_below, pages_last, waits_stay, owned_more}
use Rattle.fed_table.proofs.calls.Calls.add.Goals as goal

pub make_room-requires : goal.make_room-requires
make_room-requires g c =
    let few = subst (λ (l : CallLists g.row.C.Denot). total l.pages < 4294967295) (sym c.self.view_is) c.requires.few in
    let same = total-map (owner c.self.inside.owners.items) c.self.inside.links.pages in
    omega (arith, few, same)

pub set_owner-requires-clause-node : goal.set_owner-requires-clause-node
set_owner-requires-clause-node g c =
    subst (λ (os : List ℕ). c.add-node.result ≤ length os) (sym c.make_room.ensures.owners)
    (node_below c.self.inside.links c.add-node.new.self c.self.invariant c.are_lists.ensures c.add-node.result c.args.call c.args.list
    c.make_room.ensures.pages c.make_room.ensures.waits c.in-Ok.ensures.free c.add-node.ensures.free refl)

pub invariant_of-self : goal.invariant_of-self
invariant_of-self g c =
    owned_more c.self.inside.links c.add-node.new.self c.self.invariant c.are_lists.ensures c.add-node.result c.args.call c.args.list
    c.make_room.ensures.pages c.make_room.ensures.waits c.in-Ok.ensures.free c.add-node.ensures.free
    (c.set_owner.ensures ∙ ap (with_owner c.add-node.result c.args.call) c.make_room.ensures.owners)
    (Some c.args.item) c.put.new.places.entries
    (let within = subst (λ (l : CallLists g.row.C.Denot). c.args.list < length l.pages) (sym c.self.view_is) c.requires.list in
    let all = length-map c.self.inside.links.pages (map (owner c.self.inside.owners.items)) in
    let same = ap length c.make_room.ensures.pages in
    omega (arith, within, all, same))
    c.add-node.ensures.pages
    (ap (λ (l : CallLists g.row.C.Denot). has_call l.items c.args.call) c.self.view_is ∙ c.requires.call)
    (subst (λ es. ChangesPlace c.args.call (Some (record { node = c.add-node.result; item = Some c.args.item })) es
    c.put.new.places.entries)
    c.make_room.ensures.places c.put.ensures)

pub returns-in-Ok-clause-pages : goal.returns-in-Ok-clause-pages
returns-in-Ok-clause-pages g c =
    pages_last c.self.inside.links c.add-node.new.self c.self.invariant c.are_lists.ensures c.add-node.result c.args.call c.args.list
    c.make_room.ensures.pages c.make_room.ensures.waits c.in-Ok.ensures.free c.add-node.ensures.free
    (c.set_owner.ensures ∙ ap (with_owner c.add-node.result c.args.call) c.make_room.ensures.owners)
    c.add-node.ensures.pages
    ∙ ap (λ (l : CallLists g.row.C.Denot). with_last c.args.list c.args.call l.pages) c.self.view_is

pub returns-in-Ok-clause-waits : goal.returns-in-Ok-clause-waits
returns-in-Ok-clause-waits g c =
    waits_stay c.self.inside.links c.add-node.new.self c.self.invariant c.are_lists.ensures c.add-node.result c.args.call c.args.list
    c.make_room.ensures.pages c.make_room.ensures.waits c.in-Ok.ensures.free c.add-node.ensures.free
    (c.set_owner.ensures ∙ ap (with_owner c.add-node.result c.args.call) c.make_room.ensures.owners)
    c.add-node.ensures.waits
    ∙ ap (λ (l : CallLists g.row.C.Denot). l.waits) c.self.view_is

pub returns-in-Ok-clause-items : goal.returns-in-Ok-clause-items
returns-in-Ok-clause-items g c =
    subst (λ (l : CallLists g.row.C.Denot). ChangesItem c.args.call (Some (Some c.args.item)) l.items (items_in c.put.new.places.entries))
    c.self.view_is
    (subst (λ es. ChangesItem c.args.call (Some (Some c.args.item)) (items_in es) (items_in c.put.new.places.entries))
    c.make_room.ensures.places
    (item_changes c.args.call _ c.make_room.new.places.entries c.put.new.places.entries c.put.ensures))
