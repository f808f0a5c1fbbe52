use Rattle.std.proofs.Common.{subst, ap, refl, ◌∙◌, Some, is_some}
use Rattle.fed_table.specs.Table.{item_of, ChangesItem}
use Rattle.fed_table.specs.Kept.{CallLists, items_in}
use Rattle.fed_table.proofs.found.Items.{item_given, node_stays, same_nodes}
use Rattle.fed_table.proofs.owned.Owned.{owned_same}
use Rattle.fed_table.proofs.calls.Calls.give_back.Goals as goal

pub invariant_of-self : goal.invariant_of-self
invariant_of-self g c =
    owned_same _ _ _ _ _ _ _ c.self.invariant refl refl
    (node_stays c.args.call _ c.self.inside.places.entries c.give_back.new.places.entries c.give_back.ensures.places)

pub returns-clause-items : goal.returns-clause-items
returns-clause-items g c =
    subst (λ (l : CallLists g.row.C.Denot). ChangesItem c.args.call (Some (Some c.args.item)) l.items
    (items_in c.give_back.new.places.entries))
    c.self.view_is
    (item_given c.args.call c.args.item c.self.inside.places.entries c.give_back.new.places.entries
    (ap (λ (l : CallLists g.row.C.Denot). is_some (item_of l.items c.args.call)) c.self.view_is ∙ ap is_some c.requires)
    c.give_back.ensures.places)

pub returns-clause-nodes : goal.returns-clause-nodes
returns-clause-nodes g c =
    same_nodes c.args.call _ c.self.inside.places.entries c.give_back.new.places.entries c.give_back.ensures.entries
    ∙ ap (λ (l : CallLists g.row.C.Denot). l.nodes) c.self.view_is
