use Rattle.std.proofs.Common.{subst, ap, refl, ◌∙◌}
use Rattle.fed_table.specs.Table.{present_item, item_of, lent_out, ChangesItem}
use Rattle.fed_table.specs.Kept.{CallLists, items_in}
use Rattle.fed_table.proofs.found.Items.{present_is, item_lent, node_stays, same_nodes}
use Rattle.fed_table.proofs.owned.Owned.{owned_same}
use Rattle.fed_table.proofs.calls.Calls.lend.Goals as goal

pub invariant_of-self : goal.invariant_of-self
invariant_of-self g c =
    owned_same _ _ _ _ _ _ _ c.self.invariant refl refl
    (node_stays c.args.call _ c.self.inside.places.entries c.lend.new.places.entries c.lend.ensures.places)

pub returns-clause-item : goal.returns-clause-item
returns-clause-item g c =
    c.lend.ensures.item ∙ present_is c.args.call c.self.inside.places.entries
    ∙ ap (λ (l : CallLists g.row.C.Denot). present_item l.items c.args.call) c.self.view_is

pub returns-clause-items : goal.returns-clause-items
returns-clause-items g c =
    subst (λ (l : CallLists g.row.C.Denot). ChangesItem c.args.call (lent_out (item_of l.items c.args.call)) l.items
    (items_in c.lend.new.places.entries)) c.self.view_is
    (item_lent c.args.call c.self.inside.places.entries c.lend.new.places.entries c.lend.ensures.places)

pub returns-clause-nodes : goal.returns-clause-nodes
returns-clause-nodes g c =
    same_nodes c.args.call _ c.self.inside.places.entries c.lend.new.places.entries c.lend.ensures.entries
    ∙ ap (λ (l : CallLists g.row.C.Denot). l.nodes) c.self.view_is
