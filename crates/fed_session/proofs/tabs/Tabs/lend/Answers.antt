use Rattle.std.proofs.Common.{None}
use Rattle.fed_table.specs.Table.{item_of}
use Rattle.fed_session.proofs.kept.Tables.{tabs_items, never_lent, lent_there, lent_after, begun_after, waits_after, lent_changes}
use Rattle.fed_session.proofs.kept.Tables.{stays_from}
use Rattle.fed_session.proofs.tabs.Tabs.lend.Goals as goal

pub invariant_of-self : goal.invariant_of-self
invariant_of-self c =
    tabs_items c.self.invariant c.lend.new.self c.args.call _ c.lend.ensures.pages c.lend.ensures.waits c.lend.ensures.items
    (lent_there (item_of c.self.inside.table.items c.args.call)) (λ k e. never_lent (item_of c.self.inside.table.items c.args.call) k e)

pub returns-clause-lent : goal.returns-clause-lent
returns-clause-lent c =
    lent_after c.args.call c.self.inside.table.items c.lend.new.self.items c.lend.result c.lend.ensures.item c.lend.ensures.items

pub returns-clause-begun : goal.returns-clause-begun
returns-clause-begun c = rw (← c.self.view_is) (begun_after c.self.invariant c.args.call c.lend.result c.lend.ensures.item)

pub returns-clause-waits : goal.returns-clause-waits
returns-clause-waits c =
    waits_after c.self.invariant c.args.call c.lend.new.self.waits c.lend.result c.lend.ensures.item c.lend.ensures.waits

pub returns-clause-tabs : goal.returns-clause-tabs
returns-clause-tabs c =
    stays_from c.args.call None c.args.self.now _ c.lend.new.self c.self.view_is c.lend.ensures.pages c.lend.ensures.waits
    (lent_changes c.args.call c.self.inside.table.items c.lend.new.self.items c.lend.ensures.items)
