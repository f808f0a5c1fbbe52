use Rattle.std.proofs.Common.{◌∙◌, ap}
use Rattle.fed_table.specs.Table.{item_of}
use Rattle.fed_session.specs.Session.{TabsParts}
use Rattle.fed_session.proofs.kept.Tables.{lent_none, tabs_unwaits}
use Rattle.fed_session.proofs.tabs.Tabs.unwait.Goals as goal

pub invariant_of-self : goal.invariant_of-self
invariant_of-self g c =
    tabs_unwaits c.self.invariant c.unwait.new.self c.args.call
    (lent_none c.self.inside.table.items c.args.call
    (ap (λ (t : TabsParts). item_of t.table.items c.args.call) c.self.view_is ∙ c.requires.lent)) c.unwait.ensures.pages
    c.unwait.ensures.waits c.unwait.ensures.items
