use Rattle.std.proofs.Common.{◌∙◌, ap}
use Rattle.fed_table.specs.Table.{item_of}
use Rattle.fed_session.specs.Session.{TabsParts}
use Rattle.fed_session.proofs.kept.Tables.{lent_none, tabs_waits}
use Rattle.fed_session.proofs.tabs.Tabs.wait.Goals as goal

pub invariant_of-self-2 : goal.invariant_of-self-2
invariant_of-self-2 g c =
    tabs_waits c.self.invariant c.wait.new.self c.args.call
    (lent_none c.self.inside.table.items c.args.call
    (ap (λ (t : TabsParts). item_of t.table.items c.args.call) c.self.view_is ∙ c.requires.lent)) c.args.origin.now c.in-Some.changes
    c.wait.ensures.pages c.in_ok-wait.ensures.waits c.wait.ensures.items c.in-Some.ensures.1
