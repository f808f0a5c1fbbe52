use Rattle.fed_session.proofs.kept.Tables.{tabs_dropped, leaves_from}
use Rattle.fed_session.proofs.tabs.Tabs.leave.Goals as goal

pub invariant_of-self : goal.invariant_of-self
invariant_of-self g c =
    tabs_dropped c.self.invariant c.drop_call.new.self c.args.call c.drop_call.ensures.pages c.drop_call.ensures.waits
    c.drop_call.ensures.items

pub returns-clause-tabs : goal.returns-clause-tabs
returns-clause-tabs g c =
    leaves_from c.args.page c.args.call c.args.self.now _ c.drop_get.new.gets.entries c.drop_call.new.self c.self.view_is
    c.drop_call.ensures.pages c.drop_call.ensures.waits c.drop_call.ensures.items c.drop_get.ensures
