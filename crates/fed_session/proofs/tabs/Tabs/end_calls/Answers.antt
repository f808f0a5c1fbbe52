use Rattle.fed_session.proofs.kept.Tables.{tabs_ended, ends_from}
use Rattle.fed_session.proofs.tabs.Tabs.end_calls.Goals as goal

pub invariant_of-self : goal.invariant_of-self
invariant_of-self g c = tabs_ended c.self.invariant _ c.args.page _ c.close_page.ensures.pages c.close_page.ensures.items
    c.close_page.ensures.waits

pub returns-clause-tabs : goal.returns-clause-tabs
returns-clause-tabs g c =
    ends_from c.args.page c.args.self.now _ _ c.close_page.new.self c.self.view_is c.close_page.ensures.pages c.close_page.ensures.waits
    c.close_page.ensures.items c.swap_remove.ensures.updates.0
