use Rattle.std.proofs.Common.{sym, subst}
use Rattle.fed_session.specs.Tabs.{AreTabs}
use Rattle.fed_session.proofs.kept.Tables.{tabs_closed, closes_then}
use Rattle.fed_session.proofs.tabs.Tabs.close.Goals as goal

pub invariant_of-self : goal.invariant_of-self
invariant_of-self g c =
    subst (λ pages. AreTabs pages c.self.inside.taken c.self.inside.table c.self.inside.changes) (sym c.remove.ensures)
    (tabs_closed c.self.invariant c.args.page)

pub returns-clause-tabs : goal.returns-clause-tabs
returns-clause-tabs g c =
    closes_then c.args.page c.args.self.now c.end_calls.new.self _ c.remove.new.self c.end_calls.ensures.tabs c.self.view_is
    c.remove.ensures
