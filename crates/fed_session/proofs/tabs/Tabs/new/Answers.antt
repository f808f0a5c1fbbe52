use Rattle.fed_session.proofs.kept.Tables.{tabs_new}
use Rattle.fed_session.proofs.tabs.Tabs.new.Goals as goal

pub invariant_of-result : goal.invariant_of-result
invariant_of-result c = tabs_new _ _ _ c.new.ensures c.new-4.ensures
