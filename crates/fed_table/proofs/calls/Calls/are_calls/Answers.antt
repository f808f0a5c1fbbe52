use Rattle.std.proofs.Common.{subst}
use Rattle.fed_table.specs.Kept.{AreCallLists}
use Rattle.fed_table.proofs.owned.Owned.{call_lists}
use Rattle.fed_table.proofs.calls.Calls.are_calls.Goals as goal

pub returns : goal.returns
returns g c =
    subst AreCallLists c.self.view_is
    (call_lists c.self.invariant c.are_lists.ensures)
