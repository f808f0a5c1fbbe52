use Rattle.std.proofs.Common.{subst}
use Rattle.fed_table.specs.Table.{IsCallTable}
use Rattle.fed_table.proofs.listed.Listed.{is_table}
use Rattle.fed_table.proofs.table.Table.are_lists.Goals as goal

pub returns : goal.returns
returns g c =
    subst IsCallTable c.self.view_is
    (is_table c.self.inside.pages c.self.inside.origins.keys c.self.inside.calls c.self.invariant c.are_calls.ensures
    c.len.ensures.distinct c.len-2.ensures.unique)
