use Rattle.fed_status.proofs.numbers.Tables.{empty_is_table}
use Rattle.fed_status.proofs.table.Table.new.Goals as goal

pub returns-clause-table : goal.returns-clause-table
returns-clause-table c = empty_is_table _ c.new-2.ensures c.new-3.ensures.empty
