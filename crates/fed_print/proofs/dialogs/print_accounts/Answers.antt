use Rattle.fed_print.proofs.printing.Members.{with_list}
use Rattle.fed_print.proofs.dialogs.print_accounts.Goals as goal

pub returns : goal.returns
returns c = with_list c.in_ok-name.ensures c.in_ok-begin_list.ensures c.in_ok-print_each.ensures c.in_ok-end_list.ensures
