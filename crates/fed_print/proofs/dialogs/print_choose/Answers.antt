use Rattle.fed_print.proofs.printing.Members.{with_bracket, with_member, with_text}
use Rattle.fed_print.proofs.dialogs.print_choose.Goals as goal

pub returns : goal.returns
returns c =
    with_bracket c.in_ok-begin.ensures
    (with_member c.in_ok-print_accounts.ensures
    (with_member c.in_ok-count.ensures
    (with_text c.in_ok-text.ensures c.as_str.ensures
    (with_member c.in_ok-word.ensures
    (with_member c.in_ok-count-2.ensures
    (with_member c.in_ok-word-2.ensures
    (with_member c.in_ok-text-2.ensures
    c.in_ok-end.ensures)))))))
