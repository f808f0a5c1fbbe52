use Rattle.fed_print.proofs.printing.Members.{with_bracket, with_member, with_text, with_text_if}
use Rattle.fed_print.proofs.dialogs.print_account.Goals as goal

pub returns : goal.returns
returns c =
    with_bracket c.in_ok-begin.ensures
    (with_member c.in_ok-flag.ensures
    (with_text c.in_ok-text.ensures c.as_str.ensures
    (with_text_if c.in_ok-text_if.ensures c.text_in.ensures
    (with_text c.in_ok-text-2.ensures c.as_str-2.ensures
    (with_text c.in_ok-text-3.ensures c.as_str-3.ensures
    (with_text_if c.in_ok-text_if-2.ensures c.text_in-2.ensures
    (with_member c.in_ok-count.ensures
    c.in_ok-end.ensures)))))))
