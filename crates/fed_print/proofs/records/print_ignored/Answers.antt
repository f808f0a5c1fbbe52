use Rattle.fed_print.proofs.printing.Members.{with_bracket, with_member, with_text}
use Rattle.fed_print.proofs.records.print_ignored.Goals as goal

pub returns : goal.returns
returns c =
    with_bracket c.in_ok-begin.ensures
    (with_member c.in_ok-count.ensures
    (with_member c.in_ok-word.ensures
    (with_text c.in_ok-text.ensures c.as_str.ensures
    c.in_ok-end.ensures)))
