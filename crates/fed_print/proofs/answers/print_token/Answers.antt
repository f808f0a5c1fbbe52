use Rattle.fed_print.proofs.printing.Members.{with_bracket, with_member}
use Rattle.fed_print.proofs.answers.print_token.Goals as goal

pub returns : goal.returns
returns c =
    with_bracket c.in_ok-begin.ensures
    (with_member c.in_ok-flag.ensures
    (with_member c.in_ok-count.ensures
    (with_member c.in_ok-count-2.ensures
    (with_member c.in_ok-word.ensures
    (with_member c.in_ok-count-3.ensures
    (with_member c.in_ok-count-4.ensures
    (with_member c.in_ok-word-2.ensures
    (with_member c.in_ok-text.ensures
    c.in_ok-end.ensures))))))))
