use Rattle.fed_consent.specs.Words.{detail_text}
use Rattle.fed_print.proofs.printing.Members.{with_bracket, with_member, with_text, with_word}
use Rattle.fed_print.proofs.records.print_dropped.Goals as goal

pub returns : goal.returns
returns c =
    with_bracket c.in_ok-begin.ensures
    (with_member c.in_ok-count.ensures
    (with_word detail_text _ c.in_ok-text_if.ensures c.detail_text.ensures
    (with_member c.in_ok-count-2.ensures
    (with_member c.in_ok-word.ensures
    (with_member c.in_ok-count-3.ensures
    (with_text c.in_ok-text.ensures c.as_str.ensures
    c.in_ok-end.ensures))))))
