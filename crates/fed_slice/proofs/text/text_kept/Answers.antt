use Rattle.fed_slice.specs.Linked.{is_number}
use Rattle.fed_slice.proofs.gathered.Lines.{header_put}
use Rattle.fed_slice.proofs.text.text_kept.Goals as goal

pub returns-in_ok-put_lines-in-Some : goal.returns-in_ok-put_lines-in-Some
returns-in_ok-put_lines-in-Some c =
    header_put (is_number c.args.lines.now.keys) c.args.bytes.now c.in-Some.header.now c.in-Some.further.now c.new-text.result.items
    c.put_line.new.text.items c.put_lines.new.text.items c.new-text.ensures.items c.in-Some.ensures.lines c.in_ok-put_line-in-Some.ensures
    c.in_ok-put_lines-in-Some.ensures
