use Rattle.std.proofs.Common.{sym, ◌∙◌}
use Rattle.fed_slice.specs.Linked.{is_number}
use Rattle.fed_slice.proofs.gathered.Lines.{put_ok}
use Rattle.fed_slice.proofs.text.put_kept.Goals as goal

pub returns-then-contains : goal.returns-then-contains
returns-then-contains c =
    put_ok c.put_line.result (is_number c.args.lines.now.keys) c.args.number c.args.line.now c.args.text.now.items
    c.put_line.new.text.items (sym c.contains.ensures ∙ c.if-contains.true) c.put_line.ensures
