use Rattle.std.proofs.Common.{◌≡◌, rules, ◌∙◌}
use Rattle.fed_print.proofs.printing.Members.{line_written}
use Rattle.fed_print.proofs.lines.RecordLines.push.Goals as goal

pub returns : goal.returns
returns c =
    let seen : c.self.inside.lines.bytes ≡ c.args.self.now = search rules in
    line_written c.args.self.now _ (c.begin_line.ensures.bytes ∙ seen) c.begin_line.ensures.after_value c.in_ok-print_record.ensures
    c.in_ok-end_line.ensures
