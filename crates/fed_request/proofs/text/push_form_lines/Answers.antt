use Rattle.std.proofs.Common.{codes, decimal, length}
use Rattle.fed_request.proofs.written.Lines.{form_lines_written, three_more}
use Rattle.fed_request.proofs.text.push_form_lines.Goals as goal

pub returns : goal.returns
returns c =
    rw (
      c.in_ok-extend_from_slice-2.ensures.items,
      c.in_ok-push_number.ensures,
      c.in_ok-extend_from_slice.ensures.items,
      form_lines_written,
    )
    (three_more c.args.bytes.now.items (codes "Content-Type: application/x-www-form-urlencoded\r\nContent-Length: ")
    (decimal (length c.args.form.now)) (codes "\r\n"))
