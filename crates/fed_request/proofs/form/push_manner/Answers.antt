use Rattle.std.proofs.Common.{codes}
use Rattle.fed_request.specs.Form.{truth_text}
use Rattle.fed_request.proofs.written.Lines.{four_more}
use Rattle.fed_request.proofs.form.push_manner.Goals as goal

pub returns : goal.returns
returns c =
    rw (
      c.in_ok-extend_from_slice-4.ensures.items,
      c.in_ok-extend_from_slice-3.ensures.items,
      c.in_ok-extend_from_slice-2.ensures.items,
      c.in_ok-extend_from_slice.ensures.items,
      c.as_bytes-2.ensures.value,
      c.truth_text-2.ensures,
      c.auto.ensures,
      c.as_bytes.ensures.value,
      c.truth_text.ensures,
      c.disclosure.ensures,
    )
    (four_more c.args.form.now.items (codes "&disclosure_text_shown=") (truth_text c.args.ask.now.disclosure) (codes "&is_auto_selected=")
    (truth_text c.args.ask.now.auto))
