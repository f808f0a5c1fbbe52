use Rattle.std.proofs.Common.{ap, ◌∙◌}
use Rattle.fed_slice.proofs.gathered.Lines.{text_is}
use Rattle.fed_slice.proofs.text.slice_text.Goals as goal

pub returns : goal.returns
returns c =
    text_is c.args.script.now c.args.parties.now c.in_ok-part.part c.header.result.now.rules c.events.result.now c.in_ok-lines.lines.keys
    c.args.bytes.now c.from_vec.result c.in_ok-part.ensures (ap (λ h. h.rules) c.header.ensures) c.events.ensures.events
    c.in_ok-lines.ensures (c.from_vec.ensures ∙ c.in_ok-text.ensures)
