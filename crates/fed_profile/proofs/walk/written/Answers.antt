use Rattle.std.proofs.Common.{◌-◌, length, take, drop, ap, ap₂, ◌∙◌, arith}
use Rattle.fed_print.specs.Object.{members_of}
use Rattle.fed_profile.specs.Item.{item_in}
use Rattle.fed_profile.proofs.read.Cut.{line_behind, line_more}
use Rattle.fed_profile.proofs.walk.written.Goals as goal

pub line_from-line-requires : goal.line_from-line-requires
line_from-line-requires c =
    let more = line_more c.args.text.now.items c.append_line.new.text.items (members_of c.args.object) c.in_ok-append_line.ensures.ok in
    omega (arith, more, ap length c.as_slice-start.ensures.value, ap length c.as_slice.ensures.value)

pub returns-clause-event : goal.returns-clause-event
returns-clause-event c =
    let old = c.args.text.now.items in
    let new = c.append_line.new.text.items in
    c.in_ok-event.ensures
    ∙ ap (item_in c.args.rules.now c.args.now)
    (c.line_from-line.ensures
    ∙ ap₂ (λ t n. take (length t - n - 1) (drop n t)) c.as_slice.ensures.value (ap length c.as_slice-start.ensures.value)
    ∙ line_behind old new (members_of c.args.object) c.in_ok-append_line.ensures.ok)
