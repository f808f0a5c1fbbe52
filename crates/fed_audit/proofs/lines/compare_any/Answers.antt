use Rattle.std.proofs.Common.{sym, ◌∙◌}
use Rattle.fed_audit.proofs.rows.Lines.{if_ok, of_blank, told_any}
use Rattle.fed_audit.proofs.rows.Met.{blank_on}
use Rattle.fed_audit.proofs.lines.compare_any.Goals as goal

pub returns-then-is_blank : goal.returns-then-is_blank
returns-then-is_blank g c = λ at h.
    let blank = sym c.is_blank.ensures ∙ c.if-is_blank.true in
    (of_blank c.args.line.now blank, at, h, blank_on c.args.number c.args.line.now at blank)

pub returns : goal.returns
returns g c = λ at h.
    if_ok c.compare_line.result (c.compare_line.ensures at h)
    (λ told is. told_any _ at c.args.number c.args.line.now told (sym c.is_blank.ensures ∙ c.if-is_blank.false) is)
