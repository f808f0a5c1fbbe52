use Rattle.std.proofs.Common.{◌++◌, ◌+◌, ◌∙◌, drop, ap, sym}
use Rattle.fed_print.specs.Lines.{line_of}
use Rattle.fed_run.specs.Checks.{finding_members, findings_text}
use Rattle.fed_run.proofs.checks.Texts.{text_next, text_none}
use Rattle.fed_run.proofs.check.text_of.Goals as goal

pub loop-one-preserved : goal.loop-one-preserved
loop-one-preserved c =
    let before = c.loop-one.text.items in
    c.loop-one.invariant ∙ text_next before c.args.found.now c.loop-one.one-index c.one-item.result c.loop-one-test.true
    ∙ ap (λ t. t ++ findings_text (drop (c.loop-one.one-index + 1) c.args.found.now))
    (ap (λ x. before ++ line_of (finding_members x)) (sym c.one-item.is) ∙ sym c.in_ok-print_finding.ensures.ok)

pub returns : goal.returns
returns c =
    sym (c.loop-one.invariant ∙ text_none c.loop-one.text.items c.args.found.now c.loop-one.one-index c.loop-one-test.false)
