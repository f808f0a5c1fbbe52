use Rattle.std.proofs.Common.{Ok, Some, None, sym, ap, ◌∙◌}
use Rattle.std.specs.FinSet as set
use Rattle.fed_suffix.specs.RuleLine.{rule_text, is_skipped, rule_of}
use Rattle.fed_suffix.proofs.sets.Set.{rules_after-skipped, rules_after-read}
use Rattle.fed_suffix.proofs.suffixes.Suffixes.read_line.Goals as goal

pub returns-then-is_skipped-clause-answer : goal.returns-then-is_skipped-clause-answer
returns-then-is_skipped-clause-answer c =
    let text = c.rule_text-text.ensures ∙ ap rule_text c.as_bytes.ensures.value in
    rules_after-skipped c.args.self.now c.args.line.now (ap is_skipped (sym text) ∙ sym c.is_skipped.ensures ∙ c.if-is_skipped.true)

pub returns-in_ok-add-in-Some-clause-answer : goal.returns-in_ok-add-in-Some-clause-answer
returns-in_ok-add-in-Some-clause-answer c =
    let text = c.rule_text-text.ensures ∙ ap rule_text c.as_bytes.ensures.value in
    rules_after-read c.args.self.now c.args.line.now (Some c.in-Some.rule)
    (ap is_skipped (sym text) ∙ sym c.is_skipped.ensures ∙ c.if-is_skipped.false)
    (sym c.in-Some.is ∙ c.in_ok-rule.ensures ∙ ap rule_of text)
    ∙ ap (λ rules. Ok rules) (sym (c.in_ok-add-in-Some.ensures.ok
    ∙ (λ i. set.insert c.args.self.now (c.labels.ensures i, c.is_exception.ensures i))))

pub returns-in-None-clause-answer : goal.returns-in-None-clause-answer
returns-in-None-clause-answer c =
    let text = c.rule_text-text.ensures ∙ ap rule_text c.as_bytes.ensures.value in
    rules_after-read c.args.self.now c.args.line.now None
    (ap is_skipped (sym text) ∙ sym c.is_skipped.ensures ∙ c.if-is_skipped.false)
    (sym c.in-None.is ∙ c.in_ok-rule.ensures ∙ ap rule_of text)
