-- What the lines that are left make of the rules so far is what all lines make of no rules.
use Rattle.std.proofs.Common.{◌≡◌}
use Rattle.std.specs.Str.Iter.{split_steps}
use Rattle.std.specs.Str.Pattern.{FindsChar}
use Rattle.fed_script.specs.Header.{rules_of_text}
use Rattle.fed_script.proofs.lines.Header.{HasLines}
use Rattle.fed_script.proofs.header.read_rules.Given as goal

abbrev pub invariant-loop-line : goal.invariant-loop-line
invariant-loop-line l = HasLines (split_steps FindsChar (λ a b. b ≡ a)) (λ x. x.now) l.line-iterator l.rules (rules_of_text l.fn.text)
