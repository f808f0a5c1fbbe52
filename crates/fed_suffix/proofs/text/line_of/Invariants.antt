use Rattle.std.proofs.Common.{◌≡◌, ◌+◌, ◌++◌, length}
use Rattle.std.specs.List.{join_with_byte}
use Rattle.std.specs.Option.{option_copied, option_map_or}
use Rattle.fed_suffix.specs.Label.{labels_of}
use Rattle.fed_suffix.specs.RulesText.{rule_mark}
use Rattle.fed_suffix.proofs.rules.Texts.{dotted}
use Rattle.fed_suffix.proofs.text.line_of.Given as goal

-- what stands in the line, and then what is left, is the line
abbrev pub invariant-loop-rest : goal.invariant-loop-rest
invariant-loop-rest l =
    l.line.items ++ dotted (option_copied l.rest) ≡ rule_mark l.exception ++ join_with_byte 46 (labels_of l.labels)

abbrev pub decreases-loop-rest : goal.decreases-loop-rest
decreases-loop-rest l = option_map_or (λ rest. length rest.now + 1) l.rest 0
