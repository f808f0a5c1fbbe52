use Rattle.std.proofs.Common.{◌≡◌, ◌++◌, List, drop, length, map}
use Rattle.fed_suffix.specs.Rule.{Rule}
use Rattle.fed_suffix.specs.RulesText.{rule_line, in_order}
use Rattle.fed_suffix.specs.Packed.{texts_len, rules_in}
use Rattle.fed_suffix.proofs.text.lines_of.Given as goal

-- the lines of the rules so far
abbrev pub invariant-loop-mark : goal.invariant-loop-mark
invariant-loop-mark l =
    (texts_len (drop l.mark-index l.marks) ≡ length l.rest)
    × (done : List Rule) × (l.lines.keys ≡ in_order (map rule_line done))
    × (done ++ rules_in l.rest (drop l.mark-index l.marks) ≡ rules_in l.initial.rest l.marks)
