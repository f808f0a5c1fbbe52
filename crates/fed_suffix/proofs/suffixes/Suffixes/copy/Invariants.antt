use Rattle.std.proofs.Common.{◌≡◌, ◌++◌, List, drop, length}
use Rattle.std.specs.FinSet as set
use Rattle.fed_suffix.specs.Rule.{Rule}
use Rattle.fed_suffix.specs.Packed.{texts_len, rules_in}
use Rattle.fed_suffix.proofs.suffixes.Suffixes.copy.Given as goal

-- the rules so far
abbrev pub invariant-loop-mark : goal.invariant-loop-mark
invariant-loop-mark l =
    (texts_len (drop l.mark-index l.marks) ≡ length l.rest)
    × (done : List Rule) × (l.copy ≡ set.from_list done)
    × (done ++ rules_in l.rest (drop l.mark-index l.marks) ≡ rules_in l.initial.rest l.marks)
