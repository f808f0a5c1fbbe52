use Rattle.std.proofs.Common.{◌≡◌, drop, length}
use Rattle.std.specs.List.{list_all}
use Rattle.std.specs.FinSet as set
use Rattle.fed_suffix.specs.Packed.{texts_len, rules_in}
use Rattle.fed_suffix.proofs.rule.are_within.Given as goal

-- the rules so far are in the tree
abbrev pub invariant-loop-mark : goal.invariant-loop-mark
invariant-loop-mark l =
    record {
      whole : texts_len (drop l.mark-index l.marks) ≡ length l.rest;
      same : list_all (set.contains l.top) (rules_in l.rest (drop l.mark-index l.marks))
          ≡ list_all (set.contains l.top) (rules_in l.texts l.marks);
    }
