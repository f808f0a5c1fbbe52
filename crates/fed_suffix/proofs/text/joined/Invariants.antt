use Rattle.std.proofs.Common.{◌≡◌, ◌++◌}
use Rattle.std.specs.BTreeSet.{btree_set_len}
use Rattle.fed_suffix.proofs.rules.Texts.{ended}
use Rattle.fed_suffix.proofs.text.joined.Given as goal

-- what is written, and then what is left, is the whole
abbrev pub invariant-loop-line : goal.invariant-loop-line
invariant-loop-line l = l.text.items ++ ended l.lines.keys ≡ ended l.initial.lines.keys

abbrev pub decreases-loop-line : goal.decreases-loop-line
decreases-loop-line l = btree_set_len l.lines
