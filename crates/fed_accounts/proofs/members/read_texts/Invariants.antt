-- The items are those before, which are the texts, and then those that are left.
use Rattle.std.proofs.Common.{length}
use Rattle.fed_accounts.proofs.lists.Texts.{ReadsTexts}
use Rattle.fed_accounts.proofs.members.read_texts.Given as goal

abbrev pub invariant-loop-values : goal.invariant-loop-values
invariant-loop-values l = ReadsTexts l.depth l.initial.values l.values l.texts

abbrev pub decreases-loop-values : goal.decreases-loop-values
decreases-loop-values l = length l.values
