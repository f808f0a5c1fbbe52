use Rattle.std.proofs.Common.{length}
use Rattle.fed_script.specs.Entries.{entries_seen}
use Rattle.fed_script.proofs.says.Reading.{ReadsOn}
use Rattle.fed_script.proofs.saying.read_entries.Given as goal

abbrev pub invariant-loop-values : goal.invariant-loop-values
invariant-loop-values l =
    ReadsOn l.depth l.fn.values l.values (entries_seen l.fn.providers) (entries_seen l.providers)

abbrev pub decreases-loop-values : goal.decreases-loop-values
decreases-loop-values l = length l.values
