use Rattle.std.proofs.Common.{drop}
use Rattle.fed_twin.proofs.compared.Compare.{GoesOn}
use Rattle.fed_twin.proofs.comparison.take_events.Given as goal

-- the run goes on with the events that are left
abbrev pub invariant-loop-n : goal.invariant-loop-n
invariant-loop-n g l = GoesOn l.script l.most l.session (drop l.n-index l.script.events) l.kept l.sent l.total
