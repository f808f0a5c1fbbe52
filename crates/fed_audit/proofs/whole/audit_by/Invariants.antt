use Rattle.std.proofs.Common.{length}
use Rattle.std.specs.Option.{option_copied}
use Rattle.fed_audit.proofs.verdicts.Lines.{Goes}
use Rattle.fed_audit.proofs.whole.audit_by.Given as goal

abbrev pub invariant-loop-line : goal.invariant-loop-line
invariant-loop-line g l = Goes l.script l.first l.text l.seen (option_copied l.at.last) l.at.left.now l.number l.rest

abbrev pub decreases-loop-line : goal.decreases-loop-line
decreases-loop-line g l = length l.rest
