use Rattle.std.proofs.Common.{drop}
use Rattle.fed_slice.specs.Linked.{is_number}
use Rattle.fed_slice.specs.Slice.{begins_on}
use Rattle.fed_slice.proofs.gathered.Numbers.{HasFound}
use Rattle.fed_slice.proofs.part.calls_inside.Given as goal

-- those that were found, and those of the events that are left
abbrev pub invariant-loop-numbered : goal.invariant-loop-numbered
invariant-loop-numbered l =
    HasFound (λ n q. begins_on (is_number l.pages.keys) q n.event) l.events (drop l.numbered-index l.events) l.calls.keys
