use Rattle.std.proofs.Common.{drop, ◌&&◌}
use Rattle.std.specs.Prelude.{not}
use Rattle.fed_slice.specs.Closure.{loads}
use Rattle.fed_slice.specs.Linked.{is_number}
use Rattle.fed_slice.proofs.gathered.Numbers.{HasFound}
use Rattle.fed_slice.proofs.part.pages_inside.Given as goal

-- those that were found, and those of the events that are left
abbrev pub invariant-loop-numbered : goal.invariant-loop-numbered
invariant-loop-numbered l =
    HasFound (λ n q. loads q n.event && not (is_number l.outside.keys q)) l.events (drop l.numbered-index l.events) l.pages.keys
