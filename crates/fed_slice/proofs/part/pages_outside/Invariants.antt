use Rattle.std.proofs.Common.{drop}
use Rattle.fed_slice.specs.Gather.{names_outside}
use Rattle.fed_slice.proofs.gathered.Numbers.{HasFound}
use Rattle.fed_slice.proofs.part.pages_outside.Given as goal

-- those that were found, and those of the events that are left
abbrev pub invariant-loop-numbered : goal.invariant-loop-numbered
invariant-loop-numbered l =
    HasFound (λ n q. names_outside l.rules l.parties q n.event) l.events (drop l.numbered-index l.events) l.pages.keys
