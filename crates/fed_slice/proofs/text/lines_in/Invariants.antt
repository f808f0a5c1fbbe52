use Rattle.std.proofs.Common.{drop}
use Rattle.fed_slice.specs.Gather.{is_kept_line, part_kept}
use Rattle.fed_slice.proofs.gathered.Numbers.{HasFound}
use Rattle.fed_slice.proofs.text.lines_in.Given as goal

-- those that were found, and those of the events that are left
abbrev pub invariant-loop-numbered : goal.invariant-loop-numbered
invariant-loop-numbered l =
    HasFound (is_kept_line (part_kept l.rules l.part)) l.events (drop l.numbered-index l.events) l.lines.keys
