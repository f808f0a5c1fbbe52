use Rattle.std.proofs.Common.{◌≡◌, ◌++◌, drop, map}
use Rattle.fed_slice.specs.Gather.{part_kept}
use Rattle.fed_slice.specs.Part.{has_event}
use Rattle.fed_slice.proofs.part.marks.Given as goal

-- what is told, and what is left to be told
abbrev pub invariant-loop-numbered : goal.invariant-loop-numbered
invariant-loop-numbered l =
    l.inside.items ++ map (λ n. has_event (part_kept l.rules l.part) n.event) (drop l.numbered-index l.events)
    ≡ map (λ n. has_event (part_kept l.rules l.part) n.event) l.events
