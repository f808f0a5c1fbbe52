use Rattle.std.proofs.Common.{◌≡◌, ◌+◌, ◌≤◌, ◌++◌, length, vec_capacity, replicate}
use Rattle.fed_links.specs.Threads.{no_ends}
use Rattle.fed_links.proofs.writes.add_lists.Given as goal

abbrev pub invariant-loop-left : goal.invariant-loop-left
invariant-loop-left l =
    record {
      same_link : l.ends.items ++ replicate l.left no_ends ≡ l.fn.ends.items ++ replicate l.fn.more no_ends;
      room : length l.ends.items + l.left ≤ vec_capacity l.ends;
    }

abbrev pub decreases-loop-left : goal.decreases-loop-left
decreases-loop-left l = l.left
