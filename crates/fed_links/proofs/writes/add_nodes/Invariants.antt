use Rattle.std.proofs.Common.{◌≡◌, ◌+◌, ◌<◌, ◌≤◌, ◌^◌, length, vec_capacity}
use Rattle.fed_links.specs.Changes.{with_free_slots}
use Rattle.fed_links.proofs.writes.add_nodes.Given as goal

abbrev pub invariant-loop-left : goal.invariant-loop-left
invariant-loop-left l =
    record {
      same_link : with_free_slots l.left l.slots.items l.free ≡ with_free_slots l.fn.more l.fn.slots.items l.fn.free;
      room : length l.slots.items + l.left ≤ vec_capacity l.slots;
      fits : length l.slots.items + l.left < 2 ^ 32;
    }

abbrev pub decreases-loop-left : goal.decreases-loop-left
decreases-loop-left l = l.left
