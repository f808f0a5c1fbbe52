use Rattle.std.proofs.Common.{◌≡◌, ℕ, ◌++◌, Some, true, map, length}
use Rattle.fed_links.specs.Lists.{has, list_at}
use Rattle.fed_table.specs.Kept.{owner, rest_from}
use Rattle.fed_table.proofs.owners.waiting_calls.Given as goal

-- The calls so far, and then those of the nodes that are left, are all.
abbrev pub invariant-loop-next : goal.invariant-loop-next
invariant-loop-next l =
    record {
      found : l.calls ++ map (owner l.owners.items) (rest_from l.next (list_at l.links.waits l.list))
          ≡ map (owner l.owners.items) (list_at l.links.waits l.list);
      there : (node : ℕ) → l.next ≡ Some node → has node (list_at l.links.waits l.list) ≡ true;
    }

abbrev pub decreases-loop-next : goal.decreases-loop-next
decreases-loop-next l = length (rest_from l.next (list_at l.links.waits l.list))
