use Rattle.std.proofs.Common.{◌≡◌, ◌*◌, ◌^◌, ◌<◌, ◌≤◌, ◌+◌, length, max, true, false}
use Rattle.std.specs.Option.{option_copied, option_map_or}
use Rattle.fed_suffix.specs.Label.{labels_before}
use Rattle.fed_suffix.specs.Walk.{ending_at, longest_from}
use Rattle.fed_suffix.proofs.walk.+walk.Given as goal

abbrev pub decreases-find_longest : goal.decreases-find_longest
decreases-find_longest l = 2 * option_map_or (λ name. length name.now + 1) l.name 0

abbrev pub decreases-find_longest_by : goal.decreases-find_longest_by
decreases-find_longest_by l = 2 * option_map_or (λ name. length name.now + 1) l.name 0 + 1

-- what was found, with what is found from the node, is what was asked for
abbrev pub invariant-find_longest-loop-name : goal.invariant-find_longest-loop-name
invariant-find_longest-loop-name l =
    record {
      deep : l.depth + option_map_or (λ name. length name.now + 1) l.name 0 < 2 ^ 64;
      left : option_map_or (λ name. length name.now + 1) l.name 0 ≤ option_map_or (λ name. length name.now + 1) l.fn.name 0;
      exception_here : ending_at l.node true l.depth ≤ l.longest.exception;
      plain_here : ending_at l.node false l.depth ≤ l.longest.plain;
      exception : max l.longest.exception (longest_from l.node true l.depth (labels_before (option_copied l.name)))
          ≡ longest_from l.fn.top true l.fn.depth (labels_before (option_copied l.fn.name));
      plain : max l.longest.plain (longest_from l.node false l.depth (labels_before (option_copied l.name)))
          ≡ longest_from l.fn.top false l.fn.depth (labels_before (option_copied l.fn.name));
    }

abbrev pub decreases-find_longest-loop-name : goal.decreases-find_longest-loop-name
decreases-find_longest-loop-name l = option_map_or (λ name. length name.now + 1) l.name 0
