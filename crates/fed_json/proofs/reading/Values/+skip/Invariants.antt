use Rattle.std.proofs.Common.{◌≡◌, ◌≤◌, ◌+◌, ◌*◌, length}
use Rattle.json.specs.Json.{parse_map}
use Rattle.serde_json.specs.Data.{Items, Members, no_members}
use Rattle.fed_json.specs.Values.{items_in, members_in, levels}
use Rattle.fed_json.proofs.reading.Values.+skip.Given as goal

abbrev pub decreases-finish : goal.decreases-finish
decreases-finish l = 3 * levels l.first.now

abbrev pub decreases-skip : goal.decreases-skip
decreases-skip l = 3 * l.depth + 1

abbrev pub decreases-skip_items : goal.decreases-skip_items
decreases-skip_items l = 3 * l.depth + 2

abbrev pub decreases-skip_members : goal.decreases-skip_members
decreases-skip_members l = 3 * l.depth + 2

-- The items are those before, and then those that are left.
abbrev pub invariant-skip_items-loop-self : goal.invariant-skip_items-loop-self
invariant-skip_items-loop-self l =
    (before : (Items → Items)) × (items_in l.depth l.initial.self ≡ parse_map before (items_in l.depth l.self))
    × (length l.self ≤ length l.initial.self)

abbrev pub decreases-skip_items-loop-self : goal.decreases-skip_items-loop-self
decreases-skip_items-loop-self l = length l.self

-- The members are those that were found, and then those that are left.
abbrev pub invariant-skip_members-loop-self : goal.invariant-skip_members-loop-self
invariant-skip_members-loop-self l =
    (found : Members) × (members_in l.depth no_members l.initial.self ≡ members_in l.depth found l.self)
    × (length l.self ≤ length l.initial.self)

abbrev pub decreases-skip_members-loop-self : goal.decreases-skip_members-loop-self
decreases-skip_members-loop-self l = length l.self
