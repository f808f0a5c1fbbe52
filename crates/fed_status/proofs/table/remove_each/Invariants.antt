use Rattle.std.proofs.Common.{◌≡◌}
use Rattle.std.specs.Map.{values_of}
use Rattle.fed_status.specs.Table.{without_ids}
use Rattle.fed_status.proofs.table.remove_each.Given as goal

-- What went, and then what is left, is all.
abbrev pub invariant-loop-id : goal.invariant-loop-id
invariant-loop-id l = without_ids (values_of l.id-iterator) l.kept ≡ without_ids (values_of l.ids.entries) l.fn.kept
