use Rattle.std.proofs.Common.{◌≡◌, ◌++◌, map, false}
use Rattle.std.specs.Vec.Iter.{into_iter_items}
use Rattle.serde_json.specs.Data.{object}
use Rattle.serde_json.specs.View.{view, items_view}
use Rattle.serde_json.specs.Written.{items_have_float}
use Rattle.fed_print.specs.Object.{members_of}
use Rattle.fed_print.proofs.object.Object.values_of.Given as goal

-- the values so far, and the objects that are left
abbrev pub invariant-loop-object : goal.invariant-loop-object
invariant-loop-object l =
    (map view l.values.items ++ map object (map members_of (into_iter_items l.object-iterator))
    ≡ map object (map members_of l.fn.objects.items))
    × (items_have_float (items_view l.values.items) ≡ false)
