use Rattle.std.proofs.Common.{◌≡◌, ◌∷◌, [], false, map, sym, subst}
use Rattle.std.proofs.lemmas.List.{map-append, append_assoc}
use Rattle.serde_json.proofs.Views.{view-Object}
use Rattle.serde_json.specs.Data.{object}
use Rattle.serde_json.specs.View.{view, items_view}
use Rattle.serde_json.specs.Written.{items_have_float}
use Rattle.serde_json.specs.declared.value.Value.{Object}
use Rattle.fed_print.specs.Object.{members_of}
use Rattle.fed_print.proofs.values.Float.{push_has_no_float}
use Rattle.fed_print.proofs.object.Object.values_of.Goals as goal

pub loop-object-preserved : goal.loop-object-preserved
loop-object-preserved c =
    let left = rw c.in-Some.ensures.steps.0 at c.loop-object.invariant.0 in
    let value = Object c.in-Some.object.members in
    let seen : view value ≡ object (members_of c.in-Some.object) = view-Object c.in-Some.object.members in
    let items = c.in_ok-push.ensures.items in
    let none = push_has_no_float c.loop-object.values.items value c.loop-object.invariant.1 (rw seen c.in-Some.object.no_float) in (
      rw (
        items,
        map-append view c.loop-object.values.items (value ∷ []),
        append_assoc (map view c.loop-object.values.items) (map view (value ∷ [])),
        seen,
      ) left,
      subst (λ vs. items_have_float (items_view vs) ≡ false) (sym items) none,
    )
