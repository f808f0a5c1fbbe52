use Rattle.std.proofs.Common.{◌∙◌, ◌++◌, ◌∷◌, [], ap, sym, take}
use Rattle.fed_session.proofs.shown.View.{take_next, take_none}
use Rattle.fed_session.proofs.view.shown_flags.Goals as goal
use Rattle.fed_session.proofs.view.shown_flags.Goals.{in-Some+in_ok-copy+in_ok-push, in_default}

pub loop-place-preserved : goal.loop-place-preserved
loop-place-preserved c =
    elim c.match-item.branch [
      | in-Some+in_ok-copy+in_ok-push w ↦
          w.shown-is ∙ w.in_ok-push.ensures.ok ∙ ap (λ xs. xs ++ w.in_ok-copy.field-0 ∷ []) c.loop-place.invariant
          ∙ ap (λ o. take c.loop-place.place c.args.flags.now ++ o ∷ []) w.in_ok-copy.ensures
          ∙ sym (take_next c.args.flags.now c.loop-place.place _ (sym w.in-Some.ensures.value))
      | in_default w ↦ w.shown-is ∙ c.loop-place.invariant
          ∙ sym (take_none c.args.flags.now c.loop-place.place (sym w.in_default.ensures.value))
    ]
