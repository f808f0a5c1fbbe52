use Rattle.std.proofs.Common.{◌≡◌, drop}
use Rattle.fed_session.specs.StepParts.{sight_after, CanApplyAll}
use Rattle.fed_session.proofs.apply.set_all.Given as goal

-- What was set, and what is left, is the whole.
abbrev pub invariant-loop-effect : goal.invariant-loop-effect
invariant-loop-effect l = record {
  set : sight_after (drop l.effect-index l.effects) l.sight ≡ sight_after l.effects l.fn.sight;
  known : CanApplyAll (drop l.effect-index l.effects);
}
