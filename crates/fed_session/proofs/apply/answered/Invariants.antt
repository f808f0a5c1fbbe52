use Rattle.std.proofs.Common.{◌≡◌, ◌++◌}
use Rattle.fed_session.specs.StepParts.{cookies_of, call_records}
use Rattle.fed_session.proofs.apply.answered.Given as goal

-- What was answered, and what is left, is the whole.
abbrev pub invariant-loop-effect : goal.invariant-loop-effect
invariant-loop-effect l =
    l.outs ++ call_records l.line (cookies_of l.sight) l.call l.page l.effect-iterator.rest.items
    ≡ call_records l.line (cookies_of l.sight) l.call l.page l.fn.effects
